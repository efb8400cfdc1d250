-- Lawful files are images, and a change of blocks keeps the sizes of theirs.
use Rattle.std.proofs.Common.{List, ℕ, length, inl, inr, refl}
use Rattle.std.proofs.lemmas.Bool.{ltb-false}
use Rattle.gds_header.specs.declared.kind.HeaderKind.TheVariants.{ShortFile}
use Rattle.gds_header.specs.Fields.{fields_of, image_length}
use Rattle.gds_sound.proofs.HeaderLemmas.{limits_of, none_of_header}
use Rattle.gds_tree.specs.Keeps.{IsImage, KeepsSizes}
use Rattle.gds_file.specs.FileLaws.{IsLawful}
use Rattle.gds_file.specs.Reshape.{KeepsLimits}

pub image_of : (file : List ℕ) → IsLawful file → IsImage file
image_of file l = record {
  limits = limits_of file l.header;
  whole = ltb-false (length file) (image_length file)
      (none_of_header file l.header ShortFile (inr (inr (inr (inr (inr (inr (inl refl))))))));
}

pub sizes_of : (old new : List ℕ) → KeepsLimits (fields_of old) (fields_of new) → KeepsSizes old new
sizes_of old new k =
    record { block_size = k.block_size; key_max = k.key_max; value_max = k.value_max; tn = k.tn }
