-- Blocks that are written anew in their places.
use Rattle.std.proofs.Common.{◌≡◌, ℕ, ◌*◌, ◌/◌, ◌%◌, ◌<◌, ◌==◌, true, false, ◌&&◌, List, refl}
use Rattle.std.proofs.Common.{sym, ap, subst, ◌∙◌, arith}
use Rattle.std.specs.Prelude.{Bool, IsTrue, nat_lt}
use Rattle.std.proofs.lemmas.Bool.{or_parts, both_ways, false_from_ne_true}
use Rattle.gds_block.specs.Block.{version_of, reserved_of, level_of, used_of, tn_of}
use Rattle.gds_bitmap.specs.Bitmap.{pair_of}
use Rattle.gds_header.specs.Fields.{fields_of}
use Rattle.gds_header.specs.Kinds.{groups_of, has_free}
use Rattle.gds_law.specs.Maps.{map_of, is_present}
use Rattle.gds_sound.proofs.HeaderLemmas.{same_fields, same_header_faults}
use Rattle.gds_file.specs.Maps.{has_block, is_busy, IsLawfulMap, AreLawfulMaps}
use Rattle.gds_file.specs.Reshape.{Reshapes}
use Rattle.gds_file.specs.FileLaws.{IsLawful}
use Rattle.gds_file.specs.Rewrite.{Rewrites, AreNoMaps, AreAllBusy}
use Rattle.gds_file.specs.RewriteLaws.{RewriteKeepsHeader, RewriteStaysLawful, RewriteReshapes, RewritesCompose}
use Rattle.gds_file.proofs.SameLemmas.{free_same, has_free_same}
use Rattle.gds_file.proofs.ReshapeLemmas.{has_append, nothing_reshapes}

-- ---- maps that are the same

module _ (a b : List ℕ) (fields : fields_of b ≡ fields_of a)
    (maps : (group : ℕ) → map_of b group ≡ map_of a group) where
  lawful_map_same : (group : ℕ) → IsLawfulMap a group → IsLawfulMap b group
  lawful_map_same group l = record {
    version = ap version_of (maps group) ∙ l.version;
    reserved = ap reserved_of (maps group) ∙ l.reserved;
    level = ap level_of (maps group) ∙ l.level;
    size = ap used_of (maps group) ∙ l.size;
    tn = omega (arith, l.tn, ap tn_of (maps group), ap (λ h. h.tn) fields);
    pairs = λ k low. record {
      legal = λ p e. (l.pairs k low).legal (sym (ap (λ h. is_present h group k) fields) ∙ p)
          (sym (ap (λ m. pair_of m k) (maps group)) ∙ e);
      past = λ p. ap (λ m. pair_of m k) (maps group)
          ∙ (l.pairs k low).past (sym (ap (λ h. is_present h group k) fields) ∙ p);
    };
    own = ap (λ m. pair_of m 0) (maps group) ∙ l.own;
    master = ap (λ h. has_free h group) fields ∙ l.master ∙ sym (has_free_same a b fields maps group);
  }

  lawful_maps_same : AreLawfulMaps a → AreLawfulMaps b
  lawful_maps_same l = record {
    maps = λ group low. lawful_map_same group (l.maps group (subst (λ h. group < groups_of h) fields low));
    count = ap (λ h. h.free) fields ∙ l.count ∙ sym (free_same a b fields maps);
  }

  busy_same : (n : ℕ) → is_busy b n ≡ is_busy a n
  unfolding is_busy
  busy_same n = λ i. nat_lt n (fields i).total && (pair_of (maps (n / 512) i) (n % 512) == 0)

-- ---- a file in which blocks are written anew

module _ (before after blocks : List ℕ) (r : Rewrites before after blocks) where
  fields_stay : fields_of after ≡ fields_of before
  fields_stay = same_fields after before r.front

  module _ (proper : AreNoMaps blocks) where
    maps_stay : (group : ℕ) → map_of after group ≡ map_of before group
    maps_stay group = by (has_block blocks (512 * group)) refl
      where
        multiple : 512 * group % 512 ≡ 0
        multiple = omega arith

        by : (t : Bool) → has_block blocks (512 * group) ≡ t → map_of after group ≡ map_of before group
        by true e = absurd (proper (512 * group) e multiple)
        by false e = r.others (512 * group) e

    stays_lawful : IsLawful before → IsLawful after
    stays_lawful l = record {
      header = same_header_faults after before r.len r.front ∙ l.header;
      maps = lawful_maps_same before after fields_stay maps_stay l.maps;
    }

    module _ (all : List ℕ) (among : (n : ℕ) → IsTrue (has_block blocks n) → IsTrue (has_block all n))
        (busy : AreAllBusy before all) where
      rewrite_reshapes : Reshapes before after all all
      rewrite_reshapes =
          let nothing = nothing_reshapes before all busy in
          record {
            limits = record {
              block_size = ap (λ h. h.block_size) fields_stay;
              key_max = ap (λ h. h.key_max) fields_stay;
              value_max = ap (λ h. h.value_max) fields_stay;
              total = omega (arith, ap (λ h. h.total) fields_stay);
              tn = omega (arith, ap (λ h. h.tn) fields_stay);
            };
            stays = λ n no_map is other. r.others n
                (false_from_ne_true (has_block blocks n) (λ there. both_ways (has_block all n) other (among n there)));
            taken = nothing.taken;
            busy = λ n low no_map. busy_same before after fields_stay maps_stay n
                ∙ nothing.busy n (subst (λ h. n < h.total) fields_stay low) no_map;
          }

pub rewrite_keeps_header : RewriteKeepsHeader
rewrite_keeps_header = fields_stay

pub rewrite_stays_lawful : RewriteStaysLawful
rewrite_stays_lawful before after blocks l r proper = stays_lawful before after blocks r proper l

pub rewrite_is_reshape : RewriteReshapes
rewrite_is_reshape before after blocks all r proper among busy =
    rewrite_reshapes before after blocks r proper all among busy

pub rewrites_compose : RewritesCompose
rewrites_compose a b c first second r s = record {
  len = s.len ∙ r.len;
  front = s.front ∙ r.front;
  others = λ n h.
      let parts = or_parts (has_block first n) (has_block second n) (sym (has_append first second n) ∙ h) in
      s.others n parts.1 ∙ r.others n parts.0;
}
