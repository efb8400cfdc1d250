-- A tree that was written into two free blocks is planted.
use Rattle.std.proofs.Common.{◌≡◌, ℕ, ◌<◌, ◌≤◌, ◌^◌, ◌||◌, false, List, [], ◌∷◌, Option, Result, refl, sym, ap, subst}
use Rattle.std.proofs.Common.{◌==◌, ◌∙◌, arith, inl, inr}
use Rattle.std.specs.Prelude.{OnOk, nat_eq, nat_lt}
use Rattle.std.specs.Option.{ForSome}
use Rattle.std.proofs.lemmas.Bool.{eq-eqb, eqb-false, ne_eqb, or_left, or_parts}
use Rattle.std.proofs.lemmas.Result.{on_ok_weaker}
use Rattle.gds_block.specs.Fields.{u32_at, u32_bytes}
use Rattle.gds_block.specs.Item.{Item}
use Rattle.gds_block.proofs.FieldLemmas.{length-u32_bytes, u32_at-here}
use Rattle.gds_draft.specs.Draft.{DraftState}
use Rattle.gds_draft.specs.Drafted.{drafted}
use Rattle.gds_file.specs.FileLaws.{IsLawful}
use Rattle.gds_file.specs.Maps.{has_block}
use Rattle.gds_file.proofs.RewriteLemmas.{rewrite_keeps_header, rewrites_compose}
use Rattle.gds_header.specs.declared.header.Header.{Header}
use Rattle.gds_header.specs.Fields.{fields_of}
use Rattle.gds_header.specs.Kinds.{header_faults}
use Rattle.gds_header.specs.declared.kind.HeaderKind.TheVariants.{BadTransactionNumber}
use Rattle.gds_sound.proofs.HeaderLemmas.{limits_of, none_of_header}
use Rattle.gds_pack.specs.Packed.{block_bytes}
use Rattle.gds_base.specs.declared.error.BaseError.{BaseError}
use Rattle.gds_base.specs.Spaces.{TakesLeast}
use Rattle.gds_split.specs.Pieces.{entry_to}
use Rattle.gds_splice.specs.Parted.{TakesAll}
use Rattle.gds_splice.specs.Writing.{PutsEntries}
use Rattle.gds_splice.proofs.CountedLemmas.{others_differ}
use Rattle.gds_splice.proofs.TakenLemmas.{taken}
use Rattle.gds_globals.specs.Planting.{IsPlanted, PutsTree}

pub puts_both : {T : Type 0} (told : Option (List ℕ)) (old mid new : DraftState) (root leaf : ℕ) (star item : Item)
    (r : Result T BaseError) → star ≡ entry_to leaf []
    → ForSome told (λ image. PutsEntries (drafted old image) (drafted mid image) root 1 (star ∷ []))
    → OnOk r (ForSome told (λ image. PutsEntries (drafted mid image) (drafted new image) leaf 0 (item ∷ [])))
    → OnOk r (ForSome told (λ image. PutsTree (drafted old image) (drafted new image) root leaf item))
puts_both told old mid new root leaf star item r same first second =
    on_ok_weaker r
    (λ second image is. record {
      mid = drafted mid image;
      puts_root = subst (λ s. PutsEntries (drafted old image) (drafted mid image) root 1 (s ∷ [])) same
          (first image is);
      puts_leaf = second image is;
    }) second

some_number : (file : List ℕ) → header_faults file ≡ [] → 1 ≤ (fields_of file).tn
some_number file faultless =
    let none = none_of_header file faultless BadTransactionNumber
    (inr (inr (inr (inr (inr (inr (inr (inr (inr (inl refl)))))))))) in
    let parts = or_parts ((fields_of file).tn == 0) (nat_lt (2 ^ 63) (fields_of file).tn) none in
    let some = eqb-false (fields_of file).tn 0 parts.0 in
    omega (arith, some)

pub leads_back : (n : ℕ) → n < 2 ^ 32 → u32_at (u32_bytes n) 0 ≡ n
unfolding u32_bytes
leads_back n small = u32_at-here (u32_bytes n) [] 0 n small refl

module _ (before first mid file : List ℕ) (root leaf : ℕ) (item : Item) (lawful : IsLawful before)
    (one : TakesLeast before first root) (two : TakesLeast first mid leaf)
    (puts : PutsTree mid file root leaf item) where
  small : leaf < 2 ^ 32
  small =
      let limits = limits_of first one.lawful.header in
      omega (arith, two.free.within, limits.total_to, limits.limit_to)

  all_taken : TakesAll before mid (root ∷ leaf ∷ [])
  all_taken = (first, one.free, one.takes, one.lawful, (mid, two.free, two.takes, two.lawful, refl))

  header_first : fields_of puts.mid ≡ fields_of mid
  header_first = rewrite_keeps_header mid puts.mid (root ∷ []) puts.puts_root.rewrites

  header_last : fields_of file ≡ fields_of puts.mid
  header_last = rewrite_keeps_header puts.mid file (leaf ∷ []) puts.puts_leaf.rewrites

  past : 0 < (fields_of file).tn
  past = omega (arith, ap (λ (h : Header). h.tn) (header_last ∙ header_first), some_number mid two.lawful.header)

  apart : has_block (leaf ∷ []) root ≡ false
  apart =
      let once = (taken before mid (root ∷ leaf ∷ []) lawful all_taken).distinct in
      let other = others_differ root (leaf ∷ []) leaf once
      (or_left (nat_eq leaf leaf) _ (eq-eqb leaf leaf refl)) in
      ap (λ t. t || false) (ne_eqb root leaf (λ e. eqb-false leaf root other (sym e)))

  pub planted : IsPlanted before file root item
  planted = (
    leaf,
    record {
      mid = mid;
      taken = all_taken;
      rewrites = rewrites_compose mid puts.mid file (root ∷ []) (leaf ∷ []) puts.puts_root.rewrites
          puts.puts_leaf.rewrites;
      pointer = u32_bytes leaf;
      size = length-u32_bytes leaf;
      leads = leads_back leaf small;
      root_at = record {
        tn = 0;
        bytes = puts.puts_leaf.rewrites.others root apart ∙ puts.puts_root.bytes
            ∙ ap (λ (h : Header). block_bytes (entry_to leaf [] ∷ []) 1 0 h.block_size) (sym header_last);
        fits = omega (arith, puts.puts_root.fits, ap (λ (h : Header). h.block_size) header_last);
        past = past;
        small = omega arith;
      };
      leaf_at = record {
        tn = 0;
        bytes = puts.puts_leaf.bytes;
        fits = puts.puts_leaf.fits;
        past = past;
        small = omega arith;
      };
    },
  )
