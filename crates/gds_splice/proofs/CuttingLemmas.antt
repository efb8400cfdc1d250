-- Entries that go into pieces: the key that parts them, and the entries of each.
use Rattle.std.proofs.Common.{◌≡◌, ◌≢◌, ◌≤◌, ◌<◌, ◌+◌, ℕ, zero, suc, List, [], ◌∷◌, ◌++◌, length, take, drop, refl, sym}
use Rattle.std.proofs.Common.{ap, ◌∙◌}
use Rattle.std.proofs.Common.{arith, subst, append_assoc, slice_index_or, slice_set}
use Rattle.gds_block.specs.Item.{Item}
use Rattle.gds_pack.specs.Entry.{item, items}
use Rattle.gds_pack.specs.Packable.{AreIndex, ArePackable}
use Rattle.gds_pack.specs.Packed.{first_key, key_behind, packed_size}
use Rattle.gds_pack.specs.declared.entry.Entry.{Entry}
use Rattle.gds_split.specs.Pieces.{own_entries, parting_key, starred}
use Rattle.std.proofs.Common.{◌-◌, inl, inr}
use Rattle.std.specs.Prelude.{All}
use Rattle.std.proofs.lemmas.List.Elements.{All-tail}
use Rattle.gds_split.proofs.SizeLemmas.{own_size}
use Rattle.gds_splice.proofs.RunLemmas.{rest_whole}
use Rattle.std.proofs.Math.Seq.{drop-nil}
use Rattle.std.proofs.lemmas.Bool.{cases_lt}
use Rattle.std.proofs.lemmas.List.{drop_all, drop-map, length-map, take-append-drop, take-map}
use Rattle.gds_splice.specs.Parts.{FitInRuns}
use Rattle.gds_split.proofs.CutLemmas.{last_of, starred_last}
use Rattle.gds_tree.specs.Below.{as_star}
use Rattle.gds_tree.proofs.ListLemmas.{index_first, index_front, index_join, leaves_first, leaves_left, leaves_right}

-- ---- the last entry

pub last_key : (xs : List Entry) (n : ℕ) (e : Entry) (previous : List ℕ) → n + 1 ≡ length xs
    → e ≡ slice_index_or xs n e → key_behind previous (items xs) ≡ e.key.items
last_key [] n e previous last is = absurd (omega arith)
last_key (x ∷ []) zero e previous last is = ap (λ (y : Entry). y.key.items) (sym is)
last_key (x ∷ []) (suc n) e previous last is = absurd (omega arith)
last_key (x ∷ y ∷ xs) zero e previous last is = absurd (omega arith)
last_key (x ∷ y ∷ xs) (suc n) e previous last is = last_key (y ∷ xs) n e x.key.items (omega arith) is

pub last_starred : (xs : List Entry) (n : ℕ) (old e : Entry) → n + 1 ≡ length xs → old ≡ slice_index_or xs n old
    → item e ≡ as_star (item old) → items (slice_set xs n e) ≡ starred (items xs)
last_starred [] n old e last is star = absurd (omega arith)
last_starred (x ∷ []) zero old e last is star = ap (λ i. i ∷ []) (star ∙ ap (λ (y : Entry). as_star (item y)) is)
last_starred (x ∷ []) (suc n) old e last is star = absurd (omega arith)
last_starred (x ∷ y ∷ xs) zero old e last is star = absurd (omega arith)
last_starred (x ∷ y ∷ xs) (suc n) old e last is star =
    ap (λ is. item x ∷ is) (last_starred (y ∷ xs) n old e (omega arith) is star)

-- ---- levels

pub own_leaf : (level : ℕ) (es : List Item) → level ≡ 0 → own_entries level es ≡ es
own_leaf zero es h = refl
own_leaf (suc level) es h = absurd (omega arith)

pub own_index : (level : ℕ) (es : List Item) → level ≢ 0 → own_entries level es ≡ starred es
own_index zero es h = absurd (h refl)
own_index (suc level) es h = refl

pub parting_leaf : (level : ℕ) (front behind : List Item) → level ≡ 0
    → parting_key level front behind ≡ first_key behind
parting_leaf zero front behind h = refl
parting_leaf (suc level) front behind h = absurd (omega arith)

pub parting_index : (level : ℕ) (front behind : List Item) → level ≢ 0
    → parting_key level front behind ≡ key_behind [] front
parting_index zero front behind h = absurd (h refl)
parting_index (suc level) front behind h = refl

pub first_of : (xs : List Entry) (e : Entry) → 0 < length xs → e ≡ slice_index_or xs 0 e
    → first_key (items xs) ≡ e.key.items
first_of [] e some is = absurd (omega arith)
first_of (x ∷ xs) e some is = ap (λ (y : Entry). y.key.items) (sym is)

-- ---- packable pieces

pub own_packable : (level : ℕ) (run behind : List Item) → ArePackable level (run ++ behind) → run ≢ []
    → behind ≢ [] → ArePackable level (own_entries level run)
own_packable zero run behind p some more = leaves_left [] run behind p
own_packable (suc level) run [] p some more = absurd (more refl)
own_packable (suc level) run (f ∷ b) p some more =
    let x = last_of run some in
    let whole : x.front ++ x.last ∷ f ∷ b ≡ run ++ f ∷ b =
    sym (append_assoc x.front (x.last ∷ []) (f ∷ b)) ∙ ap (λ xs. xs ++ f ∷ b) x.whole in
    let front = index_front [] x.front x.last (f ∷ b) (subst (AreIndex []) (sym whole) p) in
    subst (AreIndex []) (sym (starred_last x.front x.last) ∙ ap starred x.whole)
    (index_join [] x.front (as_star x.last ∷ []) front.leaves front.fours (refl, front.rest.1))

pub behind_packable : (level : ℕ) (run behind : List Item) → ArePackable level (run ++ behind) → behind ≢ []
    → ArePackable level behind
behind_packable zero run behind p more = leaves_first (key_behind [] run) behind (leaves_right [] run behind p)
behind_packable (suc level) run [] p more = absurd (more refl)
behind_packable (suc level) run (f ∷ b) p more =
    index_first (key_behind [] run) (f ∷ b) (index_front [] run f b p).rest

-- ---- runs

-- No run is empty.
pub runs_some : (limit : ℕ) (lengths : List ℕ) (es : List Item) → FitInRuns limit lengths es → es ≢ []
runs_some limit [] es fits = fits.0
runs_some limit (k ∷ lengths) [] fits =
    absurd (runs_some limit lengths [] (subst (FitInRuns limit lengths) (drop-nil k) fits.2) refl)
runs_some limit (k ∷ lengths) (e ∷ es) fits = λ none. absurd (let no : e ∷ es ≡ [] = none in cc)

-- the first run and what is behind it
pub record FirstRun (limit k : ℕ) (lengths : List ℕ) (es : List Item) : Type 0 where
  pub some : take k es ≢ []
  pub more : drop k es ≢ []
  pub fits : packed_size (take k es) ≤ limit
  pub rest : FitInRuns limit lengths (drop k es)

pub first_run : (limit k : ℕ) (all lengths : List ℕ) (es : List Item) → all ≡ k ∷ lengths → FitInRuns limit all es
    → FirstRun limit k lengths es
first_run limit k all lengths es is fits =
    let f : FitInRuns limit (k ∷ lengths) es = subst (λ xs. FitInRuns limit xs es) is fits in
    record { some = f.0; more = runs_some limit lengths (drop k es) f.2; fits = f.1; rest = f.2 }

-- ---- the entries of the first run, and those behind

-- What is known of both where they are cut after so many.
pub record AreCut (level limit k : ℕ) (lengths : List ℕ) (list run behind : List Entry) : Type 0 where
  pub run_is : items run ≡ take k (items list)
  pub behind_is : items behind ≡ drop k (items list)
  pub more : items behind ≢ []
  pub run_fits : packed_size (own_entries level (items run)) ≤ limit
  pub run_packable : ArePackable level (own_entries level (items run))
  pub rest_fits : FitInRuns limit lengths (items behind)
  pub rest_packable : ArePackable level (items behind)

pub run_within : (limit k : ℕ) (all lengths : List ℕ) (list : List Entry) → all ≡ k ∷ lengths
    → FitInRuns limit all (items list) → k ≤ length list
run_within limit k all lengths list is fits = elim (cases_lt (length list) k) [
  | inl h ↦ absurd ((first_run limit k all lengths (items list) is fits).more
      (drop_all k (items list) (omega (arith, length-map list item))))
  | inr h ↦ h
]

pub are_cut : (level limit k : ℕ) (all lengths : List ℕ) (list run behind : List Entry) → all ≡ k ∷ lengths
    → FitInRuns limit all (items list) → ArePackable level (items list) → run ≡ take k list → behind ≡ drop k list
    → AreCut level limit k lengths list run behind
are_cut level limit k all lengths list run behind is fits packable front rest =
    let first = first_run limit k all lengths (items list) is fits in
    let run_is : items run ≡ take k (items list) = ap items front ∙ sym (take-map item k list) in
    let behind_is : items behind ≡ drop k (items list) = ap items rest ∙ sym (drop-map item k list) in
    let whole : items run ++ items behind ≡ items list =
    (λ i. run_is i ++ behind_is i) ∙ take-append-drop k (items list) in
    let all_packable : ArePackable level (items run ++ items behind) =
    subst (ArePackable level) (sym whole) packable in
    let more : items behind ≢ [] = λ none. first.more (sym behind_is ∙ none) in record {
      run_is = run_is;
      behind_is = behind_is;
      more = more;
      run_fits = omega (arith, own_size level (items run), ap packed_size run_is, first.fits);
      run_packable = own_packable level (items run) (items behind) all_packable
          (λ none. first.some (sym run_is ∙ none)) more;
      rest_fits = subst (FitInRuns limit lengths) (sym behind_is) first.rest;
      rest_packable = behind_packable level (items run) (items behind) all_packable more;
    }

pub some_items : (xs : List Entry) → items xs ≢ [] → 0 < length xs
some_items [] h = absurd (h refl)
some_items (x ∷ xs) h = omega arith

-- ---- the numbers behind the first

pub other_numbers : (numbers : List ℕ) → take (length numbers - 1) (drop 1 numbers) ≡ drop 1 numbers
other_numbers numbers = rest_whole 1 numbers

within_tail : (total : ℕ) (numbers : List ℕ) → All (λ n. n < total) numbers → All (λ n. n < total) (drop 1 numbers)
within_tail total [] all = all
within_tail total (n ∷ numbers) all = All-tail (λ m. m < total) n numbers all

pub others_within : (total now : ℕ) (numbers : List ℕ) → now ≡ total → All (λ n. n < total) numbers
    → All (λ n. n < now) (take (length numbers - 1) (drop 1 numbers))
others_within total now numbers same all =
    subst (λ t. All (λ n. n < t) (take (length numbers - 1) (drop 1 numbers))) (sym same)
    (subst (λ xs. All (λ n. n < total) xs) (sym (other_numbers numbers)) (within_tail total numbers all))
