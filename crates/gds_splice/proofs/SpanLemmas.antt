-- What entries need that are put in the place of neighbouring children: they have at most two keys that these hadn't.
use Rattle.std.proofs.Common.{◌≡◌, ◌≤◌, ◌+◌, ℕ, suc, Bool, true, false, List, [], ◌∷◌, ◌++◌, length}
use Rattle.std.proofs.Common.{refl, sym, ap, ◌∙◌, arith, append-nil, length-append}
use Rattle.std.specs.Prelude.{◌||◌, bytes_eq, cond, not}
use Rattle.std.specs.List.{AllByRecursion}
use Rattle.std.proofs.lemmas.Bool.{or_left, or_right}
use Rattle.std.proofs.lemmas.List.Elements.{filter-append}
use Rattle.std.proofs.lemmas.List.Folds.{list_any-append}
use Rattle.std.proofs.lemmas.Slice.Eq.{bytes_eq-Decides}
use Rattle.gds_block.specs.Item.{Item}
use Rattle.gds_find.specs.declared.trail.Step.{Step}
use Rattle.gds_header.specs.Fields.{fields_of}
use Rattle.gds_header.specs.declared.header.Header.{Header}
use Rattle.gds_law.specs.Visit.{Visit}
use Rattle.gds_pack.specs.Packable.{AreIndex}
use Rattle.gds_pack.specs.Packed.{packed_size}
use Rattle.gds_sound.specs.Sound.{Tree}
use Rattle.gds_tree.specs.Lawful.{IsLawfulEntry, IsLawfulKey}
use Rattle.gds_tree.proofs.LawfulLemmas.{each}
use Rattle.gds_tree.proofs.PartLemmas.{lawful_at}
use Rattle.gds_tree.specs.Below.{as_star}
use Rattle.gds_split.specs.Pieces.{starred}
use Rattle.gds_ancestors.specs.Ancestors.{Ancestor}
use Rattle.gds_splice.specs.NewKeys.{has_key, put_before, with_new_keys}
use Rattle.gds_splice.specs.Splicing.{IsToSplice, Span, new_entries, spliced_entries}
use Rattle.gds_splice.proofs.FewerLemmas.{has_star, packed_fewer}
use Rattle.gds_splice.proofs.ImageLemmas.{image_of}
use Rattle.gds_splice.proofs.NewKeyLemmas.{TakesFew, are_among, none_left, takes_few}
use Rattle.gds_splice.proofs.SplicingLemmas.{had_star}

-- ---- which keys are new

-- how many of the entries have new keys
abbrev new_count : List Item → List Item → ℕ
new_count gone es = length (with_new_keys gone es)

-- One more counts where its key isn't among theirs.
counted : (gone : List Item) (e : Item) (es : List Item) (t : Bool) → has_key gone e.key ≡ t
    → new_count gone (e ∷ es) ≡ cond t 0 1 + new_count gone es
counted gone e es true is =
    omega (arith, ap (λ s. length (cond (not s) (e ∷ with_new_keys gone es) (with_new_keys gone es))) is)
counted gone e es false is =
    omega (arith, ap (λ s. length (cond (not s) (e ∷ with_new_keys gone es) (with_new_keys gone es))) is)

more_known : (gone others : List Item)
    → ((key : List ℕ) → has_key gone key ≡ true → has_key others key ≡ true) → (es : List Item)
    → new_count others es ≤ new_count gone es
more_known gone others known [] = omega arith
more_known gone others known (e ∷ es) =
    by (has_key gone e.key) (has_key others e.key) refl refl (more_known gone others known es)
  where
    by : (s t : Bool) → has_key gone e.key ≡ s → has_key others e.key ≡ t
        → new_count others es ≤ new_count gone es → new_count others (e ∷ es) ≤ new_count gone (e ∷ es)
    by true true s t rest = omega (arith, rest, counted gone e es true s, counted others e es true t)
    by true false s t rest =
        let there : true ≡ false = sym (known e.key s) ∙ t in
        absurd (cc)
    by false true s t rest = omega (arith, rest, counted gone e es false s, counted others e es true t)
    by false false s t rest = omega (arith, rest, counted gone e es false s, counted others e es false t)

-- Those that are among the others have none.
all_known : (others es : List Item) → ((key : List ℕ) → has_key es key ≡ true → has_key others key ≡ true)
    → new_count others es ≡ 0
all_known others [] known = refl
all_known others (e ∷ es) known =
    let here : has_key others e.key ≡ true = known e.key
    (or_left (bytes_eq e.key e.key) (has_key es e.key) ((bytes_eq-Decides e.key e.key).1 refl)) in
    let rest = all_known others es (λ key there. known key (or_right (bytes_eq key e.key) (has_key es key) there)) in
    omega (arith, counted others e es true here, rest)

-- The star isn't new.
starred_known : (others : List Item) → has_key others [] ≡ true → (es : List Item)
    → new_count others (starred es) ≤ new_count others es
starred_known others star [] = omega arith
starred_known others star (e ∷ []) = omega (arith, counted others (as_star e) [] true star)
starred_known others star (e ∷ f ∷ es) = by (has_key others e.key) refl (starred_known others star (f ∷ es))
  where
    by : (t : Bool) → has_key others e.key ≡ t → new_count others (starred (f ∷ es)) ≤ new_count others (f ∷ es)
        → new_count others (e ∷ starred (f ∷ es)) ≤ new_count others (e ∷ f ∷ es)
    by t is rest = omega (arith, rest, counted others e (starred (f ∷ es)) t is, counted others e (f ∷ es) t is)

starred_behind : (a : List Item) (e : Item) (b : List Item) → starred (a ++ e ∷ b) ≡ a ++ starred (e ∷ b)
starred_behind [] e b = refl
starred_behind (x ∷ []) e b = refl
starred_behind (x ∷ y ∷ a) e b = ap (λ es. x ∷ es) (starred_behind (y ∷ a) e b)

-- ---- in a whole block

module _ (front gone back : List Item) where
  abbrev was_there : List Item
  was_there = front ++ gone ++ back

  parted_keys : (key : List ℕ)
      → has_key was_there key ≡ ((has_key front key || has_key gone key) || has_key back key)
  parted_keys key =
      list_any-append (λ e. bytes_eq key e.key) (front ++ gone) back
      ∙ ap (λ t. t || has_key back key) (list_any-append (λ e. bytes_eq key e.key) front gone)

  known_front : (key : List ℕ) → has_key front key ≡ true → has_key was_there key ≡ true
  known_front key there =
      parted_keys key
      ∙ or_left (has_key front key || has_key gone key) (has_key back key)
      (or_left (has_key front key) (has_key gone key) there)

  known_gone : (key : List ℕ) → has_key gone key ≡ true → has_key was_there key ≡ true
  known_gone key there =
      parted_keys key
      ∙ or_left (has_key front key || has_key gone key) (has_key back key)
      (or_right (has_key front key) (has_key gone key) there)

  known_back : (key : List ℕ) → has_key back key ≡ true → has_key was_there key ≡ true
  known_back key there =
      parted_keys key ∙ or_right (has_key front key || has_key gone key) (has_key back key) there

  among_others : (middle : List Item) → new_count was_there (front ++ middle ++ back) ≤ new_count gone middle
  among_others middle =
      let test : Item → Bool = λ e. not (has_key was_there e.key) in
      let parts : with_new_keys was_there (front ++ middle ++ back)
      ≡ with_new_keys was_there front ++ with_new_keys was_there middle ++ with_new_keys was_there back =
      filter-append test (front ++ middle) back
      ∙ ap (λ es. es ++ with_new_keys was_there back) (filter-append test front middle) in
      omega (
        arith,
        ap length parts,
        length-append (with_new_keys was_there front ++ with_new_keys was_there middle) (with_new_keys was_there back),
        length-append (with_new_keys was_there front) (with_new_keys was_there middle),
        all_known was_there front known_front,
        all_known was_there back known_back,
        more_known gone was_there known_gone middle,
      )

few_new : (front gone back put : List Item) → AreIndex [] (front ++ gone ++ back)
    → new_count (front ++ gone ++ back) (starred (front ++ put ++ back)) ≤ new_count gone (put_before back put)
few_new front gone (e ∷ back) put index =
    omega (
      arith,
      ap (new_count (front ++ gone ++ e ∷ back)) (had_star [] (front ++ gone) e back index (front ++ put)),
      among_others front gone (e ∷ back) put,
    )
few_new front gone [] [] index =
    omega (
      arith,
      starred_known (front ++ gone ++ []) (has_star [] (front ++ gone ++ []) index) (front ++ [] ++ []),
      among_others front gone [] [],
    )
few_new front gone [] (f ∷ put) index =
    let same : starred (front ++ (f ∷ put) ++ []) ≡ front ++ starred (f ∷ put) ++ [] =
    ap starred (append-nil (front ++ f ∷ put)) ∙ starred_behind front f put
    ∙ sym (append-nil (front ++ starred (f ∷ put))) in
    omega (arith, ap (new_count (front ++ gone ++ [])) same, among_others front gone [] (starred (f ∷ put)))

-- ---- the entries that are put

short_key : (h : Header) (v : Visit) (level : ℕ) (key : List ℕ) → ((key ≡ [] → ⊥) → IsLawfulKey h v level key)
    → length key ≤ h.key_max
short_key h v level [] lawful = omega arith
short_key h v level (b ∷ key) lawful = (lawful (λ none. absurd (cc))).short

short_keys : (h : Header) (v : Visit) (level : ℕ) (es : List Item) → AllByRecursion (IsLawfulEntry h v level) es
    → AllByRecursion (λ e. length e.key ≤ h.key_max) es
short_keys h v level [] lawful = tt
short_keys h v level (e ∷ es) lawful =
    (short_key h v level e.key lawful.0.key, short_keys h v level es lawful.1)

module _ (file : List ℕ) (root : Visit) (above : List Ancestor) (v : Visit) (level : ℕ) (p : Span) (put : List Item)
    (middle : Tree) (steps : List Step) (taken : ℕ)
    (s : IsToSplice file root above v level p put middle steps taken) where
  abbrev h : Header
  h = fields_of file

  abbrev had : List Item
  had = p.front ++ p.gone ++ p.back

  had_index : AreIndex [] had
  had_index = (lawful_at file v (suc level) had s.may.has).packable

  pub takes : TakesFew h.block_size h.key_max had (spliced_entries p put)
  takes =
      takes_few h.block_size h.key_max had had_index (image_of file s.may.maps).limits.keys_fit
      s.may.has.right.head.fits (spliced_entries p put) s.may.lawful.packable
      (short_keys h v (suc level) (spliced_entries p put) (each h v (suc level) (spliced_entries p put) s.may.lawful))
      (omega (arith, few_new p.front p.gone p.back put had_index, s.few))

  -- Where no key is new they fit in place.
  pub fits_in_place : new_entries p put ≡ [] → packed_size (spliced_entries p put) ≤ h.block_size
  fits_in_place none =
      let no_new = none_left (with_new_keys had (spliced_entries p put))
      (omega (arith, few_new p.front p.gone p.back put had_index, ap length none)) in
      omega (
        arith,
        packed_fewer (spliced_entries p put) had s.may.lawful.packable had_index
            (are_among had (spliced_entries p put) no_new),
        s.may.has.right.head.fits,
      )
