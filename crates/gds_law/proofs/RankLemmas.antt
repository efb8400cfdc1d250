-- Each child's rank is smaller than its block's.
use Rattle.std.proofs.Common.{◌≡◌, ℕ, ◌-◌, ◌<◌, ◌==◌, Bool, true, false, not, ◌&&◌, ◌||◌, if◌then◌else◌, List, []}
use Rattle.std.proofs.Common.{◌∷◌, ◌++◌, filter, Option, None, Some, inl, inr, refl, sym, ap, subst, ◌∙◌, arith}
use Rattle.std.specs.List.{list_any}
use Rattle.std.proofs.lemmas.Bool.{not-false, ltb-false, eqb-true, eqb-false, le-ltb, and_left, or_parts, cond_both}
use Rattle.gds_header.specs.declared.header.Header.{Header}
use Rattle.gds_header.specs.Kinds.{through_first}
use Rattle.gds_block.specs.Record.{Record, records_of}
use Rattle.gds_law.specs.Kinds.{ends, head_kinds}
use Rattle.gds_law.specs.Visit.{TreeRole, directory, global, Visit, Child}
use Rattle.gds_law.specs.Rank.{rank_of, rank}
use Rattle.gds_law.specs.BlockReading.{BlockReading, PlacedRecord, reading_of, has_values, is_last, pointer_of, key_of}
use Rattle.gds_law.specs.Record.{target_of, is_ended, child_to, children_of_record, is_sound}
use Rattle.gds_law.specs.Block.{is_wrong_level, head_holds, kinds_of_head, children_from, children_of}
use Rattle.gds_law.specs.declared.kind.FaultKind.{FaultKind}
use Rattle.gds_law.specs.declared.kind.FaultKind.TheVariants.{WrongLevel}
use Rattle.gds_law.proofs.MembershipLemmas.{IsIn, in_either}

-- a level below
not_zero : (level : ℕ) → (level == 0) ≡ false → 0 < level
not_zero level h = let k = eqb-false level 0 h in omega arith

pub sinks : (role : TreeRole) (due : Option ℕ) (level : ℕ) → is_wrong_level due level ≡ false → (level == 0) ≡ false
    → rank_of role (Some (level - 1)) < rank_of role due
sinks directory None level h n = let low = ltb-false 7 level h in let some = not_zero level n in omega arith
sinks (global name) None level h n = let low = ltb-false 7 level h in let some = not_zero level n in omega arith
sinks directory (Some due) level h n = let same = eqb-true level due (not-false (level == due) h) in let some =
    not_zero level n in omega arith
sinks (global name) (Some due) level h n = let same = eqb-true level due (not-false (level == due) h) in let some =
    not_zero level n in omega arith

-- from a block of level 0 to a global's root
no_value : (last values short : Bool) (x y : Option ℕ) (p : ℕ)
    → (if last then x else (if not values && short then y else None)) ≡ Some p → last ≡ false → values ≡ false
no_value true values short x y p h e = absurd (cc)
no_value false true short x y p h e = absurd (cc)
no_value false false short x y p h e = refl

no_values : (b : BlockReading) (s : PlacedRecord) (p : ℕ) → (b.level == 0) ≡ true → pointer_of b s ≡ Some p
    → has_values b b.visit.role ≡ false
no_values b s p z h =
    let e = eqb-true b.level 0 z in
    no_value (is_last b s) (has_values b b.visit.role) _ _ _ p h (and_left _ _ (le-ltb 0 b.level (omega arith)))

leaps : (b : BlockReading) (role : TreeRole) (due : Option ℕ) → (b.level == 0) ≡ true → has_values b role ≡ false
    → 7 < rank_of role due
leaps b directory None z h = omega arith
leaps b directory (Some due) z h = omega arith
leaps b (global name) due z h = absurd (cc)

target_falls : (b : BlockReading) (s : PlacedRecord) (p : ℕ) → is_wrong_level b.visit.level b.level ≡ false
    → pointer_of b s ≡ Some p → rank (target_of b s p) < rank b.visit
unfolding target_of
target_falls b s p right h =
    cond_both (b.level == 0) _ _ (λ (w : Visit). rank w < rank b.visit)
    (λ e. leaps b b.visit.role b.visit.level e (no_values b s p e h))
    (λ e. sinks b.visit.role b.visit.level b.level right e)

-- the elements of lists that stand under a test
in_unless : {A : Type 0} (t : Bool) (xs : List A) (x : A) → IsIn (if t then [] else xs) x → (t ≡ false) × IsIn xs x
in_unless true xs x i = absurd i
in_unless false xs x i = (refl, i)

in_if : {A : Type 0} (t : Bool) (xs : List A) (x : A) → IsIn (if t then xs else []) x → IsIn xs x
in_if true xs x i = i
in_if false xs x i = absurd i

child_falls : (b : BlockReading) (s : PlacedRecord) (c : Child) → is_wrong_level b.visit.level b.level ≡ false
    → IsIn (children_of_record b s) c → rank c.visit < rank b.visit
child_falls b s c right i = by (pointer_of b s) refl i
  where
    by : (o : Option ℕ) → pointer_of b s ≡ o → IsIn (child_to b s o) c → rank c.visit < rank b.visit
    by None e j = absurd j
    by (Some p) e j =
        elim (in_if (is_sound b p) _ c j) [
          | inl k ↦ subst (λ (d : Child). rank d.visit < rank b.visit) k (target_falls b s p right e)
          | inr k ↦ absurd k
        ]

children_fall : (b : BlockReading) (previous : List ℕ) (rs : List Record) (c : Child)
    → is_wrong_level b.visit.level b.level ≡ false → IsIn (children_from b previous rs) c → rank c.visit < rank b.visit
children_fall b previous [] c right i = absurd i
children_fall b previous (r ∷ rs) c right i =
    let s : PlacedRecord = record { previous = previous; record_ = r } in
    let j = in_unless (is_ended b s) (children_of_record b s ++ children_from b (key_of b s) rs) c i in
    elim (in_either (children_of_record b s) (children_from b (key_of b s) rs) c j.1) [
      | inl k ↦ child_falls b s c right k
      | inr k ↦ children_fall b (key_of b s) rs c right k
    ]

-- No kind that is there among the told ones ends the reading: none of the asked ones that would is there.
pub through_any : {A : Type 0} (test : A → Bool) (xs : List A)
    → list_any test (through_first test xs) ≡ list_any test xs
through_any test [] = refl
through_any {A} test (x ∷ xs) = by (test x) refl (through_any test xs)
  where
    by : (t : Bool) → test x ≡ t → list_any test (through_first test xs) ≡ list_any test xs
        → list_any test (if t then x ∷ [] else x ∷ through_first test xs) ≡ (test x || list_any test xs)
    by true e h = rw e refl
    by false e h = ap (λ u. test x || u) h

pub none_there : {A : Type 0} (test there : A → Bool) (xs : List A) (x : A) → list_any test (filter there xs) ≡ false
    → test x ≡ true → IsIn xs x → there x ≡ false
none_there test there [] x h e i = absurd i
none_there {A} test there (y ∷ ys) x h e i = by (there y) refl h i (none_there test there ys x)
  where
    by : (t : Bool) → there y ≡ t → list_any test (if t then y ∷ filter there ys else filter there ys) ≡ false
        → IsIn (y ∷ ys) x
        → (list_any test (filter there ys) ≡ false → test x ≡ true → IsIn ys x → there x ≡ false) → there x ≡ false
    by true f k (inl same) next = absurd (cc (ap test same, (or_parts (test y) (list_any test (filter there ys)) k).0))
    by false f k (inl same) next = sym (ap there same) ∙ f
    by true f k (inr j) next = next (or_parts (test y) (list_any test (filter there ys)) k).1 e j
    by false f k (inr j) next = next k e j

right_level : (b : BlockReading) (bytes : List ℕ) (kinds : List FaultKind) → IsIn kinds WrongLevel
    → list_any ends (through_first ends (filter (head_holds b bytes) kinds)) ≡ false
    → is_wrong_level b.visit.level b.level ≡ false
right_level b bytes kinds i h =
    none_there ends (head_holds b bytes) kinds WrongLevel (sym (through_any ends (filter (head_holds b bytes) kinds))
    ∙ h) refl i

pub is_asked : IsIn head_kinds WrongLevel
is_asked = inr (inr (inr (inr (inr (inl refl)))))

head_right : (b : BlockReading) (bytes : List ℕ) → list_any ends (kinds_of_head b bytes) ≡ false
    → is_wrong_level b.visit.level b.level ≡ false
unfolding kinds_of_head
head_right b bytes h = right_level b bytes head_kinds is_asked h

pub falls : (h : Header) (v : Visit) (bytes : List ℕ) (c : Child) → IsIn (children_of h v bytes) c
    → rank c.visit < rank v
unfolding children_of
falls h v bytes c i =
    let b : BlockReading = reading_of h v bytes in
    let j = in_unless (list_any ends (kinds_of_head b bytes)) (children_from b [] (records_of bytes)) c i in
    children_fall b [] (records_of bytes) c (head_right b bytes j.0) j.1
