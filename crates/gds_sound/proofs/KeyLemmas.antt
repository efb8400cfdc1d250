-- What is known of each key in a sound tree: it ends as a key does, has bytes of the file, and no fault of its name and
-- subscripts.
use Rattle.std.proofs.Common.{◌≡◌, ℕ, zero, suc, ◌+◌, ◌<◌, ◌==◌, true, false, not, ◌&&◌, List, [], ◌∷◌, ◌++◌}
use Rattle.std.proofs.Common.{length, take, drop, Option, None, Some, inl, inr, refl, sym, ap, subst, ◌∙◌, arith}
use Rattle.std.specs.Prelude.{⊤, nat_lt, nat_le, is_none, unwrap_or}
use Rattle.std.specs.List.{AllByRecursion}
use Rattle.std.specs.Option.{option_map_or, option_or}
use Rattle.std.proofs.lemmas.Bool.{eq-eqb, ltb-false, leb-false, true≢false, cond-false, cond_both}
use Rattle.gds_header.specs.Fields.{fields_of, place_of, block_of}
use Rattle.gds_block.specs.Record.{Record, records_of, records_up_to, first_record, is_well_sized, bytes_left}
use Rattle.gds_block.specs.Record as block
use Rattle.gds_block.specs.Block.{used_of}
use Rattle.gds_block.specs.Item.{Item}
use Rattle.m_key.specs.KeyEnd.{key_len}
use Rattle.m_key.proofs.KeyEndLemmas.{key_within-whole}
use Rattle.gds_law.specs.Kinds.{record_kinds}
use Rattle.gds_law.specs.Visit.{TreeRole, Visit}
use Rattle.m_key.specs.Node.{is_name}
use Rattle.m_key.specs.KeyParts.{name_part, subscript_parts, unescaped}
use Rattle.gds_law.specs.Key.{subscript_fault, first_fault, key_fault, is_text}
use Rattle.gds_law.specs.Number.{is_number_bytes}
use Rattle.gds_law.specs.BlockReading.{BlockReading, PlacedRecord, is_last, full_of, key_end, key_of}
use Rattle.gds_law.specs.Record.{holds, is_kind, has_key_fault, is_directory, is_other_global, is_ended}
use Rattle.gds_law.specs.Path.{children_at}
use Rattle.gds_sound.specs.Stands.{items_from}
use Rattle.gds_sound.specs.Sound.{Tree, sound_tree}
use Rattle.gds_law.specs.declared.kind.FaultKind.{FaultKind}
use Rattle.gds_law.specs.declared.kind.FaultKind.TheVariants.{KeyTooLong, KeyWithoutEnd, BadName, TooManySubscripts}
use Rattle.gds_law.specs.declared.kind.FaultKind.TheVariants.{BadNumber, BadString, NullSubscript, DirectorySubscript}
use Rattle.gds_law.specs.declared.kind.FaultKind.TheVariants.{WrongGlobal}
use Rattle.gds_law.proofs.MembershipLemmas.{IsIn}
use Rattle.gds_sound.proofs.BlockLemmas.{seen, IsCleanRecord, CleanRecords, clean_block, reading_at, level_at, not_last}
use Rattle.gds_sound.proofs.BlockLemmas.{index_role}
use Rattle.gds_sound.proofs.TreeLemmas.{leaf_parts, index_parts}
use Rattle.gds_sound.proofs.ValueLemmas.{forest_item}

-- ---- its end

pub some_end : (o : Option ℕ) (most n : ℕ) → (is_none o && nat_lt most n) ≡ false → (is_none o && nat_le n most) ≡ false
    → (m : ℕ) × (o ≡ Some m)
some_end (Some m) most n h k = (m, refl)
some_end None most n h k = absurd (omega (arith, ltb-false most n h, leb-false n most k))

asked_long : IsIn record_kinds KeyTooLong
asked_long = inr (inr (inr (inr (inl refl))))

asked_end : IsIn record_kinds KeyWithoutEnd
asked_end = inr (inr (inr (inr (inr (inl refl)))))

pub key_whole : (b : BlockReading) (s : PlacedRecord) → IsCleanRecord b s → is_last b s ≡ false
    → key_len (key_of b s) ≡ Some (length (key_of b s))
key_whole b s c l =
    let e = some_end (key_end b s) b.header.key_max (length (full_of s))
    (sym (cond-false (is_last b s) _ _ l) ∙ c.none KeyTooLong asked_long) (sym (cond-false (is_last b s) _ _ l)
    ∙ c.none KeyWithoutEnd asked_end) in
    let same : key_of b s ≡ take e.0 (full_of s) = ap (λ o. take (unwrap_or o 0) (full_of s)) e.1 in
    subst (λ key. key_len key ≡ Some (length key)) (sym same) (key_within-whole b.header.key_max (full_of s) e.0 e.1)

-- ---- its name and subscripts

key_kinds : List FaultKind
key_kinds = BadName ∷ TooManySubscripts ∷ BadNumber ∷ BadString ∷ NullSubscript ∷ []

abbrev IsKeyKind : Option FaultKind → Type 0
IsKeyKind None = ⊤
IsKeyKind (Some kind) = IsIn key_kinds kind

or_kind : (o p : Option FaultKind) → IsKeyKind o → IsKeyKind p → IsKeyKind (option_or o p)
or_kind None p h k = k
or_kind (Some kind) p h k = h

bad_number : IsKeyKind (Some BadNumber)
unfolding key_kinds
bad_number = inr (inr (inl refl))

subscript_kind : (part : List ℕ) → IsKeyKind (subscript_fault part)
unfolding key_kinds
subscript_kind [] = bad_number
subscript_kind (b ∷ bytes) =
    cond_both (not (b == 255)) _ _ IsKeyKind
    (λ _. cond_both (is_number_bytes (b ∷ bytes)) _ _ IsKeyKind (λ _. tt) (λ _. bad_number))
    (λ _. cond_both (length bytes ==
    0) _ _ IsKeyKind (λ _. inr (inr (inr (inr (inl refl)))))
    (λ _. cond_both (is_text (unescaped bytes)) _ _ IsKeyKind (λ _. tt) (λ _. inr (inr (inr (inl refl))))))

first_kind : (parts : List (List ℕ)) → IsKeyKind (first_fault parts)
first_kind [] = tt
first_kind (part ∷ parts) = or_kind (subscript_fault part) (first_fault parts) (subscript_kind part) (first_kind parts)

key_kind : (key : List ℕ) → IsKeyKind (key_fault key)
unfolding key_kinds key_fault
key_kind key =
    cond_both (not (is_name (name_part key))) _ _ IsKeyKind (λ _. inl refl)
    (λ _. cond_both (nat_lt 31 (length (subscript_parts key))) _ _ IsKeyKind (λ _. inr (inl refl))
    (λ _. first_kind (subscript_parts key)))

asked_kind : (kind : FaultKind) → IsIn key_kinds kind → IsIn record_kinds kind
unfolding key_kinds
asked_kind kind (inl e) = inr (inr (inr (inr (inr (inr (inr (inr (inl e))))))))
asked_kind kind (inr (inl e)) = inr (inr (inr (inr (inr (inr (inr (inr (inr (inl e)))))))))
asked_kind kind (inr (inr (inl e))) = inr (inr (inr (inr (inr (inr (inr (inr (inr (inr (inl e))))))))))
asked_kind kind (inr (inr (inr (inl e)))) = inr (inr (inr (inr (inr (inr (inr (inr (inr (inr (inr (inl e)))))))))))
asked_kind kind (inr (inr (inr (inr (inl e))))) =
    inr (inr (inr (inr (inr (inr (inr (inr (inr (inr (inr (inr (inl e))))))))))))
asked_kind kind (inr (inr (inr (inr (inr i))))) = absurd i

same_kind : (kind : FaultKind) → IsIn key_kinds kind → is_kind kind kind ≡ true
unfolding key_kinds
same_kind kind (inl e) = subst (λ k. is_kind k k ≡ true) e refl
same_kind kind (inr (inl e)) = subst (λ k. is_kind k k ≡ true) e refl
same_kind kind (inr (inr (inl e))) = subst (λ k. is_kind k k ≡ true) e refl
same_kind kind (inr (inr (inr (inl e)))) = subst (λ k. is_kind k k ≡ true) e refl
same_kind kind (inr (inr (inr (inr (inl e))))) = subst (λ k. is_kind k k ≡ true) e refl
same_kind kind (inr (inr (inr (inr (inr i))))) = absurd i

keyed_kind : (b : BlockReading) (s : PlacedRecord) (kind : FaultKind) → IsIn key_kinds kind → is_last b s ≡ false
    → holds b s kind ≡ false → has_key_fault (key_of b s) kind ≡ false
unfolding key_kinds
keyed_kind b s kind (inl e) l =
    subst (λ k. holds b s k ≡ false
    → has_key_fault (key_of b s) k ≡ false) e (λ h. sym (cond-false (is_last b s) _ _ l) ∙ h)
keyed_kind b s kind (inr (inl e)) l =
    subst (λ k. holds b s k ≡ false
    → has_key_fault (key_of b s) k ≡ false) e (λ h. sym (cond-false (is_last b s) _ _ l) ∙ h)
keyed_kind b s kind (inr (inr (inl e))) l =
    subst (λ k. holds b s k ≡ false
    → has_key_fault (key_of b s) k ≡ false) e (λ h. sym (cond-false (is_last b s) _ _ l) ∙ h)
keyed_kind b s kind (inr (inr (inr (inl e)))) l =
    subst (λ k. holds b s k ≡ false
    → has_key_fault (key_of b s) k ≡ false) e (λ h. sym (cond-false (is_last b s) _ _ l) ∙ h)
keyed_kind b s kind (inr (inr (inr (inr (inl e))))) l =
    subst (λ k. holds b s k ≡ false
    → has_key_fault (key_of b s) k ≡ false) e (λ h. sym (cond-false (is_last b s) _ _ l) ∙ h)
keyed_kind b s kind (inr (inr (inr (inr (inr i))))) l = absurd i

no_kind : (o : Option FaultKind) → IsKeyKind o
    → ((kind : FaultKind) → IsIn key_kinds kind → option_map_or (is_kind kind) o false ≡ false) → o ≡ None
no_kind None k h = refl
no_kind (Some kind) k h = absurd (true≢false (sym (same_kind kind k) ∙ h kind k))

pub key_right : (b : BlockReading) (s : PlacedRecord) → IsCleanRecord b s → is_last b s ≡ false
    → key_fault (key_of b s) ≡ None
key_right b s c l =
    no_kind (key_fault (key_of b s)) (key_kind (key_of b s))
    (λ kind i. keyed_kind b s kind i l (c.none kind (asked_kind kind i)))

-- ---- its bytes

abbrev pub AreBytes : List ℕ → Type 0
AreBytes xs = AllByRecursion (λ b. b < 256) xs

all_take : (n : ℕ) (xs : List ℕ) → AreBytes xs → AreBytes (take n xs)
all_take zero xs h = tt
all_take (suc n) [] h = tt
all_take (suc n) (x ∷ xs) h = (h.0, all_take n xs h.1)

all_drop : (n : ℕ) (xs : List ℕ) → AreBytes xs → AreBytes (drop n xs)
all_drop zero xs h = h
all_drop (suc n) [] h = tt
all_drop (suc n) (x ∷ xs) h = all_drop n xs h.1

all_append : (xs ys : List ℕ) → AreBytes xs → AreBytes ys → AreBytes (xs ++ ys)
all_append [] ys h k = k
all_append (x ∷ xs) ys h k = (h.0, all_append xs ys h.1 k)

abbrev pub BodiesAreBytes : List Record → Type 0
BodiesAreBytes [] = ⊤
BodiesAreBytes (r ∷ rs) = AreBytes r.body × BodiesAreBytes rs

bodies_bytes : (n level at : ℕ) (left : List ℕ) → AreBytes left → BodiesAreBytes (records_up_to n level at left)
bodies_bytes zero level at left h = tt
bodies_bytes (suc n) level at left h =
    let rest =
    bodies_bytes n level (at
    + block.size_of left) (drop (block.size_of left) left) (all_drop (block.size_of left) left h) in
    cond_both (is_well_sized level left) _ _ BodiesAreBytes
    (λ _. (all_drop 4 (take (block.size_of left) left) (all_take (block.size_of left) left h), rest)) (λ _. tt)

key_bytes_small : (b : BlockReading) (s : PlacedRecord) → AreBytes s.previous → AreBytes s.record_.body
    → AreBytes (key_of b s)
key_bytes_small b s h k =
    all_take (unwrap_or (key_end b s) 0) (full_of s)
    (all_append (take s.record_.count s.previous) s.record_.body (all_take s.record_.count s.previous h) k)

block_bytes : (image : List ℕ) (n : ℕ) → AreBytes image → AreBytes (block_of image n)
block_bytes image n h =
    all_take (fields_of image).block_size (drop (place_of (fields_of image) n) image)
    (all_drop (place_of (fields_of image) n) image h)

left_bytes : (bytes : List ℕ) (at : ℕ) → AreBytes bytes → AreBytes (bytes_left bytes at)
left_bytes bytes at h = all_drop at (take (used_of bytes) bytes) (all_take (used_of bytes) bytes h)

-- ---- all that is known

pub record IsRightKey (role : TreeRole) (key : List ℕ) : Type 0 where
  pub whole : key_len key ≡ Some (length key)
  pub bytes : AreBytes key
  pub right : key_fault key ≡ None
  pub own : is_other_global role (name_part key) ≡ false
  pub plain : (is_directory role && is_none (key_fault key) && nat_lt 0 (length (subscript_parts key))) ≡ false

asked_subscript : IsIn record_kinds DirectorySubscript
asked_subscript = inr (inr (inr (inr (inr (inr (inr (inr (inr (inr (inr (inr (inr (inl refl)))))))))))))

asked_global : IsIn record_kinds WrongGlobal
asked_global = inr (inr (inr (inr (inr (inr (inr (inr (inr (inr (inr (inr (inr (inr (inl refl))))))))))))))

right_key : (b : BlockReading) (s : PlacedRecord) → IsCleanRecord b s → is_last b s ≡ false → AreBytes s.previous
    → AreBytes s.record_.body → IsRightKey b.visit.role (key_of b s)
right_key b s c l h k = record {
  whole = key_whole b s c l;
  bytes = key_bytes_small b s h k;
  right = key_right b s c l;
  own = sym (cond-false (is_last b s) _ _ l) ∙ c.none WrongGlobal asked_global;
  plain = sym (cond-false (is_last b s) _ _ l) ∙ c.none DirectorySubscript asked_subscript;
}

leaf_keys : (b : BlockReading) (previous : List ℕ) (rs : List Record) → (b.level == 0) ≡ true
    → CleanRecords b previous rs → AreBytes previous → BodiesAreBytes rs
    → (item : Item) → IsIn (items_from b previous rs) item → IsRightKey b.visit.role item.key
leaf_keys b previous [] z c h k item i = absurd i
leaf_keys b previous (r ∷ rs) z c h k item i =
    let s : PlacedRecord = seen previous r in
    let right = right_key b s c.0 (not_last b s z) h k.0 in
    elim (subst (λ (l : List Item). IsIn l item) (cond-false (is_ended b s) [] _ c.0.goes_on) i) [
      | inl e ↦ subst (λ (w : Item). IsRightKey b.visit.role w.key) e right
      | inr j ↦ leaf_keys b (key_of b s) rs z c.1 (key_bytes_small b s h k.0) k.1 item j
    ]

pub right_keys : (image : List ℕ) (level : ℕ) (v : Visit) (t : Tree) → AreBytes image
    → sound_tree image level v ≡ Some t → (item : Item) → IsIn t.items item → IsRightKey v.role item.key
right_keys image zero v t small h item i =
    let p = leaf_parts image v t h in
    let bytes : List ℕ = block_of image v.block in
    let c = clean_block (reading_at image v) bytes p.none in
    let left = left_bytes bytes 16 (block_bytes image v.block small) in
    leaf_keys (reading_at image v) [] (records_of bytes) (eq-eqb (level_at image v) 0 p.level) c.records tt
    (bodies_bytes (length (bytes_left bytes 16)) (level_at image v) 16 (bytes_left bytes 16) left) item
    (subst (λ (w : Tree). IsIn w.items item) (sym p.is) i)
right_keys image (suc level) v t small h item i =
    let p = index_parts image level v t h in
    let o = forest_item (sound_tree image level) (children_at image v) p.below item p.forest
    (subst (λ (w : Tree). IsIn w.items item) (sym p.is) i) in
    subst (λ role. IsRightKey role item.key) (index_role image v o.child level p.none p.level o.there).0
    (right_keys image level o.child.visit o.one small o.found item o.item_in)
