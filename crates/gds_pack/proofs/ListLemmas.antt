-- Steps over a list of entries.
use Rattle.std.proofs.Common.{ℕ, zero, suc, ◌≡◌, ◌+◌, ◌<◌, ◌≤◌, List, [], ◌∷◌, ◌++◌, length, get_or, take, drop, Some}
use Rattle.std.proofs.Common.{sym, ◌∙◌, ap, arith}
use Rattle.std.specs.Prelude.{slice_get}
use Rattle.std.proofs.lemmas.List.{at_drop_more, take_more, map-append, drop_all}
use Rattle.gds_pack.specs.Packed.{record_size, record_bytes, records_size, records_bytes, key_behind}
use Rattle.gds_pack.specs.Entry.{item, items}
use Rattle.gds_pack.specs.declared.entry.Entry.{Entry}
use Rattle.gds_pack.proofs.SizeLemmas.{records_size-append, key_behind-append}

module _ (list : List Entry) (i : ℕ) (e : Entry) (within : i < length list) (read : e ≡ get_or list i e) where
  pub records_size-drop : (previous : List ℕ)
      → records_size previous (items (drop i list))
      ≡ record_size previous (item e) + records_size e.key.items (items (drop (i + 1) list))
  records_size-drop previous =
      at_drop_more (λ xs. records_size previous (items xs)) list i e within
      ∙ ap (λ x. record_size previous (item x) + records_size x.key.items (items (drop (i + 1) list))) (sym read)

  pub records_bytes-drop : (previous : List ℕ)
      → records_bytes previous (items (drop i list))
      ≡ record_bytes previous (item e) ++ records_bytes e.key.items (items (drop (i + 1) list))
  records_bytes-drop previous =
      at_drop_more (λ xs. records_bytes previous (items xs)) list i e within
      ∙ ap (λ x. record_bytes previous (item x) ++ records_bytes x.key.items (items (drop (i + 1) list))) (sym read)

  pub items-take : items (take (i + 1) list) ≡ items (take i list) ++ item e ∷ []
  items-take =
      ap items (take_more list i e within) ∙ map-append item (take i list) (get_or list i e ∷ [])
      ∙ ap (λ x. items (take i list) ++ item x ∷ []) (sym read)

  pub records_size-take : records_size [] (items (take (i + 1) list))
      ≡ records_size [] (items (take i list)) + record_size (key_behind [] (items (take i list))) (item e)
  records_size-take =
      ap (records_size []) items-take
      ∙ omega (arith, records_size-append [] (items (take i list)) (item e ∷ []))

  pub key_behind-take : key_behind [] (items (take (i + 1) list)) ≡ e.key.items
  key_behind-take = ap (key_behind []) items-take ∙ key_behind-append [] (items (take i list)) (item e ∷ [])

pub records_size-drop_all : (list : List Entry) (i : ℕ) (previous : List ℕ) → length list ≤ i
    → records_size previous (items (drop i list)) ≡ 0
records_size-drop_all list i previous h = ap (λ xs. records_size previous (items xs)) (drop_all i list h)

pub records_bytes-drop_all : (list : List Entry) (i : ℕ) (previous : List ℕ) → length list ≤ i
    → records_bytes previous (items (drop i list)) ≡ []
records_bytes-drop_all list i previous h = ap (λ xs. records_bytes previous (items xs)) (drop_all i list h)

-- the key of the last entry
pub key_behind-last : (list : List Entry) (n : ℕ) (previous : List ℕ) (e : Entry) → n + 1 ≡ length list
    → slice_get list n ≡ Some e → key_behind previous (items list) ≡ e.key.items
key_behind-last [] n previous e h k = absurd (omega arith)
key_behind-last (x ∷ []) zero previous e h k =
    let same : x ≡ e = cc in
    ap (λ y. y.key.items) same
key_behind-last (x ∷ []) (suc n) previous e h k = absurd (omega arith)
key_behind-last (x ∷ y ∷ list) zero previous e h k = absurd (omega arith)
key_behind-last (x ∷ y ∷ list) (suc n) previous e h k = key_behind-last (y ∷ list) n x.key.items e (omega arith) k
