-- Keys that are whole, and entries that a block may have.
use Rattle.std.proofs.Common.{◌≡◌, ◌≤◌, ◌<◌, ◌+◌, ℕ, List, [], ◌∷◌, ◌++◌, length, drop, get_or, Option, None, Some}
use Rattle.std.proofs.Common.{sym, ap, ◌∙◌, arith, rules, tests, subst, length-drop}
use Rattle.std.specs.Prelude.{IsTrue, ◌↔◌, option_map, nat_eq}
use Rattle.std.specs.Ordering.{is_lt}
use Rattle.std.proofs.lemmas.Bool.{eqb-true}
use Rattle.std.proofs.lemmas.List.{take_all, at_drop_more}
use Rattle.m_key.specs.Key.{Below}
use Rattle.m_key.specs.KeyEnd.{IsKey, key_len, key_within}
use Rattle.gds_pack.specs.Entry.{items}
use Rattle.gds_pack.specs.Packable.{AreIndex}
use Rattle.gds_pack.specs.declared.entry.Entry.{Entry}

-- what ends within the limit ends where the key does
len_is : (key : List ℕ) (o : Option ℕ) → length key ≤ 255
    → key_within 255 ([] ++ key) ≡ option_map (λ n. 0 + n) o → key_len key ≡ o
len_is key None short within = ap key_len (sym (take_all 255 key short)) ∙ within
len_is key (Some n) short within = ap key_len (sym (take_all 255 key short)) ∙ within ∙ ap Some (omega arith)

pub whole_if : (key : List ℕ) (o : Option ℕ) (n : ℕ) → length key ≤ 255
    → key_within 255 ([] ++ key) ≡ option_map (λ n. 0 + n) o → o ≡ Some n
    → IsTrue (nat_eq n (length key)) ↔ IsKey key
whole_if key o n short within is =
    let len : key_len key ≡ Some n = len_is key o short within ∙ is in (
      λ same. record { whole = len ∙ ap Some (eqb-true n (length key) same); short = short },
      λ k. let same : Some n ≡ Some (length key) = sym len ∙ k.whole in
          let e : n ≡ length key = cc in rw e (search (rules, tests)),
    )

pub not_whole : (key : List ℕ) (o : Option ℕ) → length key ≤ 255
    → key_within 255 ([] ++ key) ≡ option_map (λ n. 0 + n) o → o ≡ None
    → IsKey key → ⊥
not_whole key o short within is k =
    absurd (let no : None ≡ Some (length key) = sym (len_is key o short within ∙ is) ∙ k.whole in cc)

-- An entry whose key isn't the next one is none of an index block, but for the last.
not_first : (previous : List ℕ) (e : Entry) (es : List Entry) → 0 < length es
    → (IsKey e.key.items × Below previous e.key.items → ⊥) → AreIndex previous (items (e ∷ es)) → ⊥
not_first previous e [] some not are = absurd (omega arith)
not_first previous e (f ∷ es) some not are = not (are.0.is_key, ap is_lt are.0.above)

pub not_next : (previous : List ℕ) (entries : List Entry) (i : ℕ) (e : Entry) → i + 1 < length entries
    → e ≡ get_or entries i e → (IsKey e.key.items × Below previous e.key.items → ⊥)
    → AreIndex previous (items (drop i entries)) → ⊥
not_next previous entries i e more read not are =
    not_first previous e (drop (i + 1) entries) (omega (arith, length-drop (i + 1) entries)) not
    (subst (λ (xs : List Entry). AreIndex previous (items xs))
    (at_drop_more (λ xs. xs) entries i e (omega arith) ∙ ap (λ x. x ∷ drop (i + 1) entries) (sym read)) are)
