-- Which changes are kept, once more was answered.
use Rattle.std.proofs.Common.{◌≡◌, ℕ, ◌≤◌, List, [], ◌∷◌, ◌++◌, Contains, length, take, refl, sym, ap, subst}
use Rattle.std.proofs.Common.{◌∙◌, arith, ⊎_elim, length-append}
use Rattle.std.proofs.lemmas.List.{append-nil, append_assoc, take-append-le, take_all}
use Rattle.std.proofs.lemmas.List.Elements.{Contains-push_cases}
use Rattle.m_key.specs.Globals.{Change, Globals, after_all}
use Rattle.gds_script.specs.declared.answer.Answer.{Answer}
use Rattle.gds_script.specs.declared.answer.Answer.TheVariants.{Epoch}
use Rattle.gds_script.specs.Made.{IsKept}

-- it is no answer to an EPOCH
abbrev pub IsNoEpoch : Answer → Type 0
IsNoEpoch answer = (n : ℕ) → answer ≡ Epoch n → ⊥

-- Other answers with no EPOCH more, and other changes that begin as these.
pub kept_on : (m : Globals) (answers others : List Answer) (changes next : List Change) (most more : ℕ)
    (found : Globals) → ((n : ℕ) → Contains others (Epoch n) → Contains answers (Epoch n))
    → ((n : ℕ) → n ≤ most → take n changes ≡ take n next) → most ≤ more
    → IsKept m answers changes most found → IsKept m others next more found
kept_on m answers others changes next most more found no_more same less is = record {
  kept = is.kept;
  durable = λ n has. is.durable n (no_more n has);
  few = omega (arith, is.few, less);
  is = is.is ∙ ap (after_all m) (same is.kept is.few);
}

-- All that waited was said.
pub kept_said : (m : Globals) (told waiting : List Answer) (told_changes waiting_changes : List Change)
    (found : Globals) → IsKept m (told ++ waiting) (told_changes ++ waiting_changes) (length told_changes) found
    → IsKept m ((told ++ waiting) ++ []) ((told_changes ++ waiting_changes) ++ [])
    (length (told_changes ++ waiting_changes)) found
kept_said m told waiting told_changes waiting_changes found is =
    kept_on m (told ++ waiting) ((told ++ waiting) ++ []) (told_changes ++ waiting_changes)
    ((told_changes ++ waiting_changes) ++ []) (length told_changes) (length (told_changes ++ waiting_changes)) found
    (λ n has. subst (λ answers. Contains answers (Epoch n)) (append-nil (told ++ waiting)) has)
    (λ n below. ap (take n) (sym (append-nil (told_changes ++ waiting_changes))))
    (omega (arith, length-append told_changes waiting_changes)) is

-- One answer more waits, which is no EPOCH, and perhaps some changes more.
pub kept_waits : (m : Globals) (told waiting : List Answer) (told_changes waiting_changes more : List Change)
    (answer : Answer) (found : Globals) → IsNoEpoch answer
    → IsKept m (told ++ waiting) (told_changes ++ waiting_changes) (length told_changes) found
    → IsKept m (told ++ (waiting ++ answer ∷ [])) (told_changes ++ (waiting_changes ++ more)) (length told_changes)
    found
kept_waits m told waiting told_changes waiting_changes more answer found none =
    kept_on m (told ++ waiting) (told ++ (waiting ++ answer ∷ [])) (told_changes ++ waiting_changes)
    (told_changes ++ (waiting_changes ++ more)) (length told_changes) (length told_changes) found
    (λ n has.
    ⊎_elim (λ (was : Contains (told ++ waiting) (Epoch n)). was) (λ (is : answer ≡ Epoch n). absurd (none n is))
    (Contains-push_cases (told ++ waiting) answer (Epoch n)
    (subst (λ answers. Contains answers (Epoch n)) (sym (append_assoc told waiting (answer ∷ []))) has)))
    (λ n below.
    take-append-le n told_changes waiting_changes below
    ∙ sym (take-append-le n told_changes (waiting_changes ++ more) below))
    (omega arith)

-- the same without changes more
pub kept_waits_none : (m : Globals) (told waiting : List Answer) (told_changes waiting_changes : List Change)
    (answer : Answer) (found : Globals) → IsNoEpoch answer
    → IsKept m (told ++ waiting) (told_changes ++ waiting_changes) (length told_changes) found
    → IsKept m (told ++ (waiting ++ answer ∷ [])) (told_changes ++ waiting_changes) (length told_changes) found
kept_waits_none m told waiting told_changes waiting_changes answer found none is =
    subst (λ changes. IsKept m (told ++ (waiting ++ answer ∷ [])) (told_changes ++ changes) (length told_changes) found)
    (append-nil waiting_changes)
    (kept_waits m told waiting told_changes waiting_changes [] answer found none is)

-- The map after all changes, where no EPOCH tells more.
pub kept_all : (m : Globals) (answers : List Answer) (changes : List Change) (most : ℕ) (found : Globals)
    → ((n : ℕ) → Contains answers (Epoch n) → n ≤ length changes) → length changes ≤ most
    → found ≡ after_all m changes → IsKept m answers changes most found
kept_all m answers changes most found durable few is = record {
  kept = length changes;
  durable = durable;
  few = few;
  is = is ∙ ap (after_all m) (sym (take_all (length changes) changes (omega arith)));
}

-- An EPOCH tells of all changes, and its answer waits.
pub kept_epoch : (m : Globals) (told : List Answer) (changes : List Change) (found : Globals)
    → ((n : ℕ) → Contains told (Epoch n) → n ≤ length changes) → found ≡ after_all m changes
    → IsKept m (told ++ Epoch (length changes) ∷ []) (changes ++ []) (length changes) found
kept_epoch m told changes found durable is =
    kept_all m (told ++ Epoch (length changes) ∷ []) (changes ++ []) (length changes) found
    (λ n has.
    ⊎_elim (λ (was : Contains told (Epoch n)). let few = durable n was in omega (arith, few, same_len))
    (λ (own : Epoch (length changes) ≡ Epoch n). let one = number_of own in omega (arith, one, same_len))
    (Contains-push_cases told (Epoch (length changes)) (Epoch n) has))
    (omega (arith, same_len)) (is ∙ ap (after_all m) (sym (append-nil changes)))
  where
    same_len : length (changes ++ []) ≡ length changes
    same_len = ap length (append-nil changes)

    number_of : {n : ℕ} → Epoch (length changes) ≡ Epoch n → length changes ≡ n
    number_of e = cc

-- before the first line
pub kept_none : (m : Globals) → IsKept m [] [] 0 m
kept_none m = kept_all m [] [] 0 m (λ n has. absurd (omega (arith, has.1))) (omega arith) refl
