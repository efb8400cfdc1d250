-- A crash leaves the map after a prefix of the answered changes.
use Rattle.std.proofs.Common.{◌≡◌, ℕ, ◌^◌, ◌<◌, ◌≤◌, List, [], ◌∷◌, ◌++◌, Contains, codes, length}
use Rattle.std.proofs.Common.{take, drop, map, sym, ap, subst, ◌∙◌, arith, length-append, get_or}
use Rattle.std.proofs.Common.{take-append-drop}
use Rattle.std.proofs.lemmas.List.{append-nil, append_assoc, take-append-le, length-map, get_or-map}
use Rattle.std.proofs.lemmas.List.Elements.{Contains-append_left, Contains-get_or}
use Rattle.std.specs.Fmt.{decimal}
use Rattle.host_model.specs.Files.{Contents}
use Rattle.m_key.specs.Globals.{Change, Globals, after_all}
use Rattle.gds_base.specs.Finds.{Finds}
use Rattle.gds_script.specs.declared.answer.Answer.{Answer}
use Rattle.gds_script.specs.declared.answer.Answer.TheVariants.{Epoch}
use Rattle.gds_script.specs.Answer.{answer_lines, answer_text}
use Rattle.gds_script.specs.Finding.{FindsOne}
use Rattle.gds_script.specs.Made.{AreMade, IsKept}
use Rattle.gds_script.specs.Said.{AreAccepted, IsAfterPrefix, whole_lines}
use Rattle.gds_script.proofs.MadeLemmas.{are_made_joined, are_made_parted, made_are_accepted}
use Rattle.gds_script.proofs.TextLemmas.{decimal_same, epoch_of_text}
use Rattle.gds_script.proofs.WholeLineLemmas.{whole_lines_are}

-- ---- an EPOCH among the lines is one among the answers

text_at : (answers : List Answer) (text : List ℕ) → Contains (map answer_text answers) text
    → (answer : Answer) × Contains answers answer × (text ≡ answer_text answer)
text_at [] text is = absurd (omega (arith, is.1))
text_at (answer ∷ answers) text is =
    let here : Answer = get_or (answer ∷ answers) is.0 answer in
    let low : is.0 < length (answer ∷ answers) = omega (arith, is.1, length-map (answer ∷ answers) answer_text) in
    let same = sym is.2 ∙ get_or-map answer_text (answer ∷ answers) is.0 answer text low in
    (here, Contains-get_or (answer ∷ answers) is.0 answer low, same)

epoch_among : (answers : List Answer) (most n : ℕ) → most < 2 ^ 64
    → ((k : ℕ) → Contains answers (Epoch k) → k ≤ most)
    → Contains (map answer_text answers) (codes "EPOCH " ++ decimal n) → Contains answers (Epoch n)
epoch_among answers most n small durable is =
    let told = text_at answers (codes "EPOCH " ++ decimal n) is in
    let one = epoch_of_text n told.0 told.2 in
    let has : Contains answers (Epoch one.changes) = subst (λ answer. Contains answers answer) one.is told.1 in
    let few = durable one.changes has in
    let same : n ≡ one.changes = decimal_same n one.changes (omega (arith, few, small)) one.digits in
    subst (λ k. Contains answers (Epoch k)) (sym same) has

-- ---- the prefix

-- After some answers were said and some first bytes of those that wait, a crash that leaves the map after some of the
-- changes that were said leaves the map after a prefix.
pub after_prefix : (m : Globals) (before : List ℕ) (script told_lines waiting_lines rest : List (List ℕ))
    (told waiting : List Answer) (told_changes waiting_changes : List Change)
    → script ≡ (told_lines ++ waiting_lines) ++ rest → AreMade told_lines told told_changes
    → AreMade waiting_lines waiting waiting_changes → length told_changes < 2 ^ 64 → (n : ℕ) (c : Contents)
    → FindsOne (IsKept m (told ++ waiting) (told_changes ++ waiting_changes) (length told_changes))
    ((before ++ answer_lines told) ++ take n (answer_lines waiting)) c
    → IsAfterPrefix script m before c
after_prefix m before script told_lines waiting_lines rest told waiting told_changes waiting_changes script_is told_made
    waiting_made small n c found =
    let whole = whole_lines_are told waiting n in
    let some : List Answer = take whole.0 waiting in
    let parts = are_made_parted waiting_lines some (drop whole.0 waiting) waiting_changes
    (subst (λ answers. AreMade waiting_lines answers waiting_changes) (sym (take-append-drop whole.0 waiting))
    waiting_made) in
    let lines_are = script_is ∙ ap (λ lines. (told_lines ++ lines) ++ rest) parts.lines_are
    ∙ ap (λ lines. lines ++ rest) (sym (append_assoc told_lines parts.first_lines parts.second_lines))
    ∙ append_assoc (told_lines ++ parts.first_lines) parts.second_lines rest in
    let made = are_made_joined told_lines parts.first_lines told some told_changes parts.first_changes told_made
    parts.first_made in
    let accepted = made_are_accepted (told_lines ++ parts.first_lines) (parts.second_lines ++ rest) (told ++ some)
    (told_changes ++ parts.first_changes) made in
    let among : (told ++ some) ++ drop whole.0 waiting ≡ told ++ waiting =
    append_assoc told some (drop whole.0 waiting)
    ∙ ap (λ answers. told ++ answers) (take-append-drop whole.0 waiting) in
    let durable : (k : ℕ) → Contains (told ++ some) (Epoch k) → k ≤ found.has.kept =
    λ k has. found.has.durable k (subst (λ answers. Contains answers (Epoch k)) among
    (Contains-append_left (told ++ some) (drop whole.0 waiting) (Epoch k) has)) in
    let map_is = found.has.is ∙ ap (after_all m)
    (take-append-le found.has.kept told_changes waiting_changes found.has.few
    ∙ sym (take-append-le found.has.kept told_changes parts.first_changes found.has.few)) in
    record {
      said = answer_lines told ++ take n (answer_lines waiting);
      changes = told_changes ++ parts.first_changes;
      accepted = subst (λ lines. AreAccepted lines (whole_lines (answer_lines told ++ take n (answer_lines waiting)))
          (told_changes ++ parts.first_changes)) (sym lines_are)
          (subst (λ replies. AreAccepted ((told_lines ++ parts.first_lines) ++ (parts.second_lines ++ rest)) replies
          (told_changes ++ parts.first_changes)) (sym whole.1) accepted);
      kept = found.has.kept;
      few = omega (arith, found.has.few, length-append told_changes parts.first_changes);
      durable = λ k has. durable k (epoch_among (told ++ some) found.has.kept k (omega (arith, found.has.few, small))
          durable (subst (λ replies. Contains replies (codes "EPOCH " ++ decimal k)) whole.1 has));
      finds = subst (λ text. Finds (after_all m (take found.has.kept (told_changes ++ parts.first_changes))) text c)
          (append_assoc before (answer_lines told) (take n (answer_lines waiting)))
          (subst (λ g. Finds g ((before ++ answer_lines told) ++ take n (answer_lines waiting)) c) map_is found.finds);
    }

-- the same where nothing of what waits was said
pub after_prefix_now : (m : Globals) (before : List ℕ) (script told_lines waiting_lines rest : List (List ℕ))
    (told waiting : List Answer) (told_changes waiting_changes : List Change)
    → script ≡ (told_lines ++ waiting_lines) ++ rest → AreMade told_lines told told_changes
    → AreMade waiting_lines waiting waiting_changes → length told_changes < 2 ^ 64 → (c : Contents)
    → FindsOne (IsKept m (told ++ waiting) (told_changes ++ waiting_changes) (length told_changes))
    (before ++ answer_lines told) c
    → IsAfterPrefix script m before c
after_prefix_now m before script told_lines waiting_lines rest told waiting told_changes waiting_changes script_is
    told_made waiting_made small c found =
    after_prefix m before script told_lines waiting_lines rest told waiting told_changes waiting_changes script_is
    told_made waiting_made small 0 c
    (subst
    (λ text. FindsOne (IsKept m (told ++ waiting) (told_changes ++ waiting_changes) (length told_changes)) text c)
    (sym (append-nil (before ++ answer_lines told))) found)
