use Rattle.std.proofs.Common.{◌≡◌, List, ℕ, ◌-◌, ◌∷◌, take, drop, length, sym, ◌∙◌, subst}
use Rattle.m_number.proofs.TextLemmas.{front_taken, no_front}
use Rattle.m_key.specs.Reference.{node_of}
use Rattle.m_text.specs.Grammar.{IsValueText}
use Rattle.m_text.proofs.ReferenceLemmas.{tail_of}
use Rattle.gds_words.proofs.ScriptLemmas.{IsLongest, behind_all, front_named, behind_longest, setting_read}
use Rattle.gds_words.proofs.script.read_setting.Goals as goal

pub returns-in_default-clause-none : goal.returns-in_default-clause-none
returns-in_default-clause-none c =
    let none = rw c.in_default.is at c.in_ok-reference.ensures.none in
    λ node value s. none (length s.front) node (front_named c.args.text.now node value s)

pub returns-in_default-strip_prefix-clause-none : goal.returns-in_default-strip_prefix-clause-none
returns-in_default-strip_prefix-clause-none c =
    let text : List ℕ = c.args.text.now in
    let len : ℕ = c.in-Some.len in
    let long : IsLongest text len (node_of c.in-Some.reference) = record {
      within = rw c.in-Some.is at c.in_ok-reference.ensures.within;
      named = rw c.in-Some.is at c.in_ok-reference.ensures.some;
      longest = rw c.in-Some.is at c.in_ok-reference.ensures.longest;
    } in
    λ node value s.
    no_front 61 (take (length text - len) (drop len text)) c.in_default-strip_prefix.ensures.cases s.back
    (behind_all len text ∙ behind_longest text len (node_of c.in-Some.reference) node value long s)

pub returns-in_default-2-clause-none : goal.returns-in_default-2-clause-none
returns-in_default-2-clause-none c =
    let text : List ℕ = c.args.text.now in
    let len : ℕ = c.in-Some.len in
    let back : List ℕ = c.in-Some-strip_prefix.behind.now in
    let long : IsLongest text len (node_of c.in-Some.reference) = record {
      within = rw c.in-Some.is at c.in_ok-reference.ensures.within;
      named = rw c.in-Some.is at c.in_ok-reference.ensures.some;
      longest = rw c.in-Some.is at c.in_ok-reference.ensures.longest;
    } in
    let taken = c.in-Some-strip_prefix.ensures.cases in
    let behind : drop len text ≡ 61 ∷ back =
    sym (behind_all len text) ∙ front_taken 61 (take (length text - len) (drop len text)) back taken.0 taken.1 in
    let none = rw c.in_default-2.is at c.in_ok-value.ensures.none in
    λ node value s.
    none value (subst (λ (t : List ℕ). IsValueText t value)
    (tail_of 61 61 s.back back (sym (behind_longest text len (node_of c.in-Some.reference) node value long s)
    ∙ behind)) s.meant)

pub returns-clause-some : goal.returns-clause-some
returns-clause-some c =
    let text : List ℕ = c.args.text.now in
    let len : ℕ = c.in-Some.len in
    let back : List ℕ = c.in-Some-strip_prefix.behind.now in
    let taken = c.in-Some-strip_prefix.ensures.cases in
    let behind : drop len text ≡ 61 ∷ back =
    sym (behind_all len text) ∙ front_taken 61 (take (length text - len) (drop len text)) back taken.0 taken.1 in
    setting_read text back c.in-Some-2.value.items len (node_of c.in-Some.reference)
    (rw c.in-Some.is at c.in_ok-reference.ensures.some) behind
    (rw c.in-Some-2.is at c.in_ok-value.ensures.some)
