use Rattle.std.proofs.Common.{◌≡◌, ◌+◌, ◌++◌, ◌∷◌, [], List, ℕ, map, sym, ap, ◌∙◌, subst}
use Rattle.std.proofs.lemmas.Bool.{false≢true}
use Rattle.std.proofs.lemmas.List.{append_assoc, map_push}
use Rattle.m_key.specs.Node.{NodeSubscript}
use Rattle.m_key.specs.Reference.{node_subscript_of, is_subscript}
use Rattle.m_text.specs.FrontSubscripts.{null, StandsAt, ListStandsAt}
use Rattle.m_text.proofs.FrontLemmas.{no_front}
use Rattle.m_text.proofs.SubscriptLemmas.{list_last, list_more}
use Rattle.m_text.proofs.NullReferenceLemmas.{null_step, null_stuck, null_none}
use Rattle.m_text.proofs.null_reference.read_before_null.Goals as goal
use Rattle.m_number.proofs.TextLemmas.{front_taken}

pub returns-then-branch-clause-found : goal.returns-then-branch-clause-found
returns-then-branch-clause-found c =
    c.loop-i.invariant.back (null ∷ []) (list_last c.loop-i.rest.now null []
    (c.in_ok-is_last_null.ensures.yes c.if-branch.true))

pub returns-in_default-clause-none : goal.returns-in_default-clause-none
returns-in_default-clause-none c =
    let none = rw c.in_default.is at c.in_ok-subscript.ensures.none in
    λ ss right fewer h.
    null_none c.loop-i.rest.now c.loop-i._i none
    (λ stands. false≢true (sym c.if-branch.false ∙ c.in_ok-is_last_null.ensures.no stands))
    (c.loop-i.invariant.forth ss right fewer h)

pub returns-in_default-strip_prefix-clause-none : goal.returns-in_default-strip_prefix-clause-none
returns-in_default-strip_prefix-clause-none c =
    let after : List ℕ = c.in-Some.after.now in
    let stands = rw c.in-Some.is at c.in_ok-subscript.ensures.found in
    let only = rw c.in-Some.is at c.in_ok-subscript.ensures.only in
    λ ss right fewer h.
    null_stuck c.loop-i.rest.now after c.loop-i._i (node_subscript_of c.in-Some.subscript) only
    (is_subscript c.in-Some.subscript) stands (no_front 44 after c.in_default-strip_prefix.ensures.cases)
    (c.loop-i.invariant.forth ss right fewer h)

pub loop-i-preserved : goal.loop-i-preserved
loop-i-preserved c =
    let at : List ℕ = c.loop-i.rest.now in
    let after : List ℕ = c.in-Some.after.now in
    let more : List ℕ = c.in-Some-strip_prefix.more.now in
    let s : NodeSubscript = node_subscript_of c.in-Some.subscript in
    let before : List NodeSubscript = map node_subscript_of c.loop-i.items.items in
    let stands = rw c.in-Some.is at c.in_ok-subscript.ensures.found in
    let only = rw c.in-Some.is at c.in_ok-subscript.ensures.only in
    let taken = c.in-Some-strip_prefix.ensures.cases in
    let goes : after ≡ 44 ∷ more = front_taken 44 after more taken.0 taken.1 in
    let P : List ℕ → Type 0 = λ t. StandsAt at s t in
    let pushed : map node_subscript_of c.push.new.self.items ≡ before ++ s ∷ [] =
    ap (λ xs. map node_subscript_of xs) c.in_ok-push.ensures.items
    ∙ map_push node_subscript_of c.loop-i.items.items c.in-Some.subscript in
    record {
      count = c.in_ok-push.ensures.len ∙ ap (λ (n : ℕ). n + 1) c.loop-i.invariant.count;
      back = λ ss l.
          let Q : List NodeSubscript → Type 0 = λ xs. ListStandsAt c.args.text.now xs [] in
          let moved : map node_subscript_of c.push.new.self.items ++ ss ≡ before ++ s ∷ ss =
          ap (λ (xs : List NodeSubscript). xs ++ ss) pushed ∙ append_assoc before (s ∷ []) ss in
          subst Q (sym moved) (c.loop-i.invariant.back (s ∷ ss)
          (list_more at s more ss [] (subst P goes stands) l));
      forth = λ ss right fewer h. null_step at after more c.loop-i._i only goes
          (c.loop-i.invariant.forth ss right fewer h);
    }
