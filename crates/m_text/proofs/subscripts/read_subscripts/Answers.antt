use Rattle.std.proofs.Common.{◌≡◌, ◌+◌, ◌≤◌, ◌++◌, ◌∷◌, [], List, ℕ, map, sym, ap, ◌∙◌, subst, arith}
use Rattle.std.proofs.lemmas.List.{append_assoc, map_push}
use Rattle.m_key.specs.Node.{NodeSubscript}
use Rattle.m_key.specs.Reference.{node_subscript_of}
use Rattle.m_text.specs.FrontSubscripts.{StandsAt, ListStandsAt}
use Rattle.m_text.proofs.FrontLemmas.{no_front}
use Rattle.m_text.proofs.SubscriptLemmas.{list_last, list_more, goes_step, goes_end, goes_stuck, goes_none, goes_full}
use Rattle.m_text.proofs.subscripts.read_subscripts.Goals as goal
use Rattle.m_number.proofs.TextLemmas.{front_taken}

pub returns-in_default-clause-none : goal.returns-in_default-clause-none
returns-in_default-clause-none c =
    let none = rw c.in_default.is at c.in_ok-subscript.ensures.none in
    λ ss rest right count h. goes_none c.loop-i.rest.now rest c.loop-i._i none
    (c.loop-i.invariant.forth ss rest right count h)

pub returns-in_default-strip_prefix-2-clause-none : goal.returns-in_default-strip_prefix-2-clause-none
returns-in_default-strip_prefix-2-clause-none c =
    let after : List ℕ = c.in-Some.after.now in
    let only = rw c.in-Some.is at c.in_ok-subscript.ensures.only in
    λ ss rest right count h.
    goes_stuck c.loop-i.rest.now after rest c.loop-i._i only (no_front 44 after c.in_default-strip_prefix.ensures.cases)
    (no_front 41 after c.in_default-strip_prefix-2.ensures.cases) (c.loop-i.invariant.forth ss rest right count h)

pub returns-in_default-strip_prefix-clause-found : goal.returns-in_default-strip_prefix-clause-found
returns-in_default-strip_prefix-clause-found c =
    let at : List ℕ = c.loop-i.rest.now in
    let after : List ℕ = c.in-Some.after.now in
    let behind : List ℕ = c.in-Some-strip_prefix-2.behind.now in
    let s : NodeSubscript = node_subscript_of c.in-Some.subscript in
    let stands = rw c.in-Some.is at c.in_ok-subscript.ensures.found in
    let taken = c.in-Some-strip_prefix-2.ensures.cases in
    let closed : after ≡ 41 ∷ behind = front_taken 41 after behind taken.0 taken.1 in
    let P : List ℕ → Type 0 = λ t. StandsAt at s t in
    let Q : List NodeSubscript → Type 0 = λ ss. ListStandsAt c.args.text.now ss behind in
    let pushed : map node_subscript_of c.push.new.self.items ≡ map node_subscript_of c.loop-i.items.items ++ s ∷ [] =
    ap (λ xs. map node_subscript_of xs) c.in_ok-push.ensures.items
    ∙ map_push node_subscript_of c.loop-i.items.items c.in-Some.subscript in
    subst Q (sym pushed) (c.loop-i.invariant.back (s ∷ []) behind (list_last at s behind (subst P closed stands)))

pub returns-in_default-strip_prefix-clause-only : goal.returns-in_default-strip_prefix-clause-only
returns-in_default-strip_prefix-clause-only c =
    let after : List ℕ = c.in-Some.after.now in
    let behind : List ℕ = c.in-Some-strip_prefix-2.behind.now in
    let only = rw c.in-Some.is at c.in_ok-subscript.ensures.only in
    let taken = c.in-Some-strip_prefix-2.ensures.cases in
    let closed : after ≡ 41 ∷ behind = front_taken 41 after behind taken.0 taken.1 in
    λ ss rest right count h. goes_end c.loop-i.rest.now after behind rest c.loop-i._i only closed
    (c.loop-i.invariant.forth ss rest right count h)

pub loop-i-preserved : goal.loop-i-preserved
loop-i-preserved c =
    let at : List ℕ = c.loop-i.rest.now in
    let after : List ℕ = c.in-Some.after.now in
    let more : List ℕ = c.in-Some-strip_prefix.more.now in
    let s : NodeSubscript = node_subscript_of c.in-Some.subscript in
    let stands = rw c.in-Some.is at c.in_ok-subscript.ensures.found in
    let only = rw c.in-Some.is at c.in_ok-subscript.ensures.only in
    let taken = c.in-Some-strip_prefix.ensures.cases in
    let goes : after ≡ 44 ∷ more = front_taken 44 after more taken.0 taken.1 in
    let P : List ℕ → Type 0 = λ t. StandsAt at s t in
    let pushed : map node_subscript_of c.push.new.self.items ≡ map node_subscript_of c.loop-i.items.items ++ s ∷ [] =
    ap (λ xs. map node_subscript_of xs) c.in_ok-push.ensures.items
    ∙ map_push node_subscript_of c.loop-i.items.items c.in-Some.subscript in
    record {
      count = c.in_ok-push.ensures.len ∙ ap (λ (n : ℕ). n + 1) c.loop-i.invariant.count;
      back = λ ss rest l.
          let Q : List NodeSubscript → Type 0 = λ xs. ListStandsAt c.args.text.now xs rest in
          let moved : map node_subscript_of c.push.new.self.items ++ ss
          ≡ map node_subscript_of c.loop-i.items.items ++ s ∷ ss =
          ap (λ (xs : List NodeSubscript). xs ++ ss) pushed
          ∙ append_assoc (map node_subscript_of c.loop-i.items.items) (s ∷ []) ss in
          subst Q (sym moved) (c.loop-i.invariant.back (s ∷ ss) rest
          (list_more at s more ss rest (subst P goes stands) l));
      forth = λ ss rest right count h. goes_step at after more rest c.loop-i._i only goes
          (c.loop-i.invariant.forth ss rest right count h);
    }

pub returns-clause-none : goal.returns-clause-none
returns-clause-none c =
    let full : 31 ≤ c.loop-i._i = omega arith in
    λ ss rest right count h. goes_full c.loop-i.rest.now rest c.loop-i._i full
    (c.loop-i.invariant.forth ss rest right count h)
