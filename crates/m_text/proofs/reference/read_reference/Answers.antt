use Rattle.std.proofs.Common.{◌<◌, List, ℕ, length, map, sym, ap, ◌∙◌, subst, arith}
use Rattle.m_key.specs.Node.{NodeSubscript}
use Rattle.m_key.specs.Reference.{node_subscript_of, node_of, is_node, name_bytes}
use Rattle.m_key.specs.declared.reference.Reference.{Reference}
use Rattle.m_text.specs.FrontSubscripts.{ListStandsAt}
use Rattle.m_text.proofs.ReferenceLemmas.{no_reference, bare_made, list_made, longest_bare, longest_list, list_shorter}
use Rattle.m_text.proofs.reference.read_reference.Goals as goal
use Rattle.m_number.proofs.TextLemmas.{front_taken}

pub returns-in_default-read_name-clause-none : goal.returns-in_default-read_name-clause-none
returns-in_default-read_name-clause-none c =
    let text : List ℕ = c.args.text.now in
    let behind : List ℕ = c.in-Some.behind.now in
    let taken = c.in-Some.ensures.cases in
    λ len node. no_reference text behind len node (front_taken 94 text behind taken.0 taken.1)
    c.in_default-read_name.ensures.none

pub returns-in-Some-2-clause-some : goal.returns-in-Some-2-clause-some
returns-in-Some-2-clause-some c =
    let text : List ℕ = c.args.text.now in
    let behind : List ℕ = c.in-Some.behind.now in
    let rest : List ℕ = c.in-Some-read_name.rest.now in
    let end : List ℕ = c.in-Some-2.end.now in
    let taken = c.in-Some.ensures.cases in
    let list = rw c.in-Some-2.is at c.in_ok-items.ensures.found in
    let r : Reference = record { name = c.in-Some-read_name.name; subscripts = c.new-subscripts.result } in
    let P : List NodeSubscript → Type 0 = λ ss. ListStandsAt list.0 ss end in
    list_made text behind rest list.0 end (node_of r) (is_node r) (front_taken 94 text behind taken.0 taken.1)
    c.in-Some-read_name.ensures.found list.1 (subst P
    (ap (λ xs. map node_subscript_of xs) (sym c.new-subscripts.ensures)) list.2)

pub returns-in-Some-2-clause-longest : goal.returns-in-Some-2-clause-longest
returns-in-Some-2-clause-longest c =
    let text : List ℕ = c.args.text.now in
    let behind : List ℕ = c.in-Some.behind.now in
    let rest : List ℕ = c.in-Some-read_name.rest.now in
    let end : List ℕ = c.in-Some-2.end.now in
    let taken = c.in-Some.ensures.cases in
    let list = rw c.in-Some-2.is at c.in_ok-items.ensures.found in
    let only = rw c.in-Some-2.is at c.in_ok-items.ensures.only in
    let shorter : length end < length rest =
    omega (
      arith,
      list_shorter list.0 end (map node_subscript_of c.in-Some-2.items.items) list.2,
      ap length list.1,
    ) in
    λ len node fits h.
    longest_list text behind (name_bytes c.in-Some-read_name.name) rest end len node fits h
    (front_taken 94 text behind taken.0 taken.1) c.in-Some-read_name.ensures.found
    c.in-Some-read_name.ensures.longest shorter only

pub returns-in-None-clause-some : goal.returns-in-None-clause-some
returns-in-None-clause-some c =
    let text : List ℕ = c.args.text.now in
    let behind : List ℕ = c.in-Some.behind.now in
    let rest : List ℕ = c.in-Some-read_name.rest.now in
    let taken = c.in-Some.ensures.cases in
    let r : Reference = record { name = c.in-Some-read_name.name; subscripts = c.new-subscripts-in-None.result } in
    bare_made text behind rest (node_of r) (is_node r)
    (ap (λ xs. map node_subscript_of xs) (c.new-subscripts-in-None.ensures
    ∙ c.new.ensures.items)) (front_taken 94 text behind taken.0 taken.1) c.in-Some-read_name.ensures.found

pub returns-in-None-clause-longest : goal.returns-in-None-clause-longest
returns-in-None-clause-longest c =
    let text : List ℕ = c.args.text.now in
    let behind : List ℕ = c.in-Some.behind.now in
    let rest : List ℕ = c.in-Some-read_name.rest.now in
    let taken = c.in-Some.ensures.cases in
    let none = rw c.in-None.is at c.in_ok-items.ensures.none in
    λ len node fits h.
    longest_bare text behind (name_bytes c.in-Some-read_name.name) rest len node fits h
    (front_taken 94 text behind taken.0 taken.1) c.in-Some-read_name.ensures.found
    c.in-Some-read_name.ensures.longest none
