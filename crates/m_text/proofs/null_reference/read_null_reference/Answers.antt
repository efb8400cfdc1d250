use Rattle.std.proofs.Common.{◌≡◌, ◌<◌, ◌++◌, ◌∷◌, [], List, ℕ, length, map, sym, ap, ◌∙◌, subst, arith}
use Rattle.std.proofs.lemmas.Bool.{false≢true}
use Rattle.std.proofs.lemmas.List.{length-map}
use Rattle.m_key.specs.Node.{NodeSubscript}
use Rattle.m_key.specs.Reference.{node_subscript_of, node_of, is_node, name_bytes}
use Rattle.m_key.specs.declared.reference.Reference.{Reference}
use Rattle.m_text.specs.Front.{leads}
use Rattle.m_text.specs.FrontSubscripts.{null, ListStandsAt}
use Rattle.m_text.proofs.FrontLemmas.{no_front}
use Rattle.m_text.proofs.ReferenceLemmas.{tail_of}
use Rattle.m_text.proofs.NullReferenceLemmas.{null_made, null_caret, null_unnamed, null_behind, each_of}
use Rattle.m_text.proofs.null_reference.read_null_reference.Goals as goal
use Rattle.m_number.proofs.TextLemmas.{front_taken}

pub returns-in_default-clause-none : goal.returns-in_default-clause-none
returns-in_default-clause-none c =
    λ node. null_caret c.args.text.now node (no_front 94 c.args.text.now c.in_default.ensures.cases)

pub returns-in_default-read_name-clause-none : goal.returns-in_default-read_name-clause-none
returns-in_default-read_name-clause-none c =
    let text : List ℕ = c.args.text.now in
    let behind : List ℕ = c.in-Some.behind.now in
    let taken = c.in-Some.ensures.cases in
    λ node. null_unnamed text behind node (front_taken 94 text behind taken.0 taken.1)
    c.in_default-read_name.ensures.none

pub returns-in_default-strip_prefix-clause-none : goal.returns-in_default-strip_prefix-clause-none
returns-in_default-strip_prefix-clause-none c =
    let text : List ℕ = c.args.text.now in
    let behind : List ℕ = c.in-Some.behind.now in
    let rest : List ℕ = c.in-Some-read_name.rest.now in
    let taken = c.in-Some.ensures.cases in
    λ node h.
    let b = null_behind text behind (name_bytes c.in-Some-read_name.name) rest node
    (front_taken 94 text behind taken.0 taken.1) c.in-Some-read_name.ensures.found
    c.in-Some-read_name.ensures.longest h in
    false≢true (sym (no_front 40 rest c.in_default-strip_prefix.ensures.cases) ∙ ap (leads 40) b.1)

pub returns-in_default-2-clause-none : goal.returns-in_default-2-clause-none
returns-in_default-2-clause-none c =
    let text : List ℕ = c.args.text.now in
    let behind : List ℕ = c.in-Some.behind.now in
    let rest : List ℕ = c.in-Some-read_name.rest.now in
    let inside : List ℕ = c.in-Some-strip_prefix.inside.now in
    let taken = c.in-Some.ensures.cases in
    let opened = c.in-Some-strip_prefix.ensures.cases in
    let none = rw c.in_default-2.is at c.in_ok-items.ensures.none in
    λ node h.
    let b = null_behind text behind (name_bytes c.in-Some-read_name.name) rest node
    (front_taken 94 text behind taken.0 taken.1) c.in-Some-read_name.ensures.found
    c.in-Some-read_name.ensures.longest h in
    let same : b.0 ≡ inside =
    tail_of 40 40 b.0 inside (sym b.1 ∙ front_taken 40 rest inside opened.0 opened.1) in
    none node.subscripts (each_of node h.is_node) h.fewer
    (subst (λ (t : List ℕ). ListStandsAt t (node.subscripts ++ null ∷ []) []) same b.2)

pub returns-clause-some : goal.returns-clause-some
returns-clause-some c =
    let text : List ℕ = c.args.text.now in
    let behind : List ℕ = c.in-Some.behind.now in
    let rest : List ℕ = c.in-Some-read_name.rest.now in
    let inside : List ℕ = c.in-Some-strip_prefix.inside.now in
    let taken = c.in-Some.ensures.cases in
    let opened = c.in-Some-strip_prefix.ensures.cases in
    let found = rw c.in-Some-2.is at c.in_ok-items.ensures.found in
    let count = rw c.in-Some-2.is at c.in_ok-items.ensures.count in
    let r : Reference = record { name = c.in-Some-read_name.name; subscripts = c.new-subscripts.result } in
    let P : List NodeSubscript → Type 0 = λ ss. ListStandsAt inside (ss ++ null ∷ []) [] in
    let made = ap (λ xs. map node_subscript_of xs) (sym c.new-subscripts.ensures) in
    let fewer : length (map node_subscript_of c.in-Some-2.items.items) < 31 =
    omega (arith, count, c.in-Some-2.items.ok.0, length-map c.in-Some-2.items.items node_subscript_of) in
    null_made text behind rest inside (node_of r) (is_node r)
    (subst (λ (ss : List NodeSubscript). length ss < 31) made fewer) (front_taken 94 text behind taken.0 taken.1)
    c.in-Some-read_name.ensures.found (front_taken 40 rest inside opened.0 opened.1) (subst P made found)
