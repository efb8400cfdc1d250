use Rattle.std.proofs.Common.{◌≡◌, List, ℕ, length, Some, sym, ap, ◌∙◌, arith}
use Rattle.std.specs.List.{prefix_len}
use Rattle.std.proofs.lemmas.List.{take_rest}
use Rattle.std.proofs.lemmas.Bool.{eqb-true}
use Rattle.m_number.specs.Number.{numeral_of}
use Rattle.m_key.specs.Reference.{node_subscript_of}
use Rattle.m_key.specs.Node.{spelled}
use Rattle.m_text.specs.Front.{string_at, is_number_byte}
use Rattle.m_text.proofs.ValueLemmas.{string_whole}
use Rattle.m_text.proofs.SubscriptLemmas.{number_at, number_stands, string_read_at, string_stands, none_read}
use Rattle.m_text.proofs.SubscriptLemmas.{empty_read, same_rest}
use Rattle.m_text.proofs.subscripts.read_subscript.Goals as goal

pub returns-in_default-clause-none : goal.returns-in_default-clause-none
returns-in_default-clause-none c =
    let text : List ℕ = c.args.text.now in
    let n : ℕ = c.number_len-count.result in
    λ s rest right ended h.
    let b = number_at text n s rest c.number_len-count.ensures c.if-count-gt0.true ended h in
    c.in_default.ensures.none b.it b.right b.written

pub returns-then-count-gt0-clause-found : goal.returns-then-count-gt0-clause-found
returns-then-count-gt0-clause-found c =
    let text : List ℕ = c.args.text.now in
    let n : ℕ = c.number_len-count.result in
    rw (take_rest text n) (number_stands text n (numeral_of c.in-Some.number) c.in-Some.number.is_numeral
    c.in-Some.ensures.some)

pub returns-then-count-gt0-clause-only : goal.returns-then-count-gt0-clause-only
returns-then-count-gt0-clause-only c =
    let text : List ℕ = c.args.text.now in
    let n : ℕ = c.number_len-count.result in
    λ s rest ended h. (number_at text n s rest c.number_len-count.ensures c.if-count-gt0.true ended h).behind
    ∙ sym (take_rest text n)

pub returns-in_default-2-clause-none : goal.returns-in_default-2-clause-none
returns-in_default-2-clause-none c =
    let text : List ℕ = c.args.text.now in
    let no_number : prefix_len is_number_byte text ≡ 0 =
    omega (arith, c.number_len-count.ensures, c.if-count-gt0.false) in
    let none = rw c.in_default-2.is at c.in_ok-rest.ensures in
    λ s rest right ended h. none_read text (spelled s) rest none (string_read_at text s rest no_number ended h)

pub returns-then-is_empty-clause-none : goal.returns-then-is_empty-clause-none
returns-then-is_empty-clause-none c =
    let text : List ℕ = c.args.text.now in
    let new : List ℕ = c.read_string.new.out.items in
    let behind : List ℕ = c.in-Some-2.rest.now in
    let no_number : prefix_len is_number_byte text ≡ 0 =
    omega (arith, c.number_len-count.ensures, c.if-count-gt0.false) in
    let found = rw c.in-Some-2.is at c.in_ok-rest.ensures in
    let whole : string_at text ≡ Some (new, behind) =
    string_whole c.clear.new.self.items text new behind c.clear.ensures.items found in
    let none : length new ≡ 0 = ap length (sym c.as_slice-bytes.ensures.value)
    ∙ eqb-true (length c.as_slice-bytes.result.now) 0 (sym c.if-is_empty.ensures) in
    λ s rest right ended h. empty_read text new behind rest s right whole (string_read_at text s rest no_number ended h)
    none

pub returns-clause-found : goal.returns-clause-found
returns-clause-found c =
    let text : List ℕ = c.args.text.now in
    let new : List ℕ = c.read_string.new.out.items in
    let behind : List ℕ = c.in-Some-2.rest.now in
    let found = rw c.in-Some-2.is at c.in_ok-rest.ensures in
    let whole : string_at text ≡ Some (new, behind) =
    string_whole c.clear.new.self.items text new behind c.clear.ensures.items found in
    string_stands text new behind (node_subscript_of c.in_ok-subscript.subscript) whole (c.in_ok-subscript.ensures.ok
    ∙ c.as_slice-bytes.ensures.value)

pub returns-clause-only : goal.returns-clause-only
returns-clause-only c =
    let text : List ℕ = c.args.text.now in
    let new : List ℕ = c.read_string.new.out.items in
    let behind : List ℕ = c.in-Some-2.rest.now in
    let no_number : prefix_len is_number_byte text ≡ 0 =
    omega (arith, c.number_len-count.ensures, c.if-count-gt0.false) in
    let found = rw c.in-Some-2.is at c.in_ok-rest.ensures in
    let whole : string_at text ≡ Some (new, behind) =
    string_whole c.clear.new.self.items text new behind c.clear.ensures.items found in
    λ s rest ended h. same_rest text new behind (spelled s) rest whole (string_read_at text s rest no_number ended h)
