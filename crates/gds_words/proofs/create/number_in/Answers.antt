use Rattle.std.proofs.Common.{◌≡◌, ℕ, List, map, string_bytes, sym, ap, ◌∙◌, arith}
use Rattle.std.proofs.lemmas.List.{at_drop_all}
use Rattle.std.specs.List.{find}
use Rattle.gds_words.specs.Create.{gives, number_of}
use Rattle.gds_words.proofs.CreateLemmas.{given_number, next_gives, number_default, number_found}
use Rattle.gds_words.proofs.create.number_in.Goals as goal

pub returns-in-Some : goal.returns-in-Some
returns-in-Some c =
    let words = c.args.words.now in
    let word = c.word-item.result in
    let q = c.args.qualifier in
    let text : List ℕ = c.as_bytes.result.now in
    let same : text ≡ string_bytes word = c.as_bytes.ensures.value in
    let given = given_number (gives q text) c.in-Some.number (number_of q text) c.in-Some.ensures in
    given.1 ∙ ap (number_of q) same
    ∙ number_found q (map string_bytes words) (string_bytes word) (sym c.loop-word.invariant
    ∙ next_gives string_bytes q words c.loop-word.word-index word (omega arith) c.word-item.is
    (ap (gives q) (sym same) ∙ given.0))

pub returns : goal.returns
returns c =
    let words = c.args.words.now in
    let q = c.args.qualifier in
    c.default.ensures
    ∙ number_default q (map string_bytes words) (sym c.loop-word.invariant
    ∙ at_drop_all (λ rest. find (gives q) (map string_bytes rest)) words c.loop-word.word-index (omega arith))
