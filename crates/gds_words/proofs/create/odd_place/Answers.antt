use Rattle.std.proofs.Common.{map, string_bytes, ◌∙◌, arith}
use Rattle.std.proofs.lemmas.List.{length-map}
use Rattle.gds_words.proofs.CreateLemmas.{goes_at, none_odd, odd_at, one_more}
use Rattle.gds_words.proofs.create.odd_place.Goals as goal

pub returns-then-not-goes_on-clause-place : goal.returns-then-not-goes_on-clause-place
returns-then-not-goes_on-clause-place c =
    let words = c.args.words.now in
    odd_at (map string_bytes words) c.loop-place.place (omega (arith, length-map words string_bytes))
    c.loop-place.invariant
    (goes_at string_bytes words c.loop-place.place c.index-words-place.result c.as_bytes.result.now c.goes_on.result
    (omega arith) c.index-words-place.is c.as_bytes.ensures.value c.goes_on.ensures ∙ c.if-not-goes_on.true)

pub loop-place-preserved : goal.loop-place-preserved
loop-place-preserved c =
    let words = c.args.words.now in
    one_more (map string_bytes words) c.loop-place.place c.loop-place.invariant
    (goes_at string_bytes words c.loop-place.place c.index-words-place.result c.as_bytes.result.now c.goes_on.result
    (omega arith) c.index-words-place.is c.as_bytes.ensures.value c.goes_on.ensures ∙ c.if-not-goes_on.false)

pub returns-clause-place : goal.returns-clause-place
returns-clause-place c =
    let words = c.args.words.now in
    let size = length-map words string_bytes in
    none_odd (map string_bytes words) (λ k l. c.loop-place.invariant k (omega (arith, l, size)))
