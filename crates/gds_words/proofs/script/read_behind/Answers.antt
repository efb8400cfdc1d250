use Rattle.gds_words.specs.declared.verb.Verb.TheVariants.{Set, Kill, Get, DataOf, Query}
use Rattle.gds_words.proofs.FormLemmas.{none_of, none_alike}
use Rattle.gds_words.proofs.script.read_behind.Goals as goal

pub returns-in_default-clause-none : goal.returns-in_default-clause-none
returns-in_default-clause-none c =
    let none = rw c.in_default.is at c.in_ok-reference-in-Set.ensures.none in
    none_of c.args.verb Set c.args.text.now c.in-Set.is (λ node value first. none node value)

pub returns-in_ok-named-in-Kill-clause-none : goal.returns-in_ok-named-in-Kill-clause-none
returns-in_ok-named-in-Kill-clause-none c =
    none_alike c.in_ok-named-in-Kill.named c.map.result c.map.ensures.variant
    (λ none. none_of c.args.verb Kill c.args.text.now c.in-Kill.is (λ node value first. none node))
    c.in_ok-named-in-Kill.ensures.none

pub returns-in_ok-named-in-Get-clause-none : goal.returns-in_ok-named-in-Get-clause-none
returns-in_ok-named-in-Get-clause-none c =
    none_alike c.in_ok-named-in-Get.named c.map-in-Get.result c.map-in-Get.ensures.variant
    (λ none. none_of c.args.verb Get c.args.text.now c.in-Get.is (λ node value first. none node))
    c.in_ok-named-in-Get.ensures.none

pub returns-in_ok-named-in-DataOf-clause-none : goal.returns-in_ok-named-in-DataOf-clause-none
returns-in_ok-named-in-DataOf-clause-none c =
    none_alike c.in_ok-named-in-DataOf.named c.map-in-DataOf.result c.map-in-DataOf.ensures.variant
    (λ none. none_of c.args.verb DataOf c.args.text.now c.in-DataOf.is (λ node value first. none node))
    c.in_ok-named-in-DataOf.ensures.none

pub returns-in_ok-named-in-Query-clause-none : goal.returns-in_ok-named-in-Query-clause-none
returns-in_ok-named-in-Query-clause-none c =
    none_alike c.in_ok-named-in-Query.named c.map-in-Query.result c.map-in-Query.ensures.variant
    (λ none. none_of c.args.verb Query c.args.text.now c.in-Query.is (λ node value first. none node))
    c.in_ok-named-in-Query.ensures.none
