-- The verbs that lines of a script begin with.
use Rattle.std.specs.Prelude.{ℕ, List, codes}
use Rattle.gds_words.specs.declared.verb.Verb.{Verb}
use Rattle.gds_words.specs.declared.verb.Verb.TheVariants as verb

-- a verb and the space behind it
abbrev pub verb_text : Verb → List ℕ
verb_text verb.Set = codes "SET "
verb_text verb.Kill = codes "KILL "
verb_text verb.Get = codes "GET "
verb_text verb.Order = codes "ORDER "
verb_text verb.DataOf = codes "DATA "
verb_text verb.Query = codes "QUERY "
