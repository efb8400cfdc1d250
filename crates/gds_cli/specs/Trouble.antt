-- What a trouble is blamed on, and what a part of an extract leaves of a host.
use Rattle.std.specs.Prelude.{IfErr, Option, Result}
use Rattle.host_model.specs.Failures.{Failures, NeverFell, Rose}
use Rattle.host_model.specs.Files.{Contents}
use Rattle.host_model.specs.Frames.{WasRead}
use Rattle.gds_cli.specs.declared.thin.trouble.Trouble.{Trouble}
use Rattle.gds_cli.specs.declared.thin.trouble.Trouble.TheVariants.{Memory, Read, Say, Changed}

-- the count of the failures that the trouble tells of rose
abbrev pub Blames : Trouble → Failures → Failures → Type 0
Blames Memory before now = Unit {0}
Blames Read before now = Rose before.read now.read
Blames Say before now = Rose before.say now.say
Blames (Changed unit) before now = Unit {0}

abbrev pub IsChange : Trouble → Type 0
IsChange (Changed unit) = Unit {0}
IsChange other = ⊥

-- No count of failures fell, and where there was trouble the count that it blames rose.
pub record AreBlamed {T : Type 0} (result : Result T Trouble) (before now : Failures) : Type 0 where
  pub failures : NeverFell before now
  pub blame : IfErr result (λ trouble. Blames trouble before now)

-- The host was only read, and where there was trouble the count that it blames rose.
pub record WasReadFor {H T : Type 0} (contents : H → Option Contents) (counts : H → Failures) (old new : H)
    (result : Result T Trouble) : Type 0 where
  pub read : WasRead contents counts old new
  pub blame : IfErr result (λ trouble. Blames trouble (counts old) (counts new))
