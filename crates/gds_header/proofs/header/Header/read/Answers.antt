use Rattle.std.proofs.Common.{◌≡◌, length, cond, ltb, Some, None, sym, ap, subst, ◌∙◌, option_map}
use Rattle.gds_header.specs.Fields.{file_length_of}
use Rattle.gds_header.specs.Kinds.{kind_of, unreadable, ending_kind}
use Rattle.gds_header.specs.declared.kind.HeaderKind.TheVariants.{ShortFile}
use Rattle.gds_header.proofs.EndingLemmas.{ending_kind-unreadable, ending_kind-readable, within_limits}
use Rattle.gds_header.proofs.header.Header.read.Goals as goal

pub returns-in-Some-clause-file_err : goal.returns-in-Some-clause-file_err
returns-in-Some-clause-file_err c image begins =
    ending_kind-unreadable image c.args.bytes.now begins c.requires (kind_of c.in-Some.fault)
    (sym c.fault.ensures ∙ ap (option_map kind_of) c.in-Some.is)

none_stands : (c : goal.In-None) → unreadable c.args.bytes.now ≡ None
none_stands c = sym c.fault.ensures ∙ ap (option_map kind_of) c.in-None.is

pub returns-in-None-clause-limits : goal.returns-in-None-clause-limits
returns-in-None-clause-limits c = rw c.fields-header.ensures (within_limits c.args.bytes.now (none_stands c))

pub returns-in-None-clause-file_ok : goal.returns-in-None-clause-file_ok
returns-in-None-clause-file_ok c image begins =
    subst (λ h. ending_kind image ≡ cond (ltb (length image) (file_length_of h)) (Some ShortFile) None)
    (sym c.fields-header.ensures) (ending_kind-readable image c.args.bytes.now begins c.requires (none_stands c))
