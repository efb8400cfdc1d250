use Rattle.std.proofs.Common.{◌∙◌, ◌++◌, List, ℕ, ap}
use Rattle.std.specs.String.{string_bytes}
use Rattle.gds_law.specs.Kinds.{name_of}
use Rattle.gds_law.specs.Line.{text_about}
use Rattle.gds_cli.specs.FaultText.{fault_line, meant}
use Rattle.gds_cli.proofs.FaultLineLemmas.{line_by, pieces}
use Rattle.gds_cli.proofs.fault_text.write_fault.Goals as goal

pub returns : goal.returns
unfolding lib.Utf8.encode
returns c =
    let f = c.args.fault.now in
    let subject = meant c.subject_of.result in
    pieces c.push-2.result (string_bytes c.args.text.now) (string_bytes c.push_str.new.self)
    (string_bytes c.push.new.self) (string_bytes c.write_about.new.text) (string_bytes c.push-2.new.self)
    (name_of f.kind) (text_about subject f) (fault_line f)
    (c.in_ok-push_str.ensures.bytes ∙ ap (λ (t : List ℕ). string_bytes c.args.text.now ++ t) c.name.ensures)
    c.in_ok-push.ensures.bytes c.in_ok-write_about.ensures c.push-2.ensures.bytes
    (line_by f subject c.subject_of.ensures)
