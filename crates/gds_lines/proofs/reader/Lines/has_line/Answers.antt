use Rattle.std.proofs.Common.{◌≡◌, ◌-◌, nat_lt, IfSome, subst}
use Rattle.gds_lines.specs.Ahead.{held}
use Rattle.gds_lines.specs.Lines.{line_len}
use Rattle.gds_lines.specs.LinesState.{LinesState}
use Rattle.gds_lines.proofs.LineLemmas.{ends_held}
use Rattle.gds_lines.proofs.reader.Lines.has_line.Goals as goal

pub returns : goal.returns
returns g c =
    let s = c.self.inside in
    let P : LinesState → Type 0 =
    λ l. IfSome l.left (λ text. c.is_some.result ≡ nat_lt (line_len text) (l.taken - l.passed)) in
    subst P c.self.view_is
    (ends_held (held s.ahead) (g.I.Source.left s.source) s.taken c.line_end.result c.is_some.result c.self.invariant.0
    (rw c.held.ensures at c.line_end.ensures) c.is_some.ensures)
