use Rattle.std.proofs.Common.{take, drop}
use Rattle.gds_lines.specs.Ahead.{held}
use Rattle.gds_lines.proofs.PartLemmas.{slice_range-grown}
use Rattle.gds_lines.proofs.ToldLemmas.{taken_behind}
use Rattle.gds_lines.proofs.ahead.Ahead.take.Goals as goal

pub returns-clause-text : goal.returns-clause-text
returns-clause-text g c =
    let s = c.args.self.now in
    let ys = c.take_behind.new.buffer.items in
    let n = c.in_ok-n.n in
    let grown = slice_range-grown s.buffer.items ys s.from s.to n s.ordered c.take_behind.ensures.before in
    taken_behind (held s) _ (take n (drop s.to ys)) n grown _ _ c.in_ok-n.ensures.given
