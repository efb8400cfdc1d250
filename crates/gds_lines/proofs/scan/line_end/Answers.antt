use Rattle.std.proofs.Common.{None, Some, arith}
use Rattle.gds_lines.proofs.LineLemmas.{line_len-le, line_len-searched_from}
use Rattle.gds_lines.proofs.scan.line_end.Goals as goal

pub slice_bounds-memchr-count : goal.slice_bounds-memchr-count
slice_bounds-memchr-count c = omega (arith, line_len-le c.args.bytes.now)

pub slice_bounds-memchr-start : goal.slice_bounds-memchr-start
slice_bounds-memchr-start c = omega (arith, line_len-le c.args.bytes.now)

pub returns-in_err-found : goal.returns-in_err-found
returns-in_err-found c =
    rw c.from_residual.ensures (line_len-searched_from c.args.scanned c.args.bytes.now None c.requires
    (rw c.in_err-found.was at c.memchr.ensures))

pub returns : goal.returns
returns c =
    line_len-searched_from c.args.scanned c.args.bytes.now (Some c.in_ok-found.found) c.requires
    (rw c.in_ok-found.was at c.memchr.ensures)
