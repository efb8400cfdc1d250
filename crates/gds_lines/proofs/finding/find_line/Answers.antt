use Rattle.std.proofs.Common.{◌≡◌, ◌<◌, List, ℕ, sym, subst, arith, length}
use Rattle.std.specs.Io.KnownBytes.{prepend_known}
use Rattle.host_model.specs.Told.{TellsOn}
use Rattle.gds_lines.specs.Lines.{line_len, after_first_line}
use Rattle.gds_lines.specs.Ahead.{held, text_left}
use Rattle.gds_lines.proofs.CountLemmas.{counts_then}
use Rattle.gds_lines.proofs.PartLemmas.{length-cut}
use Rattle.gds_lines.proofs.LineLemmas.{LooksAs, line_len-take_unended, line_len-grown}
use Rattle.gds_lines.proofs.ToldLemmas.{found-line, found-rest, seen-shortened, seen-filled, seen-ended, ended-line}
use Rattle.gds_lines.proofs.ToldLemmas.{ended-rest}
use Rattle.gds_lines.proofs.finding.find_line.Goals as goal

abbrev Unended : List ℕ → Type 0
Unended l = line_len l ≡ length l

abbrev Found : List ℕ → Type 0
Found l = line_len l < length l

pub returns-in-Some-clause-line : goal.returns-in-Some-clause-line
returns-in-Some-clause-line g c =
    let text = text_left c.args.ahead.now (g.I.Source.left c.args.source.now) in
    let left = g.I.Source.left c.loop-end.source in
    let found : Found c.held.result.now = omega (arith, c.in-Some.ensures.0, c.in-Some.ensures.1) in
    found-line text (held c.loop-end.ahead) left _ (subst Found c.held.ensures found) c.loop-end.invariant.seen
    c.give.ensures.line

pub returns-in-Some-clause-left : goal.returns-in-Some-clause-left
returns-in-Some-clause-left g c =
    let text = text_left c.args.ahead.now (g.I.Source.left c.args.source.now) in
    let left = g.I.Source.left c.loop-end.source in
    let found : Found c.held.result.now = omega (arith, c.in-Some.ensures.0, c.in-Some.ensures.1) in
    found-rest text (held c.loop-end.ahead) left _ (subst Found c.held.ensures found) c.loop-end.invariant.seen
    c.give.ensures.rest

pub fill-requires-clause-short : goal.fill-requires-clause-short
fill-requires-clause-short g c =
    length-cut 1048578 (held c.loop-end.ahead) (held c.shorten.new.self) c.shorten.ensures.cut

-- What is held after the cut has no line end, and nothing came behind it.
pub give_all-requires : goal.give_all-requires
give_all-requires g c =
    let before = subst Unended c.held.ensures c.in_default.ensures in
    let cut = subst Unended (sym c.shorten.ensures.cut)
    (line_len-take_unended 1048578 (held c.loop-end.ahead) before) in
    subst Unended (sym (c.in_ok-fill.ensures.none c.if-branch-eq0.true)) cut

pub returns-then-branch-eq0-clause-line : goal.returns-then-branch-eq0-clause-line
returns-then-branch-eq0-clause-line g c =
    let text = text_left c.args.ahead.now (g.I.Source.left c.args.source.now) in
    let left = g.I.Source.left c.loop-end.source in
    let now = g.I.Source.left c.fill.new.source in
    let before = subst Unended c.held.ensures c.in_default.ensures in
    let seen = subst (λ l. TellsOn text (prepend_known l left) LooksAs) (sym c.shorten.ensures.cut)
    (seen-shortened text (held c.loop-end.ahead) left before c.loop-end.invariant.seen) in
    let ended = seen-ended text (text_left c.shorten.new.self left) (text_left c.fill.new.ahead now)
    (held c.fill.new.ahead) c.in_ok-fill.field-0 c.if-branch-eq0.true seen c.in_ok-fill.ensures.text in
    ended-line text (text_left c.fill.new.ahead now) (held c.fill.new.ahead) _ ended c.give_all.ensures.line

pub returns-then-branch-eq0-clause-left : goal.returns-then-branch-eq0-clause-left
returns-then-branch-eq0-clause-left g c =
    let text = text_left c.args.ahead.now (g.I.Source.left c.args.source.now) in
    let left = g.I.Source.left c.loop-end.source in
    let now = g.I.Source.left c.fill.new.source in
    let before = subst Unended c.held.ensures c.in_default.ensures in
    let cut = subst Unended (sym c.shorten.ensures.cut)
    (line_len-take_unended 1048578 (held c.loop-end.ahead) before) in
    let unended = subst Unended (sym (c.in_ok-fill.ensures.none c.if-branch-eq0.true)) cut in
    let seen = subst (λ l. TellsOn text (prepend_known l left) LooksAs) (sym c.shorten.ensures.cut)
    (seen-shortened text (held c.loop-end.ahead) left before c.loop-end.invariant.seen) in
    let ended = seen-ended text (text_left c.shorten.new.self left) (text_left c.fill.new.ahead now)
    (held c.fill.new.ahead) c.in_ok-fill.field-0 c.if-branch-eq0.true seen c.in_ok-fill.ensures.text in
    subst (λ l. TellsOn text (prepend_known l now) (λ t rest. rest ≡ after_first_line t))
    (sym c.give_all.ensures.rest) (ended-rest text (held c.fill.new.ahead) now unended ended)

pub loop-end-preserved : goal.loop-end-preserved
loop-end-preserved g c =
    let text = text_left c.args.ahead.now (g.I.Source.left c.args.source.now) in
    let left = g.I.Source.left c.loop-end.source in
    let now = g.I.Source.left c.fill.new.source in
    let before = subst Unended c.held.ensures c.in_default.ensures in
    let cut = subst Unended (sym c.shorten.ensures.cut)
    (line_len-take_unended 1048578 (held c.loop-end.ahead) before) in
    let seen = subst (λ l. TellsOn text (prepend_known l left) LooksAs) (sym c.shorten.ensures.cut)
    (seen-shortened text (held c.loop-end.ahead) left before c.loop-end.invariant.seen) in
    let n = c.in_ok-fill.field-0 in
    record {
      seen = seen-filled text (text_left c.shorten.new.self left) (text_left c.fill.new.ahead now)
          (λ new. n ≡ 0 → new ≡ held c.fill.new.ahead) seen c.in_ok-fill.ensures.text;
      counts = counts_then c.args.taken.now c.loop-end.taken c.fill.new.taken (g.I.Source.left c.args.source.now)
          left now
          c.loop-end.invariant.counts c.fill.ensures.counts;
      scanned = omega (
        arith,
        c.len-scanned.ensures,
        line_len-grown (held c.shorten.new.self)
            (held c.fill.new.ahead) cut c.fill.ensures.held,
      );
      behind = omega (arith, c.loop-end.invariant.behind, c.shorten.ensures.len, c.fill.ensures.passed);
      onward = omega (arith, c.loop-end.invariant.onward, c.shorten.ensures.len, c.fill.ensures.passed);
      taken = omega (arith, c.loop-end.invariant.taken, c.fill.ensures.taken);
      within = c.in_ok-fill.ensures.within;
      failures = omega (arith, c.loop-end.invariant.failures, c.fill.ensures.failures);
    }

pub returns-in_err-fill-clause-counts : goal.returns-in_err-fill-clause-counts
returns-in_err-fill-clause-counts g c =
    counts_then c.args.taken.now c.loop-end.taken c.fill.new.taken (g.I.Source.left c.args.source.now)
    (g.I.Source.left c.loop-end.source) (g.I.Source.left c.fill.new.source)
    c.loop-end.invariant.counts c.in_err-fill.ensures.counts

pub returns-then-branch-eq0-clause-counts : goal.returns-then-branch-eq0-clause-counts
returns-then-branch-eq0-clause-counts g c =
    counts_then c.args.taken.now c.loop-end.taken c.fill.new.taken (g.I.Source.left c.args.source.now)
    (g.I.Source.left c.loop-end.source) (g.I.Source.left c.fill.new.source)
    c.loop-end.invariant.counts c.in_ok-fill.ensures.counts
