use Rattle.std.proofs.Common.{◌≡◌, ◌++◌, ◌∷◌, [], map, List, ℕ, Vec, Global, subst, sym, ap, ◌∙◌, arith}
use Rattle.std.proofs.lemmas.List.{map_push}
use Rattle.std.specs.Str.Lines.{lines}
use Rattle.host_model.specs.Told.{TellsOn}
use Rattle.gds_lines.specs.Lines.{given}
use Rattle.gds_lines.proofs.ToldLemmas.{so_far-more}
use Rattle.host_rows.proofs.lines.all_lines.Goals as goal

abbrev bytes_of : Vec ℕ Global → List ℕ
bytes_of v = v.items

pub loop-all-preserved : goal.loop-all-preserved
loop-all-preserved g c =
    let taken = c.line.follows.holds-at-none in
    let new = c.line.follows.lender-at-none in
    let text = g.I.Source.left c.args.source in
    let before = c.loop-all.all.items in
    let answer = rw c.in-Some.is at c.in_ok-line.ensures.line in
    let more = so_far-more text c.loop-all.reader.left new.left (map bytes_of before) _ c.loop-all.invariant.so_far
    answer (rw c.in_ok-line.was at taken.left) in
    let pushed = ap (map bytes_of) c.in_ok-push.ensures.items ∙ map_push bytes_of before c.in_ok-from_slice.field-0
    ∙ ap (λ l. map bytes_of before ++ l ∷ []) c.in_ok-from_slice.ensures.items in
    let short = rw c.in_ok-line.was at taken.short in
    record {
      so_far = subst (λ l. TellsOn text new.left (λ t rest. map given (lines t) ≡ l ++ map given (lines rest)))
          (sym pushed) more;
      goes = rw c.in_ok-line.was at taken.refused;
      passed = omega (arith, taken.behind, short);
    }
