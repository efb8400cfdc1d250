use Rattle.std.proofs.Common.{◌-◌, ◌++◌, take, List, ◌∷◌, [], drop, length, arith, ap, subst, sym, ◌∙◌}
use Rattle.gds_pack.proofs.CutLemmas.{Fitting}
use Rattle.gds_pack.specs.declared.entry.Entry.{Entry}
use Rattle.gds_pack.specs.Entry.{items}
use Rattle.gds_pack.specs.Packed.{packed_size}
use Rattle.gds_splice.specs.Parts.{FitInRuns}
use Rattle.gds_splice.proofs.RunLemmas.{none_fits, rest_whole, second_none, third_fits, two_runs, three_runs}
use Rattle.gds_splice.proofs.sizes.cut.Goals as goal

pub returns-then-first-eq0-clause-none : goal.returns-then-first-eq0-clause-none
returns-then-first-eq0-clause-none c =
    let f = c.fitting-first in
    none_fits c.args.limit f.result c.args.entries.now
    (record { within = f.ensures.within; fits = f.ensures.fits; most = f.ensures.most }) c.if-first-eq0.true

pub returns-then-second-eq0-clause-none : goal.returns-then-second-eq0-clause-none
returns-then-second-eq0-clause-none c =
    let list : List Entry = c.args.entries.now in
    let f = c.fitting-first in
    let s = c.fitting-second in
    second_none c.args.limit f.result s.result list
    (record { within = f.ensures.within; fits = f.ensures.fits; most = f.ensures.most })
    (subst (Fitting c.args.limit s.result) (rest_whole f.result list)
    (record { within = s.ensures.within; fits = s.ensures.fits; most = s.ensures.most })) (omega arith)
    c.if-second-eq0.true

pub returns-then-second-behind-clause-some : goal.returns-then-second-behind-clause-some
returns-then-second-behind-clause-some c =
    let list : List Entry = c.args.entries.now in
    let f = c.fitting-first in
    let s = c.fitting-second in
    subst (λ lengths. FitInRuns c.args.limit lengths (items list))
    (sym (c.push.ensures.items ∙ ap (λ xs. xs ++ f.result ∷ []) c.new-lengths.ensures))
    (two_runs c.args.limit f.result s.result list
    (record { within = f.ensures.within; fits = f.ensures.fits; most = f.ensures.most })
    (subst (Fitting c.args.limit s.result) (rest_whole f.result list)
    (record { within = s.ensures.within; fits = s.ensures.fits; most = s.ensures.most })) (omega arith) (omega arith)
    (omega arith) (c.if-second-behind.true ∙ ap length (rest_whole f.result list)))

pub returns-then-packed_size-from-clause-none : goal.returns-then-packed_size-from-clause-none
returns-then-packed_size-from-clause-none c = λ three.
    let list : List Entry = c.args.entries.now in
    let f = c.fitting-first in
    let s = c.fitting-second in
    let last = third_fits c.args.limit f.result s.result list
    (record { within = f.ensures.within; fits = f.ensures.fits; most = f.ensures.most })
    (subst (Fitting c.args.limit s.result) (rest_whole f.result list)
    (record { within = s.ensures.within; fits = s.ensures.fits; most = s.ensures.most })) (omega arith)
    (omega (arith, ap length (rest_whole f.result list))) three in
    omega (
      arith,
      last,
      c.packed_size.ensures,
      ap (λ xs. packed_size (items xs)) (rest_whole s.result (take (length list - f.result) (drop f.result list))),
      ap (λ xs. packed_size (items (drop s.result xs))) (rest_whole f.result list),
      c.from.ensures,
    )

pub returns-clause-some : goal.returns-clause-some
returns-clause-some c =
    let list : List Entry = c.args.entries.now in
    let f = c.fitting-first in
    let s = c.fitting-second in
    subst (λ lengths. FitInRuns c.args.limit lengths (items list))
    (sym (c.push-2.ensures.items ∙ ap (λ xs. xs ++ s.result ∷ [])
    (c.push.ensures.items ∙ ap (λ xs. xs ++ f.result ∷ []) c.new-lengths.ensures)))
    (three_runs c.args.limit f.result s.result list
    (record { within = f.ensures.within; fits = f.ensures.fits; most = f.ensures.most })
    (subst (Fitting c.args.limit s.result) (rest_whole f.result list)
    (record { within = s.ensures.within; fits = s.ensures.fits; most = s.ensures.most })) (omega arith) (omega arith)
    (omega arith) (omega (arith, ap length (rest_whole f.result list)))
    (omega (
      arith,
      c.packed_size.ensures,
      ap (λ xs. packed_size (items xs)) (rest_whole s.result (take (length list - f.result) (drop f.result list))),
      ap (λ xs. packed_size (items (drop s.result xs))) (rest_whole f.result list),
      c.from.ensures,
    )))
