use Rattle.std.proofs.Common.{sym, ◌∙◌, arith, length-append}
use Rattle.std.proofs.lemmas.List.{length-map}
use Rattle.std.proofs.lemmas.Result.{err_from_is_err_and}
use Rattle.gds_bitmap.specs.Bitmap.{is_free_at}
use Rattle.gds_bitmap.proofs.CountLemmas.{count_below_le}
use Rattle.gds_law.specs.Maps.{fault_of, map_number}
use Rattle.gds_law.specs.declared.sink.SinkTrouble.TheVariants.{Failed}
use Rattle.integ.specs.GroupMap.{head_faults, head_kinds, pair_faults}
use Rattle.integ.specs.GroupView.{map_of}
use Rattle.integ.proofs.GroupLemmas.{free-is}
use Rattle.integ.proofs.TellLemmas.{first-refused, second-refused, both-told}
use Rattle.integ.proofs.group.Group.tell_all.Goals as goal

pub tell_head-requires : goal.tell_head-requires
tell_head-requires g c = c.count_free-free.ensures ∙ free-is (map_of c.args.self.now) c.present.result c.present.ensures

pub returns-in_err-of_map-clause-told : goal.returns-in_err-of_map-clause-told
returns-in_err-of_map-clause-told g c =
    let m = map_of c.args.self.now in
    let p = err_from_is_err_and c.from_residual.result c.from_residual.ensures.1 in
    first-refused g.F.FaultSink.listed g.F.FaultSink.failures c.args.sink.now c.tell_head.new.sink (head_faults m)
    (pair_faults m) Failed _ c.from_residual.result Failed p.0
    c.in_err-of_map.ensures.told p.1 (λ e. sym p.2 ∙ e)

pub returns-in_err-of_pairs-clause-told : goal.returns-in_err-of_pairs-clause-told
returns-in_err-of_pairs-clause-told g c =
    let m = map_of c.args.self.now in
    let p = err_from_is_err_and c.from_residual-in_err-of_pairs.result c.from_residual-in_err-of_pairs.ensures.1 in
    second-refused g.F.FaultSink.listed g.F.FaultSink.failures c.args.sink.now c.tell_head.new.sink
    c.tell_pairs.new.sink (head_faults m) (pair_faults m) Failed _ c.from_residual-in_err-of_pairs.result Failed p.0
    c.in_ok-of_map.ensures.told.faults.all c.in_ok-of_map.ensures.told.failures c.in_err-of_pairs.ensures.told p.1
    (λ e. sym p.2 ∙ e)

pub returns-clause-told : goal.returns-clause-told
returns-clause-told g c =
    let m = map_of c.args.self.now in
    both-told g.F.FaultSink.listed g.F.FaultSink.failures c.args.sink.now c.tell_head.new.sink c.tell_pairs.new.sink
    (head_faults m) (pair_faults m) _ Failed
    c.in_ok-of_map.ensures.told.faults.all c.in_ok-of_map.ensures.told.failures
    c.in_ok-of_pairs.ensures.told.faults.all c.in_ok-of_pairs.ensures.told.failures

pub returns-clause-count : goal.returns-clause-count
returns-clause-count g c =
    let m = map_of c.args.self.now in
    omega (
      arith,
      c.in_ok-of_map.ensures.count,
      c.in_ok-of_pairs.ensures.count,
      length-append (head_faults m)
          (pair_faults m),
      length-map (head_kinds m) (fault_of (map_number m.number)),
    )

pub returns-clause-free : goal.returns-clause-free
returns-clause-free g c = c.count_free-free.ensures
    ∙ free-is (map_of c.args.self.now) c.present.result c.present.ensures

pub returns-clause-within : goal.returns-clause-within
returns-clause-within g c =
    omega (
      arith,
      c.count_free-free.ensures,
      c.present.ensures,
      count_below_le (is_free_at c.args.self.now.map.now)
          c.present.result,
    )
