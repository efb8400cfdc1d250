use Rattle.std.proofs.Common.{arith}
use Rattle.std.proofs.lemmas.List.{length_push}
use Rattle.gds_epoch.proofs.SearchLemmas.{plan_more}
use Rattle.gds_epoch.proofs.waiting.Waiting.put_all_reserved.Goals as goal

pub loop-unit-preserved : goal.loop-unit-preserved
loop-unit-preserved c = record {
  put = plan_more c.args.self.now.units c.loop-unit.self.units c.put_reserved.new.self.units c.loop-unit.yielded
      c.in-Some.unit c.loop-unit.invariant.put c.put_reserved.ensures.put;
  room = omega (arith, length_push c.loop-unit.yielded c.in-Some.unit);
}
