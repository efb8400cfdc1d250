use Rattle.std.proofs.Common.{◌≡◌, ◌*◌, length, ltb, leb, eqb, not, ◌&&◌, List, get_or, refl, ap, subst}
use Rattle.std.specs.Prelude.{map, IfOk}
use Rattle.gds_law.specs.Maps.{fault_of}
use Rattle.gds_law.specs.Sink.{WasTold}
use Rattle.gds_law.specs.declared.kind.FaultKind.{FaultKind}
use Rattle.gds_law.specs.declared.sink.SinkTrouble.TheVariants.{Failed}
use Rattle.integ.specs.GroupView.{map_of}
use Rattle.integ.proofs.GroupLemmas.{head-is}
use Rattle.integ.proofs.group.Group.tell_head.Goals as goal

pub returns-clause-told : goal.returns-clause-told
returns-clause-told g c =
    let due : List FaultKind
    → Type 0 = λ ks. WasTold g.F.FaultSink.listed g.F.FaultSink.failures c.args.sink.now
    c.tell_standing.new.sink (map (fault_of (512 * c.args.self.now.number)) ks) c.tell_standing.result Failed in
    subst due
    (head-is (map_of c.args.self.now) c.has_bad_version.result (leb c.args.self.now.header.now.tn c.u64_at.result)
    (ltb c.u32_at-used.result 144) (ltb 144 c.u32_at-used.result)
    (not (eqb (get_or c.args.self.now.map.now 3 0) 255))
    (c.group_has_free-marked_free.result && not (ltb 0 c.args.free))
    (not c.group_has_free-marked_free.result && ltb 0 c.args.free)
    c.has_bad_version.ensures (ap (leb c.args.self.now.header.now.tn) c.u64_at.ensures)
    (ap (λ n. ltb n 144) c.u32_at-used.ensures) (ap (ltb 144) c.u32_at-used.ensures) refl
    (λ i. c.group_has_free-marked_free.ensures i && not (ltb 0 (c.requires i)))
    (λ i. not (c.group_has_free-marked_free.ensures i) && ltb 0 (c.requires i)))
    c.tell_standing.ensures.told

pub returns-clause-count : goal.returns-clause-count
returns-clause-count g c =
    let due : List FaultKind → Type 0 = λ ks. IfOk c.tell_standing.result (λ count. count ≡ length ks) in
    subst due
    (head-is (map_of c.args.self.now) c.has_bad_version.result (leb c.args.self.now.header.now.tn c.u64_at.result)
    (ltb c.u32_at-used.result 144) (ltb 144 c.u32_at-used.result)
    (not (eqb (get_or c.args.self.now.map.now 3 0) 255))
    (c.group_has_free-marked_free.result && not (ltb 0 c.args.free))
    (not c.group_has_free-marked_free.result && ltb 0 c.args.free)
    c.has_bad_version.ensures (ap (leb c.args.self.now.header.now.tn) c.u64_at.ensures)
    (ap (λ n. ltb n 144) c.u32_at-used.ensures) (ap (ltb 144) c.u32_at-used.ensures) refl
    (λ i. c.group_has_free-marked_free.ensures i && not (ltb 0 (c.requires i)))
    (λ i. not (c.group_has_free-marked_free.ensures i) && ltb 0 (c.requires i)))
    c.tell_standing.ensures.count
