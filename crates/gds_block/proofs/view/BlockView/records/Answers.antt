use Rattle.std.proofs.Common.{sym, ◌∙◌, ◌≡◌, ◌≤◌, ◌-◌, ℕ, List, length, take, drop, subst, ap, arith, length-take}
use Rattle.std.proofs.lemmas.Slice.{between_is}
use Rattle.gds_block.specs.Block.{level_of, used_of}
use Rattle.gds_block.specs.Record.{bytes_left, records_of}
use Rattle.gds_block.proofs.RecordLemmas.{AreRecords-records_from, records_from-unique}
use Rattle.gds_block.proofs.PlaceLemmas.{All-records_of, few_records}
use Rattle.gds_block.proofs.view.BlockView.records.Goals as goal

listed : (c : goal.After-new) → c.new.result ≡ records_of c.args.self.now
listed c = cc (between_is c.self.inside.bytes.now 16 c.u32_at-used.result)

pub returns-clause-listed : goal.returns-clause-listed
returns-clause-listed c = listed c

pub returns-clause-longest : goal.returns-clause-longest
returns-clause-longest c =
    rw (listed c) (AreRecords-records_from (level_of c.args.self.now) 16 (bytes_left c.args.self.now 16))

pub returns-clause-only : goal.returns-clause-only
returns-clause-only c =
    λ others h. records_from-unique (level_of c.args.self.now) 16 (bytes_left c.args.self.now 16) others h
    ∙ sym (listed c)

pub returns-clause-placed : goal.returns-clause-placed
returns-clause-placed c =
    let whole = subst (λ (block : List ℕ). used_of block ≤ length block) c.self.view_is c.self.invariant.within in
    rw (listed c) (All-records_of c.args.self.now whole)

pub returns-clause-few : goal.returns-clause-few
returns-clause-few c =
    let body = drop 16 c.self.inside.bytes.now in
    let left = take (c.u32_at-used.result - 16) body in
    omega (
      arith,
      ap length c.new.ensures,
      few_records c.level.result 16 left,
      length-take (c.u32_at-used.result - 16) body,
    )
