use Rattle.std.proofs.Common.{◌++◌, ◌∙◌, sym, ap, arith, length}
use Rattle.std.specs.Prelude.{Some}
use Rattle.std.proofs.lemmas.Option.{same_Some}
use Rattle.host_model.specs.declared.host.FileNo.TheVariants.{Db}
use Rattle.host_model.specs.Disk.{Changes}
use Rattle.host_model.specs.Files.{Contents, with_file}
use Rattle.host_model.proofs.FileLemmas.{Changes-refl}
use Rattle.gds_recovery.proofs.WorkLemmas.{changed_none, was_told}
use Rattle.gds_create.specs.Blocks.{new_blocks}
use Rattle.gds_create.specs.Making.{KeepsFirst}
use Rattle.gds_create.proofs.StageLemmas.{KeepsFirst-refl, blocks_before, blocks_behind, blocks_long, keeps_more}
use Rattle.gds_create.proofs.database.write_blocks.Goals as goal

pub loop-next-init : goal.loop-next-init
loop-next-init g c = record {
  within = omega arith;
  changed = changed_none c.args.host.now (Changes Db (KeepsFirst 8))
      (Changes-refl Db (KeepsFirst 8) (KeepsFirst-refl 8));
  written = λ x tells. tells ∙ ap Some (sym (blocks_before c.args.header.now x));
}

pub write_batch-requires-clause-end : goal.write_batch-requires-clause-end
write_batch-requires-clause-end g c y tells =
    let h = g.H.Host in
    let header = c.args.header.now in
    let next = c.loop-next.next in
    let was = was_told (h.told c.args.host.now) (h.told c.loop-next.host) y c.loop-next.invariant.changed.untold
    tells in
    let x = was.0 in
    let is = same_Some (with_file Db (x.db ++ new_blocks header 0 next) x) y
    (sym (c.loop-next.invariant.written x was.1) ∙ tells) in
    ap (λ (c : Contents). length c.db) (sym is)
    ∙ blocks_long header c.requires.limits x.db next (c.requires.begun x was.1)

pub returns-in_err-write_batch-clause-changed : goal.returns-in_err-write_batch-clause-changed
returns-in_err-write_batch-clause-changed g c =
    keeps_more g.met.H.Host.longer 8 c.loop-next.invariant.changed c.write_batch.ensures.changed

pub loop-next-preserved : goal.loop-next-preserved
loop-next-preserved g c =
    let header = c.args.header.now in
    let next = c.loop-next.next in
    let count = c.min-count.result in
    let test = c.loop-next-test.true in
    record {
      within = omega arith;
      changed = keeps_more g.met.H.Host.longer 8 c.loop-next.invariant.changed c.write_batch.ensures.changed;
      written = λ x tells.
          c.in_ok-write_batch.ensures.written (with_file Db (x.db ++ new_blocks header 0 next) x)
          (c.loop-next.invariant.written x tells)
          ∙ ap (λ xs. Some (with_file Db xs x)) (blocks_behind header x.db next count);
    }
