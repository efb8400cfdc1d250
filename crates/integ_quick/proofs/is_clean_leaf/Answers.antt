use Rattle.std.proofs.Common.{◌≡◌, ◌+◌, length, take, sym, ap, refl, ◌∙◌, arith, length-drop, length-take}
use Rattle.std.proofs.lemmas.Bool.{OnTrue_from, OnTrue_at}
use Rattle.gds_block.specs.Block.{used_of}
use Rattle.gds_law.specs.Visit.{global, role_of, visit_of}
use Rattle.gds_law.specs.BlockReading.{reading_of}
use Rattle.integ_quick.proofs.HeadLemmas.{kinds_of_block-none, children_of-none}
use Rattle.integ_quick.proofs.is_clean_leaf.Goals as goal

pub returns-clause-clean : goal.returns-clause-clean
returns-clause-clean c =
    let head = c.in-Some.ensures.head in
    let records : length c.in-Some.records.now + 16 ≡ used_of c.args.bytes.now =
    omega (
      arith,
      head.some,
      head.within,
      ap length c.in-Some.ensures.records,
      length-drop 16 (take (used_of c.args.bytes.now) c.args.bytes.now),
      length-take (used_of c.args.bytes.now) c.args.bytes.now,
    ) in
    OnTrue_from c.are_clean.result _
    (λ t. kinds_of_block-none c.args.header.now (visit_of c.args.visit.now) c.args.bytes.now c.requires.whole head
    (OnTrue_at t c.are_clean.ensures (reading_of c.args.header.now (visit_of c.args.visit.now) c.args.bytes.now)
    c.args.bytes.now
    (record {
      header = refl;
      role = ap role_of c.in-Global.is ∙ ap global (sym c.as_slice-2.ensures.value);
      low = refl;
      high = refl;
      level = head.level;
      height = head.level;
      records = c.in-Some.ensures.records;
      used = records;
    })))

pub returns-clause-childless : goal.returns-clause-childless
returns-clause-childless c =
    OnTrue_from c.are_clean.result _
    (λ t. children_of-none c.args.header.now (visit_of c.args.visit.now) c.args.bytes.now c.requires.whole
    c.in-Some.ensures.head
    c.in-Global.name.items (ap role_of c.in-Global.is))
