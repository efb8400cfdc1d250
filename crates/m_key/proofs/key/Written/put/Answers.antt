use Rattle.std.proofs.Common.{◌<◌, ◌∙◌, arith, length, true-eqb, false-eqb}
use Rattle.m_key.proofs.FillLemmas.{room, full}
use Rattle.m_key.proofs.key.Written.put.Goals as goal

pub returns-then-not-is_full : goal.returns-then-not-is_full
returns-then-not-is_full c =
    let other = false-eqb (length c.args.self.now.front.items) 255 c.if-not-is_full.ensures.value in
    let fits = c.if-not-is_full.ensures.fits in
    let below : length c.args.self.now.front.items < 255 = omega arith in
    record {
      front = c.push.ensures.items ∙ room c.args.self.now.front.items c.args.byte below;
      len = omega (arith, c.saturating_add-self.ensures);
    }

pub returns-else-not-is_full : goal.returns-else-not-is_full
returns-else-not-is_full c = record {
  front = full c.args.self.now.front.items c.args.byte
      (true-eqb (length c.args.self.now.front.items) 255 c.if-not-is_full.ensures.value);
  len = omega (arith, c.saturating_add-self.ensures);
}
