use Rattle.std.proofs.Common.{◌∷◌, ◌++◌, [], arith, subst, suc, sym}
use Rattle.std.specs.Range.Bound.{bound_map}
use Rattle.gds_find.specs.Fork.{IsBoundKey, IsStart}
use Rattle.gds_find.proofs.ForkLemmas.{behind_own, branch_last, branch_next, branch_there, past_key}
use Rattle.gds_find.proofs.forking.branch_in.Goals as goal

pub returns-in_err-start : goal.returns-in_err-start
returns-in_err-start c level es is_key packed used =
    let from = bound_map (λ key. key.now) c.args.from in
    absurd (c.in_err-start.ensures (suc level) es (subst IsBoundKey (sym c.past.ensures) (past_key from is_key)) packed)

pub returns-in_err-child : goal.returns-in_err-child
returns-in_err-child c level es is_key packed used =
    let from = bound_map (λ key. key.now) c.args.from in
    let start = subst (λ b. IsStart es b c.in_ok-start.start) c.past.ensures
    (c.in_ok-start.ensures (suc level) es (subst IsBoundKey (sym c.past.ensures) (past_key from is_key)) packed) in
    let at = branch_there level es from c.in_ok-start.start packed.packable start in
    absurd (c.in_err-child.ensures level es at.0 at.2 at.1 packed at.3.parts at.3.offset_is)

pub returns-in_err-pointer_at : goal.returns-in_err-pointer_at
returns-in_err-pointer_at c level es is_key packed used =
    let from = bound_map (λ key. key.now) c.args.from in
    let start = subst (λ b. IsStart es b c.in_ok-start.start) c.past.ensures
    (c.in_ok-start.ensures (suc level) es (subst IsBoundKey (sym c.past.ensures) (past_key from is_key)) packed) in
    let at = branch_there level es from c.in_ok-start.start packed.packable start in
    let child = c.in_ok-child.ensures level es at.0 at.2 at.1 packed at.3.parts at.3.offset_is in
    let next = behind_own level es from c.in_ok-start.start packed.packable at.0 at.1 at.2 at.3
    c.in_ok-child.child.block child.0 c.in_ok-child.child.end c.args.used child.1 used c.if-child-used.true in
    absurd (c.in_err-pointer_at.ensures level es (at.0 ++ at.1 ∷ []) next.others next.entry packed next.parts
    (sym child.1))

pub returns-in_ok-pointer_at : goal.returns-in_ok-pointer_at
returns-in_ok-pointer_at c level es is_key packed used =
    let from = bound_map (λ key. key.now) c.args.from in
    let start = subst (λ b. IsStart es b c.in_ok-start.start) c.past.ensures
    (c.in_ok-start.ensures (suc level) es (subst IsBoundKey (sym c.past.ensures) (past_key from is_key)) packed) in
    let at = branch_there level es from c.in_ok-start.start packed.packable start in
    let child = c.in_ok-child.ensures level es at.0 at.2 at.1 packed at.3.parts at.3.offset_is in
    let next = behind_own level es from c.in_ok-start.start packed.packable at.0 at.1 at.2 at.3
    c.in_ok-child.child.block child.0 c.in_ok-child.child.end c.args.used child.1 used c.if-child-used.true in
    let more = c.in_ok-pointer_at.ensures level es (at.0 ++ at.1 ∷ []) next.others next.entry packed next.parts
    (sym child.1) in
    branch_next level es from c.in_ok-start.start packed.packable at.0 at.1 at.2 at.3 c.in_ok-child.child.block
    child.0 c.in_ok-child.child.end c.args.used child.1 used next c.in_ok-pointer_at.field-0.block more.0

pub returns-else-child-used : goal.returns-else-child-used
returns-else-child-used c level es is_key packed used =
    let from = bound_map (λ key. key.now) c.args.from in
    let start = subst (λ b. IsStart es b c.in_ok-start.start) c.past.ensures
    (c.in_ok-start.ensures (suc level) es (subst IsBoundKey (sym c.past.ensures) (past_key from is_key)) packed) in
    let at = branch_there level es from c.in_ok-start.start packed.packable start in
    let child = c.in_ok-child.ensures level es at.0 at.2 at.1 packed at.3.parts at.3.offset_is in
    branch_last level es from c.in_ok-start.start packed.packable at.0 at.1 at.2 at.3 c.in_ok-child.child.block
    child.0 c.in_ok-child.child.end c.args.used child.1 used (λ low. omega (arith, low, c.if-child-used.false))
