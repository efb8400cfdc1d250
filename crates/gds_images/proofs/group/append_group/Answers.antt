use Rattle.std.proofs.Common.{◌≡◌, ℕ, ◌+◌, List, length, ap, ◌∙◌, subst}
use Rattle.std.proofs.lemmas.Result.{err_from_is_err_and}
use Rattle.host_model.specs.declared.host.FileNo.TheVariants.{Images}
use Rattle.host_model.specs.Disk.{Changes, Settles, Torn, written}
use Rattle.host_model.specs.Moments.{LeavesBy}
use Rattle.host_model.specs.Told.{TellsOn}
use Rattle.gds_images.proofs.BufferLemmas.{group_slice, next_gate}
use Rattle.gds_images.proofs.group.append_group.Goals as goal

pub returns-clause-next : goal.returns-clause-next
returns-clause-next g c =
    let slice = group_slice c.images.inside.count c.args.gate c.args.epoch_length c.put_front-start.result
    c.images.inside.bytes.items c.put_front-start.new.buffer.items c.deref.result.now c.args.images.now
    c.images.invariant c.images.view_is c.put_front-start.ensures.front c.deref.ensures.value in
    ap (λ bs. c.args.gate + length bs) slice ∙ next_gate c.args.gate c.args.epoch_length c.args.images.now

pub returns-in_err-store-clause-any_moment : goal.returns-in_err-store-clause-any_moment
returns-in_err-store-clause-any_moment g c =
    let slice = group_slice c.images.inside.count c.args.gate c.args.epoch_length c.put_front-start.result
    c.images.inside.bytes.items c.put_front-start.new.buffer.items c.deref.result.now c.args.images.now
    c.images.invariant c.images.view_is c.put_front-start.ensures.front c.deref.ensures.value in
    subst (λ (bs : List ℕ). LeavesBy g.H.Host.moment g.H.Host.left_since
    (Changes Images (Torn (c.args.gate + 1) (length bs))) c.args.host.now c.store.new.host) slice
    c.in_err-store.ensures.any_moment

pub returns-in_err-store-clause-told : goal.returns-in_err-store-clause-told
returns-in_err-store-clause-told g c =
    let slice = group_slice c.images.inside.count c.args.gate c.args.epoch_length c.put_front-start.result
    c.images.inside.bytes.items c.put_front-start.new.buffer.items c.deref.result.now c.args.images.now
    c.images.invariant c.images.view_is c.put_front-start.ensures.front c.deref.ensures.value in
    let p = err_from_is_err_and c.from_residual.result c.from_residual.ensures.1 in
    rw (p.1)
    (subst (λ (bs : List ℕ). TellsOn (g.H.Host.told c.args.host.now) (g.H.Host.told c.store.new.host)
    (Changes Images (Torn (c.args.gate + 1) (length bs)))) slice c.in_err-store.ensures.told)

pub returns-clause-any_moment : goal.returns-clause-any_moment
returns-clause-any_moment g c =
    let slice = group_slice c.images.inside.count c.args.gate c.args.epoch_length c.put_front-start.result
    c.images.inside.bytes.items c.put_front-start.new.buffer.items c.deref.result.now c.args.images.now
    c.images.invariant c.images.view_is c.put_front-start.ensures.front c.deref.ensures.value in
    subst (λ (bs : List ℕ). LeavesBy g.H.Host.moment g.H.Host.left_since
    (Changes Images (Torn (c.args.gate + 1) (length bs))) c.args.host.now c.store.new.host) slice
    c.in_ok-store.ensures.any_moment

pub returns-clause-told : goal.returns-clause-told
returns-clause-told g c =
    let slice = group_slice c.images.inside.count c.args.gate c.args.epoch_length c.put_front-start.result
    c.images.inside.bytes.items c.put_front-start.new.buffer.items c.deref.result.now c.args.images.now
    c.images.invariant c.images.view_is c.put_front-start.ensures.front c.deref.ensures.value in
    subst (λ (bs : List ℕ). TellsOn (g.H.Host.told c.args.host.now) (g.H.Host.told c.store.new.host)
    (Changes Images (λ old new. new ≡ written (c.args.gate + 1) bs old))) slice c.in_ok-store.ensures.told

pub returns-clause-settled : goal.returns-clause-settled
returns-clause-settled g c x tells =
    let slice = group_slice c.images.inside.count c.args.gate c.args.epoch_length c.put_front-start.result
    c.images.inside.bytes.items c.put_front-start.new.buffer.items c.deref.result.now c.args.images.now
    c.images.invariant c.images.view_is c.put_front-start.ensures.front c.deref.ensures.value in
    subst (λ (bs : List ℕ). Settles Images (written (c.args.gate + 1) bs x.images)
    (g.H.Host.left_since c.store.new.host (g.H.Host.moment c.store.new.host))) slice
    (c.in_ok-store.ensures.settled x tells)
