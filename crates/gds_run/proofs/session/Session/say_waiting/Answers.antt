use Rattle.std.proofs.Common.{◌≡◌, ℕ, List, ap, subst, sym, take}
use Rattle.std.proofs.lemmas.Result.{err_from_is_err_and}
use Rattle.host_model.specs.Files.{saying}
use Rattle.host_model.proofs.FrameLemmas.{TellsOn-some}
use Rattle.gds_units.specs.State.{image_of}
use Rattle.gds_run.specs.Progress.{Progress, Says}
use Rattle.gds_run.proofs.SayingLemmas.{cut_short, settled_saying}
use Rattle.gds_run.proofs.SettledLemmas.{progress_of}
use Rattle.gds_run.proofs.session.Session.say_waiting.Goals as goal

pub returns-in_err-say-clause-run : goal.returns-in_err-say-clause-run
returns-in_err-say-clause-run g c o rest p =
    let h = g.H.Host in
    let s = c.args.self.now in
    let old = s.base in
    let new = c.say.new.self in
    let bytes : List ℕ = c.deref.result.now in
    let q = subst (λ waits. Progress h.told h.moment h.left_since o rest old waits s.changes)
    (sym c.deref.ensures.value) p in
    let at = TellsOn-some (h.told old.host) (h.told new.host) (λ a b. (n : ℕ) × (b ≡ saying a (take n bytes)))
    q.contents q.host_tells c.in_err-say.ensures.said in
    let exit = err_from_is_err_and c.from_residual.result c.from_residual.ensures.1 in
    subst (Says h.told h.moment h.left_since o rest new s.waiting.items s.changes) (sym exit.1)
    (cut_short h.told h.moment h.left_since g.met.H.Host.longer o rest old bytes s.changes q s.counted new.host
    (c.say.ensures.any_moment q.contents q.host_tells) at.0 at.1 at.2.0 at.2.1)

pub returns-clause-run : goal.returns-clause-run
returns-clause-run g c o rest p =
    let h = g.H.Host in
    let s = c.args.self.now in
    let old = s.base in
    let new = c.say.new.self in
    let bytes : List ℕ = c.deref.result.now in
    let q = subst (λ waits. Progress h.told h.moment h.left_since o rest old waits s.changes)
    (sym c.deref.ensures.value) p in
    let at = TellsOn-some (h.told old.host) (h.told new.host) (λ a b. b ≡ saying a bytes)
    q.contents q.host_tells c.in_ok-say.ensures.said in
    subst (λ waits. Progress h.told h.moment h.left_since o rest new waits s.changes) (sym c.clear.ensures.items)
    (progress_of h.told h.moment h.left_since o rest new s.changes
    (settled_saying h.told h.moment h.left_since g.met.H.Host.longer o rest old bytes s.changes q s.counted new
    (ap image_of c.say.ensures.same) (c.say.ensures.any_moment q.contents q.host_tells) at.0 at.1 at.2
    (λ d left. g.met.H.Host.said_stays new.host at.0 d at.1 left)))
