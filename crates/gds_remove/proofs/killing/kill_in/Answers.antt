use Rattle.std.proofs.Common.{Bool, List, ℕ, sym, ◌∙◌, subst}
use Rattle.gds_draft.specs.Drafted.{drafted}
use Rattle.gds_splice.proofs.DraftingLemmas.{OnlyRead-then, ends_exit, same_image}
use Rattle.gds_remove.specs.Cut.{HasCut}
use Rattle.gds_remove.proofs.KillingLemmas.{all_killed, cannot_empty, directory_killed, root_stands, some_killed, whole}
use Rattle.gds_remove.proofs.killing.kill_in.Goals as goal

pub returns-then-not-branch-clause-killed : goal.returns-then-not-branch-clause-killed
returns-then-not-branch-clause-killed g c image is v t same m =
    let h = g.H.Host in
    let before : List ℕ = drafted c.args.draft.now image in
    let mid : List ℕ = drafted c.cut.new.draft image in
    let level : ℕ = c.in_ok-level.level in
    let told = same_image h.told h.moment h.failures h.left_since c.args.base.now c.root_level.new.base
    c.in_ok-level.ensures.read ∙ is in
    let s = root_stands before v t m c.args.root level same (c.in_ok-level.ensures.level image is) in
    some_killed before mid v level t m s c.args.low.now c.args.high.now
    (subst (HasCut before mid v level t (whole c.args.low.now c.args.high.now)) c.if-not-branch.true
    (c.in_ok-cut.ensures.cut image told v t same s))

pub returns-then-root-ne-DIRECTORY-clause-killed : goal.returns-then-root-ne-DIRECTORY-clause-killed
returns-then-root-ne-DIRECTORY-clause-killed g c image is v t same m =
    let h = g.H.Host in
    let before : List ℕ = drafted c.args.draft.now image in
    let mid : List ℕ = drafted c.cut.new.draft image in
    let level : ℕ = c.in_ok-level.level in
    let told = same_image h.told h.moment h.failures h.left_since c.args.base.now c.root_level.new.base
    c.in_ok-level.ensures.read ∙ is in
    let s = root_stands before v t m c.args.root level same (c.in_ok-level.ensures.level image is) in
    all_killed before mid v level t m s c.args.low.now c.args.high.now
    (subst (HasCut before mid v level t (whole c.args.low.now c.args.high.now)) c.if-not-branch.false
    (c.in_ok-cut.ensures.cut image told v t same s)) (λ e. c.if-root-ne-DIRECTORY.true (sym same ∙ e))

pub returns-in_err-put_empty_directory-clause-ends : goal.returns-in_err-put_empty_directory-clause-ends
returns-in_err-put_empty_directory-clause-ends g c =
    let h = g.H.Host in
    let level : ℕ = c.in_ok-level.level in
    let read = OnlyRead-then h.told h.moment h.failures h.left_since c.args.base.now c.root_level.new.base
    c.cut.new.base c.in_ok-level.ensures.read c.in_ok-cut.ensures.drafts.read in
    ends_exit (Unit {0}) Bool (h.failures c.args.base.now.host) (h.failures c.cut.new.base.host)
    (h.failures c.put_empty_directory.new.base.host) _ _ c.in_err-put_empty_directory.field-0.0
    c.from_residual-in_err-put_empty_directory.result read.read.failures
    (λ cannot image is.
    let before : List ℕ = drafted c.args.draft.now image in
    let mid : List ℕ = drafted c.cut.new.draft image in
    let told = same_image h.told h.moment h.failures h.left_since c.args.base.now c.root_level.new.base
    c.in_ok-level.ensures.read ∙ is in
    cannot_empty before mid c.args.root level c.args.low.now c.args.high.now c.in_ok-level.ensures.low.0
    (c.in_ok-level.ensures.level image is)
    (λ v t same s. subst (HasCut before mid v level t (whole c.args.low.now c.args.high.now)) c.if-not-branch.false
    (c.in_ok-cut.ensures.cut image told v t same s))
    (cannot image (same_image h.told h.moment h.failures h.left_since c.args.base.now c.cut.new.base read ∙ is)))
    c.from_residual-in_err-put_empty_directory.ensures.1 c.in_err-put_empty_directory.ensures.ends

pub returns-clause-killed : goal.returns-clause-killed
returns-clause-killed g c image is v t same m =
    let h = g.H.Host in
    let before : List ℕ = drafted c.args.draft.now image in
    let mid : List ℕ = drafted c.cut.new.draft image in
    let after : List ℕ = drafted c.put_empty_directory.new.draft image in
    let level : ℕ = c.in_ok-level.level in
    let told = same_image h.told h.moment h.failures h.left_since c.args.base.now c.root_level.new.base
    c.in_ok-level.ensures.read ∙ is in
    let read = OnlyRead-then h.told h.moment h.failures h.left_since c.args.base.now c.root_level.new.base
    c.cut.new.base c.in_ok-level.ensures.read c.in_ok-cut.ensures.drafts.read in
    let s = root_stands before v t m c.args.root level same (c.in_ok-level.ensures.level image is) in
    directory_killed before mid v level t m s c.args.low.now c.args.high.now
    (subst (HasCut before mid v level t (whole c.args.low.now c.args.high.now)) c.if-not-branch.false
    (c.in_ok-cut.ensures.cut image told v t same s)) after (same ∙ c.if-root-ne-DIRECTORY.false)
    (c.in_ok-put_empty_directory.ensures.put image
    (same_image h.told h.moment h.failures h.left_since c.args.base.now c.cut.new.base read ∙ is))
