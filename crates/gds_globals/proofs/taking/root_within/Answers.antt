use Rattle.std.proofs.Common.{rules, ◌≡◌, ℕ, Bool, true, false, Option}
use Rattle.host_model.proofs.FailureLemmas.{NeverFell-refl}
use Rattle.gds_splice.proofs.DraftingLemmas.{ends_exit, same_image}
use Rattle.gds_units.specs.State.{image_of}
use Rattle.m_key.specs.Reference.{place_of}
use Rattle.gds_globals.proofs.RootLemmas.{no_directory, no_tree, none_there, not_named, some_there}
use Rattle.gds_globals.proofs.taking.root_within.Goals as goal

pub returns-in_err-root-clause-ends : goal.returns-in_err-root-clause-ends
returns-in_err-root-clause-ends g c =
    let h = g.H.Host in
    let a = h.failures c.args.base.now.host in
    ends_exit (Option ℕ) _ a a (h.failures c.root_of.new.base.host) _ _ c.in_err-root.field-0.0 c.from_residual.result
    (NeverFell-refl a)
    (no_directory (image_of c.args.base.now) c.args.draft.now (place_of c.args.reference.now))
    c.from_residual.ensures.1 c.in_err-root.ensures.ends

pub returns-in_default-clause-root : goal.returns-in_default-clause-root
returns-in_default-clause-root g c =
    not_named (image_of c.args.base.now) c.args.draft.now (place_of c.args.reference.now) c.in_ok-root.field-0
    c.in_default.is c.in_ok-root.ensures.root

pub returns-in_err-has_within-clause-ends : goal.returns-in_err-has_within-clause-ends
returns-in_err-has_within-clause-ends g c =
    let h = g.H.Host in
    let read = c.root_of.ensures.read in
    let same = same_image h.told h.moment h.failures h.left_since c.args.base.now c.root_of.new.base read in
    ends_exit Bool _ (h.failures c.args.base.now.host) (h.failures c.root_of.new.base.host)
    (h.failures c.has_within.new.base.host) _ _ c.in_err-has_within.field-0.0
    c.from_residual-in_err-has_within.result read.read.failures
    (no_tree (image_of c.args.base.now) c.args.draft.now (place_of c.args.reference.now)
    (image_of c.root_of.new.base) same c.in-Some.root c.in_ok-root.field-0 c.in-Some.is c.in_ok-root.ensures.root
    c.args.key.now c.requires.key c.requires.short)
    c.from_residual-in_err-has_within.ensures.1 c.in_err-has_within.ensures.ends

pub returns-then-not-branch-clause-root : goal.returns-then-not-branch-clause-root
returns-then-not-branch-clause-root g c =
    let h = g.H.Host in
    let same = same_image h.told h.moment h.failures h.left_since c.args.base.now c.root_of.new.base
    c.root_of.ensures.read in
    let none : c.in_ok-has_within.field-0 ≡ false = search rules in
    none_there (image_of c.args.base.now) c.args.draft.now (place_of c.args.reference.now)
    (image_of c.root_of.new.base) same c.in-Some.root c.in_ok-root.field-0 c.in-Some.is c.in_ok-root.ensures.root
    c.args.key.now c.requires.key c.requires.short c.in_ok-has_within.field-0 none c.in_ok-has_within.ensures.within

pub returns-clause-root : goal.returns-clause-root
returns-clause-root g c =
    let h = g.H.Host in
    let same = same_image h.told h.moment h.failures h.left_since c.args.base.now c.root_of.new.base
    c.root_of.ensures.read in
    let some : c.in_ok-has_within.field-0 ≡ true = search rules in
    some_there (image_of c.args.base.now) c.args.draft.now (place_of c.args.reference.now)
    (image_of c.root_of.new.base) same c.in-Some.root c.in_ok-root.field-0 c.in-Some.is c.in_ok-root.ensures.root
    c.args.key.now c.requires.key c.requires.short c.in_ok-has_within.field-0 some c.in_ok-has_within.ensures.within
