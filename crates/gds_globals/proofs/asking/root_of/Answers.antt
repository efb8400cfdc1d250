use Rattle.std.proofs.Common.{◌∙◌, Err, Some, ap, subst, sym}
use Rattle.std.specs.Prelude.{option_map}
use Rattle.std.proofs.lemmas.Result.{err_from_is_err_and}
use Rattle.host_model.proofs.FailureLemmas.{NeverFell-refl}
use Rattle.gds_units.specs.State.{image_of}
use Rattle.m_key.specs.KeyEnd.{IsKey}
use Rattle.m_key.specs.Reference.{name_bytes}
use Rattle.gds_globals.specs.Node.{name_key}
use Rattle.gds_globals.proofs.AskLemmas.{no_directory, no_four, no_pointer, no_root}
use Rattle.gds_globals.proofs.AskLemmas.{root_there, the_number}
use Rattle.gds_globals.proofs.EndingLemmas.{passed_on}
use Rattle.gds_globals.proofs.asking.root_of.Goals as goal

pub returns-in_err-rest-clause-ends : goal.returns-in_err-rest-clause-ends
returns-in_err-rest-clause-ends g c =
    let h = g.H.Host in
    let is_key = subst IsKey (sym c.deref.ensures.0) c.directory_key-key.ensures.whole in
    let exit = err_from_is_err_and c.from_residual.result c.from_residual.ensures.1 in
    passed_on _ _ (h.failures c.args.base.now.host) (h.failures c.args.base.now.host)
    (h.failures c.value_of.new.base.host) _ _ (NeverFell-refl (h.failures c.args.base.now.host))
    (no_directory (image_of c.args.base.now) c.args.draft.now c.deref.result.now is_key) c.value_of.result
    c.from_residual.result c.in_err-rest.field-0.0 c.value_of.ensures.ends c.in_err-rest.was (exit.1 ∙ ap Err exit.2)

pub returns-in_default-clause-root : goal.returns-in_default-clause-root
returns-in_default-clause-root g c =
    let is_key = subst IsKey (sym c.deref.ensures.0) c.directory_key-key.ensures.whole in
    no_root (image_of c.args.base.now) c.args.draft.now c.deref.result.now (name_key (name_bytes c.args.name.now))
    (c.deref.ensures.0 ∙ c.directory_key-key.ensures.key) is_key (option_map (λ v. v.items) c.in_ok-rest.field-0)
    (ap (option_map (λ v. v.items)) c.in_default.is) c.in_ok-rest.ensures.value

pub returns-in_default-pointer_of-clause-ends : goal.returns-in_default-pointer_of-clause-ends
returns-in_default-pointer_of-clause-ends g c =
    let is_key = subst IsKey (sym c.deref.ensures.0) c.directory_key-key.ensures.whole in
    no_pointer (image_of c.args.base.now) c.args.draft.now c.hold_draft.ensures c.deref.result.now is_key
    (option_map (λ v. v.items) c.in_ok-rest.field-0) c.deref-2.result.now
    (ap (option_map (λ v. v.items)) c.in-Some.is ∙ ap Some (sym c.deref-2.ensures.value)) c.in_ok-rest.ensures.value
    (no_four c.pointer_of.result _ _ c.pointer_of.ensures c.in_default-pointer_of.is)

pub returns-clause-root : goal.returns-clause-root
returns-clause-root g c =
    let is_key = subst IsKey (sym c.deref.ensures.0) c.directory_key-key.ensures.whole in
    root_there (image_of c.args.base.now) c.args.draft.now c.deref.result.now (name_key (name_bytes c.args.name.now))
    (c.deref.ensures.0 ∙ c.directory_key-key.ensures.key) is_key (option_map (λ v. v.items) c.in_ok-rest.field-0)
    c.deref-2.result.now
    (ap (option_map (λ v. v.items)) c.in-Some.is ∙ ap Some (sym c.deref-2.ensures.value)) c.in_ok-rest.ensures.value
    c.in-Some-pointer_of.root
    (the_number c.pointer_of.result _ _ c.in-Some-pointer_of.root c.pointer_of.ensures c.in-Some-pointer_of.is)
