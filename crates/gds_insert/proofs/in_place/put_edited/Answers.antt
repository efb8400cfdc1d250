use Rattle.std.proofs.Common.{Err, sym, subst, ap, ◌∙◌}
use Rattle.gds_base.specs.Put.{PutsBlock}
use Rattle.gds_draft.specs.Drafted.{drafted}
use Rattle.gds_header.specs.Fields.{block_of}
use Rattle.gds_splice.proofs.EntriesPutLemmas.{more_by_put}
use Rattle.gds_insert.proofs.EditLemmas.{not_misplaced, set_there}
use Rattle.gds_insert.proofs.in_place.put_edited.Goals as goal

pub returns-in_ok-put-in-Ok-clause-set : goal.returns-in_ok-put-in-Ok-clause-set
returns-in_ok-put-in-Ok-clause-set g c = λ image told own v t steps above leaf front back at m l.
    let before = drafted c.args.draft.now image in
    let after = drafted c.put.new.draft image in
    set_there before v t c.args.key.now c.args.rest.now c.args.place.now steps above leaf front back m l
    c.args.bytes.now c.edit.new.bytes (own ∙ ap (block_of before) (sym at)) c.are_bytes.ensures c.edit.result
    c.edit.ensures after c.in-Ok.is c.edit.auto.bytes
    (subst (λ n. PutsBlock before after n c.edit.new.bytes) (sym at) (c.in_ok-put-in-Ok.ensures.put image told))

pub returns-in_ok-put-in-Ok-clause-more : goal.returns-in_ok-put-in-Ok-clause-more
returns-in_ok-put-in-Ok-clause-more g c =
    more_by_put c.put.result c.args.draft.now c.put.new.draft c.args.leaf c.edit.new.bytes
    c.header-drafted.ensures.draft c.put.ensures.units c.put.ensures.err

pub returns-in-Err-Misplaced-clause-ends : goal.returns-in-Err-Misplaced-clause-ends
returns-in-Err-Misplaced-clause-ends g c = λ image told own v t steps above leaf front back at m l.
    not_misplaced (drafted c.args.draft.now image) v t c.args.key.now c.args.rest.now c.args.place.now steps above leaf
    front back m l c.args.bytes.now c.edit.new.bytes
    (own ∙ ap (block_of (drafted c.args.draft.now image)) (sym at)) c.are_bytes.ensures c.edit.result c.edit.ensures
    (c.in-Err-Misplaced.is ∙ ap Err c.in-Err-Misplaced.field-0-is)
