use Rattle.std.proofs.Common.{◌≡◌, ◌∙◌, None, ap, arith, length, sym}
use Rattle.std.specs.Option.{ForSome}
use Rattle.std.proofs.lemmas.Result.{on_ok_weaker}
use Rattle.gds_draft.specs.Draft.{DraftState}
use Rattle.gds_file.specs.Room.{room_of}
use Rattle.gds_header.specs.declared.header.Header.{Header}
use Rattle.gds_shape.specs.Depth.{IsDeep}
use Rattle.gds_splice.proofs.DraftingLemmas.{same_header, same_image}
use Rattle.gds_units.specs.State.{image_of}
use Rattle.m_key.specs.Key.{key_bytes}
use Rattle.m_key.specs.Reference.{node_of, place_of}
use Rattle.gds_globals.proofs.CommittingLemmas.{commit_ends, commit_refused, drafting_exit, on_refusal}
use Rattle.gds_globals.proofs.CrashLemmas.{commit_kept, commit_moments, read_moments, read_said}
use Rattle.gds_globals.proofs.DifferLemmas.{differs, few_changed, told_differs, uses}
use Rattle.gds_globals.proofs.ReadyLemmas.{told_after}
use Rattle.gds_globals.specs.Ready.{DiffersInAtMost, UsesAtMost}
use Rattle.gds_globals.proofs.committing.set.Goals as goal

pub returns-in_err-draft-clause-refused : goal.returns-in_err-draft-clause-refused
returns-in_err-draft-clause-refused g c = on_refusal c.from_residual.result _ c.draft_set.ensures.read

pub returns-in_err-draft-clause-any_moment : goal.returns-in_err-draft-clause-any_moment
returns-in_err-draft-clause-any_moment g c =
    let h = g.H.Host in
    read_moments h.told h.moment h.failures h.left_since c.args.base.now c.draft_set.new.base c.draft_set.ensures.read
    c.header-limits.ensures.found

pub returns-in_err-draft-clause-said : goal.returns-in_err-draft-clause-said
returns-in_err-draft-clause-said g c =
    let h = g.H.Host in
    read_said h.told h.moment h.failures h.left_since c.args.base.now c.draft_set.new.base c.draft_set.ensures.read

pub returns-in_err-draft-clause-ends : goal.returns-in_err-draft-clause-ends
returns-in_err-draft-clause-ends g c =
    let h = g.H.Host in
    drafting_exit c.args.base.now.header (length (key_bytes (node_of c.args.reference.now)))
    (length c.args.value.now) (image_of c.args.base.now ≡ None)
    (ForSome (image_of c.args.base.now) (λ image. IsDeep image (node_of c.args.reference.now))) DraftState (Unit {0})
    c.args.base.now c.draft_set.new.base (h.failures c.args.base.now.host) (h.failures c.draft_set.new.base.host)
    (ap (λ s. s.stopped) c.draft_set.ensures.read.rest) c.in_err-draft.field-0.0 c.from_residual.result
    c.from_residual.ensures.1 c.in_err-draft.ensures.ends

pub returns-clause-map : goal.returns-clause-map
returns-clause-map g c =
    let h = g.H.Host in
    on_ok_weaker c.commit.result
    (told_after (image_of c.args.base.now) (image_of c.draft_set.new.base) (image_of c.commit.new.self)
    c.in_ok-draft.draft (place_of c.args.reference.now) c.args.value.now
    (same_image h.told h.moment h.failures h.left_since c.args.base.now c.draft_set.new.base c.draft_set.ensures.read)
    c.in_ok-draft.ensures.map) c.commit.ensures.image

pub returns-clause-refused : goal.returns-clause-refused
returns-clause-refused g c =
    let h = g.H.Host in
    commit_refused c.args.base.now c.draft_set.new.base c.commit.new.self (h.failures c.args.base.now.host)
    (h.failures c.draft_set.new.base.host) (h.failures c.commit.new.self.host) (h.told c.draft_set.new.base.host) h.told
    h.moment h.failures h.left_since c.commit.result c.draft_set.ensures.read c.commit.ensures.ends

pub returns-clause-kept : goal.returns-clause-kept
returns-clause-kept g c =
    let h = g.H.Host in
    on_ok_weaker c.commit.result
    (commit_kept h.told h.moment h.failures h.left_since c.args.base.now c.draft_set.new.base
    c.draft_set.ensures.read c.commit.new.self) c.commit.ensures.kept

pub returns-clause-any_moment : goal.returns-clause-any_moment
returns-clause-any_moment g c =
    let h = g.H.Host in
    commit_moments h.told h.moment h.failures h.left_since c.args.base.now c.draft_set.new.base
    c.draft_set.ensures.read c.commit.new.self c.header-limits.ensures.found c.commit.ensures.any_moment

pub returns-clause-ends : goal.returns-clause-ends
returns-clause-ends g c =
    let h = g.H.Host in
    let read = c.draft_set.ensures.read in
    commit_ends c.args.base.now c.draft_set.new.base c.commit.new.self (h.failures c.args.base.now.host)
    (h.failures c.draft_set.new.base.host) (h.failures c.commit.new.self.host) (h.told c.draft_set.new.base.host)
    c.args.base.now.header (length (key_bytes (node_of c.args.reference.now))) (length c.args.value.now)
    (image_of c.args.base.now ≡ None)
    (ForSome (image_of c.args.base.now) (λ image. IsDeep image (node_of c.args.reference.now)))
    read.read.failures (ap (λ s. s.stopped) read.rest) c.in_ok-draft.ensures.ends
    (λ none. c.hold_told.ensures.untold (sym read.read.told ∙ none))
    (ap (λ k. k.tn) (same_header h.told h.moment h.failures h.left_since c.args.base.now c.draft_set.new.base read))
    c.commit.result c.commit.ensures.spent c.commit.ensures.ends

pub returns-clause-differs : goal.returns-clause-differs
returns-clause-differs g c =
    let h = g.H.Host in
    let d = c.in_ok-draft.draft in
    let fields = c.header-limits.ensures.fields in
    let same = same_image h.told h.moment h.failures h.left_since c.args.base.now c.draft_set.new.base
    c.draft_set.ensures.read in
    let tn = ap (λ (k : Header). k.tn) c.in_ok-draft.ensures.header in
    on_ok_weaker c.commit.result
    (told_differs (image_of c.args.base.now) (image_of c.draft_set.new.base) (image_of c.commit.new.self) d
    (DiffersInAtMost 64) same
    (λ image is file made. differs image d file (c.hold_draft.ensures image (same ∙ is))
    (omega (arith, tn, c.in_ok-draft.ensures.ends.0.1)) made 64
    (λ total. few_changed (length d.units) c.args.base.now.header.total d.header.total c.in_ok-draft.ensures.few
    (total ∙ ap (λ (k : Header). k.total) (fields image is)))))
    c.commit.ensures.image

pub returns-clause-used : goal.returns-clause-used
returns-clause-used g c =
    let h = g.H.Host in
    let d = c.in_ok-draft.draft in
    let fields = c.header-limits.ensures.fields in
    let same = same_image h.told h.moment h.failures h.left_since c.args.base.now c.draft_set.new.base
    c.draft_set.ensures.read in
    let tn = ap (λ (k : Header). k.tn) c.in_ok-draft.ensures.header in
    on_ok_weaker c.commit.result
    (told_differs (image_of c.args.base.now) (image_of c.draft_set.new.base) (image_of c.commit.new.self) d
    (UsesAtMost 32) same
    (λ image is file made. uses image d file (c.hold_draft.ensures image (same ∙ is))
    (omega (arith, tn, c.in_ok-draft.ensures.ends.0.1)) made 32
    (omega (arith, c.in_ok-draft.ensures.used image is, ap room_of (fields image is)))))
    c.commit.ensures.image
