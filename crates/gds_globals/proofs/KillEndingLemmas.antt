-- How a KILL ends: with its draft, or with the commit of it.
use Rattle.std.proofs.Common.{◌≡◌, ℕ, ◌^◌, ◌<◌, ◌≤◌, Option, None, Some, Result, Ok, Err, refl, sym, ap, subst}
use Rattle.std.proofs.Common.{◌∙◌, arith, inl, List}
use Rattle.std.specs.Prelude.{◌↔◌, All, IsErrAnd, MatchBool}
use Rattle.std.specs.Option.{ForSome}
use Rattle.std.proofs.lemmas.Bool.{eq-eqb, ne_eqb}
use Rattle.std.proofs.lemmas.Result.{err_from_is_err_and}
use Rattle.host_model.specs.Failures.{Failures, NeverFell}
use Rattle.host_model.specs.Files.{Contents}
use Rattle.host_model.specs.Moments.{EachLeft}
use Rattle.host_model.specs.Told.{TellsOn}
use Rattle.gds_base.specs.Ending.{EndsCommit, EndsReading}
use Rattle.gds_base.specs.Faultless.{IsFaultless}
use Rattle.gds_base.specs.declared.error.BaseError.{BaseError}
use Rattle.gds_base.specs.declared.error.BaseError.TheVariants as answer
use Rattle.gds_draft.specs.Committed.{IsCommitted}
use Rattle.gds_draft.specs.Draft.{DraftState}
use Rattle.gds_draft.specs.Laws.{IsDraftOf}
use Rattle.gds_header.specs.declared.header.Header.{Header}
use Rattle.gds_header.specs.Fields.{fields_of}
use Rattle.gds_sound.specs.Questions.{data_of}
use Rattle.gds_sound.proofs.OneMapLemmas.{one_map}
use Rattle.gds_sound.proofs.SoundLemmas.{faultless}
use Rattle.gds_units.specs.Durable.{KeptAllOrStored}
use Rattle.gds_units.specs.Held.{IsRecoverable}
use Rattle.gds_units.specs.Reading.{OnlyRead}
use Rattle.gds_units.specs.State.{UnitsState, WhereTold}
use Rattle.gds_units.proofs.DurableLemmas.{found_before}
use Rattle.m_key.specs.Globals.{Place}
use Rattle.m_key.specs.Node.{Node}
use Rattle.gds_globals.specs.Kill.{EndsDraftingKill, EndsKilling, IsAfterKill, IsNothingThere, IsSomethingThere, Kills}
use Rattle.gds_globals.specs.Killing.{IsReadyKill}
use Rattle.gds_globals.proofs.BesideLemmas.{differs_beside, header_after_kill}

-- ---- a draft that is made ready

-- A call that reads ended with an error, after the key was found short.
module _ (h : Header) (k : ℕ) (C P : Type 0) (short : k ≤ h.key_max) (T U : Type 0) (a b c : Failures)
    (never : NeverFell a b) (so : P → C) where
  read_err : (e : BaseError) → EndsReading {T = T} b c P (Err e) → EndsDraftingKill h k C {T = U} a c (Err e)
  read_err answer.Memory ends = short
  read_err answer.ReadFault ends = (short, omega (arith, never.read, ends))
  read_err (answer.Changed unit) ends = (short, so ends)
  read_err answer.WriteFault ends = absurd ends
  read_err answer.Stopped ends = absurd ends
  read_err answer.KeyTooLong ends = absurd ends
  read_err answer.ValueTooLong ends = absurd ends
  read_err answer.Full ends = absurd ends
  read_err answer.TooDeep ends = absurd ends
  read_err answer.TnSpent ends = absurd ends

  pub read_exit : (e : BaseError) (result : Result U BaseError) → IsErrAnd result (λ y. y ≡ e)
      → EndsReading {T = T} b c P (Err e) → EndsDraftingKill h k C a c result
  read_exit e result exit ends =
      let x = err_from_is_err_and result exit in
      subst (EndsDraftingKill h k C {T = U} a c) (sym (x.1 ∙ ap Err x.2)) (read_err e ends)

-- ---- where no draft was made

module _ {H : Type 0} (h : Header) (k : ℕ) (C T U : Type 0) (old new : UnitsState H) (a b : Failures)
    (stopped : new.stopped ≡ old.stopped) where
  drafting_err : (e : BaseError) → EndsDraftingKill h k C {T = T} a b (Err e)
      → EndsKilling h k C {T = U} a b old new (Err e)
  drafting_err answer.Memory ends = (stopped, ends)
  drafting_err answer.ReadFault ends = (stopped, ends)
  drafting_err (answer.Changed unit) ends = (stopped, ends)
  drafting_err answer.KeyTooLong ends = (stopped, ends)
  drafting_err answer.TnSpent ends = (stopped, ends)
  drafting_err answer.ValueTooLong ends = absurd ends
  drafting_err answer.Full ends = absurd ends
  drafting_err answer.TooDeep ends = absurd ends
  drafting_err answer.WriteFault ends = absurd ends
  drafting_err answer.Stopped ends = absurd ends

  pub kill_drafting_exit : (e : BaseError) (result : Result U BaseError) → IsErrAnd result (λ y. y ≡ e)
      → EndsDraftingKill h k C {T = T} a b (Err e) → EndsKilling h k C a b old new result
  kill_drafting_exit e result exit ends =
      let x = err_from_is_err_and result exit in
      subst (EndsKilling h k C {T = U} a b old new) (sym (x.1 ∙ ap Err x.2)) (drafting_err e ends)

-- ---- where one was committed

module _ {H T : Type 0} (old mid new : UnitsState H) (a m b : Failures) (tells : Option Contents) (h : Header) (k : ℕ)
    (C : Type 0) (never : NeverFell a m) (stopped : mid.stopped ≡ old.stopped) (short : k ≤ h.key_max)
    (unspent : h.tn < 2 ^ 63) (untold : tells ≡ None → C) (tn : mid.header.tn ≡ h.tn) where
  abbrev fails : BaseError → Result T BaseError
  fails e = Err e

  commit_err : (e : BaseError) → (fails e ≡ fails answer.TnSpent → 2 ^ 63 ≤ mid.header.tn)
      → EndsCommit {T = T} m b mid new tells (Err e) → EndsKilling h k C {T = T} a b old new (Err e)
  commit_err answer.Memory spent ends = (ends ∙ stopped, short)
  commit_err answer.ReadFault spent ends = (ends.0 ∙ stopped, (short, omega (arith, never.read, ends.1)))
  commit_err (answer.Changed unit) spent ends = (ends.0 ∙ stopped, (short, untold ends.1))
  commit_err answer.WriteFault spent ends =
      (short, sym stopped ∙ ends.0, ends.1, omega (arith, never.write, ends.2))
  commit_err answer.Stopped spent ends =
      (short, sym stopped ∙ ends.0, ap (λ (s : UnitsState H). s.stopped) ends.1 ∙ ends.0)
  commit_err answer.TnSpent spent ends = absurd (omega (arith, spent refl, tn, unspent))
  commit_err answer.KeyTooLong spent ends = absurd ends
  commit_err answer.ValueTooLong spent ends = absurd ends
  commit_err answer.Full spent ends = absurd ends
  commit_err answer.TooDeep spent ends = absurd ends

  pub kill_commit_ends : (result : Result T BaseError) → (result ≡ Err answer.TnSpent) ↔ (2 ^ 63 ≤ mid.header.tn)
      → EndsCommit m b mid new tells result → EndsKilling h k C a b old new result
  kill_commit_ends (Ok value) spent ends = (ends.1 ∙ sym ends.0 ∙ stopped, short)
  kill_commit_ends (Err e) spent ends = commit_err e spent.0 ends

-- ---- what the image is afterwards

-- Nothing was done.
pub nothing_taken : (old new : Option (List ℕ)) (p : Place) → new ≡ old → ForSome old (IsNothingThere p.node)
    → TellsOn old new (IsAfterKill p)
nothing_taken None new p same none = tt
nothing_taken (Some image) None p same none = absurd (let e : None ≡ Some image = same in cc)
nothing_taken (Some image) (Some file) p same none =
    λ m stands.
    let one : file ≡ image = cc in
    subst (λ b. MatchBool b (file ≡ image) (Kills p image file m))
    (sym (eq-eqb (data_of m p.node) 0 (none image refl m stands))) one

-- A draft was committed.
pub committed_kill : (told : Option (List ℕ)) (h : Header) (p : Place) (draft : DraftState)
    → IsReadyKill told h p draft → ForSome told (λ image. fields_of image ≡ h)
    → ForSome told (λ image. IsDraftOf image draft) → (image : List ℕ) → told ≡ Some image → (file : List ℕ)
    → IsCommitted draft image file → IsAfterKill p image file
committed_kill told h p draft ready fields drafts image is file made m stands =
    let tn = ap (λ (x : Header). x.tn) ready.header in
    let few : draft.header.tn < 2 ^ 63 = omega (arith, tn, ready.unspent) in
    let total : draft.header.total ≡ (fields_of image).total =
    ap (λ (x : Header). x.total) ready.header ∙ sym (ap (λ (x : Header). x.total) (fields image is)) in
    subst (λ b. MatchBool b (file ≡ image) (Kills p image file m))
    (sym (ne_eqb (data_of m p.node) 0 (ready.takes image is m stands)))
    (record {
      unspent = omega (arith, ready.unspent, ap (λ (x : Header). x.tn) (fields image is));
      stands = ready.leads image is file made m stands;
      header = header_after_kill image draft file (drafts image is) few made h (fields image is) ready.header;
      differs = omega (arith, differs_beside image draft file (drafts image is) few made total 48 ready.few);
    })

-- ---- what a crash leaves where nothing was done

pub nothing_kept : {H : Type 0} (told : H → Option Contents) (moment : H → ℕ) (counts : H → Failures)
    (left_since : H → ℕ → Contents → Type 0) (old mid : UnitsState H)
    → OnlyRead told moment counts left_since old mid
    → ForSome (told old.host) (λ c. EachLeft moment left_since old.host IsRecoverable)
    → WhereTold told old (λ c image. KeptAllOrStored moment left_since image c.said old.host mid.host)
nothing_kept told moment counts left_since old mid read found c tells image is =
    inl (λ d left.
    let before = read.crash.stays d left in
    found_before moment left_since old.host d (found c tells d before) before)

-- ---- which error it is

pub same_error : {U : Type 0} (result : Result U BaseError) (e x : BaseError) → IsErrAnd result (λ y. y ≡ e)
    → result ≡ Err x → e ≡ x
same_error {U} result e x exit is =
    let found = err_from_is_err_and result exit in
    let fails : BaseError → Result U BaseError = λ y. Err y in
    let same : fails e ≡ fails x = sym (found.1 ∙ ap Err found.2) ∙ is in
    cc

-- An image stands for a map, in which something is there or not.
pub not_nothing : (told : Option (List ℕ)) (node : Node) → ForSome told IsFaultless
    → ForSome told (All (λ b. b < 256)) → ForSome told (IsSomethingThere node)
    → ForSome told (λ image. IsNothingThere node image → ⊥)
not_nothing told node sound bytes some image is none =
    let f = sound image is in
    let m = (one_map image (bytes image is) (faultless image f.directory f.globals f.sound)).0 in
    some image is m.0 m.1 (none m.0 m.1)
