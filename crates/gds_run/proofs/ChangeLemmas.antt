-- What a SET and a KILL of a node are answered.
use Rattle.std.proofs.Common.{◌≡◌, ℕ, ◌==◌, ◌+◌, ◌^◌, ◌≤◌, Bool, true, false, cond, leb, List, length, Option, None}
use Rattle.std.proofs.Common.{Some, MatchBool, MatchOption, arith, refl, sym, ap, subst, ◌∙◌, le-ltb, true≢false, Err}
use Rattle.std.proofs.lemmas.Bool.{le-leb, lt-leb, ne_eqb}
use Rattle.std.specs.Prelude.{OnErr, Result, nat_le}
use Rattle.std.specs.Option.{ForSome}
use Rattle.host_model.specs.Failures.{Failures, NeverFell}
use Rattle.host_model.specs.Files.{Contents}
use Rattle.host_model.specs.Told.{TellsOn}
use Rattle.host_model.proofs.FrameLemmas.{TellsOn-some}
use Rattle.m_key.specs.Globals.{Place, after, kill, set_value}
use Rattle.m_key.specs.Key.{key_bytes}
use Rattle.gds_header.specs.Fields.{fields_of}
use Rattle.gds_header.specs.Kinds.{IsWithinLimits}
use Rattle.gds_header.specs.declared.header.Header.{Header}
use Rattle.gds_file.specs.Room.{room_of}
use Rattle.gds_file.proofs.RoomLemmas.{room_by_header}
use Rattle.gds_base.specs.declared.error.BaseError.{BaseError}
use Rattle.gds_base.specs.declared.error.BaseError.TheVariants as error
use Rattle.gds_base.proofs.MomentLemmas.{untold_before}
use Rattle.gds_sound.specs.Questions.{data_of}
use Rattle.gds_units.specs.State.{UnitsState, image_of}
use Rattle.gds_words.specs.Script as asked
use Rattle.gds_globals.specs.Ending.{EndsSetting, HasRoom}
use Rattle.gds_globals.specs.Kill.{EndsKilling, IsAfterKill, IsSomethingThere, Kills}
use Rattle.gds_globals.specs.Ready.{DiffersInAtMost, IsAfterSet, IsHeaderAfter, UsesAtMost}
use Rattle.gds_script.specs.declared.answer.Answer.{Answer}
use Rattle.gds_script.specs.declared.answer.Answer.TheVariants.{Done, Full, KeyTooLong, TnSpent, ValueTooLong}
use Rattle.gds_script.specs.Script.{Answers, AnswersKill, AnswersSet, KillsNode, Sets, State, is_long, long_key}
use Rattle.gds_script.specs.Script.{refusal, told_len}
use Rattle.gds_run.specs.declared.error.RunError.{RunError}
use Rattle.gds_run.specs.Ending.{EndsAnswering, HasDeviceCause}
use Rattle.gds_run.specs.Errors.{base_error}
use Rattle.gds_run.specs.Request.{IsMadeOrRefused, IsStateOf}

-- ---- no refusal is due

abbrev first_due : Bool → Bool → Bool → Bool → ℕ → ℕ → ℕ → Option Answer
first_due long large spent full key value free =
    cond long (Some (KeyTooLong key)) (cond large (Some (ValueTooLong value))
    (cond spent (Some TnSpent) (cond full (Some (Full free)) None)))

module _ (h : Header) (key value : ℕ) where
  pub by_none : HasRoom h key value → refusal h key value ≡ None
  by_none has =
      λ i. first_due (le-ltb h.key_max key has.0.0.0 i) (le-ltb h.value_max value has.0.0.1 i)
      (lt-leb (2 ^ 63) h.tn has.0.1 i) (le-ltb (room_of h) 32 has.1 i) (told_len key) value h.free

-- ---- answers

both : {A : Type 0} (a b : Option A) (R S : A → A → Type 0) → TellsOn a b R → TellsOn a b S
    → TellsOn a b (λ x y. R x y × S x y)
both None b R S one two = tt
both (Some x) None R S one two = absurd one
both (Some x) (Some y) R S one two = (one, two)

module _ {H : Type 0} (old new : UnitsState H) (p : Place) where
  -- a KILL that is made of this state
  abbrev IsKilled : State → Type 0
  IsKilled before =
      (after : State) × Answers (asked.kill p.node) before Done after × (after.changes ≡ before.changes + 1)
      × IsStateOf new after

  -- how a KILL of something is answered
  abbrev KillsOrSpent : State → Answer → State → Type 0
  KillsOrSpent before answer after =
      MatchBool (nat_le (2 ^ 63) (fields_of before.image).tn) ((answer ≡ TnSpent) × (after ≡ before))
      ((answer ≡ Done) × KillsNode p.node before after)

module _ {H : Type 0} (old new : UnitsState H) (p : Place)
    (fields : ForSome (image_of old) (λ image. fields_of image ≡ old.header)) where
  pub set_made : (value : List ℕ) → IsWithinLimits old.header → IsWithinLimits new.header
      → ForSome (image_of new) (λ image. fields_of image ≡ new.header)
      → HasRoom old.header (length (key_bytes p.node)) (length value)
      → TellsOn (image_of old) (image_of new) (IsAfterSet p value)
      → TellsOn (image_of old) (image_of new) (UsesAtMost 32)
      → TellsOn (image_of old) (image_of new) (DiffersInAtMost 64) → IsHeaderAfter old.header new.header
      → IsMadeOrRefused old new (asked.set p.node value) None
  set_made value limits new_limits new_fields has map used differs header before is =
      let uses : List ℕ → List ℕ → Type 0 =
      λ image file. UsesAtMost 32 image file × DiffersInAtMost 64 image file in
      let at = TellsOn-some (image_of old) (image_of new)
      (λ image file. IsAfterSet p value image file × uses image file)
      before.image is.image_is (both (image_of old) (image_of new) (IsAfterSet p value) uses map
      (both (image_of old) (image_of new) (UsesAtMost 32) (DiffersInAtMost 64) used differs)) in
      let file : List ℕ = at.0 in
      let was : fields_of before.image ≡ old.header = fields before.image is.image_is in
      let now : fields_of file ≡ new.header = new_fields file at.1 in
      let old_room = room_by_header before.image
      (omega (arith, limits.total_to, ap (λ (h : Header). h.total) was, ap (λ (h : Header). h.limit) was)) in
      let new_room = room_by_header file
      (omega (arith, new_limits.total_to, ap (λ (h : Header). h.total) now, ap (λ (h : Header). h.limit) now)) in
      let stands = at.2.0 before.map is.stands in
      let after_set : State =
      record { image = file; map = after before.map (set_value p value); changes = before.changes + 1 } in
      let none = ap (λ (h : Header). refusal h (length (key_bytes p.node)) (length value)) was
      ∙ by_none old.header (length (key_bytes p.node)) (length value) has in
      let sets : Sets p.node value before after_set = record {
        place = p;
        node_is = refl;
        map_is = refl;
        stands = stands;
        header = subst (λ (h : Header). IsHeaderAfter h (fields_of file)) (sym was)
            (subst (λ (h : Header). IsHeaderAfter old.header h) (sym now) header);
        room = omega (arith, at.2.1.0, old_room, new_room);
        differs = at.2.1.1;
        changes_are = refl;
      } in (
        after_set,
        subst (λ first. MatchOption first (AnswersSet p.node value before Done after_set)
            (λ answer. (Done ≡ answer) × (after_set ≡ before))) (sym none) sets,
        refl,
        record { image_is = at.1; stands = stands },
      )

  -- ---- a KILL

  -- The key isn't too long.
  module _ (short : length (key_bytes p.node) ≤ old.header.key_max) where
    not_long : (state : State) → IsStateOf old state → is_long p.node state ≡ false
    not_long state is =
        let here = ap (λ (h : Header). h.key_max) (fields state.image is.image_is) in
        le-ltb (fields_of state.image).key_max (length (key_bytes p.node)) (omega (arith, here, short))

    unless_long : (before after : State) (answer : Answer) → IsStateOf old before
        → AnswersKill p.node before answer after → Answers (asked.kill p.node) before answer after
    unless_long before after answer is kills =
        subst (λ t. MatchBool t ((answer ≡ long_key p.node) × (after ≡ before))
        (AnswersKill p.node before answer after)) (sym (not_long before is)) kills

    nothing_there : (before : State) (file : List ℕ) → IsStateOf old before → image_of new ≡ Some file
        → file ≡ before.image → (data_of before.map p.node == 0) ≡ true → IsKilled old new p before
    nothing_there before file is here same none =
        let counted : State = record before { changes = before.changes + 1 } in (
          counted,
          unless_long before counted Done is
              (subst (λ t. MatchBool t ((Done ≡ Done) × (counted ≡ counted))
              (KillsOrSpent old new p before Done counted)) (sym none) (refl, refl)),
          refl,
          record { image_is = here ∙ ap (λ image. Some image) same; stands = is.stands },
        )

    something_there : (before : State) (file : List ℕ) → IsStateOf old before → image_of new ≡ Some file
        → Kills p before.image file before.map → (data_of before.map p.node == 0) ≡ false → IsKilled old new p before
    something_there before file is here kills some =
        let taken : State =
        record { image = file; map = after before.map (kill p); changes = before.changes + 1 } in
        let unspent : leb (2 ^ 63) (fields_of before.image).tn ≡ false =
        lt-leb (2 ^ 63) (fields_of before.image).tn kills.unspent in
        let done : KillsNode p.node before taken = record {
          place = p;
          node_is = refl;
          map_is = refl;
          stands = kills.stands;
          header = kills.header;
          differs = kills.differs;
          changes_are = refl;
        } in (
          taken,
          unless_long before taken Done is
              (subst (λ t. MatchBool t ((Done ≡ Done) × (taken ≡ record before { changes = before.changes + 1 }))
              (KillsOrSpent old new p before Done taken)) (sym some)
              (subst (λ t. MatchBool t ((Done ≡ TnSpent) × (taken ≡ before))
              ((Done ≡ Done) × KillsNode p.node before taken)) (sym unspent) (refl, done))),
          refl,
          record { image_is = here; stands = kills.stands },
        )

    by_data : (before : State) (file : List ℕ) → IsStateOf old before → image_of new ≡ Some file → (nothing : Bool)
        → (data_of before.map p.node == 0) ≡ nothing
        → MatchBool nothing (file ≡ before.image) (Kills p before.image file before.map) → IsKilled old new p before
    by_data before file is here true none same = nothing_there before file is here same none
    by_data before file is here false some kills = something_there before file is here kills some

    pub kill_made : TellsOn (image_of old) (image_of new) (IsAfterKill p)
        → IsMadeOrRefused old new (asked.kill p.node) None
    kill_made map before is =
        let at = TellsOn-some (image_of old) (image_of new) (IsAfterKill p) before.image is.image_is map in
        by_data before at.0 is at.1 (data_of before.map p.node == 0) refl (at.2 before.map is.stands)

    -- No transaction number is left for it.
    spent_now : 2 ^ 63 ≤ old.header.tn → ForSome (image_of old) (IsSomethingThere p.node)
        → (state : State) → IsStateOf old state → Answers (asked.kill p.node) state TnSpent state
    spent_now spent there state is =
        let some : (data_of state.map p.node == 0) ≡ false =
        ne_eqb (data_of state.map p.node) 0 (there state.image is.image_is state.map is.stands) in
        let here = ap (λ (h : Header). h.tn) (fields state.image is.image_is) in
        let test : leb (2 ^ 63) (fields_of state.image).tn ≡ true =
        le-leb (2 ^ 63) (fields_of state.image).tn (omega (arith, here, spent)) in
        unless_long state state TnSpent is
        (subst (λ t. MatchBool t ((TnSpent ≡ Done) × (state ≡ record state { changes = state.changes + 1 }))
        (KillsOrSpent old new p state TnSpent state)) (sym some)
        (subst (λ t. MatchBool t ((TnSpent ≡ TnSpent) × (state ≡ state))
        ((TnSpent ≡ Done) × KillsNode p.node state state)) (sym test) (refl, refl)))

  pub kill_spent : (changed : Type 0) (before now : Failures) (r : Result (Unit {0}) BaseError) → r ≡ Err error.TnSpent
      → EndsKilling old.header (length (key_bytes p.node)) changed before now old new r
      → (r ≡ Err error.TnSpent → ForSome (image_of old) (IsSomethingThere p.node))
      → OnErr r ((image_of new ≡ image_of old) × (new.header ≡ old.header))
      → IsMadeOrRefused old new (asked.kill p.node) (Some TnSpent)
  kill_spent changed before now r is ends there err =
      let spent = subst (EndsKilling old.header (length (key_bytes p.node)) changed before now old new) is ends in
      let same = subst (λ x. OnErr x ((image_of new ≡ image_of old) × (new.header ≡ old.header))) is err in
      (same.0, spent_now spent.1.0 spent.1.1 (there is))

-- ---- why a SET failed

abbrev pub IsDevice : BaseError → Type 0
IsDevice error.KeyTooLong = ⊥
IsDevice error.ValueTooLong = ⊥
IsDevice error.TnSpent = ⊥
IsDevice error.Full = ⊥
IsDevice error.TooDeep = ⊥
IsDevice other = Unit {0}

module _ {H : Type 0} (told : H → Option Contents) (counts : H → Failures) (old new : UnitsState H) (h : Header)
    (key value : ℕ) (deep : Type 0) (going : old.stopped ≡ false)
    (tells : image_of old ≡ None → told old.host ≡ None) where
  set_cause : (e : BaseError) → IsDevice e
      → EndsSetting h key value (image_of old ≡ None) deep {T = Unit {0}} (counts old.host) (counts new.host) old new
      (Err e)
      → HasDeviceCause (told old.host ≡ None) (counts old.host) (counts new.host) (base_error e)
  set_cause error.Memory device ends = tt
  set_cause error.ReadFault device ends = ends.1.1
  set_cause error.WriteFault device ends = ends.3
  set_cause error.Stopped device ends = absurd (true≢false (sym ends.1 ∙ going))
  set_cause (error.Changed unit) device ends = tells ends.1.1
  set_cause error.KeyTooLong device ends = absurd device
  set_cause error.ValueTooLong device ends = absurd device
  set_cause error.TnSpent device ends = absurd device
  set_cause error.Full device ends = absurd device
  set_cause error.TooDeep device ends = absurd device

  pub set_failed : (e : BaseError) (whole : RunError) → whole ≡ base_error e → IsDevice e
      → NeverFell (counts old.host) (counts new.host) → (told old.host ≡ None → told new.host ≡ None)
      → TellsOn (told old.host) (told new.host) (λ c d. d.said ≡ c.said)
      → EndsSetting h key value (image_of old ≡ None) deep {T = Unit {0}} (counts old.host) (counts new.host) old new
      (Err e)
      → EndsAnswering {T = Option Answer} told counts old new (Err whole)
  set_failed e whole is device failures untold said ends = record {
    failures = failures;
    untold = untold;
    tells = untold_before (told old.host) (told new.host) (λ c d. d.said ≡ c.said) said;
    going = tt;
    cause = subst (HasDeviceCause (told old.host ≡ None) (counts old.host) (counts new.host)) (sym is)
        (set_cause e device ends);
  }
