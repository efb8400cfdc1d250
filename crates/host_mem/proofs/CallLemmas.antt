-- What each call of a memory host leaves for a crash, from what it leaves of its record.
use Rattle.std.proofs.Common.{◌≡◌, ◌⊎◌, ℕ, ◌+◌, ◌-◌, ◌^◌, ◌<◌, ◌≤◌, Bool, true, false, List, [], ◌∷◌, ◌++◌, length}
use Rattle.std.proofs.Common.{take, Option, None, Some, Result, Ok, Err, is_ok, IsErr, OnErr, OnOk, if◌then◌else◌}
use Rattle.std.proofs.Common.{arith, refl, sym, ap, subst, ◌∙◌, inl, inr, ⊎_elim}
use Rattle.std.proofs.lemmas.List.{append-nil}
use Rattle.host_model.specs.declared.host.FileNo.{FileNo}
use Rattle.host_model.specs.declared.host.FileNo.TheVariants.{Db, Images}
use Rattle.host_model.specs.Failures.{Rose, counted}
use Rattle.host_model.specs.Files.{Contents, Says, file_of, saying, with_file}
use Rattle.host_model.specs.Disk.{Changes, Cut, Cuts, Elapses, Follows, SaysSome, Settles, Stays, Torn, Writes}
use Rattle.host_model.specs.Disk.{during, written}
use Rattle.host_mem.specs.declared.call.Call.{Call}
use Rattle.host_mem.specs.History.{LeftSince, NumberedTo, State, apply, replayed, shown, start}
use Rattle.host_mem.specs.Log.{Log, with_step}
use Rattle.host_mem.specs.Memory.{Called, IsNumbered, Memory, contents_of, left_since, only_done, state_of}
use Rattle.host_mem.specs.Step.{Step, Write, Cut as cuts, Sync, Say, number_of}
use Rattle.host_mem.proofs.StateLemmas.{NumberedTo-later, NumberedTo-push, cut_follows, idle_elapses, idle_stays}
use Rattle.host_mem.proofs.StateLemmas.{last_only, other_than_db, other_than_images, plain_elapses, replayed-push}
use Rattle.host_mem.proofs.StateLemmas.{say_elapses, say_follows, settled_by_sync, stays_cut, stays_said, stays_torn}
use Rattle.host_mem.proofs.StateLemmas.{sync_stays, write_follows}

-- the call was recorded
pub record Moved (step : Option Step) (m n : Memory) : Type 0 where
  pub first : n.first ≡ m.first
  pub steps : n.log.steps ≡ with_step step m.log.steps
  pub moment : n.log.moment ≡ m.log.moment + 1
  pub numbered : m.log.moment < 2 ^ 64 - 1

-- it wasn't, for want of memory
pub record Idle (m n : Memory) : Type 0 where
  pub first : n.first ≡ m.first
  pub steps : n.log.steps ≡ m.log.steps
  pub later : m.log.moment ≤ n.log.moment

pub moved : {T E : Type 0} (listed : Type 0) (call : Call) (step : Option Step) (result : Result T E)
    (m n : Memory) → Called listed call step result m n → Moved step m n ⊎ (Idle m n × IsErr result)
moved listed call step result m n called =
    ⊎_elim
    (λ r. inl (record {
      first = called.first;
      steps = ap (λ (l : Log). l.steps) r.after;
      moment = ap (λ (l : Log). l.moment) r.after;
      numbered = r.numbered;
    }))
    (λ e.
    let count : n.log.starved ≡ counted m.log.starved = ap (λ (l : Log). l.starved) e in
    let rose : Rose m.log.starved n.log.starved = omega arith in
    inr (
      record { first = called.first; steps = ap (λ (l : Log). l.steps) e; later = called.log.later },
      called.log.fails.1 (inr rose),
    ))
    called.log.record_grows

pub false-true : false ≡ true → ⊥
false-true e = cc

-- a fact on the parts of a host that count for a crash
pub carried : (P : Contents → List Step → ℕ → Type 0) (n : Memory) (first : Contents) (steps : List Step)
    (moment : ℕ) → n.first ≡ first → n.log.steps ≡ steps → n.log.moment ≡ moment → P first steps moment
    → P n.first n.log.steps n.log.moment
carried P n first steps moment a b c p =
    let A : Contents → Type 0 = λ x. P x n.log.steps n.log.moment in
    let B : List Step → Type 0 = λ x. P first x n.log.moment in
    let C : ℕ → Type 0 = λ x. P first steps x in
    subst A (sym a) (subst B (sym b) (subst C (sym c) p))

pub state_idle : (m n : Memory) → Idle m n → state_of n ≡ state_of m
state_idle m n idle = ap (λ (f : Contents). replayed (start f) n.log.steps) idle.first
    ∙ ap (λ (s : List Step). replayed (start m.first) s) idle.steps

pub idle_of : (m n : Memory) → Moved None m n → Idle m n
idle_of m n mv = record { first = mv.first; steps = mv.steps; later = omega (arith, mv.moment) }

pub state_moved : (step : Step) (m n : Memory) → Moved (Some step) m n → state_of n ≡ apply step (state_of m)
state_moved step m n mv =
    ap (λ (f : Contents). replayed (start f) n.log.steps) mv.first
    ∙ ap (λ (s : List Step). replayed (start m.first) s) mv.steps ∙ replayed-push (start m.first) m.log.steps step

-- idle calls
pub numbered_idle : (m n : Memory) → Idle m n → IsNumbered m → IsNumbered n
numbered_idle m n idle numbered = let P : List Step
    → Type 0 = λ s. NumberedTo n.log.moment s in subst P (sym idle.steps)
    (NumberedTo-later m.log.moment n.log.moment m.log.steps idle.later numbered)

pub numbered_moved : (step : Step) (m n : Memory) → number_of step ≡ counted m.log.moment → Moved (Some step) m n
    → IsNumbered m → IsNumbered n
numbered_moved step m n is mv numbered =
    let P : List Step → Type 0 = λ s. NumberedTo n.log.moment s in
    let le : m.log.moment ≤ n.log.moment = omega (arith, mv.moment) in
    let last : number_of step ≤ n.log.moment = omega (arith, mv.moment, is) in
    subst P (sym mv.steps) (NumberedTo-push n.log.moment m.log.steps step last
    (NumberedTo-later m.log.moment n.log.moment m.log.steps le numbered))

pub time_idle : (m n : Memory) → Idle m n → IsNumbered m
    → Elapses m.log.moment n.log.moment (left_since m) (left_since n) (left_since n n.log.moment)
time_idle m n idle numbered =
    carried (λ f s k. Elapses m.log.moment k (left_since m) (LeftSince f s k) (LeftSince f s k k)) n m.first
    m.log.steps n.log.moment idle.first idle.steps refl
    (idle_elapses m.first m.log.steps m.log.moment n.log.moment idle.later numbered)

pub crash_idle : (m n : Memory) → Idle m n → Stays (left_since m m.log.moment) (left_since n n.log.moment)
crash_idle m n idle =
    carried (λ f s k. Stays (left_since m m.log.moment) (LeftSince f s k k)) n m.first m.log.steps n.log.moment
    idle.first idle.steps refl
    (idle_stays m.first m.log.steps m.log.moment n.log.moment)

pub number_next : (step : Step) (m n : Memory) → number_of step ≡ counted m.log.moment → Moved (Some step) m n
    → number_of step ≡ m.log.moment + 1
number_next step m n is mv = omega (arith, is, mv.numbered)

-- a call that makes no step
module _ {T E : Type 0} (listed : Type 0) (call : Call) (result : Result T E) (m n : Memory)
    (called : Called listed call None result m n) where
  pub is_idle : Idle m n
  is_idle = ⊎_elim (λ mv. idle_of m n mv) (λ i. i.0) (moved listed call None result m n called)

  pub look_told : contents_of n ≡ contents_of m
  look_told = ap shown (state_idle m n is_idle)

-- bytes of a write, as what a read gives
pub shown_write : (number : ℕ) (file : FileNo) (at : ℕ) (bytes : List ℕ) (state : State)
    → shown (apply (Write number file at bytes true) state) ≡ with_file file
    (written at bytes (file_of (shown state) file)) (shown state)
shown_write number Db at bytes state = refl
shown_write number Images at bytes state = refl

pub shown_unwritten : (number : ℕ) (file : FileNo) (at : ℕ) (bytes : List ℕ) (state : State)
    → shown (apply (Write number file at bytes false) state) ≡ shown state
shown_unwritten number Db at bytes state = refl
shown_unwritten number Images at bytes state = refl

pub shown_cut : (number : ℕ) (file : FileNo) (len : ℕ) (state : State)
    → shown (apply (cuts number file len true) state) ≡ with_file file (take len (file_of (shown state) file))
    (shown state)
shown_cut number Db len state = refl
shown_cut number Images len state = refl

pub shown_uncut : (number : ℕ) (file : FileNo) (len : ℕ) (state : State)
    → shown (apply (cuts number file len false) state) ≡ shown state
shown_uncut number Db len state = refl
shown_uncut number Images len state = refl

pub shown_sync : (number : ℕ) (file : FileNo) (state : State) → shown (apply (Sync number file) state) ≡ shown state
shown_sync number Db state = refl
shown_sync number Images state = refl

pub enter_write : (number : ℕ) (file : FileNo) (at : ℕ) (bytes : List ℕ) (done : Bool) (m n : Memory)
    → number ≡ counted m.log.moment → Moved (Some (Write number file at bytes done)) m n → IsNumbered m
    → Elapses m.log.moment n.log.moment (left_since m) (left_since n) (left_since n n.log.moment)
enter_write number file at bytes done m n is mv numbered =
    carried (λ f s k. Elapses m.log.moment k (left_since m) (LeftSince f s k) (LeftSince f s k k)) n m.first
    (m.log.steps ++ Write number file at bytes done ∷ []) (m.log.moment + 1) mv.first mv.steps mv.moment
    (plain_elapses m.first m.log.steps m.log.moment (Write number file at bytes done) (m.log.moment + 1)
    (number_next (Write number file at bytes done) m n is mv) refl numbered (λ c l. l) (λ c l. l))

module _ {T E : Type 0} (listed : Type 0) (call : Call) (number : ℕ) (file : FileNo) (at : ℕ) (bytes : List ℕ)
    (result : Result T E) (m n : Memory) (is : number ≡ counted m.log.moment)
    (called : Called listed call (Some (Write number file at bytes (is_ok result))) result m n) where
  write_how : Moved (Some (Write number file at bytes (is_ok result))) m n ⊎ (Idle m n × IsErr result)
  write_how = moved listed call (Some (Write number file at bytes (is_ok result))) result m n called

  pub write_numbered : IsNumbered m → IsNumbered n
  write_numbered numbered =
      ⊎_elim (λ mv. numbered_moved (Write number file at bytes (is_ok result)) m n is mv numbered)
      (λ i. numbered_idle m n i.0 numbered) write_how

  pub write_crash : Follows (Changes file (Torn at (length bytes))) (left_since m m.log.moment)
      (left_since n n.log.moment)
  write_crash =
      ⊎_elim
      (λ mv.
      carried (λ f s k. Follows (Changes file (Torn at (length bytes))) (left_since m m.log.moment)
      (LeftSince f s k k)) n m.first (m.log.steps ++ Write number file at bytes (is_ok result) ∷ [])
      (m.log.moment + 1) mv.first mv.steps mv.moment
      (write_follows m.first m.log.steps m.log.moment number file at bytes (is_ok result) (m.log.moment + 1)))
      (λ i. stays_torn file at (length bytes) (left_since m m.log.moment) (left_since n n.log.moment)
      (crash_idle m n i.0)) write_how

  pub write_time : IsNumbered m → Elapses m.log.moment n.log.moment (left_since m) (left_since n)
      (left_since n n.log.moment)
  write_time numbered =
      ⊎_elim (λ mv. enter_write number file at bytes (is_ok result) m n is mv numbered)
      (λ i. time_idle m n i.0 numbered) write_how

abbrev pub write_effect : {T E : Type 0} → FileNo → ℕ → List ℕ → Result T E → Contents → Contents
write_effect file at bytes result c = if is_ok result then with_file file (written at bytes (file_of c file)) c else c

pub write_told : {T E : Type 0} (listed : Type 0) (call : Call) (number : ℕ) (file : FileNo) (at : ℕ)
    (bytes : List ℕ) (result : Result T E) (m n : Memory)
    → Called listed call (Some (Write number file at bytes (is_ok result))) result m n
    → contents_of n ≡ write_effect file at bytes result (contents_of m)
write_told listed call number file at bytes (Ok x) m n called =
    ⊎_elim (λ mv. ap shown (state_moved (Write number file at bytes true) m n mv)
    ∙ shown_write number file at bytes (state_of m)) (λ i. absurd (false-true i.1))
    (moved listed call (Some (Write number file at bytes true)) (Ok x) m n called)
write_told {T} {E} listed call number file at bytes (Err e) m n called =
    ⊎_elim (λ mv. ap shown (state_moved (Write number file at bytes false) m n mv)
    ∙ shown_unwritten number file at bytes (state_of m)) (λ i. ap shown (state_idle m n i.0))
    (moved {T = T} listed call (Some (Write number file at bytes false)) (Err e) m n called)

pub writes : {T E : Type 0} (file : FileNo) (at : ℕ) (bytes : List ℕ) (result : Result T E) (c d : Contents)
    → d ≡ write_effect file at bytes result c → Changes file (Writes at bytes result) c d
writes Db at bytes (Ok x) c d e =
    record {
      changed = ap (λ (k : Contents). k.db) e;
      other = other_than_db d c (ap (λ (k : Contents). k.images) e);
      said = ap (λ (k : Contents). k.said) e;
    }
writes Images at bytes (Ok x) c d e =
    record {
      changed = ap (λ (k : Contents). k.images) e;
      other = other_than_images d c (ap (λ (k : Contents). k.db) e);
      said = ap (λ (k : Contents). k.said) e;
    }
writes file at bytes (Err x) c d e =
    let P : Contents → Type 0 = λ k. Changes file (Torn at (length bytes)) c k in
    subst P (sym e) (record {
      changed = record {
        no_shorter = omega arith;
        no_longer = omega arith;
        before = λ i _ _. refl;
        behind = λ i _ _. refl;
      };
      other = λ f _. refl;
      said = refl;
    })

pub enter_cut : (number : ℕ) (file : FileNo) (len : ℕ) (done : Bool) (m n : Memory) → number ≡ counted m.log.moment
    → Moved (Some (cuts number file len done)) m n → IsNumbered m
    → Elapses m.log.moment n.log.moment (left_since m) (left_since n) (left_since n n.log.moment)
enter_cut number file len done m n is mv numbered =
    carried (λ f s k. Elapses m.log.moment k (left_since m) (LeftSince f s k) (LeftSince f s k k)) n m.first
    (m.log.steps ++ cuts number file len done ∷ []) (m.log.moment + 1) mv.first mv.steps mv.moment
    (plain_elapses m.first m.log.steps m.log.moment (cuts number file len done) (m.log.moment + 1)
    (number_next (cuts number file len done) m n is mv) refl numbered (λ c l. l) (λ c l. l))

module _ {T E : Type 0} (listed : Type 0) (call : Call) (number : ℕ) (file : FileNo) (len : ℕ)
    (result : Result T E) (m n : Memory) (is : number ≡ counted m.log.moment)
    (called : Called listed call (Some (cuts number file len (is_ok result))) result m n) where
  cut_how : Moved (Some (cuts number file len (is_ok result))) m n ⊎ (Idle m n × IsErr result)
  cut_how = moved listed call (Some (cuts number file len (is_ok result))) result m n called

  pub cut_numbered : IsNumbered m → IsNumbered n
  cut_numbered numbered =
      ⊎_elim (λ mv. numbered_moved (cuts number file len (is_ok result)) m n is mv numbered)
      (λ i. numbered_idle m n i.0 numbered) cut_how

  pub cut_crash : Follows (Changes file (Cut len)) (left_since m m.log.moment) (left_since n n.log.moment)
  cut_crash =
      ⊎_elim
      (λ mv.
      carried (λ f s k. Follows (Changes file (Cut len)) (left_since m m.log.moment) (LeftSince f s k k)) n m.first
      (m.log.steps ++ cuts number file len (is_ok result) ∷ []) (m.log.moment + 1) mv.first mv.steps mv.moment
      (cut_follows m.first m.log.steps m.log.moment number file len (is_ok result) (m.log.moment + 1)))
      (λ i. stays_cut file len (left_since m m.log.moment) (left_since n n.log.moment) (crash_idle m n i.0)) cut_how

  pub cut_time : IsNumbered m → Elapses m.log.moment n.log.moment (left_since m) (left_since n)
      (left_since n n.log.moment)
  cut_time numbered =
      ⊎_elim (λ mv. enter_cut number file len (is_ok result) m n is mv numbered) (λ i. time_idle m n i.0 numbered)
      cut_how

abbrev pub cut_effect : {T E : Type 0} → FileNo → ℕ → Result T E → Contents → Contents
cut_effect file len result c = if is_ok result then with_file file (take len (file_of c file)) c else c

pub cut_told : {T E : Type 0} (listed : Type 0) (call : Call) (number : ℕ) (file : FileNo) (len : ℕ)
    (result : Result T E) (m n : Memory)
    → Called listed call (Some (cuts number file len (is_ok result))) result m n
    → contents_of n ≡ cut_effect file len result (contents_of m)
cut_told listed call number file len (Ok x) m n called =
    ⊎_elim (λ mv. ap shown (state_moved (cuts number file len true) m n mv)
    ∙ shown_cut number file len (state_of m)) (λ i. absurd (false-true i.1))
    (moved listed call (Some (cuts number file len true)) (Ok x) m n called)
cut_told {T} {E} listed call number file len (Err e) m n called =
    ⊎_elim (λ mv. ap shown (state_moved (cuts number file len false) m n mv)
    ∙ shown_uncut number file len (state_of m)) (λ i. ap shown (state_idle m n i.0))
    (moved {T = T} listed call (Some (cuts number file len false)) (Err e) m n called)

pub cuts_so : {T E : Type 0} (file : FileNo) (len : ℕ) (result : Result T E) (c d : Contents)
    → d ≡ cut_effect file len result c → Changes file (Cuts len result) c d
cuts_so Db len (Ok x) c d e =
    record {
      changed = ap (λ (k : Contents). k.db) e;
      other = other_than_db d c (ap (λ (k : Contents). k.images) e);
      said = ap (λ (k : Contents). k.said) e;
    }
cuts_so Images len (Ok x) c d e =
    record {
      changed = ap (λ (k : Contents). k.images) e;
      other = other_than_images d c (ap (λ (k : Contents). k.db) e);
      said = ap (λ (k : Contents). k.said) e;
    }
cuts_so file len (Err x) c d e =
    let P : Contents → Type 0 = λ k. Changes file (Cut len) c k in
    subst P (sym e) (record {
      changed = record {
        no_shorter = omega arith;
        no_longer = omega arith;
        below = λ i _ _. refl;
      };
      other = λ f _. refl;
      said = refl;
    })

-- a sync and a saying make a step only where they succeed
pub sync_numbered : {T E : Type 0} (listed : Type 0) (call : Call) (number : ℕ) (file : FileNo)
    (result : Result T E) (m n : Memory) → number ≡ counted m.log.moment
    → Called listed call (only_done result (Sync number file)) result m n → IsNumbered m → IsNumbered n
sync_numbered listed call number file (Ok x) m n is called numbered =
    ⊎_elim (λ mv. numbered_moved (Sync number file) m n is mv numbered) (λ i. numbered_idle m n i.0 numbered)
    (moved listed call (Some (Sync number file)) (Ok x) m n called)
sync_numbered {T} listed call number file (Err e) m n is called numbered =
    numbered_idle m n (is_idle {T = T} listed call (Err e) m n called) numbered

pub sync_crash : {T E : Type 0} (listed : Type 0) (call : Call) (number : ℕ) (file : FileNo) (result : Result T E)
    (m n : Memory) → Called listed call (only_done result (Sync number file)) result m n
    → Stays (left_since m m.log.moment) (left_since n n.log.moment)
sync_crash listed call number file (Ok x) m n called =
    ⊎_elim
    (λ mv.
    carried (λ f s k. Stays (left_since m m.log.moment) (LeftSince f s k k)) n m.first
    (m.log.steps ++ Sync number file ∷ []) (m.log.moment + 1) mv.first mv.steps mv.moment
    (sync_stays m.first m.log.steps m.log.moment number file (m.log.moment + 1)))
    (λ i. crash_idle m n i.0) (moved listed call (Some (Sync number file)) (Ok x) m n called)
sync_crash {T} listed call number file (Err e) m n called =
    crash_idle m n (is_idle {T = T} listed call (Err e) m n called)

pub enter_sync : (number : ℕ) (file : FileNo) (m n : Memory) → number ≡ counted m.log.moment
    → Moved (Some (Sync number file)) m n → IsNumbered m
    → Elapses m.log.moment n.log.moment (left_since m) (left_since n) (left_since n n.log.moment)
enter_sync number file m n is mv numbered =
    carried (λ f s k. Elapses m.log.moment k (left_since m) (LeftSince f s k) (LeftSince f s k k)) n m.first
    (m.log.steps ++ Sync number file ∷ []) (m.log.moment + 1) mv.first mv.steps mv.moment
    (plain_elapses m.first m.log.steps m.log.moment (Sync number file) (m.log.moment + 1)
    (number_next (Sync number file) m n is mv) refl numbered (λ c l. l) (λ c l. l))

pub sync_time : {T E : Type 0} (listed : Type 0) (call : Call) (number : ℕ) (file : FileNo) (result : Result T E)
    (m n : Memory) → number ≡ counted m.log.moment
    → Called listed call (only_done result (Sync number file)) result m n → IsNumbered m
    → Elapses m.log.moment n.log.moment (left_since m) (left_since n) (left_since n n.log.moment)
sync_time listed call number file (Ok x) m n is called numbered =
    ⊎_elim (λ mv. enter_sync number file m n is mv numbered) (λ i. time_idle m n i.0 numbered)
    (moved listed call (Some (Sync number file)) (Ok x) m n called)
sync_time {T} listed call number file (Err e) m n is called numbered =
    time_idle m n (is_idle {T = T} listed call (Err e) m n called) numbered

pub sync_told : {T E : Type 0} (listed : Type 0) (call : Call) (number : ℕ) (file : FileNo) (result : Result T E)
    (m n : Memory) → Called listed call (only_done result (Sync number file)) result m n
    → contents_of n ≡ contents_of m
sync_told listed call number file (Ok x) m n called =
    ⊎_elim (λ mv. ap shown (state_moved (Sync number file) m n mv) ∙ shown_sync number file (state_of m))
    (λ i. ap shown (state_idle m n i.0)) (moved listed call (Some (Sync number file)) (Ok x) m n called)
sync_told {T} listed call number file (Err e) m n called = look_told {T = T} listed call (Err e) m n called

pub sync_settles : {T E : Type 0} (listed : Type 0) (call : Call) (number : ℕ) (file : FileNo)
    (result : Result T E) (m n : Memory) → Called listed call (only_done result (Sync number file)) result m n
    → OnOk result (Settles file (file_of (contents_of m) file) (left_since n n.log.moment))
sync_settles listed call number file (Ok x) m n called =
    ⊎_elim
    (λ mv.
    carried (λ f s k. Settles file (file_of (contents_of m) file) (LeftSince f s k k)) n m.first
    (m.log.steps ++ Sync number file ∷ []) (m.log.moment + 1) mv.first mv.steps mv.moment
    (λ c left. settled_by_sync number file (state_of m) c
    (last_only m.first m.log.steps m.log.moment (Sync number file) (m.log.moment + 1) c left)))
    (λ i. absurd (false-true i.1)) (moved listed call (Some (Sync number file)) (Ok x) m n called)
sync_settles listed call number file (Err e) m n called = tt

pub say_numbered : {T E : Type 0} (listed : Type 0) (call : Call) (number : ℕ) (bytes : List ℕ)
    (result : Result T E) (m n : Memory) → number ≡ counted m.log.moment
    → Called listed call (only_done result (Say number bytes)) result m n → IsNumbered m → IsNumbered n
say_numbered listed call number bytes (Ok x) m n is called numbered =
    ⊎_elim (λ mv. numbered_moved (Say number bytes) m n is mv numbered) (λ i. numbered_idle m n i.0 numbered)
    (moved listed call (Some (Say number bytes)) (Ok x) m n called)
say_numbered {T} listed call number bytes (Err e) m n is called numbered =
    numbered_idle m n (is_idle {T = T} listed call (Err e) m n called) numbered

pub say_crash : {T E : Type 0} (listed : Type 0) (call : Call) (number : ℕ) (bytes : List ℕ) (result : Result T E)
    (m n : Memory) → Called listed call (only_done result (Say number bytes)) result m n
    → Follows (SaysSome bytes) (left_since m m.log.moment) (left_since n n.log.moment)
say_crash listed call number bytes (Ok x) m n called =
    ⊎_elim
    (λ mv.
    carried (λ f s k. Follows (SaysSome bytes) (left_since m m.log.moment) (LeftSince f s k k)) n m.first
    (m.log.steps ++ Say number bytes ∷ []) (m.log.moment + 1) mv.first mv.steps mv.moment
    (say_follows m.first m.log.steps m.log.moment number bytes (m.log.moment + 1)))
    (λ i. absurd (false-true i.1)) (moved listed call (Some (Say number bytes)) (Ok x) m n called)
say_crash {T} listed call number bytes (Err e) m n called =
    stays_said bytes (left_since m m.log.moment) (left_since n n.log.moment)
    (crash_idle m n (is_idle {T = T} listed call (Err e) m n called))

pub enter_say : (number : ℕ) (bytes : List ℕ) (m n : Memory) → number ≡ counted m.log.moment
    → Moved (Some (Say number bytes)) m n → IsNumbered m
    → Elapses m.log.moment n.log.moment (left_since m) (left_since n)
    (during (SaysSome bytes) (left_since m m.log.moment))
enter_say number bytes m n is mv numbered =
    carried (λ f s k. Elapses m.log.moment k (left_since m) (LeftSince f s k)
    (during (SaysSome bytes) (left_since m m.log.moment))) n m.first (m.log.steps ++ Say number bytes ∷ [])
    (m.log.moment + 1) mv.first mv.steps mv.moment
    (say_elapses m.first m.log.steps m.log.moment number bytes (m.log.moment + 1)
    (number_next (Say number bytes) m n is mv) refl numbered)

-- with nothing said, what was left then is left in a saying
pub quiet_time : (bytes : List ℕ) (m n : Memory) → Idle m n
    → Elapses m.log.moment n.log.moment (left_since m) (left_since n) (left_since n n.log.moment)
    → Elapses m.log.moment n.log.moment (left_since m) (left_since n)
    (during (SaysSome bytes) (left_since m m.log.moment))
quiet_time bytes m n idle time = record {
  later = time.later;
  nothing_else =
      λ t c le left. ⊎_elim inl (λ l. inr (stays_said bytes (left_since m m.log.moment) (left_since n n.log.moment)
      (crash_idle m n idle) c l)) (time.nothing_else t c le left);
  keeps = time.keeps;
}

pub say_time : {T E : Type 0} (listed : Type 0) (call : Call) (number : ℕ) (bytes : List ℕ) (result : Result T E)
    (m n : Memory) → number ≡ counted m.log.moment
    → Called listed call (only_done result (Say number bytes)) result m n → IsNumbered m
    → Elapses m.log.moment n.log.moment (left_since m) (left_since n)
    (during (SaysSome bytes) (left_since m m.log.moment))
say_time listed call number bytes (Ok x) m n is called numbered =
    ⊎_elim (λ mv. enter_say number bytes m n is mv numbered) (λ i. absurd (false-true i.1))
    (moved listed call (Some (Say number bytes)) (Ok x) m n called)
say_time {T} listed call number bytes (Err e) m n is called numbered =
    let idle = is_idle {T = T} listed call (Err e) m n called in
    quiet_time bytes m n idle (time_idle m n idle numbered)

abbrev pub say_effect : {T E : Type 0} → List ℕ → Result T E → Contents → Contents
say_effect bytes result c = if is_ok result then saying c bytes else c

pub say_told : {T E : Type 0} (listed : Type 0) (call : Call) (number : ℕ) (bytes : List ℕ) (result : Result T E)
    (m n : Memory) → Called listed call (only_done result (Say number bytes)) result m n
    → contents_of n ≡ say_effect bytes result (contents_of m)
say_told listed call number bytes (Ok x) m n called =
    ⊎_elim (λ mv. ap shown (state_moved (Say number bytes) m n mv)) (λ i. absurd (false-true i.1))
    (moved listed call (Some (Say number bytes)) (Ok x) m n called)
say_told {T} listed call number bytes (Err e) m n called = look_told {T = T} listed call (Err e) m n called

pub says : {T E : Type 0} (bytes : List ℕ) (result : Result T E) (c d : Contents) → d ≡ say_effect bytes result c
    → Says bytes result c d
says bytes (Ok x) c d e = e
says bytes (Err x) c d e =
    (0, e ∙ ap (λ (s : List ℕ). let k : Contents = record c { said = s } in k) (sym (append-nil c.said)))

-- a call that failed leaves what a read gives as it was
pub unchanged : {T E : Type 0} (result : Result T E) (c d k : Contents) → d ≡ (if is_ok result then k else c)
    → OnErr result (d ≡ c)
unchanged (Ok x) c d k e = tt
unchanged (Err x) c d k e = e
