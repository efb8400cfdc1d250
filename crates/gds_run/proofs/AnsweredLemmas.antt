-- One more line is answered.
use Rattle.std.proofs.Common.{◌≡◌, ℕ, ◌+◌, ◌^◌, ◌<◌, ◌≤◌, List, [], ◌∷◌, ◌++◌, length, Contains}
use Rattle.std.proofs.Common.{Option, None, Some, arith, refl, sym, ap, subst, ◌∙◌, inl, ⊎_elim}
use Rattle.std.proofs.Common.{append-nil, append_assoc, take_at, length-append}
use Rattle.std.proofs.lemmas.Grind.{flat_map-append}
use Rattle.std.proofs.lemmas.List.{take-append-le}
use Rattle.std.proofs.lemmas.List.Elements.{Contains-push_cases}
use Rattle.host_model.specs.Failures.{Failures}
use Rattle.host_model.specs.Files.{Contents}
use Rattle.host_model.specs.Moments.{EachLeft}
use Rattle.host_model.specs.Told.{TellsOn}
use Rattle.host_model.proofs.FrameLemmas.{TellsOn-some}
use Rattle.host_model.proofs.MomentLemmas.{same_only, then_more}
use Rattle.m_key.specs.Globals.{Change, Globals, after_all}
use Rattle.gds_units.specs.Durable.{IsStored, KeepsOrStores}
use Rattle.gds_units.specs.Reading.{OnlyRead}
use Rattle.gds_units.specs.State.{UnitsState, WhereTold, image_of}
use Rattle.gds_words.specs.Script.{Asks, Request}
use Rattle.gds_words.specs.Script as asked
use Rattle.gds_script.specs.declared.answer.Answer.{Answer}
use Rattle.gds_script.specs.declared.answer.Answer.TheVariants.{Done, Epoch}
use Rattle.gds_script.specs.Answer.{answer_line, answer_lines}
use Rattle.gds_script.specs.Finding.{FindsOne}
use Rattle.gds_script.specs.Made.{AreMade, IsKept}
use Rattle.gds_script.specs.Said.{IsAfterPrefix, with_change}
use Rattle.gds_script.specs.Script.{Runs, State, Steps, start_of}
use Rattle.gds_run.specs.Progress.{Origin, Progress}
use Rattle.gds_run.specs.Request.{IsMadeOrRefused, IsStateOf}
use Rattle.gds_script.proofs.FindingLemmas.{found_wider, one_found_stored}
use Rattle.gds_script.proofs.KeptLemmas.{IsNoEpoch}
use Rattle.gds_script.proofs.MadeLemmas.{after_all-append, are_made_more}
use Rattle.gds_script.proofs.RunLemmas.{runs_more}
use Rattle.gds_script.proofs.StepLemmas.{OneRequest, step_made}
use Rattle.gds_run.proofs.FoundLemmas.{each_now}
use Rattle.gds_run.proofs.SettledLemmas.{Settled, durable, each_on, only_on}

epoch_count : (a b : ℕ) → Epoch a ≡ Epoch b → a ≡ b
epoch_count a b is = cc

done_no_epoch : (n : ℕ) → Done ≡ Epoch n → ⊥
done_no_epoch n is = absurd (cc)

-- Nothing was changed where the count stays.
no_change : (change : Option Change) (n : ℕ) → n ≡ n + length (with_change change []) → change ≡ None
no_change None n is = refl
no_change (Some change) n is = absurd (omega (arith, is))

module _ {H : Type 0} (tells : H → Option Contents) (moment : H → ℕ) (left_since : H → ℕ → Contents → Type 0)
    (one : OneRequest) (o : Origin H) (line : List ℕ) (rest : List (List ℕ)) where
  -- ---- A line that changes nothing.

  module _ (base : UnitsState H) (waits : List ℕ) (changes : ℕ)
      (p : Progress tells moment left_since o (line ∷ rest) base waits changes) where
    -- Its answer waits with the others.
    pub unchanged : (answer : Answer) → IsNoEpoch answer → Steps p.state line answer p.state
        → Progress tells moment left_since o rest base (waits ++ answer_line answer) changes
    unchanged answer other step =
        let makes = step_made one line answer p.state p.state step in
        let none = no_change makes.change p.state.changes makes.changes_are in
        let more = append_assoc p.done.told p.done.waiting (answer ∷ []) in
        let lines = append_assoc p.done.told_lines p.done.waiting_lines (line ∷ []) in record {
          done = record p.done {
            waiting_lines = p.done.waiting_lines ++ line ∷ [];
            waiting = p.done.waiting ++ answer ∷ [];
          };
          script_is = p.script_is
              ∙ sym (append_assoc (p.done.told_lines ++ p.done.waiting_lines) (line ∷ []) rest)
              ∙ ap (λ before. before ++ rest) lines;
          state = p.state;
          runs = subst (λ before. Runs (start_of o.image o.map) before
              (p.done.told ++ (p.done.waiting ++ answer ∷ [])) p.state) lines
              (subst (λ before. Runs (start_of o.image o.map)
              ((p.done.told_lines ++ p.done.waiting_lines) ++ line ∷ []) before p.state) more
              (runs_more (start_of o.image o.map) p.state p.state (p.done.told_lines ++ p.done.waiting_lines)
              (p.done.told ++ p.done.waiting) line answer p.runs step));
          told_made = p.told_made;
          waiting_made = subst (AreMade (p.done.waiting_lines ++ line ∷ []) (p.done.waiting ++ answer ∷ []))
              (ap (λ change. p.done.waiting_changes ++ with_change change []) none
              ∙ append-nil p.done.waiting_changes)
              (are_made_more p.done.waiting_lines p.done.waiting p.done.waiting_changes line answer makes.change
              p.waiting_made makes.accepts);
          map_is = p.map_is;
          count_is = p.count_is;
          contents = p.contents;
          host_tells = p.host_tells;
          said_is = p.said_is;
          image_is = p.image_is;
          stands = p.stands;
          waiting_is = ap (λ bytes. bytes ++ answer_line answer) p.waiting_is
              ∙ ap (λ bytes. answer_lines p.done.waiting ++ bytes) (sym (append-nil (answer_line answer)))
              ∙ sym (flat_map-append answer_line p.done.waiting (answer ∷ []));
          changes_are = p.changes_are;
          each = λ c left. found_wider
              (IsKept o.map (p.done.told ++ p.done.waiting) (p.done.told_changes ++ p.done.waiting_changes)
              (length p.done.told_changes))
              (IsKept o.map (p.done.told ++ (p.done.waiting ++ answer ∷ []))
              (p.done.told_changes ++ p.done.waiting_changes) (length p.done.told_changes))
              (o.said ++ answer_lines p.done.told) c
              (λ m kept. record {
                kept = kept.kept;
                durable = λ n has. ⊎_elim (kept.durable n) (λ is. absurd (other n is))
                    (Contains-push_cases (p.done.told ++ p.done.waiting) answer (Epoch n)
                    (subst (λ all. Contains all (Epoch n)) (sym more) has));
                few = kept.few;
                is = kept.is;
              }) (p.each c left);
          only = p.only;
        }

  -- ---- A line that is answered where all answers were said.

  module _ (base : UnitsState H) (changes : ℕ)
      (s : Settled tells moment left_since o (line ∷ rest) base changes) (small : changes < 2 ^ 64)
      (now_left : (host : H) (c : Contents) → tells host ≡ Some c → left_since host (moment host) c)
      (longer : (host : H) (t u : ℕ) (c : Contents) → t ≤ u → left_since host u c → left_since host t c)
      (new : UnitsState H)
      (said : TellsOn (tells base.host) (tells new.host) (λ c d. d.said ≡ c.said))
      (any_moment : WhereTold tells base
      (λ c image. KeepsOrStores moment left_since image c.said base.host new.host)) where
    -- Its answer waits alone. No change that waits is durable yet.
    first_waits : (answer : Answer) (after : State) → Steps s.state line answer after → IsStateOf new after
        → ((more : List Change) → EachLeft moment left_since new.host (FindsOne
        (IsKept o.map (s.answers ++ answer ∷ []) (s.made ++ more) (length s.made))
        (o.said ++ answer_lines s.answers)))
        → Progress tells moment left_since o rest new (answer_line answer) after.changes
    first_waits answer after step state each =
        let makes = step_made one line answer s.state after step in
        let more = with_change makes.change [] in
        let at = TellsOn-some (tells base.host) (tells new.host) (λ c d. d.said ≡ c.said) s.contents s.host_tells said
        in record {
          done = record {
            told_lines = s.lines;
            told = s.answers;
            told_changes = s.made;
            waiting_lines = line ∷ [];
            waiting = answer ∷ [];
            waiting_changes = more;
          };
          script_is = s.script_is ∙ sym (append_assoc s.lines (line ∷ []) rest);
          state = after;
          runs = runs_more (start_of o.image o.map) s.state after s.lines s.answers line answer s.runs step;
          told_made = s.are_made;
          waiting_made = are_made_more [] [] [] line answer makes.change refl makes.accepts;
          map_is = makes.map_is ∙ ap (λ m. after_all m more) s.map_is ∙ sym (after_all-append o.map s.made more);
          count_is = makes.changes_are ∙ ap (λ n. n + length more) s.count_is ∙ sym (length-append s.made more);
          contents = at.0;
          host_tells = at.1;
          said_is = at.2 ∙ s.said_is;
          image_is = state.image_is;
          stands = state.stands;
          waiting_is = sym (append-nil (answer_line answer));
          changes_are = refl;
          each = each more;
          only = only_on tells moment left_since o now_left (line ∷ rest) base changes s small longer new any_moment;
        }

    -- what may be kept with one answer more, which is no epoch's
    one_more : (answer : Answer) → IsNoEpoch answer → (more : List Change) (m : Globals)
        → IsKept o.map s.answers s.made (length s.made) m
        → IsKept o.map (s.answers ++ answer ∷ []) (s.made ++ more) (length s.made) m
    one_more answer other more m kept = record {
      kept = kept.kept;
      durable = λ n has. ⊎_elim (kept.durable n) (λ is. absurd (other n is))
          (Contains-push_cases s.answers answer (Epoch n) has);
      few = kept.few;
      is = kept.is ∙ ap (after_all o.map) (sym (take-append-le kept.kept s.made more kept.few));
    }

    -- A change that is made.
    pub made_waits : (request : Request) → Asks line request → IsMadeOrRefused base new request None
        → Progress tells moment left_since o rest new (answer_line Done) (changes + 1)
    made_waits request asks make =
        let state : IsStateOf base s.state = record { image_is = s.image_is; stands = s.stands } in
        let made = make s.state state in
        let count : made.0.changes ≡ changes + 1 = made.2 ∙ ap (λ n. n + 1) (sym s.changes_are) in
        subst (Progress tells moment left_since o rest new (answer_line Done)) count
        (first_waits Done made.0 (inl (request, asks, made.1)) made.3
        (λ more c left. found_wider (IsKept o.map s.answers s.made (length s.made))
        (IsKept o.map (s.answers ++ Done ∷ []) (s.made ++ more) (length s.made)) (o.said ++ answer_lines s.answers) c
        (one_more Done (λ n is. done_no_epoch n is) more)
        (each_on tells moment left_since o now_left (line ∷ rest) base changes s small longer new any_moment c left)))

    -- An epoch.
    pub epoch_waits : Asks line asked.epoch → image_of new ≡ image_of base
        → WhereTold tells base (λ c image. IsStored moment left_since image c.said new.host)
        → Progress tells moment left_since o rest new (answer_line (Epoch changes)) changes
    epoch_waits asks same stored =
        let state : IsStateOf new s.state = record { image_is = same ∙ s.image_is; stands = s.stands } in
        let told = ap (λ n. Epoch n) s.changes_are in
        let count = s.changes_are ∙ s.count_is in
        subst (Progress tells moment left_since o rest new (answer_line (Epoch changes))) (sym s.changes_are)
        (first_waits (Epoch changes) s.state (inl (asked.epoch, asks, (told, refl))) state
        (λ more c left. one_found_stored
        (IsKept o.map (s.answers ++ Epoch changes ∷ []) (s.made ++ more) (length s.made))
        s.state.map s.state.image (o.said ++ answer_lines s.answers) c s.stands
        (record {
          kept = length s.made;
          durable = λ n has. ⊎_elim
              (durable tells moment left_since o now_left (line ∷ rest) base changes s small n)
              (λ is. let same_count : changes ≡ n = epoch_count changes n is in omega (arith, same_count, count))
              (Contains-push_cases s.answers (Epoch changes) (Epoch n) has);
          few = omega arith;
          is = s.map_is ∙ ap (after_all o.map) (sym (take_at s.made more (length s.made) refl));
        })
        (subst (λ text. IsStored moment left_since s.state.image text new.host) s.said_is
        (stored s.contents s.host_tells s.state.image s.image_is) c left)))

-- ---- What was only read.

module _ {H : Type 0} (tells : H → Option Contents) (moment : H → ℕ) (left_since : H → ℕ → Contents → Type 0)
    (o : Origin H) (rest : List (List ℕ)) where
  pub read_on : (longer : (host : H) (t u : ℕ) (c : Contents) → t ≤ u → left_since host u c → left_since host t c)
      (counts : H → Failures) (base new : UnitsState H) (waits : List ℕ) (changes : ℕ)
      → Progress tells moment left_since o rest base waits changes
      → OnlyRead tells moment counts left_since base new
      → Progress tells moment left_since o rest new waits changes
  read_on longer counts base new waits changes p read = record {
    done = p.done;
    script_is = p.script_is;
    state = p.state;
    runs = p.runs;
    told_made = p.told_made;
    waiting_made = p.waiting_made;
    map_is = p.map_is;
    count_is = p.count_is;
    contents = p.contents;
    host_tells = read.read.told ∙ p.host_tells;
    said_is = p.said_is;
    image_is = ap image_of read.rest ∙ p.image_is;
    stands = p.stands;
    waiting_is = p.waiting_is;
    changes_are = p.changes_are;
    each = λ c left. p.each c (read.crash.stays c left);
    only = then_more moment left_since o.host base.host new.host (IsAfterPrefix o.script o.map o.said) p.only
        (same_only moment left_since base.host new.host (IsAfterPrefix o.script o.map o.said) read.crash
        (each_now moment left_since longer o.host base.host (IsAfterPrefix o.script o.map o.said) p.only));
  }
