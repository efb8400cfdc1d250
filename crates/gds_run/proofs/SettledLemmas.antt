-- Lines that were answered, where all answers were said.
use Rattle.std.proofs.Common.{◌≡◌, ℕ, ◌^◌, ◌<◌, ◌≤◌, List, [], ◌++◌, length, Contains, Option, Some, arith}
use Rattle.std.proofs.Common.{refl, sym, ap, subst, ◌∙◌, append-nil, take_all}
use Rattle.host_model.specs.Files.{Contents}
use Rattle.host_model.specs.Moments.{EachLeft, LeavesOnly}
use Rattle.host_model.specs.Told.{TellsOn}
use Rattle.host_model.proofs.FrameLemmas.{TellsOn-some}
use Rattle.host_model.proofs.MomentLemmas.{then_more, weaker}
use Rattle.m_key.specs.Globals.{Change, after_all}
use Rattle.gds_sound.specs.Stands.{StandsFor}
use Rattle.gds_units.specs.Durable.{KeepsOrStores}
use Rattle.gds_units.specs.State.{UnitsState, WhereTold, image_of}
use Rattle.gds_script.specs.declared.answer.Answer.{Answer}
use Rattle.gds_script.specs.declared.answer.Answer.TheVariants.{Epoch}
use Rattle.gds_script.specs.Answer.{answer_lines}
use Rattle.gds_script.specs.Finding.{FindsOne}
use Rattle.gds_script.specs.Made.{AreMade, IsKept}
use Rattle.gds_script.specs.Said.{IsAfterPrefix}
use Rattle.gds_script.specs.Script.{Runs, State, start_of}
use Rattle.gds_run.specs.Progress.{Origin, Progress}
use Rattle.gds_script.proofs.FindingLemmas.{one_kept_or_stored}
use Rattle.gds_script.proofs.PrefixLemmas.{after_prefix_now}
use Rattle.gds_run.proofs.FoundLemmas.{each_now}

module _ {H : Type 0} (tells : H → Option Contents) (moment : H → ℕ) (left_since : H → ℕ → Contents → Type 0)
    (o : Origin H) where
  -- These lines of the script are left, and the answers of those before them were said.
  pub record Settled (rest : List (List ℕ)) (base : UnitsState H) (changes : ℕ) : Type 0 where
    pub lines : List (List ℕ)
    pub answers : List Answer
    pub made : List Change
    pub script_is : o.script ≡ lines ++ rest
    pub state : State
    pub runs : Runs (start_of o.image o.map) lines answers state
    pub are_made : AreMade lines answers made
    pub map_is : state.map ≡ after_all o.map made
    pub count_is : state.changes ≡ length made
    pub contents : Contents
    pub host_tells : tells base.host ≡ Some contents
    pub said_is : contents.said ≡ o.said ++ answer_lines answers
    pub image_is : image_of base ≡ Some state.image
    pub stands : StandsFor state.image state.map
    pub changes_are : changes ≡ state.changes
    pub each : EachLeft moment left_since base.host
        (FindsOne (IsKept o.map answers made (length made)) (o.said ++ answer_lines answers))
    pub only : LeavesOnly moment left_since o.host base.host (IsAfterPrefix o.script o.map o.said)

  -- No answer waits.
  pub progress_of : (rest : List (List ℕ)) (base : UnitsState H) (changes : ℕ) → Settled rest base changes
      → Progress tells moment left_since o rest base [] changes
  progress_of rest base changes s =
      let no_lines = append-nil s.lines in
      let no_answers = append-nil s.answers in
      let no_changes = append-nil s.made in record {
        done = record {
          told_lines = s.lines;
          told = s.answers;
          told_changes = s.made;
          waiting_lines = [];
          waiting = [];
          waiting_changes = [];
        };
        script_is = subst (λ lines. o.script ≡ lines ++ rest) (sym no_lines) s.script_is;
        state = s.state;
        runs = subst (λ lines. Runs (start_of o.image o.map) lines (s.answers ++ []) s.state) (sym no_lines)
            (subst (λ answers. Runs (start_of o.image o.map) s.lines answers s.state) (sym no_answers) s.runs);
        told_made = s.are_made;
        waiting_made = refl;
        map_is = s.map_is ∙ ap (after_all o.map) (sym no_changes);
        count_is = s.count_is ∙ ap (λ (made : List Change). length made) (sym no_changes);
        contents = s.contents;
        host_tells = s.host_tells;
        said_is = s.said_is;
        image_is = s.image_is;
        stands = s.stands;
        waiting_is = refl;
        changes_are = s.changes_are;
        each = subst (λ answers. EachLeft moment left_since base.host
            (FindsOne (IsKept o.map answers (s.made ++ []) (length s.made)) (o.said ++ answer_lines s.answers)))
            (sym no_answers)
            (subst (λ made. EachLeft moment left_since base.host
            (FindsOne (IsKept o.map s.answers made (length s.made)) (o.said ++ answer_lines s.answers)))
            (sym no_changes) s.each);
        only = s.only;
      }

  -- What finds one of the maps that may be kept is after a prefix.
  pub settled_prefix : (rest : List (List ℕ)) (base : UnitsState H) (changes : ℕ) (s : Settled rest base changes)
      → changes < 2 ^ 64 → (c : Contents)
      → FindsOne (IsKept o.map s.answers s.made (length s.made)) (o.said ++ answer_lines s.answers) c
      → IsAfterPrefix o.script o.map o.said c
  settled_prefix rest base changes s small c one =
      after_prefix_now o.map o.said o.script s.lines [] rest s.answers [] s.made []
      (subst (λ lines. o.script ≡ lines ++ rest) (sym (append-nil s.lines)) s.script_is) s.are_made refl
      (omega (arith, small, s.changes_are, s.count_is)) c
      (subst (λ answers. FindsOne (IsKept o.map answers (s.made ++ []) (length s.made))
      (o.said ++ answer_lines s.answers) c) (sym (append-nil s.answers))
      (subst (λ made. FindsOne (IsKept o.map s.answers made (length s.made)) (o.said ++ answer_lines s.answers) c)
      (sym (append-nil s.made)) one))

  module _ (now_left : (host : H) (c : Contents) → tells host ≡ Some c → left_since host (moment host) c)
      (rest : List (List ℕ)) (base : UnitsState H) (changes : ℕ) (s : Settled rest base changes)
      (small : changes < 2 ^ 64) where
    -- No more is durable than was made.
    pub durable : (n : ℕ) → Contains s.answers (Epoch n) → n ≤ length s.made
    durable n has =
        let now = s.each s.contents (now_left base.host s.contents s.host_tells) in
        omega (arith, now.has.durable n has, now.has.few)

    -- The map of the image may be kept.
    pub all_kept : IsKept o.map s.answers s.made (length s.made) s.state.map
    all_kept = record {
      kept = length s.made;
      durable = durable;
      few = omega arith;
      is = s.map_is ∙ ap (after_all o.map) (sym (take_all (length s.made) s.made (omega arith)));
    }

    module _ (longer : (host : H) (t u : ℕ) (c : Contents) → t ≤ u → left_since host u c → left_since host t c)
        (new : UnitsState H)
        (any_moment : WhereTold tells base
        (λ c image. KeepsOrStores moment left_since image c.said base.host new.host)) where
      -- through a call that keeps what was found or stores the image
      pub found_on : LeavesOnly moment left_since base.host new.host
          (FindsOne (IsKept o.map s.answers s.made (length s.made)) (o.said ++ answer_lines s.answers))
      found_on =
          one_kept_or_stored moment left_since base.host new.host (IsKept o.map s.answers s.made (length s.made))
          s.state.map s.state.image (o.said ++ answer_lines s.answers) s.each s.stands all_kept
          (subst (λ text. KeepsOrStores moment left_since s.state.image text base.host new.host) s.said_is
          (any_moment s.contents s.host_tells s.state.image s.image_is))

      pub each_on : EachLeft moment left_since new.host
          (FindsOne (IsKept o.map s.answers s.made (length s.made)) (o.said ++ answer_lines s.answers))
      each_on =
          each_now moment left_since longer base.host new.host
          (FindsOne (IsKept o.map s.answers s.made (length s.made)) (o.said ++ answer_lines s.answers)) found_on

      pub only_on : LeavesOnly moment left_since o.host new.host (IsAfterPrefix o.script o.map o.said)
      only_on =
          then_more moment left_since o.host base.host new.host (IsAfterPrefix o.script o.map o.said) s.only
          (weaker moment left_since base.host new.host
          (FindsOne (IsKept o.map s.answers s.made (length s.made)) (o.said ++ answer_lines s.answers))
          (IsAfterPrefix o.script o.map o.said) (settled_prefix rest base changes s small) found_on)

      -- The image stays.
      pub settled_on : image_of new ≡ image_of base
          → TellsOn (tells base.host) (tells new.host) (λ c d. d.said ≡ c.said) → Settled rest new changes
      settled_on same said =
          let at = TellsOn-some (tells base.host) (tells new.host) (λ c d. d.said ≡ c.said) s.contents s.host_tells said
          in record {
            lines = s.lines;
            answers = s.answers;
            made = s.made;
            script_is = s.script_is;
            state = s.state;
            runs = s.runs;
            are_made = s.are_made;
            map_is = s.map_is;
            count_is = s.count_is;
            contents = at.0;
            host_tells = at.1;
            said_is = at.2 ∙ s.said_is;
            image_is = same ∙ s.image_is;
            stands = s.stands;
            changes_are = s.changes_are;
            each = each_on;
            only = only_on;
          }
