-- The end of a run: the last line was an EPOCH, and the file is cut to the length of the database.
use Rattle.std.proofs.Common.{◌≡◌, ℕ, ◌^◌, ◌<◌, ◌≤◌, List, [], ◌∷◌, ◌++◌, length, Contains, Option, Some, codes, take}
use Rattle.std.proofs.Common.{arith, sym, ap, subst, ◌∙◌, append-nil, inl, refl, take_all, ◌⊎◌}
use Rattle.host_model.specs.Files.{Contents}
use Rattle.host_model.specs.Moments.{EachLeft}
use Rattle.host_model.specs.Told.{TellsOn}
use Rattle.host_model.proofs.FrameLemmas.{TellsOn-some}
use Rattle.host_model.proofs.MomentLemmas.{weaker}
use Rattle.m_key.specs.Globals.{Globals, after_all}
use Rattle.gds_base.specs.Finds.{Finds}
use Rattle.gds_sound.specs.Stands.{StandsFor}
use Rattle.gds_units.specs.Durable.{AsBefore, Keeps, KeepsOrStores, Stores}
use Rattle.gds_units.specs.State.{UnitsState, WhereTold, image_of}
use Rattle.gds_script.specs.declared.answer.Answer.TheVariants.{Epoch}
use Rattle.gds_script.specs.Answer.{answer_lines}
use Rattle.gds_script.specs.Finding.{FindsOne}
use Rattle.gds_script.specs.Made.{IsKept}
use Rattle.gds_script.specs.Script.{Runs, start_of}
use Rattle.gds_script.proofs.RunLemmas.{last_epoch}
use Rattle.gds_script.proofs.ScriptLemmas.{epoch_asks}
use Rattle.gds_script.proofs.StepLemmas.{OneRequest}
use Rattle.gds_run.specs.Progress.{IsCutShort, IsWhole, Origin, Progress}
use Rattle.gds_run.proofs.SayingLemmas.{settled}
use Rattle.gds_run.proofs.SettledLemmas.{Settled, settled_on}

some_db : (a b : List ℕ) → Some a ≡ Some b → a ≡ b
some_db a b e = cc

module _ {H : Type 0} (tells : H → Option Contents) (moment : H → ℕ) (left_since : H → ℕ → Contents → Type 0)
    (o : Origin H) where
  module _ (base : UnitsState H) (changes : ℕ) (s : Settled tells moment left_since o [] base changes) where
    script_done : o.script ≡ s.lines
    script_done = s.script_is ∙ append-nil s.lines

    runs_script : Runs (start_of o.image o.map) o.script s.answers s.state
    runs_script =
        subst (λ lines. Runs (start_of o.image o.map) lines s.answers s.state) (sym script_done) s.runs

    -- It was broken off, when all was answered and said.
    pub cut_at_end : IsCutShort tells moment left_since o base.host
    cut_at_end = record {
      lines = s.lines;
      rest = [];
      script_is = s.script_is;
      answers = s.answers;
      state = s.state;
      runs = s.runs;
      contents = s.contents;
      host_tells = s.host_tells;
      n = length (answer_lines s.answers);
      said_is = s.said_is ∙ ap (λ bytes. o.said ++ bytes)
          (sym (take_all (length (answer_lines s.answers)) (answer_lines s.answers) (omega arith)));
      only = s.only;
    }

    module _ (one : OneRequest) (front : List (List ℕ)) (ends : o.script ≡ front ++ codes "EPOCH" ∷ []) where
      tells_all : Contains s.answers (Epoch s.state.changes)
      tells_all =
          last_epoch one (start_of o.image o.map) s.state front (codes "EPOCH") s.answers epoch_asks
          (subst (λ lines. Runs (start_of o.image o.map) lines s.answers s.state) ends runs_script)

      all_found : (text : List ℕ) (c : Contents)
          → FindsOne (IsKept o.map s.answers s.made (length s.made)) text c → Finds s.state.map c.said c
      all_found text c found =
          let all : length s.made ≤ found.has.kept =
          omega (arith, found.has.durable s.state.changes tells_all, s.count_is) in
          let is : found.map ≡ s.state.map =
          found.has.is ∙ ap (after_all o.map) (take_all found.has.kept s.made all) ∙ sym s.map_is in
          record {
            image = found.finds.image;
            recovers = found.finds.recovers;
            stands = subst (λ m. StandsFor found.finds.image m) is found.finds.stands;
            said = refl;
          }

      -- The file is the image.
      pub whole_at_end : (file : Option (List ℕ)) → file ≡ image_of base
          → ((c : Contents) → tells base.host ≡ Some c → file ≡ Some c.db)
          → ((c : Contents) → left_since base.host (moment base.host) c → c.said ≡ s.contents.said)
          → IsWhole tells moment left_since o base.host
      whole_at_end file same held stays = record {
        answers = s.answers;
        state = s.state;
        runs = runs_script;
        contents = s.contents;
        host_tells = s.host_tells;
        said_is = s.said_is;
        file_is = some_db s.contents.db s.state.image (sym (held s.contents s.host_tells) ∙ same ∙ s.image_is);
        stands = s.stands;
        only = s.only;
        each = λ c left. subst (λ text. Finds s.state.map text c) (stays c left)
            (all_found (o.said ++ answer_lines s.answers) c (s.each c left));
      }

  -- Through a call that keeps, as the cut of the file
  module _ (now_left : (host : H) (c : Contents) → tells host ≡ Some c → left_since host (moment host) c)
      (longer : (host : H) (t u : ℕ) (c : Contents) → t ≤ u → left_since host u c → left_since host t c)
      (old new : UnitsState H) (changes : ℕ) (small : changes < 2 ^ 64) where
    pub kept_settled : Progress tells moment left_since o [] old [] changes
        → WhereTold tells old (λ c image. Keeps moment left_since old.host new.host) → image_of new ≡ image_of old
        → TellsOn (tells old.host) (tells new.host) (λ c d. d.said ≡ c.said)
        → Settled tells moment left_since o [] new changes
    kept_settled p keeps same said =
        settled_on tells moment left_since o now_left [] old changes
        (settled tells moment left_since longer o [] old [] changes p small refl) small longer new
        (λ c told image is. weaker moment left_since old.host new.host (AsBefore moment left_since old.host)
        (λ d. AsBefore moment left_since old.host d ⊎ Stores image c.said d) (λ d as_before. inl as_before)
        (keeps c told image is)) same said
