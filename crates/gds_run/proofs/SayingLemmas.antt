-- Answers that wait are said.
use Rattle.std.proofs.Common.{◌≡◌, ℕ, ◌+◌, ◌^◌, ◌<◌, ◌≤◌, List, [], ◌++◌, length, take, Option, Some}
use Rattle.std.proofs.Common.{arith, sym, ap, subst, ◌∙◌, append-nil, append_assoc, length-append}
use Rattle.std.proofs.lemmas.Grind.{flat_map-append}
use Rattle.std.proofs.Math.Seq.{take-append-add}
use Rattle.host_model.specs.Files.{Contents, saying}
use Rattle.host_model.specs.Moments.{EachLeft, LeavesOnly}
use Rattle.host_model.proofs.MomentLemmas.{then_more, weaker}
use Rattle.m_key.specs.Globals.{Change, Globals}
use Rattle.gds_units.specs.Durable.{KeepsSaying}
use Rattle.gds_units.specs.State.{UnitsState, image_of}
use Rattle.gds_script.specs.declared.answer.Answer.{Answer}
use Rattle.gds_script.specs.Answer.{answer_line, answer_lines}
use Rattle.gds_script.specs.Finding.{FindsOne}
use Rattle.gds_script.specs.Made.{IsKept}
use Rattle.gds_script.specs.Said.{IsAfterPrefix}
use Rattle.gds_run.specs.Progress.{IsCutShort, Origin, Progress}
use Rattle.gds_script.proofs.FindingLemmas.{FindsSaying, found_wider, one_still_saying}
use Rattle.gds_script.proofs.MadeLemmas.{are_made_joined}
use Rattle.gds_script.proofs.PrefixLemmas.{after_prefix}
use Rattle.gds_run.proofs.FoundLemmas.{each_now, one_text}
use Rattle.gds_run.proofs.SettledLemmas.{Settled}

module _ {H : Type 0} (tells : H → Option Contents) (moment : H → ℕ) (left_since : H → ℕ → Contents → Type 0)
    (longer : (host : H) (t u : ℕ) (c : Contents) → t ≤ u → left_since host u c → left_since host t c)
    (o : Origin H) (rest : List (List ℕ)) (base : UnitsState H) (waits : List ℕ) (changes : ℕ)
    (p : Progress tells moment left_since o rest base waits changes) (small : changes < 2 ^ 64) where
  -- all lines that were answered, their answers, and the changes that were made
  abbrev lines : List (List ℕ)
  lines = p.done.told_lines ++ p.done.waiting_lines

  abbrev answers : List Answer
  answers = p.done.told ++ p.done.waiting

  abbrev made : List Change
  made = p.done.told_changes ++ p.done.waiting_changes

  -- which maps may be kept
  abbrev MayBeKept : Globals → Type 0
  MayBeKept = IsKept o.map answers made (length p.done.told_changes)

  -- what was said, and what has been said once all was
  abbrev text : List ℕ
  text = o.said ++ answer_lines p.done.told

  whole_text : text ++ waits ≡ o.said ++ answer_lines answers
  whole_text =
      ap (λ bytes. text ++ bytes) p.waiting_is
      ∙ append_assoc o.said (answer_lines p.done.told) (answer_lines p.done.waiting)
      ∙ ap (λ bytes. o.said ++ bytes) (sym (flat_map-append answer_line p.done.told p.done.waiting))

  -- More may be kept once all was said.
  now_kept : (m : Globals) → MayBeKept m → IsKept o.map answers made (length made) m
  now_kept m kept = record {
    kept = kept.kept;
    durable = kept.durable;
    few = omega (arith, kept.few, length-append p.done.told_changes p.done.waiting_changes);
    is = kept.is;
  }

  -- Some bytes of what waits were said.
  said_prefix : (c : Contents) → FindsSaying MayBeKept text waits c
      → IsAfterPrefix o.script o.map o.said c
  said_prefix c one =
      after_prefix o.map o.said o.script p.done.told_lines p.done.waiting_lines rest p.done.told p.done.waiting
      p.done.told_changes p.done.waiting_changes p.script_is p.told_made p.waiting_made
      (omega (arith, small, p.changes_are, p.count_is, length-append p.done.told_changes p.done.waiting_changes))
      one.0 c (subst (λ bytes. FindsOne MayBeKept (text ++ take one.0 bytes) c) p.waiting_is one.1)

  module _ (new : H) (saying_it : KeepsSaying moment left_since waits base.host new) where
    on_the_way : LeavesOnly moment left_since base.host new
        (FindsSaying MayBeKept text waits)
    on_the_way = one_still_saying moment left_since base.host new MayBeKept text waits p.each saying_it

    pub only_saying : LeavesOnly moment left_since o.host new (IsAfterPrefix o.script o.map o.said)
    only_saying =
        then_more moment left_since o.host base.host new (IsAfterPrefix o.script o.map o.said) p.only
        (weaker moment left_since base.host new (FindsSaying MayBeKept text waits)
        (IsAfterPrefix o.script o.map o.said) said_prefix on_the_way)

    -- Some of the first bytes were said.
    pub cut_short : (said : Contents) → tells new ≡ Some said → (n : ℕ) → said ≡ saying p.contents (take n waits)
        → IsCutShort tells moment left_since o new
    cut_short said tells_it n is = record {
      lines = lines;
      rest = rest;
      script_is = p.script_is;
      answers = answers;
      state = p.state;
      runs = p.runs;
      contents = said;
      host_tells = tells_it;
      n = length (answer_lines p.done.told) + n;
      said_is = ap (λ (c : Contents). c.said) is ∙ ap (λ bytes. bytes ++ take n waits) p.said_is
          ∙ ap (λ bytes. text ++ take n bytes) p.waiting_is
          ∙ append_assoc o.said (answer_lines p.done.told) (take n (answer_lines p.done.waiting))
          ∙ ap (λ bytes. o.said ++ bytes)
          (sym (take-append-add (answer_lines p.done.told) (answer_lines p.done.waiting) n))
          ∙ ap (λ bytes. o.said ++ take (length (answer_lines p.done.told) + n) bytes)
          (sym (flat_map-append answer_line p.done.told p.done.waiting));
      only = only_saying;
    }

    each_saying : (said : Contents) → said ≡ saying p.contents waits
        → ((c : Contents) → left_since new (moment new) c → c.said ≡ said.said)
        → EachLeft moment left_since new (FindsOne (IsKept o.map answers made (length made))
        (o.said ++ answer_lines answers))
    each_saying said is stays c left =
        let one = each_now moment left_since longer base.host new
        (FindsSaying MayBeKept text waits) on_the_way c left in
        one_text (IsKept o.map answers made (length made)) (text ++ take one.0 waits) (o.said ++ answer_lines answers) c
        (found_wider MayBeKept (IsKept o.map answers made (length made)) (text ++ take one.0 waits) c now_kept one.1)
        (stays c left ∙ ap (λ (d : Contents). d.said) is ∙ ap (λ bytes. bytes ++ waits) p.said_is ∙ whole_text)

  -- All was said.
  pub settled_saying : (new : UnitsState H) → image_of new ≡ image_of base
      → KeepsSaying moment left_since waits base.host new.host
      → (said : Contents) → tells new.host ≡ Some said → said ≡ saying p.contents waits
      → ((c : Contents) → left_since new.host (moment new.host) c → c.said ≡ said.said)
      → Settled tells moment left_since o rest new changes
  settled_saying new same saying_it said tells_it is stays = record {
    lines = lines;
    answers = answers;
    made = made;
    script_is = p.script_is;
    state = p.state;
    runs = p.runs;
    are_made = are_made_joined p.done.told_lines p.done.waiting_lines p.done.told p.done.waiting p.done.told_changes
        p.done.waiting_changes p.told_made p.waiting_made;
    map_is = p.map_is;
    count_is = p.count_is;
    contents = said;
    host_tells = tells_it;
    said_is = ap (λ (c : Contents). c.said) is ∙ ap (λ bytes. bytes ++ waits) p.said_is ∙ whole_text;
    image_is = same ∙ p.image_is;
    stands = p.stands;
    changes_are = p.changes_are;
    each = each_saying new.host saying_it said is stays;
    only = only_saying new.host saying_it;
  }

  -- Where nothing waits all was said.
  pub settled : waits ≡ [] → Settled tells moment left_since o rest base changes
  settled none =
      let all : text ≡ o.said ++ answer_lines answers =
      sym (append-nil text) ∙ ap (λ bytes. text ++ bytes) (sym none) ∙ whole_text in record {
        lines = lines;
        answers = answers;
        made = made;
        script_is = p.script_is;
        state = p.state;
        runs = p.runs;
        are_made = are_made_joined p.done.told_lines p.done.waiting_lines p.done.told p.done.waiting p.done.told_changes
            p.done.waiting_changes p.told_made p.waiting_made;
        map_is = p.map_is;
        count_is = p.count_is;
        contents = p.contents;
        host_tells = p.host_tells;
        said_is = p.said_is ∙ all;
        image_is = p.image_is;
        stands = p.stands;
        changes_are = p.changes_are;
        each = λ c left. let one = p.each c left in
            one_text (IsKept o.map answers made (length made)) text (o.said ++ answer_lines answers) c
            (found_wider MayBeKept (IsKept o.map answers made (length made)) text c now_kept one)
            (one.finds.said ∙ all);
        only = p.only;
      }
