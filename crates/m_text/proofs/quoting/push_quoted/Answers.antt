use Rattle.std.proofs.Common.{◌≡◌, ◌++◌, ◌∷◌, [], length, take, flat_map, List, ℕ, arith, sym, ap, ◌∙◌}
use Rattle.std.proofs.lemmas.List.{take_rest, append_assoc}
use Rattle.m_text.specs.Grammar.{doubled}
use Rattle.m_text.proofs.BeginLemmas.{begins_more}
use Rattle.m_text.proofs.RunLemmas.{quoted_step, doubled_plain}
use Rattle.m_text.proofs.quoting.push_quoted.Goals as goal

pub loop-at-preserved : goal.loop-at-preserved
loop-at-preserved c =
    let old : List ℕ = c.args.out.now.items in
    let rest : List ℕ = c.loop-at.rest.now in
    let k : ℕ = c.in-Some.at in
    let first = c.in-Some.ensures in
    let pushed : c.extend_from_slice.new.self.items ≡ c.loop-at.out.items ++ take k rest =
    c.in_ok-extend_from_slice.ensures.items
    ∙ ap (λ (t : List ℕ). c.loop-at.out.items ++ t) c.split_at.ensures.front in
    let quotes : c.extend_from_slice-in-Some.new.self.items ≡ c.extend_from_slice.new.self.items ++ 34 ∷ 34 ∷ [] =
    c.in_ok-extend_from_slice-2.ensures.items in
    let begun : take (length old) c.extend_from_slice.new.self.items ≡ old =
    rw pushed (begins_more old c.loop-at.out.items (take k rest) c.loop-at.invariant.begins) in
    record {
      text = rw (
        take_rest c.split_at.result.1.now 1,
        c.split_at.ensures.back,
      ) (quoted_step c.loop-at.out.items _ _ rest _ k first.0.high
          (λ j l. first.0.before j (omega arith) l) first.1 c.loop-at.invariant.text pushed quotes);
      begins = rw quotes (begins_more old c.extend_from_slice.new.self.items (34 ∷ 34 ∷ []) begun);
    }

pub returns-clause-ok : goal.returns-clause-ok
returns-clause-ok c =
    let old : List ℕ = c.args.out.now.items in
    let rest : List ℕ = c.loop-at.rest.now in
    c.in_ok-push-2.ensures.items
    ∙ ap (λ (t : List ℕ). t ++ 34 ∷ []) (c.in_ok-extend_from_slice-3.ensures.items
    ∙ ap (λ (t : List ℕ). c.loop-at.out.items ++ t)
    (sym (doubled_plain rest (λ k l. c.in_default.ensures k (omega arith) l))) ∙ c.loop-at.invariant.text)
    ∙ append_assoc old (34 ∷ flat_map doubled c.args.run.now) (34 ∷ [])
