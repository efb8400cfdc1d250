-- A replay, one entry on.
use Rattle.std.proofs.Common.{◌≡◌, ℕ, ◌+◌, ◌<◌, List, [], ◌∷◌, length, map, take, get_or, sym, ap, ◌∙◌}
use Rattle.std.proofs.lemmas.List.{map-append, take_more}
use Rattle.host_mem.specs.declared.step.Entry.{Entry}
use Rattle.host_mem.specs.Entries.{step_of}
use Rattle.host_mem.specs.History.{State, apply, replayed}
use Rattle.host_mem.proofs.StateLemmas.{replayed-push}

pub replayed_more : (state : State) (entries : List Entry) (i : ℕ) (entry : Entry) → i < length entries
    → entry ≡ get_or entries i entry → replayed state (map step_of (take (i + 1) entries)) ≡ apply (step_of entry)
    (replayed state (map step_of (take i entries)))
replayed_more state entries i entry lt is =
    ap (λ (s : List Entry). replayed state (map step_of s)) (take_more entries i entry lt)
    ∙ ap (λ s. replayed state s) (map-append step_of (take i entries) (get_or entries i entry ∷ []))
    ∙ replayed-push state (map step_of (take i entries)) (step_of (get_or entries i entry))
    ∙ ap (λ (x : Entry). apply (step_of x) (replayed state (map step_of (take i entries)))) (sym is)
