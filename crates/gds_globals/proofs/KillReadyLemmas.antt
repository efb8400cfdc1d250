-- A draft of a KILL that is made ready for a commit.
use Rattle.std.proofs.Common.{◌≡◌, ℕ, ◌<◌, ◌^◌, List, Option, None, Some, sym, ap, subst, arith}
use Rattle.std.specs.Prelude.{All}
use Rattle.std.specs.Option.{ForSome}
use Rattle.gds_base.specs.Faultless.{IsFaultless}
use Rattle.gds_draft.specs.Draft.{DraftState}
use Rattle.gds_draft.specs.Drafted.{drafted}
use Rattle.gds_draft.specs.Laws.{IsDraftOf}
use Rattle.gds_draft.proofs.CommitLemmas.{committed_is_stamped}
use Rattle.gds_draft.proofs.DraftLemmas.{drafted_read}
use Rattle.gds_file.proofs.ChangeLemmas.{items_outside_are_kill}
use Rattle.gds_file.proofs.StampLemmas.{stamp_keeps_trees}
use Rattle.gds_header.specs.declared.header.Header.{Header}
use Rattle.m_key.specs.Globals.{Place}
use Rattle.gds_globals.specs.Kill.{IsNothingThere, IsSomethingThere}
use Rattle.gds_globals.specs.Killing.{HasTrees, IsSoundWithout, LeadsToKill}
use Rattle.gds_globals.proofs.AskLemmas.{IsEmptyOf}
use Rattle.gds_globals.proofs.DraftingLemmas.{none_from}
use Rattle.gds_globals.proofs.ReadyLemmas.{same_empty}
use Rattle.gds_globals.proofs.RootLemmas.{NoTrees, Roots}
use Rattle.gds_globals.proofs.TakingLemmas.{Cannot, Kills}
use Rattle.gds_globals.proofs.WithinLemmas.{nothing_there, something_there}

module _ (told : Option (List ℕ)) (empty : DraftState) (empties : ForSome told (λ image. IsEmptyOf image empty))
    (faultless : ForSome told IsFaultless) (bytes : ForSome told (All (λ b. b < 256))) (p : Place) where
  trees : (image : List ℕ) (is : told ≡ Some image)
      → HasTrees image (faultless image is).directory (faultless image is).globals
  trees image is = record { sound = (faultless image is).sound; bytes = bytes image is }

  drafted_trees : (image : List ℕ) (is : told ≡ Some image)
      → HasTrees (drafted empty image) (faultless image is).directory (faultless image is).globals
  drafted_trees image is =
      subst (λ f. HasTrees f (faultless image is).directory (faultless image is).globals)
      (sym (same_empty image empty (empties image is) (bytes image is) (faultless image is))) (trees image is)

  pub never_without : NoTrees told empty p → told ≡ None
  never_without none =
      none_from told (λ image is.
      none image is (faultless image is).directory (faultless image is).globals (drafted_trees image is))

  pub nothing_told : Roots told empty p None → ForSome told (IsNothingThere p.node)
  nothing_told roots image is m stands =
      let f = faultless image is in
      nothing_there image f.directory f.globals (trees image is) m stands p
      (roots image is f.directory f.globals (drafted_trees image is))

  module _ (root : ℕ) (roots : Roots told empty p (Some root)) where
    pub something_told : ForSome told (IsSomethingThere p.node)
    something_told image is m stands =
        let f = faultless image is in
        something_there image f.directory f.globals (trees image is) m stands p
        (roots image is f.directory f.globals (drafted_trees image is)).1

    pub never_changed : Cannot told empty p root → told ≡ None
    never_changed cannot =
        none_from told (λ image is.
        let f = faultless image is in
        cannot image is f.directory f.globals (drafted_trees image is)
        (roots image is f.directory f.globals (drafted_trees image is)).0)

    module _ (last : DraftState) (kills : Kills told empty p root last) where
      without : (image : List ℕ) (is : told ≡ Some image)
          → IsSoundWithout (drafted last image) (faultless image is).globals p.node
      without image is =
          let f = faultless image is in
          kills image is f.directory f.globals (drafted_trees image is)
          (roots image is f.directory f.globals (drafted_trees image is)).0

      pub faultless_then : ForSome told (λ image. IsFaultless (drafted last image))
      faultless_then image is =
          let w = without image is in
          record { directory = w.directory; globals = w.globals; sound = w.sound }

      pub leads_then : ForSome told (λ image. IsDraftOf image last) → last.header.tn < 2 ^ 63
          → ForSome told (LeadsToKill last p)
      leads_then drafts few image is file made m stands =
          let f = faultless image is in
          let w = without image is in
          let fields = (drafted_read image last (drafts image is)).fields in
          let sound = stamp_keeps_trees (drafted last image) file w.directory w.globals w.sound
          (committed_is_stamped image last file (drafts image is) few made)
          (omega (arith, few, ap (λ (h : Header). h.tn) fields)) in
          items_outside_are_kill image file f.directory w.directory f.globals w.globals m p f.sound stands sound
          w.outside
