-- Entries in the place of neighbouring children, up to the root.
use Rattle.std.proofs.Common.{◌≡◌, ◌+◌, ◌<◌, ◌≤◌, ℕ, suc, Bool, false, List, [], ◌∷◌, ◌++◌, length, None, Some}
use Rattle.std.proofs.Common.{inl, inr, sym, ap, ◌∙◌, subst, arith}
use Rattle.std.specs.Prelude.{◌==◌}
use Rattle.std.proofs.lemmas.Bool.{false≢true}
use Rattle.std.proofs.lemmas.List.{length-map}
use Rattle.std.proofs.lemmas.List.Elements.{All-nil}
use Rattle.gds_block.specs.Item.{Item}
use Rattle.gds_header.specs.Fields.{fields_of}
use Rattle.gds_law.specs.Visit.{Visit}
use Rattle.gds_pack.specs.Entry.{items}
use Rattle.gds_pack.specs.Packed.{packed_size}
use Rattle.gds_sound.specs.Sound.{Tree}
use Rattle.gds_tree.specs.Around.{around}
use Rattle.gds_tree.specs.RightBlock.{IsDueLevel}
use Rattle.gds_ancestors.specs.Ancestors.{Ancestor, outer_blocks}
use Rattle.gds_find.specs.declared.trail.Step.{Step}
use Rattle.gds_splice.specs.NodePut.{CannotPut, IsHighest, IsToPut, PutsNode}
use Rattle.gds_splice.specs.Parted.{MayPart, items_around, part_blocks}
use Rattle.gds_splice.specs.Parting.{CannotGrow, CannotPart, IsFull, IsToPart, IsTooDeep, PartsUpwards}
use Rattle.gds_splice.specs.Parts.{FitInThree}
use Rattle.gds_splice.specs.SplicedNode.{CannotSpliceAt, IsSplicedAt, IsStepToSpan}
use Rattle.gds_splice.specs.Splicing.{CannotGrowAt, CannotSplice, IsToSplice, IsTooDeepFor, Span, SplicesAt}
use Rattle.gds_splice.specs.Splicing.{new_entries, spliced_entries}
use Rattle.gds_splice.specs.declared.node.Node.{Node}
use Rattle.gds_splice.specs.declared.parts.Parts.{Parts}
use Rattle.gds_splice.proofs.AncestorLemmas.{becomes_behind}
use Rattle.gds_splice.proofs.ImageLemmas.{image_of}
use Rattle.gds_splice.proofs.PartingLemmas.{IsLast, last_step, none_if, steps_long, still_full}
use Rattle.gds_splice.proofs.SpanLemmas.{fits_in_place, takes}
use Rattle.gds_splice.proofs.SplicingLemmas.{spliced_may_part}

-- the index block as an ancestor of the first child that goes
abbrev at_span : Visit → Span → Ancestor
at_span v p = record {
  visit = v;
  front = p.front;
  entry = record { key = []; rest = [] };
  back = p.back;
  left = p.left;
  right = p.right;
}

module _ (file : List ℕ) (steps outer : List Step) (step : Step) (top : Bool) (taken : ℕ) (put : List Item)
    (is : steps ≡ outer ++ step ∷ []) (empty : top ≡ (length outer == 0)) where
  last_of : (root : Visit) (above : List Ancestor) (v : Visit) (level : ℕ) (p : Span) (middle : Tree)
      → IsToSplice file root above v level p put middle steps taken → IsLast (at_span v p) above outer step
  last_of root above v level p middle s = last_step (at_span v p) above steps outer step is s.leads

  to_span : (root : Visit) (above : List Ancestor) (v : Visit) (level : ℕ) (p : Span) (middle : Tree)
      → IsToSplice file root above v level p put middle steps taken
      → IsStepToSpan file step taken v level p.front p.gone p.back
  to_span root above v level p middle s =
      let l = last_of root above v level p middle s in record {
        image = image_of file s.may.maps;
        block = l.block;
        has = s.may.has;
        gone_are = record { place = l.place; count = s.count; some = s.some };
      }

  pub cannot_read : CannotSpliceAt step taken put file → CannotSplice steps taken put file
  cannot_read cannot root above v level p middle s free =
      cannot v level p.front p.gone p.back (to_span root above v level p middle s) s.may.lawful.packable

  module _ (node : Node) (spliced : IsSplicedAt step taken put node file) where
    to_put : (root : Visit) (above : List Ancestor) (v : Visit) (level : ℕ) (p : Span) (middle : Tree)
        → IsToSplice file root above v level p put middle steps taken
        → IsToPut file root above v level (around p.left middle p.right) step.block top node
    to_put root above v level p middle s =
        let l = last_of root above v level p middle s in
        let n = spliced v level p.front p.gone p.back (to_span root above v level p middle s) in record {
          may = subst (λ es. MayPart file root above v (suc level) es (around p.left middle p.right))
              (sym n.entries_are) (spliced_may_part file root above v level p put middle s.may);
          level_is = n.level_is;
          block_is = l.block;
          at_top = none_if above (length outer) top
              (sym (length-map outer (λ (x : Step). (x.block, x.offset))) ∙ ap length l.outer_lead ∙ steps_long above)
              empty;
          three = subst (FitInThree (fields_of file).block_size) (sym n.entries_are)
              (takes file root above v level p put middle steps taken s).three;
        }

    entries_are : (root : Visit) (above : List Ancestor) (v : Visit) (level : ℕ) (p : Span) (middle : Tree)
        → IsToSplice file root above v level p put middle steps taken
        → items node.entries.items ≡ spliced_entries p put
    entries_are root above v level p middle s =
        (spliced v level p.front p.gone p.back (to_span root above v level p middle s)).entries_are

    -- Where no key is new they fit, and else they need at most the room of two records more.
    pub in_place : (root : Visit) (above : List Ancestor) (v : Visit) (level : ℕ) (p : Span) (middle : Tree)
        → IsToSplice file root above v level p put middle steps taken → new_entries p put ≡ []
        → packed_size (items node.entries.items) ≤ (fields_of file).block_size
    in_place root above v level p middle s none =
        omega (
          arith,
          fits_in_place file root above v level p put middle steps taken s none,
          ap packed_size (entries_are root above v level p middle s),
        )

    not_in_place : (root : Visit) (above : List Ancestor) (v : Visit) (level : ℕ) (p : Span) (middle : Tree)
        → IsToSplice file root above v level p put middle steps taken
        → (fields_of file).block_size < packed_size (items node.entries.items) → new_entries p put ≡ [] → ⊥
    not_in_place root above v level p middle s more none =
        omega (arith, more, in_place root above v level p middle s none)

    too_deep : (root : Visit) (above : List Ancestor) (v : Visit) (level : ℕ) (p : Span) (middle : Tree)
        → IsToSplice file root above v level p put middle steps taken
        → (fields_of file).block_size < packed_size (items node.entries.items)
        → IsTooDeep (fields_of file) above (suc level) → IsTooDeepFor (fields_of file) above level p put
    too_deep root above v level p middle s more deep =
        let same = ap packed_size (entries_are root above v level p middle s) in record {
          new = not_in_place root above v level p middle s more;
          more = omega (arith, more, same);
          full = omega (arith, more, same, (takes file root above v level p put middle steps taken s).more);
          deep = deep;
        }

    -- ---- it stays one block

    pub put_here : (after : List ℕ) → PutsNode step.block top node None file after
        → SplicesAt steps taken put file after
    put_here after puts root above v level p middle s =
        puts root above v level (around p.left middle p.right) (to_put root above v level p middle s)

    pub cannot_put : CannotPut step.block top node file → CannotSplice steps taken put file
    cannot_put cannot root above v level p middle s free =
        cannot root above v level (around p.left middle p.right) (to_put root above v level p middle s)
        (λ more. elim free [
          | inl none ↦ absurd (not_in_place root above v level p middle s more none)
          | inr enough ↦ omega (arith, enough)
        ])

    pub deep_here : IsHighest top node file → CannotGrowAt steps taken put file
    deep_here h root [] v level p middle s =
        let to = to_put root [] v level p middle s in
        let due : IsDueLevel v.level (suc level) = to.may.due in
        let none : v.level ≡ None = ap (λ (w : Visit). w.level) to.may.lead ∙ to.may.is_root.level in
        let most : suc level ≤ 7 = (subst (λ l. IsDueLevel l (suc level)) none due).1 in
        too_deep root [] v level p middle s h.more
        (record { levels = omega (arith, h.high, to.level_is, most); full = All-nil (IsFull (fields_of file)) })
    deep_here h root (b ∷ above) v level p middle s =
        absurd (false≢true (sym (to_put root (b ∷ above) v level p middle s).at_top ∙ h.is_top))

    -- ---- it goes into parts

    module _ (mid : List ℕ) (own : Parts) (below_others : top ≡ false)
        (puts : PutsNode step.block top node (Some own) file mid) where
      not_top : (root v : Visit) (level : ℕ) (p : Span) (middle : Tree)
          → IsToSplice file root [] v level p put middle steps taken → ⊥
      not_top root v level p middle s =
          false≢true (sym below_others ∙ (to_put root [] v level p middle s).at_top)

      pub put_up : (after : List ℕ) → PartsUpwards outer own mid after → SplicesAt steps taken put file after
      put_up after rest root [] v level p middle s = absurd (not_top root v level p middle s)
      put_up after rest root (b ∷ above) v level p middle s =
          let below : Tree = around p.left middle p.right in
          let u = puts root b above v level below (to_put root (b ∷ above) v level p middle s) in
          let next : IsToPart mid root b above v (suc level) u.own below outer own = record {
            parted = u.goes.parted;
            few = u.few;
            leads = (last_of root (b ∷ above) v level p middle s).outer_lead;
            told = u.told;
          } in
          becomes_behind file mid after root (part_blocks (b ∷ above) v below)
          (u.goes.parted.over.tree.blocks ++ outer_blocks (b ∷ above)) (items_around (b ∷ above) below.items)
          u.goes.reshapes (rest root b above v (suc level) u.own below next)

      pub cannot_up : (fields_of file).free ≤ (fields_of mid).free + 2 → CannotPart outer own mid
          → CannotSplice steps taken put file
      cannot_up kept rest root [] v level p middle s free = not_top root v level p middle s
      cannot_up kept rest root (b ∷ above) v level p middle s free =
          let below : Tree = around p.left middle p.right in
          let u = puts root b above v level below (to_put root (b ∷ above) v level p middle s) in
          rest root b above v (suc level) u.own below (record {
            parted = u.goes.parted;
            few = u.few;
            leads = (last_of root (b ∷ above) v level p middle s).outer_lead;
            told = u.told;
          }) (elim free [
            | inl none ↦ absurd (not_in_place root (b ∷ above) v level p middle s u.more none)
            | inr enough ↦ omega (arith, enough, kept)
          ])

      pub never_up : (root : Visit) (above : List Ancestor) (v : Visit) (level : ℕ) (p : Span) (middle : Tree)
          → IsToSplice file root above v level p put middle steps taken → new_entries p put ≡ [] → ⊥
      never_up root [] v level p middle s none = not_top root v level p middle s
      never_up root (b ∷ above) v level p middle s none =
          let u = puts root b above v level (around p.left middle p.right) (to_put root (b ∷ above) v level p middle s) in
          not_in_place root (b ∷ above) v level p middle s u.more none

      pub deep_up : CannotGrow outer own mid → CannotGrowAt steps taken put file
      deep_up rest root [] v level p middle s = absurd (not_top root v level p middle s)
      deep_up rest root (b ∷ above) v level p middle s =
          let below : Tree = around p.left middle p.right in
          let u = puts root b above v level below (to_put root (b ∷ above) v level p middle s) in
          let deep = rest root b above v (suc level) u.own below (record {
            parted = u.goes.parted;
            few = u.few;
            leads = (last_of root (b ∷ above) v level p middle s).outer_lead;
            told = u.told;
          }) in
          too_deep root (b ∷ above) v level p middle s u.more (record {
            levels = deep.levels;
            full = still_full (fields_of file) (fields_of mid) u.goes.reshapes.limits (b ∷ above) deep.full;
          })
