use Rattle.std.proofs.Common.{◌≡◌, ◌∙◌, ◌++◌, ◌∷◌, [], List, Some, sym, ap, subst, arith}
use Rattle.std.specs.Prelude.{option_map}
use Rattle.std.proofs.lemmas.List.{map-append}
use Rattle.std.proofs.lemmas.List.Elements.{All-head, All-same, All-rest}
use Rattle.gds_block.specs.Record.{records_of, StandsIn}
use Rattle.gds_block.specs.View.{record_of}
use Rattle.gds_block.specs.Item.{Item}
use Rattle.m_key.specs.KeyEnd.{HasOpenFronts}
use Rattle.gds_pack.specs.Packed.{key_behind}
use Rattle.gds_pack.specs.Entry.{item, items}
use Rattle.gds_pack.specs.Unpacked.{leaf_item, leaf_items, end_of}
use Rattle.gds_pack.proofs.SizeLemmas.{key_behind-append}
use Rattle.gds_pack.proofs.UnpackLemmas.{leaf-stops, leaf-next, leaf-all, entries_of-short, HasOpenFronts-leaf_item}
use Rattle.gds_pack.proofs.unpacking.unpack_leaf.Goals as goal
use Rattle.gds_pack.proofs.unpacking.unpack_leaf.Goals.{In_ok-entry, then-end-used, else-end-used}

-- what this record says
this : (c : In_ok-entry) → leaf_item (key_behind [] (items c.loop-view.entries.items)) (record_of c.in-Some.view)
    ≡ option_map item c.in_ok-entry.field-0
this c =
    let before = c.last_key.ensures ∙ ap (λ xs. key_behind [] (items xs)) c.as_slice.ensures.value in
    ap (λ p. leaf_item p (record_of c.in-Some.view)) (sym before) ∙ sym c.in_ok-entry.ensures

pub returns-in_default : goal.returns-in_default
returns-in_default c =
    let b = (goal.at.returns-in_default c).In_ok-entry in
    leaf-stops c.args.block.now c.requires (items c.loop-view.entries.items) c.loop-view.view-iterator
    c.loop-view.invariant.so_far
    (record_of c.in-Some.view) c.next.new.self c.in-Some.ensures.steps (this b ∙ ap (option_map item) c.in_default.is)

pub end-end-requires : goal.end-end-requires
end-end-requires c =
    let P = StandsIn c.args.block.now in
    let r = record_of c.in-Some.view in
    let placed = All-head P r c.next.new.self
    (All-same P (r ∷ c.next.new.self) c.loop-view.view-iterator (sym c.in-Some.ensures.steps)
    c.loop-view.invariant.placed) in
    omega (arith, placed.within, c.used-used.ensures.value)

pub loop-view-preserved : goal.loop-view-preserved
loop-view-preserved c =
    let b = (goal.at.loop-view-preserved c).In_ok-entry in
    let block = c.args.block.now in
    let xs = items c.loop-view.entries.items in
    let r = record_of c.in-Some.view in
    let i = item c.in-Some-2.entry in
    let same = c.in-Some.ensures.steps in
    let one : leaf_item (key_behind [] xs) r ≡ Some i = this b ∙ ap (option_map item) c.in-Some-2.is in
    let more : xs ++ i ∷ [] ≡ items c.push.new.self.items =
    sym (ap items c.in_ok-push.ensures.items ∙ map-append item c.loop-view.entries.items (c.in-Some-2.entry ∷ []))
    in
    let key : i.key ≡ key_behind [] (items c.push.new.self.items) =
    sym (key_behind-append [] xs (i ∷ [])) ∙ ap (key_behind []) more in
    record {
      next = tt;
      finite = tt;
      ends =
          ap (λ n. end_of n c.next.new.self) c.end-end.ensures ∙ sym (ap (end_of c.loop-view.end) same)
          ∙ c.loop-view.invariant.ends;
      so_far =
          subst (λ (ys : List Item). option_map (λ is. ys ++ is) (leaf_items (key_behind [] ys) c.next.new.self)
          ≡ leaf_items [] (records_of block)) more
          (leaf-next block c.requires xs c.loop-view.view-iterator c.loop-view.invariant.so_far r c.next.new.self i same
          one);
      fronts = subst HasOpenFronts key (HasOpenFronts-leaf_item (key_behind [] xs) r i one);
      placed = All-rest (StandsIn block) r c.next.new.self c.loop-view.view-iterator same c.loop-view.invariant.placed;
    }

pub returns : goal.returns
returns c =
    let block = c.args.block.now in
    let left = c.in-None.ensures.steps.0 in
    let ends : c.loop-view.end ≡ end_of 16 (records_of block) =
    sym (ap (end_of c.loop-view.end) left) ∙ c.loop-view.invariant.ends in
    elim c.if-end-used.branch [
      | then-end-used w ↦
          ap (option_map (λ v. items v.items)) w.result-is
          ∙ leaf-all block c.requires (items c.loop-view.entries.items) c.loop-view.view-iterator
          c.loop-view.invariant.so_far left (omega (arith, c.used-used.ensures.value, w.if-end-used.true))
      | else-end-used w ↦
          ap (option_map (λ v. items v.items)) w.result-is
          ∙ entries_of-short block (λ e. w.if-end-used.false (omega (arith, c.used-used.ensures.value, e)))
    ]
