use Rattle.std.proofs.Common.{◌≡◌, ◌+◌, length, ◌∙◌, ◌++◌, ◌∷◌, [], List, Some, sym, ap, subst, arith}
use Rattle.std.specs.Prelude.{option_map}
use Rattle.std.proofs.lemmas.List.{map-append}
use Rattle.std.proofs.lemmas.List.Elements.{All-head, All-tail, All-same, All-rest}
use Rattle.gds_block.specs.Record.{records_of, StandsIn}
use Rattle.gds_block.specs.View.{record_of}
use Rattle.gds_block.specs.Item.{Item}
use Rattle.m_key.specs.KeyEnd.{HasOpenFronts}
use Rattle.gds_pack.specs.Packed.{key_behind}
use Rattle.gds_pack.specs.Entry.{item, items}
use Rattle.gds_pack.specs.Unpacked.{index_item, index_items, end_of}
use Rattle.gds_pack.proofs.SizeLemmas.{key_behind-append}
use Rattle.gds_pack.proofs.UnpackLemmas.{index-empty, index-stops, index-next, index-no_star, index-all}
use Rattle.gds_pack.proofs.UnpackLemmas.{entries_of-short, HasOpenFronts-index_item, none_before}
use Rattle.m_key.proofs.KeyEndLemmas.{HasOpenFronts-nil}
use Rattle.gds_pack.proofs.unpacking.unpack_index.Goals as goal
use Rattle.gds_pack.proofs.unpacking.unpack_index.Goals.{In_ok-entry, In-None}

-- what the record before this one says
before : (c : In_ok-entry) → index_item (key_behind [] (items c.loop-view.entries.items)) (record_of c.loop-view.last)
    ≡ option_map item c.in_ok-entry.field-0
before c =
    let key = c.last_key.ensures ∙ ap (λ xs. key_behind [] (items xs)) c.as_slice.ensures.value in
    ap (λ p. index_item p (record_of c.loop-view.last)) (sym key) ∙ sym c.in_ok-entry.ensures

pub returns-in_default : goal.returns-in_default
returns-in_default c =
    let none = rw c.in_default.is at c.next.ensures.steps in
    index-empty c.args.block.now c.requires (sym c.records-records.ensures.listed ∙ none.0)

pub loop-view-init : goal.loop-view-init
loop-view-init c =
    let block = c.args.block.now in
    let last = record_of c.in-Some.last in
    let left = c.into_iter-view-iterator.result in
    let all : c.records-records.result ≡ last ∷ left =
    c.in-Some.ensures.steps ∙ ap (λ rs. last ∷ rs) (sym c.into_iter-view-iterator.ensures.into_iter_gives) in
    let same : records_of block ≡ last ∷ left = sym c.records-records.ensures.listed ∙ all in
    let placed = All-same (StandsIn block) (last ∷ left) c.records-records.result (sym all)
    c.records-records.ensures.placed in
    let none : [] ≡ items c.new-entries.result.items = sym (ap items c.new-entries.ensures.items) in
    record {
      next = tt;
      finite = tt;
      ends = sym (ap (end_of 16) same);
      so_far =
          subst (λ (ys : List Item). option_map (λ is. ys ++ is) (index_items (key_behind [] ys) (last ∷ left))
          ≡ index_items [] (records_of block)) none
          (none_before (index_items [] (last ∷ left)) ∙ sym (ap (index_items []) same));
      fronts = subst (λ (ys : List Item). HasOpenFronts (key_behind [] ys)) none HasOpenFronts-nil;
      last_placed = All-head (StandsIn block) last left placed;
      placed = All-tail (StandsIn block) last left placed;
    }

pub returns-in_default-2 : goal.returns-in_default-2
returns-in_default-2 c =
    let b = (goal.at.returns-in_default-2 c).In_ok-entry in
    index-stops c.args.block.now c.requires (items c.loop-view.entries.items) (record_of c.loop-view.last)
    c.loop-view.view-iterator c.loop-view.invariant.so_far
    (record_of c.in-Some-view.view) c.next-in-loop-view.new.self c.in-Some-view.ensures.steps
    (before b ∙ ap (option_map item) c.in_default-2.is)

pub loop-view-preserved : goal.loop-view-preserved
loop-view-preserved c =
    let b = (goal.at.loop-view-preserved c).In_ok-entry in
    let block = c.args.block.now in
    let xs = items c.loop-view.entries.items in
    let last = record_of c.loop-view.last in
    let r = record_of c.in-Some-view.view in
    let i = item c.in-Some-2.entry in
    let same = c.in-Some-view.ensures.steps in
    let one : index_item (key_behind [] xs) last ≡ Some i = before b ∙ ap (option_map item) c.in-Some-2.is in
    let more : xs ++ i ∷ [] ≡ items c.push.new.self.items =
    sym (ap items c.in_ok-push.ensures.items ∙ map-append item c.loop-view.entries.items (c.in-Some-2.entry ∷ []))
    in
    let key : i.key ≡ key_behind [] (items c.push.new.self.items) =
    sym (key_behind-append [] xs (i ∷ [])) ∙ ap (key_behind []) more in
    record {
      next = tt;
      finite = tt;
      ends = sym (ap (λ rs. end_of 16 (last ∷ rs)) same) ∙ c.loop-view.invariant.ends;
      so_far =
          subst (λ (ys : List Item). option_map (λ is. ys ++ is)
          (index_items (key_behind [] ys) (r ∷ c.next-in-loop-view.new.self)) ≡ index_items [] (records_of block))
          more
          (index-next block c.requires xs last c.loop-view.view-iterator c.loop-view.invariant.so_far r
          c.next-in-loop-view.new.self i same one);
      fronts = subst HasOpenFronts key (HasOpenFronts-index_item (key_behind [] xs) last i one);
      last_placed =
          All-head (StandsIn block) r c.next-in-loop-view.new.self
          (All-same (StandsIn block) (r ∷ c.next-in-loop-view.new.self) c.loop-view.view-iterator (sym same)
          c.loop-view.invariant.placed);
      placed =
          All-rest (StandsIn block) r c.next-in-loop-view.new.self c.loop-view.view-iterator same
          c.loop-view.invariant.placed;
    }

pub end-requires : goal.end-requires
end-requires c = omega (arith, c.loop-view.invariant.last_placed.within, c.used-used.ensures.value)

-- where the last record ends
last_end : (c : In-None) → c.loop-view.last.offset + 4 + length c.loop-view.last.body.now
    ≡ end_of 16 (records_of c.args.block.now)
last_end c =
    sym (ap (λ rs. end_of 16 (record_of c.loop-view.last ∷ rs)) c.in-None.ensures.steps.0) ∙ c.loop-view.invariant.ends

pub returns-then-end-used : goal.returns-then-end-used
returns-then-end-used c =
    let ends = last_end (goal.at.returns-then-end-used c).In-None in
    entries_of-short c.args.block.now (λ e. c.if-end-used.true
    (c.end.ensures ∙ ends ∙ e ∙ sym c.used-used.ensures.value))

pub returns-in_default-3 : goal.returns-in_default-3
returns-in_default-3 c =
    index-no_star c.args.block.now c.requires (items c.loop-view.entries.items) (record_of c.loop-view.last)
    c.loop-view.view-iterator c.loop-view.invariant.so_far
    c.in-None.ensures.steps.0 (sym c.in_ok-star.ensures ∙ ap (option_map item) c.in_default-3.is)

pub returns : goal.returns
returns c =
    let block = c.args.block.now in
    let ends = last_end (goal.at.returns c).In-None in
    let used : c.end.result ≡ c.used-used.result = c.if-end-used.false in
    ap Some (ap items c.in_ok-push-2.ensures.items ∙ map-append item c.loop-view.entries.items (c.in-Some-3.star ∷ []))
    ∙ index-all block c.requires (items c.loop-view.entries.items) (record_of c.loop-view.last)
    c.loop-view.view-iterator c.loop-view.invariant.so_far
    (item c.in-Some-3.star) c.in-None.ensures.steps.0 (sym c.in_ok-star.ensures ∙ ap (option_map item) c.in-Some-3.is)
    (sym ends ∙ sym c.end.ensures ∙ used ∙ c.used-used.ensures.value)
