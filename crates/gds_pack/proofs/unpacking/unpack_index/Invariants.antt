use Rattle.std.proofs.Common.{◌≡◌, ◌++◌, ◌∷◌, []}
use Rattle.std.specs.Prelude.{All, option_map}
use Rattle.gds_block.specs.Record.{records_of, StandsIn}
use Rattle.gds_block.specs.View.{record_of}
use Rattle.m_key.specs.KeyEnd.{HasOpenFronts}
use Rattle.gds_pack.specs.Packed.{key_behind}
use Rattle.gds_pack.specs.Entry.{items}
use Rattle.gds_pack.specs.Unpacked.{end_of, index_items}
use Rattle.gds_pack.proofs.unpacking.unpack_index.Given as goal

abbrev pub invariant-loop-view : goal.invariant-loop-view
invariant-loop-view l = record {
  next : (goal.iterator-loop-view).can_next l.view-iterator;
  finite : (goal.iterator-loop-view).is_finite l.view-iterator;
  ends : end_of 16 (record_of l.last ∷ l.view-iterator) ≡ end_of 16 (records_of l.block);
  so_far : option_map (λ is. items l.entries.items ++ is)
      (index_items (key_behind [] (items l.entries.items)) (record_of l.last ∷ l.view-iterator))
      ≡ index_items [] (records_of l.block);
  fronts : HasOpenFronts (key_behind [] (items l.entries.items));
  last_placed : StandsIn l.block (record_of l.last);
  placed : All (StandsIn l.block) l.view-iterator;
}
