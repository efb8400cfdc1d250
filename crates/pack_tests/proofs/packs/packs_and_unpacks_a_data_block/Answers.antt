use Rattle.std.proofs.Common.{◌≤◌, List, [], ◌∷◌, refl, sym, subst, arith}
use Rattle.gds_block.specs.Item.{Item}
use Rattle.m_key.specs.KeyEnd.{IsKey}
use Rattle.gds_pack.specs.Packable.{ArePackable}
use Rattle.gds_pack.specs.Packed.{packed_size}
use Rattle.pack_tests.proofs.packs.packs_and_unpacks_a_data_block.Goals as goal

first : IsKey (65 ∷ 0 ∷ 0 ∷ [])
first = record { whole = refl; short = omega arith }

second : IsKey (65 ∷ 0 ∷ 191 ∷ 17 ∷ 0 ∷ 0 ∷ [])
second = record { whole = refl; short = omega arith }

pub pack-requires-clause-fits : goal.pack-requires-clause-fits
pack-requires-clause-fits g c = subst (λ (is : List Item). packed_size is ≤ 36) (sym c.in_ok-list.ensures) (omega arith)

pub pack-requires-clause-packable : goal.pack-requires-clause-packable
pack-requires-clause-packable g c =
    subst (ArePackable 0) (sym c.in_ok-list.ensures)
    (record { is_key = first; above = refl }, (record { is_key = second; above = refl }, tt))
