-- A sound file stands for the map whose values are the items of its globals' trees.
use Rattle.std.proofs.Common.{◌≡◌, ℕ, List, Some}
use Rattle.std.specs.Prelude.{◌↔◌}
use Rattle.std.specs.FinMap.{get}
use Rattle.m_key.specs.Globals.{Globals, Place}
use Rattle.gds_law.proofs.MembershipLemmas.{IsIn}
use Rattle.gds_law.proofs.KeptLemmas.{some_kept}
use Rattle.gds_sound.specs.Stands.{StandsFor}
use Rattle.gds_sound.specs.Sound.{Tree, IsSound}
use Rattle.gds_sound.proofs.SoundLemmas.{faultless}
use Rattle.gds_sound.proofs.PairLemmas.{value_in, in_value}
use Rattle.gds_file.specs.Change.{items_in, item_at}

-- The map's values are these items.
abbrev pub HasItems : Globals → List Tree → Type 0
HasItems m globals =
    (p : Place) (value : List ℕ) → (get m p ≡ Some value) ↔ IsIn (items_in globals) (item_at p.node value)

module _ (image : List ℕ) (directory : Tree) (globals : List Tree) (m : Globals)
    (s : IsSound image directory globals) where
  pub items_stood_for : StandsFor image m → HasItems m globals
  items_stood_for st p value = (
    λ g. value_in image directory globals m s st.kept st.are_kept (item_at p.node value) ((st.pairs p value).0 g),
    λ i. (st.pairs p value).1 (in_value image directory globals m s st.kept st.are_kept (item_at p.node value) i),
  )

  pub stands_for_items : HasItems m globals → StandsFor image m
  stands_for_items h =
      let k = some_kept image in
      record {
        faultless = faultless image directory globals s;
        kept = k.0;
        are_kept = k.1;
        pairs = λ p value. (
          λ g. in_value image directory globals m s k.0 k.1 (item_at p.node value) ((h p value).0 g),
          λ c. (h p value).1 (value_in image directory globals m s k.0 k.1 (item_at p.node value) c),
        );
      }
