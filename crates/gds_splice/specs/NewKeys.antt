-- Entries that are put in the place of others, and which of their keys are new there.
use Rattle.std.specs.Prelude.{ℕ, Bool, not, List, [], ◌∷◌, filter, bytes_eq}
use Rattle.std.specs.List.{list_any}
use Rattle.gds_block.specs.Item.{Item}
use Rattle.gds_split.specs.Pieces.{starred}

-- whether one of these entries has the key
abbrev pub has_key : List Item → List ℕ → Bool
has_key entries key = list_any (λ e. bytes_eq key e.key) entries

-- those of the entries that are put whose keys none of these has
abbrev pub with_new_keys : List Item → List Item → List Item
with_new_keys gone put = filter (λ e. not (has_key gone e.key)) put

-- entries as they are put before those that stay: where none does, the last is the star, whatever key it had
abbrev pub put_before : List Item → List Item → List Item
put_before [] put = starred put
put_before (e ∷ back) put = put
