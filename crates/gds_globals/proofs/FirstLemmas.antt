-- What the first entry from a key on tells of the items of the key's node and of its descendants.
use Rattle.std.proofs.Common.{◌≡◌, ℕ, Bool, true, false, List, Option, None, subst}
use Rattle.std.specs.Prelude.{All}
use Rattle.std.specs.Option.{ForSome}
use Rattle.std.specs.declared.ops.Bound.TheVariants.{Included}
use Rattle.m_key.specs.Key.{AtMost, Below, key_bytes, past_bytes}
use Rattle.m_key.specs.Node.{Node}
use Rattle.gds_block.specs.Item.{Item}
use Rattle.gds_draft.specs.Draft.{DraftState}
use Rattle.gds_draft.specs.Drafted.{drafted}
use Rattle.gds_find.specs.Next.{HasTreeFrom, IsFirstFrom}
use Rattle.gds_law.specs.Record.{is_below}
use Rattle.gds_law.specs.Visit.{Visit}
use Rattle.gds_law.proofs.RisingLemmas.{Rising}
use Rattle.gds_sound.proofs.BlockLemmas.{level_at}
use Rattle.gds_sound.proofs.OrderLemmas.{key_cmp, sound_ordered}
use Rattle.gds_globals.specs.Killing.{TellsWithin}
use Rattle.gds_globals.proofs.WithinLemmas.{all_below, first_past, first_within}

module _ (told : Option (List ℕ)) (draft : DraftState) (root : ℕ) (key : List ℕ) where
  -- what was found from the key on
  abbrev pub Finds : Bool → Item → Type 0
  Finds found e =
      ForSome told (λ image. (v : Visit) (has : HasTreeFrom (drafted draft image) v root None (Included key))
      → IsFirstFrom has.tree.items (Included key) found e)

  abbrev pub Tells : Bool → Type 0
  Tells found =
      ForSome told (λ image. (v : Visit) (has : HasTreeFrom (drafted draft image) v root None (Included key))
      (node : Node) → key ≡ key_bytes node → TellsWithin node has.tree.items found)

  pub none_found : (found : Bool) (e : Item) → found ≡ false → Finds found e → Tells false
  none_found found e is finds image tells v has node key_is =
      all_below node has.tree.items
      (subst (λ k. All (λ (i : Item). Below i.key k) has.tree.items) key_is
      (subst (λ f. IsFirstFrom has.tree.items (Included key) f e) is (finds image tells v has)))

  -- one was found, and its key was compared with the bytes past all keys of the node and its descendants
  pub first_found : (found : Bool) (e : Item) → found ≡ true → Finds found e → (r : Bool)
      → ((node : Node) → key ≡ key_bytes node → is_below e.key (past_bytes node) ≡ r) → Tells r
  first_found found e is finds r compared image tells v has node key_is = by r (compared node key_is)
    where
      first : IsFirstFrom has.tree.items (Included key) true e
      first = subst (λ f. IsFirstFrom has.tree.items (Included key) f e) is (finds image tells v has)

      rising : Rising key_cmp has.tree.items
      rising =
          (sound_ordered (drafted draft image) (level_at (drafted draft image) v) v has.tree has.sound).rising

      by : (t : Bool) → is_below e.key (past_bytes node) ≡ t → TellsWithin node has.tree.items t
      by true past =
          first_within node has.tree.items first.before first.behind e first.parts
          (subst (λ k. AtMost k e.key) key_is first.from_there) past
      by false past =
          first_past node has.tree.items first.before first.behind e first.parts rising
          (subst (λ k. All (λ (i : Item). Below i.key k) first.before) key_is first.passed) past
