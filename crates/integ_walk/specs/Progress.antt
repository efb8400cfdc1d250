-- How far a walk has come: which of the reached paths were followed, and what is known then.
use Rattle.std.specs.Prelude.{◌≡◌, ◌↔◌, ℕ, ⊤, Bool, true, List, [], ◌∷◌, ◌++◌, flat_map, Some, Contains}
use Rattle.std.specs.declared.cmp.Ordering.TheVariants.{Less}
use Rattle.gds_block.specs.Block.{level_of}
use Rattle.gds_header.specs.Fields.{block_of}
use Rattle.gds_law.specs.declared.fault.Fault.{Fault}
use Rattle.gds_law.specs.Visit.{Visit}
use Rattle.gds_law.specs.Path.{Steps, visit_at, path_cmp}
use Rattle.gds_law.specs.Tree.{faults_at}
use Rattle.integ_walk.specs.Link.{Link, path_to}

-- A path goes on from another one.
abbrev pub GoesOn : Steps → Steps → Type 0
GoesOn front path = (rest : Steps) × (path ≡ front ++ rest)

-- All that go on from p stand before q.
abbrev pub IsAhead : Steps → Steps → Type 0
IsAhead p q = (rest : Steps) → path_cmp (p ++ rest) q ≡ Less

abbrev pub AreInOrder : List Link → Type 0
AreInOrder [] = ⊤
AreInOrder (link ∷ links) =
    ((later : Link) → Contains links later → IsAhead (path_to link) (path_to later)) × AreInOrder links

-- The link is one of this file's: it leads on to one of these paths, and has its block's level.
pub record IsLinkTo (image : List ℕ) (rest : List Steps) (link : Link) : Type 0 where
  pub there : Contains rest (path_to link)
  pub leads : visit_at image (path_to link) ≡ Some link.child.visit
  pub level : link.level ≡ level_of (block_of image link.block)

-- One of these paths is kept and ends in the block.
pub record EndsIn (image : List ℕ) (kept paths : List Steps) (block : ℕ) : Type 0 where
  pub path : Steps
  pub there : Contains paths path
  pub is_kept : Contains kept path
  pub visit : Visit
  pub leads : visit_at image path ≡ Some visit
  pub same : visit.block ≡ block

-- Some of the reached paths were followed, from the front on. These faults stand there, and the marked blocks are those
-- that kept ones of them end in. The links lead on to all the others.
pub record HasCome (image : List ℕ) (kept reached : List Steps) (faults : List Fault) (marked : ℕ → Bool)
    (links : List Link) : Type 0 where
  pub done : List Steps
  pub rest : List Steps
  pub parts : reached ≡ done ++ rest
  pub faults_are : faults ≡ flat_map (faults_at image kept) done
  pub marks : (block : ℕ) → (marked block ≡ true) ↔ EndsIn image kept done block
  pub led : (path : Steps) → Contains rest path → (link : Link) × Contains links link × GoesOn (path_to link) path
  pub left : (link : Link) → Contains links link → IsLinkTo image rest link
  pub in_order : AreInOrder links
