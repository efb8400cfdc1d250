-- What a walk of the trees of a file finds.
use Rattle.std.specs.Prelude.{◌≡◌, ◌<◌, ◌≤◌, ℕ, List, ◌++◌, length, Option, None, Result, IsErrOf}
use Rattle.host_model.specs.Failures.{Rose}
use Rattle.gds_header.specs.declared.header.Header.{Header}
use Rattle.gds_header.specs.Fields.{fields_of}
use Rattle.gds_header.specs.Kinds.{ending_kind}
use Rattle.gds_law.specs.declared.fault.Fault.{Fault}
use Rattle.gds_law.specs.Path.{Steps, AreKept, AreReached}
use Rattle.gds_law.specs.Tree.{tree_faults, is_reached}
use Rattle.gds_law.specs.Sink.{IsCut}
use Rattle.integ_block.specs.declared.error.IntegError.{IntegError}
use Rattle.integ_block.specs.declared.error.IntegError.TheVariants.{ReadFault, SayFault, Changed}
use Rattle.integ_walk.specs.BlockSet.{has_block}

-- No kind ends the reading of the file's header, and this is it.
pub record IsHeaderOf (header : Header) (image : List ℕ) : Type 0 where
  pub readable : ending_kind image ≡ None
  pub same : header ≡ fields_of image

-- The list had the old faults and has the new ones, which are the trees'. So many they are, and the set has those
-- blocks that kept paths end in.
pub record IsWalked (image : List ℕ) (old new : List Fault) (used : List ℕ) (count : ℕ) : Type 0 where
  pub kept : List Steps
  pub reached : List Steps
  pub are_kept : AreKept image kept
  pub are_reached : AreReached image kept reached
  pub faults : new ≡ old ++ tree_faults image kept reached
  pub counted : count ≡ length (tree_faults image kept reached)
  pub blocks : (block : ℕ) → block < (fields_of image).total → has_block used block ≡ is_reached image kept block

-- Some of the first of the trees' faults stand behind the old ones.
abbrev pub IsWalkedInPart : List ℕ → List Fault → List Fault → Type 0
IsWalkedInPart image old new =
    (kept reached : List Steps) → AreKept image kept → AreReached image kept reached
    → IsCut old new (tree_faults image kept reached)

-- What a call leaves of a source of units and of a sink: the source tells what it told before, and no count of failures
-- fell. A count rose where the call says that the source or the sink failed, and that a unit has changed it says only
-- where the source doesn't tell.
pub record HasCause {U F T : Type 0} (told : U → Option (List ℕ)) (reads : U → ℕ) (says : F → ℕ)
    (old new : U) (before now : F) (result : Result T IntegError) : Type 0 where
  pub image : told new ≡ told old
  pub read : reads old ≤ reads new
  pub read_fault : IsErrOf result ReadFault → Rose (reads old) (reads new)
  pub changed : (unit : ℕ) → IsErrOf result (Changed unit) → told old ≡ None
  pub say : says before ≤ says now
  pub say_fault : IsErrOf result SayFault → Rose (says before) (says now)
