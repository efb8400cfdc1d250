-- What the kept entries of a memory host stand for.
use Rattle.std.specs.Prelude.{◌≡◌, List, map}
use Rattle.host_mem.specs.declared.step.Entry.{Entry}
use Rattle.host_mem.specs.declared.step.Entry.TheVariants.{Write as EntryWrite, Cut as EntryCut, Sync as EntrySync}
use Rattle.host_mem.specs.declared.step.Entry.TheVariants.{Say as EntrySay}
use Rattle.host_mem.specs.Step.{Step, Write, Cut, Sync, Say}

abbrev pub step_of : Entry → Step
step_of (EntryWrite number file at bytes done) = Write number file at bytes.items done
step_of (EntryCut number file len done) = Cut number file len done
step_of (EntrySync number file) = Sync number file
step_of (EntrySay number bytes) = Say number bytes.items

abbrev pub IsEntries : List Entry → List Step → Type 0
IsEntries entries steps = map step_of entries ≡ steps
