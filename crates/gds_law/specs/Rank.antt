-- A visit's rank, which bounds how many records lead on from there.
use Rattle.std.specs.Prelude.{ℕ, ◌+◌, Option, None, Some}
use Rattle.gds_law.specs.Visit.{TreeRole, directory, global, Visit}

-- a global's tree has 8 levels at most, and so has the directory's, which leads to them
abbrev pub rank_of : TreeRole → Option ℕ → ℕ
rank_of directory None = 15
rank_of directory (Some due) = due + 8
rank_of (global name) None = 7
rank_of (global name) (Some due) = due

abbrev pub rank : Visit → ℕ
rank v = rank_of v.role v.level
