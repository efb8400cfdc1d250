-- The states and their pairs, as numbers from 0 to 3.
use Rattle.std.specs.Prelude.{ℕ, zero, suc, Bool, true, false}
use Rattle.gds_bitmap.specs.declared.state.State.{State}
use Rattle.gds_bitmap.specs.declared.state.State.TheVariants.{Busy, New, Illegal, Recycled}

abbrev pub code_of : State → ℕ
code_of Busy = 0
code_of New = 1
code_of Illegal = 2
code_of Recycled = 3

abbrev pub state_from : ℕ → State
state_from zero = Busy
state_from (suc zero) = New
state_from (suc (suc zero)) = Illegal
state_from (suc (suc (suc n))) = Recycled

-- A block that is new or recycled is free.
abbrev pub is_free : State → Bool
is_free Busy = false
is_free New = true
is_free Illegal = false
is_free Recycled = true
