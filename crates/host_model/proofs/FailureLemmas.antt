-- How counts of failures compose over calls.
use Rattle.std.proofs.Common.{ℕ, ◌≤◌, arith}
use Rattle.host_model.specs.Failures.{Failures, NeverFell, Rose}

pub Rose-then : (before now later : ℕ) → Rose before now → now ≤ later → Rose before later
Rose-then before now later rose le = omega arith

pub then-Rose : (before now later : ℕ) → before ≤ now → Rose now later → Rose before later
then-Rose before now later le rose = omega arith

pub NeverFell-refl : (failures : Failures) → NeverFell failures failures
NeverFell-refl failures = record { read = omega arith; write = omega arith; say = omega arith }

pub NeverFell-trans : (before now later : Failures)
    → NeverFell before now → NeverFell now later → NeverFell before later
NeverFell-trans before now later first second = record { read = omega arith; write = omega arith; say = omega arith }
