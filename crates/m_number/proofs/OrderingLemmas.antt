-- Numbers compared, and comparisons one after another.
use Rattle.std.proofs.Common.{◌≡◌, ℕ, ◌<◌, true, refl, sym}
use Rattle.std.specs.Ordering.{nat_cmp, ordering_then, is_lt}
use Rattle.std.specs.Cmp.{nat_cmp_is}
use Rattle.std.specs.declared.cmp.Ordering.{Ordering}
use Rattle.std.specs.declared.cmp.Ordering.TheVariants.{Less, Equal, Greater}

pub nat_cmp_less : (a b : ℕ) → a < b → nat_cmp a b ≡ Less
nat_cmp_less a b h = sym (nat_cmp_is a b Less h)

pub nat_cmp_equal : (a b : ℕ) → a ≡ b → nat_cmp a b ≡ Equal
nat_cmp_equal a b h = sym (nat_cmp_is a b Equal h)

pub nat_cmp_same : (a : ℕ) → nat_cmp a a ≡ Equal
nat_cmp_same a = nat_cmp_equal a a refl

pub nat_cmp_greater : (a b : ℕ) → b < a → nat_cmp a b ≡ Greater
nat_cmp_greater a b h = sym (nat_cmp_is a b Greater h)

pub then_assoc : (p q r : Ordering) → ordering_then (ordering_then p q) r ≡ ordering_then p (ordering_then q r)
then_assoc Less q r = refl
then_assoc Equal q r = refl
then_assoc Greater q r = refl

-- Only equal things compare as equal, one after another.
pub then_equal : (p q : Ordering) → ordering_then p q ≡ Equal → (p ≡ Equal) × (q ≡ Equal)
then_equal Less q e = absurd (cc)
then_equal Equal q e = (refl, e)
then_equal Greater q e = absurd (cc)

pub Less-is_lt : (o : Ordering) → is_lt o ≡ true → o ≡ Less
Less-is_lt Less h = refl
Less-is_lt Equal h = absurd (cc)
Less-is_lt Greater h = absurd (cc)
