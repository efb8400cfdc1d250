-- Where a sound pointer leads.
use Rattle.std.proofs.Common.{ℕ, ◌≡◌, ◌-◌, ◌<◌, arith, Bool, true, false, refl, List, Option, Some, sym, ◌∙◌, ap}
use Rattle.std.specs.Prelude.{◌&&◌}
use Rattle.std.proofs.lemmas.Bool.{eq-eqb, ltb-true, ne_eqb, cond-true, cond-false}
use Rattle.m_key.specs.KeyParts.{name_part}
use Rattle.gds_law.specs.BlockReading.{BlockReading, PlacedRecord, is_last, key_of}
use Rattle.gds_law.specs.Record.{target_of, low_of, high_of}
use Rattle.gds_law.specs.Visit.{Visit, Child, global_root}

front_true : (x y : Bool) → (x && y) ≡ true → x ≡ true
front_true true y h = refl
front_true false y h = h

module _ (b : BlockReading) (s : PlacedRecord) (p : ℕ) where
  abbrev pub to : Visit → Child
  to v = record { offset = s.record_.offset; visit = v }

  abbrev pub inner : Option (List ℕ) → Visit
  inner high = record { block = p; role = b.visit.role; level = Some (b.level - 1); low = low_of b s; high = high }

  pub target-root : (key : List ℕ) → b.level ≡ 0 → key_of b s ≡ key
      → to (global_root p (name_part key)) ≡ to (target_of b s p)
  unfolding target_of
  target-root key level h =
      ap (λ k. to (global_root p (name_part k))) (sym h) ∙ ap to (sym (cond-true _ _ _ (eq-eqb b.level 0 level)))

  target-inner : (b.level ≡ 0 → ⊥) → inner (high_of b s) ≡ target_of b s p
  unfolding target_of
  target-inner level = sym (cond-false _ _ _ (ne_eqb b.level 0 level))

  pub target-keyed : (key : List ℕ) → (b.level ≡ 0 → ⊥) → is_last b s ≡ false → key_of b s ≡ key
      → to (inner (Some key)) ≡ to (target_of b s p)
  target-keyed key level h k =
      ap (λ high. to (inner high)) (ap Some (sym k) ∙ sym (cond-false (is_last b s) _ _ h)) ∙ ap to (target-inner level)

  pub level-last : is_last b s ≡ true → 0 < b.level
  level-last h = ltb-true 0 b.level (front_true _ _ h)

  pub target-last : is_last b s ≡ true → to (inner b.visit.high) ≡ to (target_of b s p)
  target-last h = ap (λ high. to (inner high)) (sym (cond-true (is_last b s) _ _ h))
      ∙ ap to (target-inner (λ e. omega (arith, level-last h)))
