-- Addresses and the units that hold them.
-- Assumes nothing.
use Rattle.std.proofs.Common.{◌≡◌, ℕ, ◌+◌, ◌<◌, ◌≤◌, arith}
use Rattle.std.proofs.lemmas.Bool.Decides.{nat_tests}
use Rattle.units.specs.Units.{array_size, first_of, unit_at}
use Rattle.units.proofs.Tests.{same_below}

pub unit_small : (a : ℕ) → a < array_size → unit_at a < 62
unit_small a h = grind (arith, nat_tests)

pub unit_begins : (a : ℕ) → first_of (unit_at a) ≤ a
unit_begins a = grind (arith, nat_tests)

pub unit_ends : (a : ℕ) → a < first_of (unit_at a + 1)
unit_ends a = grind (arith, nat_tests)

pub unit_mono : (a b : ℕ) → a ≤ b → unit_at a ≤ unit_at b
unit_mono a b h = grind (arith, nat_tests)

pub first_mono : (u v : ℕ) → u ≤ v → first_of u ≤ first_of v
first_mono u v h = grind (arith, nat_tests)

-- A unit's first address lies in that unit.
pub unit_first : (u : ℕ) → u < 62 → unit_at (first_of u) ≡ u
unit_first = same_below 62 (λ u. unit_at (first_of u)) (λ u. u) tt
