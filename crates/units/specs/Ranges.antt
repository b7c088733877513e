-- Ranges of addresses, and the units that they touch.
-- Assumes nothing.
use Rattle.std.specs.Prelude.{◌≡◌, ℕ, cond, ◌+◌, ◌-◌, ◌^◌, ◌<◌, ◌≤◌, Bool, not, ◌&&◌, ◌⊎◌, List, [], ◌∷◌, Some, None, Ok, Err, fold, Option, Result, ◌==◌, bit_or, nat_le, nat_lt}
use Rattle.std.specs.List.{position}
use Rattle.units.specs.Units.{array_size, first_of, unit_at, has}
use Rattle.units.specs.declared.ranges.Range.{Range}
use Rattle.units.specs.declared.ranges.RangeFault.{RangeFault}
use Rattle.units.specs.declared.ranges.RangeFault.TheVariants.{Beyond, Cut}
use Rattle.refusals.specs.declared.RunFault.{RunFault}
use Rattle.refusals.specs.declared.RunFault.TheVariants as run

-- The range holds the byte at this address.
abbrev pub Holds : Range → ℕ → Type 0
Holds r b = (r.first ≤ b) × (b ≤ r.last)

-- The range ends at its start or above, and within the array.
abbrev pub inside : Range → Bool
inside r = nat_le r.first r.last && nat_lt r.last array_size

-- The range begins where a unit begins, and ends where one ends.
abbrev pub aligned : Range → Bool
aligned r = r.first == first_of (unit_at r.first) && r.last + 1 == first_of (unit_at r.last + 1)

-- The units from that of the first byte to that of the last.
unfoldable pub touching : Range → ℕ
touching r = 2 ^ (unit_at r.last + 1) - 2 ^ unit_at r.first

-- The units that a range inside the array touches.
pub record Touched (r : Range) (m : ℕ) : Type 0 where
  pub small : m < 2 ^ 62
  pub each_byte : (b : ℕ) → Holds r b → has m (unit_at b) ≡ 1
  pub each_unit : (u : ℕ) → has m u ≡ 1 → (b : ℕ) × Holds r b × (unit_at b ≡ u)

-- A set, with the units that one more range touches.
abbrev pub plus : ℕ → Range → ℕ
plus m r = bit_or m (touching r)

-- The units that the ranges touch together.
abbrev pub union : List Range → ℕ
union rs = fold plus 0 rs

-- The place of the first range that fails a test, from 0.
abbrev pub first_failing : (Range → Bool) → List Range → Option ℕ
first_failing test rs = position (λ r. not (test r)) rs

-- A range's fault as the run's.
abbrev pub range_fault : RangeFault → RunFault
range_fault (Beyond at) = run.Beyond at
range_fault (Cut at) = run.Cut at

-- An address by itself is refused beyond the array, as the first and only range would be.
abbrev pub in_array : ℕ → Result (Unit {0}) RunFault
in_array address = cond (nat_lt address array_size) (Ok tt) (Err (run.Beyond 0))

-- A fault at a place, if there is one.
abbrev pub unless : Option ℕ → (ℕ → RangeFault) → Result ℕ RangeFault → Result ℕ RangeFault
unless (Some at) fault r = Err (fault at)
unless None fault r = r

-- The set that the ranges wish for. That a range is not inside the array is tried on all before the other fault.
abbrev pub wished : List Range → Result ℕ RangeFault
wished rs = unless (first_failing inside rs) Beyond (unless (first_failing aligned rs) Cut (Ok (union rs)))

-- Some range of the list is such.
abbrev pub Among : List Range → (Range → Type 0) → Type 0
Among [] P = ⊥
Among (r ∷ rs) P = P r ⊎ Among rs P

-- The set has the unit of each byte of the ranges, and all the bytes of a unit that it has lie in one range.
pub record United (rs : List Range) (m : ℕ) : Type 0 where
  pub small : m < 2 ^ 62
  pub each_byte : (b : ℕ) → Among rs (λ r. Holds r b) → has m (unit_at b) ≡ 1
  pub each_unit : (u : ℕ) → has m u ≡ 1 → Among rs (λ r. (b : ℕ) → unit_at b ≡ u → Holds r b)
