-- A serial flash of 2 MiB, cut into the 62 units that block protection tells apart: units 0 to 15 are the 4 KB sectors of
-- block 0, units 16 to 45 the 64 KB blocks 1 to 30, units 46 to 61 the 4 KB sectors of block 31.
-- Assumes nothing.
use Rattle.std.specs.Prelude.{ℕ, ◌+◌, ◌-◌, ◌*◌, ◌/◌, ◌^◌, cond, nat_lt}
use Rattle.std.specs.Int.{bit_at}

-- How many bytes the array has: the last address is one below.
abbrev pub array_size : ℕ
array_size = 0x200000

-- The first address of a unit. A unit holds the bytes from there up to the first of the next.
abbrev pub first_of : ℕ → ℕ
first_of u = cond (nat_lt u 16) (u * 0x1000) (cond (nat_lt u 46) ((u - 15) * 0x10000) (0x1f0000 + (u - 46) * 0x1000))

-- The unit of an address.
abbrev pub unit_at : ℕ → ℕ
unit_at a = cond (nat_lt a 0x10000) (a / 0x1000) (cond (nat_lt a 0x1f0000) (15 + a / 0x10000) (46 + (a - 0x1f0000) / 0x1000))

-- A set of units is a number with unit u at bit u: 1 if the unit is in the set, 0 if not.
unfoldable pub has : ℕ → ℕ → ℕ
has m u = bit_at m u

-- The set of all units.
abbrev pub whole : ℕ
whole = 2 ^ 62 - 1
