-- What a block protection code protects. The code is 32 CMP + 16 SEC + 8 TB + 4 BP2 + 2 BP1 + BP0.
-- Assumes nothing.
use Rattle.std.specs.Prelude.{ℕ, ◌+◌, ◌-◌, ◌/◌, ◌%◌, ◌^◌, min, Bool, cond, ◌==◌, nat_le}
use Rattle.units.specs.Units.{whole}

-- Whether the flag of this weight is set in the code.
abbrev pub flag : ℕ → ℕ → Bool
flag weight code = code / weight % 2 == 1

-- The units below u.
abbrev pub below : ℕ → ℕ
below u = 2 ^ u - 1

-- The units from u on.
abbrev pub upward : ℕ → ℕ
upward u = whole - below u

-- n blocks of 64 KB, from the bottom of the array or from its top.
abbrev pub blocks : Bool → ℕ → ℕ
blocks bottom n = cond bottom (below (15 + n)) (upward (47 - n))

-- n sectors of 4 KB, from the bottom of the array or from its top.
abbrev pub sectors : Bool → ℕ → ℕ
sectors bottom n = cond bottom (below n) (upward (62 - n))

-- The units that SEC, TB and the number k of BP2, BP1 and BP0 count: none at 0, all from 6 on.
abbrev pub counted : Bool → Bool → ℕ → ℕ
counted sec tb k =
    cond (k == 0) 0 (cond (nat_le 6 k) whole (cond sec (sectors tb (min 8 (2 ^ (k - 1)))) (blocks tb (2 ^ (k - 1)))))

-- The units that the code protects: CMP takes the complement.
unfoldable pub set_of : ℕ → ℕ
set_of code =
    let units = counted (flag 16 code) (flag 8 code) (code % 8) in
    cond (flag 32 code) (whole - units) units
