-- Numbers in hexadecimal and in decimal.
use Rattle.std.specs.Prelude.{ℕ, ◌+◌, ◌-◌, ◌*◌, ◌^◌, min, Bool, cond, ◌&&◌, List, [], ◌∷◌, length, Some, None, Ok, Err, Option, Result, ◌==◌, nat_le, nat_lt, slice_index}
use Rattle.refusals.specs.declared.SheetFault.{SheetFault}
use Rattle.refusals.specs.declared.SheetFault.TheVariants.{Field}
use Rattle.text.specs.Fields.{FieldText, after}

-- What a hexadecimal digit counts: 0 to 9 and A to F, in capitals.
abbrev pub nibble : ℕ → Option ℕ
nibble b = cond (nat_le 48 b && nat_le b 57) (Some (b - 48)) (cond (nat_le 65 b && nat_le b 70) (Some (b - 55)) None)

-- The digits of a base up to 16 are the hexadecimal ones that count less than the base.
abbrev pub below : ℕ → Option ℕ → Option ℕ
below base None = None
below base (Some d) = cond (nat_lt d base) (Some d) None

abbrev pub digit : ℕ → ℕ → Option ℕ
digit base b = below base (nibble b)

-- The refusal of a field, told at a place; places end at 2 ^ 64 - 1.
abbrev pub misread : {X : Type 0} → ℕ → Result X SheetFault
misread at = Err (Field (min at (2 ^ 64 - 1)))

-- What follows a digit; what is none is refused at its place.
abbrev pub with_digit : {X : Type 0} → Option ℕ → ℕ → (ℕ → Result X SheetFault) → Result X SheetFault
with_digit None at k = misread at
with_digit (Some d) at k = k d

-- The number that digits of a base tell after those that told `sum`: the first of them stands at the place `at`.
unfoldable pub read : ℕ → ℕ → ℕ → List ℕ → Result ℕ SheetFault
read base sum at [] = Ok sum
read base sum at (b ∷ bs) = with_digit (digit base b) at (λ d. read base (base * sum + d) (at + 1) bs)

-- A field of exactly `width` hexadecimal digits, 16 at most.
abbrev pub hex_of : ℕ → FieldText → Result ℕ SheetFault
hex_of width f =
    cond (length f.text == width && nat_le width 16)
    (read 16 0 f.at f.text)
    (Err (Field f.at))

-- A text of two or more digits that begins with 0.
abbrev pub padded : List ℕ → Bool
padded text = nat_lt 1 (length text) && slice_index text 0 == 48

-- A field of 1 to `longest` decimal digits, 9 at most, with no zero in front.
abbrev pub decimal_of : ℕ → FieldText → Result ℕ SheetFault
decimal_of longest f =
    cond (nat_le 1 (length f.text) && nat_le (length f.text) (min longest 9))
    (after (read 10 0 f.at f.text) (λ n. cond (padded f.text) (Err (Field f.at)) (Ok n)))
    (Err (Field f.at))
