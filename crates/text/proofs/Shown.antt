-- The definitions at texts that are written out.
use Rattle.std.proofs.Common.{◌≡◌, ℕ, ◌-◌, cond, ◌&&◌, nat_le, List, [], ◌∷◌, Some, None, Ok, Err, codes, refl, arith}
use Rattle.std.proofs.lemmas.Bool.Decides.{nat_tests}
use Rattle.refusals.specs.declared.SheetFault.TheVariants.{Bytes, Field}
use Rattle.text.specs.Fields.{FieldText}
use Rattle.text.specs.Lines.{lines, admitted}
use Rattle.text.specs.Numbers.{nibble, digit, read, hex_of, decimal_of}

-- A field that starts at the place 7.
abbrev at_seven : List ℕ → FieldText
at_seven text = record { text = text; at = 7 }

no_line : lines [] ≡ []
unfolding lines
no_line = refl

empty_line : lines (codes "\n") ≡ [] ∷ []
unfolding lines
empty_line = refl

two_lines : lines (codes "ab\nc") ≡ codes "ab" ∷ codes "c" ∷ []
unfolding lines
two_lines = refl

not_let_in : admitted (codes "ab\rc") ≡ Err (Bytes 2)
not_let_in = refl

a_number : hex_of 2 (at_seven (codes "1F")) ≡ Ok 31
unfolding read
a_number = refl

wrong_digit : hex_of 2 (at_seven (codes "1f")) ≡ Err (Field 8)
unfolding read
wrong_digit = refl

wrong_width : hex_of 2 (at_seven (codes "x")) ≡ Err (Field 7)
wrong_width = refl

zero_alone : decimal_of 3 (at_seven (codes "0")) ≡ Ok 0
unfolding read
zero_alone = refl

zero_in_front : decimal_of 3 (at_seven (codes "01")) ≡ Err (Field 7)
unfolding read
zero_in_front = refl

-- A hexadecimal digit is any that is told a value, a decimal one is 0 to 9.
pub hexadecimal : (b : ℕ) → digit 16 b ≡ nibble b
hexadecimal b = grind (arith, nat_tests)

decimal : (b : ℕ) → digit 10 b ≡ cond (nat_le 48 b && nat_le b 57) (Some (b - 48)) None
decimal b = grind (arith, nat_tests)

-- The wrong digit is told before the zero in front.
wrong_first : decimal_of 3 (at_seven (codes "0x")) ≡ Err (Field 8)
unfolding read
wrong_first = refl
