-- What the fields of a reach record say.
use Rattle.std.specs.Prelude.{ℕ, ◌+◌, ◌-◌, ◌^◌, min, cond, List, [], ◌∷◌, length, take, drop, Ok, Err, codes, Result, ◌==◌, nat_le, slice_index}
use Rattle.places.specs.Laid.{laid}
use Rattle.plan.specs.declared.wish.Term.{Term}
use Rattle.plan.specs.declared.wish.Term.TheVariants.{Now, Kept}
use Rattle.refusals.specs.declared.SheetFault.{SheetFault}
use Rattle.refusals.specs.declared.SheetFault.TheVariants.{Field, Room}
use Rattle.std.specs.Str.{bytes_eq}
use Rattle.text.specs.Fields.{FieldText, after}
use Rattle.text.specs.Numbers.{hex_of, misread}
use Rattle.units.specs.declared.ranges.Range.{Range}

-- How long the wish is to hold.
abbrev pub term_in : FieldText → Result Term SheetFault
term_in f =
    cond (bytes_eq f.text (codes "now")) (Ok Now)
    (cond (bytes_eq f.text (codes "kept")) (Ok Kept) (Err (Field f.at)))

-- The first bytes of a field, and what follows its first n, with the place where that starts; places end at 2 ^ 64 - 1.
abbrev pub front : ℕ → FieldText → FieldText
front n f = record { text = take n f.text; at = f.at }

abbrev pub later : ℕ → FieldText → FieldText
later n f = record { text = drop n f.text; at = min (f.at + n) (2 ^ 64 - 1) }

-- That the seventh byte is a hyphen.
abbrev pub hyphened : FieldText → Result (Unit {0}) SheetFault
hyphened f = cond (slice_index f.text 6 == 45) (Ok tt) (misread (f.at + 6))

-- A range: six digits, a hyphen and six digits. The length is tried first, then the bytes from left to right.
unfoldable pub range_in : FieldText → Result Range SheetFault
range_in f =
    cond (length f.text == 13)
    (after (hex_of 6 (front 6 f)) (λ first. after (hyphened f) (λ _. after (hex_of 6 (later 7 f)) (λ last.
    Ok (record { first = first; last = last })))))
    (Err (Field f.at))

-- The ranges of some fields, or the first fault in them.
unfoldable pub ranges_in : List FieldText → Result (List Range) SheetFault
ranges_in [] = Ok []
ranges_in (f ∷ fs) = after (range_in f) (λ r. after (ranges_in fs) (λ rs. Ok (r ∷ rs)))

-- The ranges before the first fault.
abbrev pub if_read : Result Range SheetFault → List Range → List Range
if_read (Ok r) rs = r ∷ rs
if_read (Err e) rs = []

unfoldable pub readable : List FieldText → List Range
readable [] = []
readable (f ∷ fs) = if_read (range_in f) (readable fs)

-- How many ranges are read into so many places.
abbrev pub ranges_told : ℕ → List FieldText → Result ℕ SheetFault
ranges_told room fs = after (ranges_in fs) (λ rs. cond (nat_le (length rs) room) (Ok (length rs)) (Err Room))

-- The places then: the ranges stand in the first of them; refused, they are as before.
abbrev pub laid_in : Result (List Range) SheetFault → List Range → List Range
laid_in (Ok rs) slots = cond (nat_le (length rs) (length slots)) (laid slots 0 rs) slots
laid_in (Err e) slots = slots

abbrev pub ranges_laid : List FieldText → List Range → List Range
ranges_laid fs slots = laid_in (ranges_in fs) slots
