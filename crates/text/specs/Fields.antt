-- The fields of a line.
use Rattle.std.specs.Prelude.{ℕ, ◌+◌, ◌≡◌, cond, List, [], ◌∷◌, length, drop, Some, None, Ok, Err, Option, Result, ◌==◌, nat_le}
use Rattle.refusals.specs.declared.SheetFault.{SheetFault}
use Rattle.refusals.specs.declared.SheetFault.TheVariants.{Count}
use Rattle.std.specs.Iterator.{YieldsFirstBy}
use Rattle.std.specs.List.{slice_get}
use Rattle.std.specs.Option.{option_map_or}
use Rattle.std.specs.Result.{result_map_both}
use Rattle.text.specs.declared.fields.Field.{Field}
use Rattle.text.specs.declared.fields.Fields.{Fields}

-- A field: its bytes, and the place in the line where it starts.
pub record FieldText : Type 0 where
  pub text : List ℕ
  pub at : ℕ

-- The fields of a line that are not yet read, and the length of the whole line.
pub record Unread : Type 0 where
  pub fields : List FieldText
  pub size : ℕ

-- A byte, at the place `at`, put before the first of the fields.
abbrev pub begun : ℕ → ℕ → List FieldText → List FieldText
begun b at [] = record { text = b ∷ []; at = at } ∷ []
begun b at (f ∷ fs) = record { text = b ∷ f.text; at = at } ∷ fs

-- The fields of a text whose first byte stands at the place `at`: one more than it has tabs.
unfoldable pub parts : ℕ → List ℕ → List FieldText
parts at [] = record { text = []; at = at } ∷ []
parts at (b ∷ bs) = cond (b == 9) (record { text = []; at = at } ∷ parts (at + 1) bs) (begun b at (parts (at + 1) bs))

-- A line of which no field is read.
abbrev pub unread : List ℕ → Unread
unread line = record { fields = parts 0 line; size = length line }

-- The fields of a line from the place on where the next starts; none where there is no next.
abbrev pub fields_from : Option ℕ → List ℕ → List FieldText
fields_from None line = []
fields_from (Some at) line = parts at (drop at line)

-- The fields that the reader of a line has still to read.
abbrev pub fields_left : Fields → List FieldText
fields_left f = fields_from f.at f.line.now

-- The same, beside the length of the whole line.
abbrev pub left : Fields → Unread
left f = record { fields = fields_left f; size = length f.line.now }

-- A field of the code, by what it holds.
abbrev pub plain : Field → FieldText
plain f = record { text = f.text.now; at = f.at }

-- An answer that has a field, by the field's bytes and place.
abbrev pub told : Result Field SheetFault → Result FieldText SheetFault
told r = result_map_both plain (λ e. e) r

-- The first of these fields and the later ones, beside the line's length.
abbrev pub next_among : List FieldText → ℕ → Result FieldText SheetFault × Unread
next_among [] size = (Err (Count size), record { fields = []; size = size })
next_among (f ∷ fs) size = (Ok f, record { fields = fs; size = size })

-- The next field, or the refusal where none is left; and what is unread then.
abbrev pub next_of : Unread → Result FieldText SheetFault × Unread
next_of u = next_among u.fields u.size

-- The iterator's answer: the first of the fields that were left, of which the later ones are left then, or that there is none;
-- and the line is as long as it was.
abbrev pub Gives : Fields → Option Field → Fields → Type 0
Gives was r is = YieldsFirstBy plain fields_left was r is × (length is.line.now ≡ length was.line.now)

-- That these fields are none.
abbrev pub ended_among : List FieldText → ℕ → Result (Unit {0}) SheetFault
ended_among [] size = Ok tt
ended_among (f ∷ fs) size = Err (Count size)

-- That no field is left, or the refusal.
abbrev pub ended : Unread → Result (Unit {0}) SheetFault
ended u = ended_among u.fields u.size

-- That no more than so many fields are left, or the refusal.
abbrev pub at_most : ℕ → Unread → Result (Unit {0}) SheetFault
at_most most u = cond (nat_le (length u.fields) most) (Ok tt) (Err (Count u.size))

-- The place where the field of this number starts, counted from 0; 0 where there is none.
abbrev pub start_of : ℕ → List FieldText → ℕ
start_of n fs = option_map_or (λ f. f.at) (slice_get fs n) 0

-- What follows a good answer; a refusal stands.
abbrev pub after : {X Y : Type 0} → Result X SheetFault → (X → Result Y SheetFault) → Result Y SheetFault
after (Ok x) k = k x
after (Err e) k = Err e

-- Read the next field, and go on with it and with what is unread then.
abbrev pub took : {X : Type 0} → Unread → (FieldText → Unread → Result X SheetFault) → Result X SheetFault
took u k = after (next_of u).0 (λ f. k f (next_of u).1)
