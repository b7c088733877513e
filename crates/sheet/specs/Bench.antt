-- What each record of a sheet is answered, and what it leaves on the bench.
use Rattle.std.specs.Prelude.{ℕ, Bool, cond, List, Some, None, Ok, Err, Option, Result}
use Rattle.units.specs.Ranges.{in_array}
use Rattle.chip.specs.Start.{started}
use Rattle.chip.specs.Step.{keyed, powered}
use Rattle.chip.specs.declared.model.State.{State}
use Rattle.parts.specs.Any.{any_state}
use Rattle.parts.specs.declared.any.AnyPart.{AnyPart}
use Rattle.picture.specs.Protection.{array_command}
use Rattle.picture.specs.declared.array.ArrayCommand.{ArrayCommand}
use Rattle.records.specs.Records.{ChipText, RecordText, a_chip, a_look, a_key, a_power, a_judge, record_of}
use Rattle.records.specs.Values.{part_in, values_in, level_in}
use Rattle.refusals.specs.declared.RunFault.{RunFault}
use Rattle.refusals.specs.declared.RunFault.TheVariants.{Code}
use Rattle.refusals.specs.declared.SheetFault.{SheetFault}
use Rattle.refusals.specs.declared.SheetFault.TheVariants.{NoChip, Run}
use Rattle.session.specs.Calls.{look_answer, after_look, rekeyed_in, judge_answer}
use Rattle.session.specs.View.{View, view}
use Rattle.session.specs.declared.session.Session.{Session}
use Rattle.sheet.specs.declared.bench.Bench.{Bench}
use Rattle.sheet.specs.declared.bench.Said.{Said}
use Rattle.sheet.specs.declared.bench.Said.TheVariants.{Fine, Seen, Obeyed, Ignored}
use Rattle.text.specs.Fields.{FieldText, after}
use Rattle.text.specs.Numbers.{hex_of}

-- The session on the bench, if there is a chip.
abbrev pub shown : Option (Session AnyPart) → Option View
shown None = None
shown (Some s) = Some (view any_state s)

abbrev pub desk_of : Bench → Option View
desk_of b = shown b.session

-- The state that a chip record starts a chip in.
abbrev pub start_of : ChipText → Result State SheetFault
start_of f =
    after (part_in f.part) (λ p. after (values_in p f) (λ x. Ok (started p x)))

abbrev pub told_start : ChipText → Result Said SheetFault
told_start f = after (start_of f) (λ _. Ok Fine)

-- A good chip record puts a blind session over the new chip on the bench, a refused one leaves what was there.
abbrev pub put_chip : Result State SheetFault → ℕ → Option View → Option View
put_chip (Ok s) number d = Some (record { state = s; number = number; picture = None })
put_chip (Err e) number d = d

abbrev pub next_start : ChipText → ℕ → Option View → Option View
next_start f number d = put_chip (start_of f) number d

-- A run's fault, with the place that is told.
abbrev pub placed : {X : Type 0} → ℕ → Result X RunFault → Result X SheetFault
placed place (Ok x) = Ok x
placed place (Err f) = Err (Run f place)

abbrev pub told_look : Option View → Result Said SheetFault
told_look None = Err NoChip
told_look (Some v) = after (placed 0 (look_answer v)) (λ set. Ok (Seen set))

abbrev pub next_look : Option View → Option View
next_look None = None
next_look (Some v) = Some (after_look v)

-- Key and power are never refused, but for a field that is written wrongly and for want of a chip.
abbrev pub if_chip : Option View → Result Said SheetFault
if_chip None = Err NoChip
if_chip (Some v) = Ok Fine

abbrev pub told_key : FieldText → Option View → Result Said SheetFault
told_key f d = after (level_in f) (λ high. if_chip d)

abbrev pub with_key : Bool → Option View → Option View
with_key high None = None
with_key high (Some v) = Some (record { state = keyed high v.state; number = v.number; picture = rekeyed_in high v.picture })

abbrev pub if_level : Result Bool SheetFault → Option View → Option View
if_level (Ok high) d = with_key high d
if_level (Err e) d = d

abbrev pub next_key : FieldText → Option View → Option View
next_key f d = if_level (level_in f) d

abbrev pub told_power : Option View → Result Said SheetFault
told_power d = if_chip d

abbrev pub next_power : Option View → Option View
next_power None = None
next_power (Some v) = Some (record { state = powered v.state; number = v.number; picture = None })

-- Judge: the code is tried before the address is read, then that the address lies in the array.
abbrev pub judgeable : Option ArrayCommand → Result (Unit {0}) RunFault
judgeable None = Err Code
judgeable (Some c) = Ok tt

abbrev pub known_code : ℕ → Result (Unit {0}) RunFault
known_code code = judgeable (array_command code)

abbrev pub command_in : FieldText → FieldText → Result (ℕ × ℕ) SheetFault
command_in code address =
    after (hex_of 2 code) (λ c. after (placed code.at (known_code c)) (λ _.
    after (hex_of 6 address) (λ a. after (placed address.at (in_array a)) (λ _. Ok (c, a)))))

abbrev pub judge_on : ℕ → ℕ → Option View → Result Said SheetFault
judge_on code address None = Err NoChip
judge_on code address (Some v) = after (placed 0 (judge_answer code address v)) (λ b. Ok (cond b Obeyed Ignored))

abbrev pub told_judge : FieldText → FieldText → Option View → Result Said SheetFault
told_judge code address d = after (command_in code address) (λ c. judge_on c.0 c.1 d)

-- The answer to a record, and what it leaves.
abbrev pub told_record : RecordText → Option View → Result Said SheetFault
told_record (a_chip f) d = told_start f
told_record a_look d = told_look d
told_record (a_key f) d = told_key f d
told_record a_power d = told_power d
told_record (a_judge code address) d = told_judge code address d

abbrev pub next_record : RecordText → ℕ → Option View → Option View
next_record (a_chip f) number d = next_start f number d
next_record a_look number d = next_look d
next_record (a_key f) number d = next_key f d
next_record a_power number d = next_power d
next_record (a_judge code address) number d = d

-- A line is answered as the record that it is, or refused and changes nothing.
unfoldable pub told : List ℕ → Option View → Result Said SheetFault
told line d = after (record_of line) (λ r. told_record r d)

abbrev pub if_record : Result RecordText SheetFault → ℕ → Option View → Option View
if_record (Ok r) number d = next_record r number d
if_record (Err e) number d = d

unfoldable pub next : List ℕ → ℕ → Option View → Option View
next line number d = if_record (record_of line) number d
