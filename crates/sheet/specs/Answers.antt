-- The text of an answer, one line.
use Rattle.std.specs.Prelude.{ℕ, List, [], ◌∷◌, ◌++◌, Ok, Err, codes, decimal, Result}
use Rattle.output.specs.Hex.{hex}
use Rattle.refusals.specs.Numbers.{sheet_number, sheet_place}
use Rattle.refusals.specs.declared.SheetFault.{SheetFault}
use Rattle.sheet.specs.declared.bench.Said.{Said}
use Rattle.sheet.specs.declared.bench.Said.TheVariants.{Fine, Seen, Obeyed, Ignored}

-- "seen", and the set in 16 digits.
abbrev pub seen_text : ℕ → List ℕ
seen_text set = codes "seen " ++ (hex 16 set ++ (10 ∷ []))

-- "no", the number of the refusal, and its place.
abbrev pub no_text : ℕ → ℕ → List ℕ
no_text number place = codes "no " ++ (decimal number ++ ((32 ∷ []) ++ (decimal place ++ (10 ∷ []))))

abbrev pub said_text : Said → List ℕ
said_text Fine = codes "ok" ++ (10 ∷ [])
said_text (Seen set) = seen_text set
said_text Obeyed = codes "obeyed" ++ (10 ∷ [])
said_text Ignored = codes "ignored" ++ (10 ∷ [])

abbrev pub answer_text : Result Said SheetFault → List ℕ
answer_text (Ok s) = said_text s
answer_text (Err e) = no_text (sheet_number e) (sheet_place e)
