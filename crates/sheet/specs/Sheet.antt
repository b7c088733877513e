-- A whole sheet: the answers to its lines, one after the other, as far as whole ones fit.
use Rattle.std.specs.Prelude.{ℕ, ◌+◌, ◌%◌, cond, List, [], ◌∷◌, length, None, Ok, Err, Option, Result}
use Rattle.output.specs.Pour.{Paper, pour}
use Rattle.refusals.specs.declared.SheetFault.TheVariants.{Room}
use Rattle.session.specs.View.{View}
use Rattle.sheet.specs.Answers.{answer_text}
use Rattle.sheet.specs.Bench.{told, next}
use Rattle.sheet.specs.declared.runs.Unfinished.{Unfinished}
use Rattle.text.specs.Lines.{lines}

-- The answer to each line, from the bench and the line's number on; numbers go round after 65,535.
unfoldable pub answers : Option View → ℕ → List (List ℕ) → List (List ℕ)
answers d number [] = []
answers d number (line ∷ more) = answer_text (told line d) ∷ answers (next line number d) ((number + 1) % 65536) more

-- What is said in this much room, what is taken back, and whether anything was.
abbrev pub sheet : List ℕ → ℕ → Paper
sheet input room = pour [] room (answers None 0 (lines input))

-- The count of bytes said; the sheet is unfinished where a line did not fit.
abbrev pub finish : Paper → Result ℕ Unfinished
finish p = cond p.full (Err (record { kept = length p.said; fault = Room })) (Ok (length p.said))
