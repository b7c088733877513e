-- The lines of a sheet, and which of them are let in.
use Rattle.std.specs.Prelude.{ℕ, ◌+◌, min, Bool, cond, ◌&&◌, ◌||◌, List, [], ◌∷◌, length, take, drop, Ok, Err, Result, ◌==◌, nat_le}
use Rattle.refusals.specs.declared.SheetFault.{SheetFault}
use Rattle.refusals.specs.declared.SheetFault.TheVariants.{Bytes}
use Rattle.std.specs.List.{prefix_len}
use Rattle.text.specs.Scan.{other}
use Rattle.text.specs.declared.lines.Lines.{Lines}

-- A byte put before the first of the lines.
abbrev pub before : ℕ → List (List ℕ) → List (List ℕ)
before b [] = (b ∷ []) ∷ []
before b (line ∷ more) = (b ∷ line) ∷ more

-- The lines of a text: each ends at a line feed, which the last may lack.
unfoldable pub lines : List ℕ → List (List ℕ)
lines [] = []
lines (b ∷ bs) = cond (b == 10) ([] ∷ lines bs) (before b (lines bs))

-- The lines that a reader has still to give.
abbrev pub lines_left : Lines → List (List ℕ)
lines_left l = lines l.rest.now

-- All before the first line feed.
abbrev pub first_line : List ℕ → List ℕ
first_line text = take (prefix_len (other 10) text) text

-- All after it.
abbrev pub after_line : List ℕ → List ℕ
after_line text = drop (prefix_len (other 10) text + 1) text

-- A byte that a line may have: a tab, or 20h to 7Eh.
abbrev pub fine : ℕ → Bool
fine b = b == 9 || (nat_le 32 b && nat_le b 126)

-- A line is let in if it has at most 200 bytes and all are fine. Else the place of the first that is not is told, or 200.
abbrev pub admitted : List ℕ → Result (Unit {0}) SheetFault
admitted line =
    cond (nat_le (length line) 200 && prefix_len fine line == length line)
    (Ok tt)
    (Err (Bytes (min (prefix_len fine line) 200)))
