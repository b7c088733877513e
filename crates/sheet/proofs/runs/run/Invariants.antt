use Rattle.std.proofs.Common.{◌+◌, ◌*◌, ◌≤◌, length, None}
use Rattle.output.proofs.Pour.{Onto}
use Rattle.sheet.specs.Bench.{desk_of}
use Rattle.sheet.specs.Sheet.{answers}
use Rattle.text.specs.Lines.{lines, lines_left}
use Rattle.sheet.proofs.runs.run.Given as goal

-- What is still to be answered, after what is said, ends as the whole sheet from its start; and no line so far took
-- more than its share of the room.
abbrev pub invariant-loop-line : goal.invariant-loop-line
invariant-loop-line l =
    record {
      can : (goal.iterator-loop-line).can_next l.line-iterator;
      ends : (goal.iterator-loop-line).is_finite l.line-iterator;
      onto :
          Onto (answers None 0 (lines l.input)) l.initial.output (answers (desk_of l.bench) l.number (lines_left l.line-iterator)) l.output;
      share : l.output.len + 28 * length (lines_left l.line-iterator) ≤ 28 * length (lines l.input);
    }
