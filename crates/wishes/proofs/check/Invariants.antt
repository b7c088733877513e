use Rattle.std.proofs.Common.{◌≡◌, Ok}
use Rattle.text.specs.Fields.{fields_left, after}
use Rattle.wishes.specs.Wishes.{ranges_in}
use Rattle.wishes.proofs.check.Given as goal

-- The fields so far were ranges.
abbrev pub invariant-loop-field : goal.invariant-loop-field
invariant-loop-field l =
    (goal.iterator-loop-field).can_next l.field-iterator
    × (goal.iterator-loop-field).is_finite l.field-iterator
    × (after (ranges_in (fields_left l.fields)) (λ _. Ok (tt {0})) ≡ after (ranges_in (fields_left l.field-iterator)) (λ _. Ok (tt {0})))
