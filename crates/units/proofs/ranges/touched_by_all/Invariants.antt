-- The first range that is not inside the array is one still to come, and the set has what the ranges so far touch.
use Rattle.std.proofs.Common.{◌≡◌, drop, fold, not}
use Rattle.std.specs.List.{position_from}
use Rattle.units.specs.Ranges.{first_failing, inside, plus, union}
use Rattle.units.proofs.ranges.touched_by_all.Given as goal

abbrev pub invariant-loop-at : goal.invariant-loop-at
invariant-loop-at l =
    (first_failing inside l.ranges ≡ position_from (λ r. not (inside r)) l.at (drop l.at l.ranges))
    × (union l.ranges ≡ fold plus l.set (drop l.at l.ranges))
