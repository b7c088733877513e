use Rattle.std.proofs.Common.{◌≡◌, ◌%◌, ◌^◌, ◌≤◌}
use Rattle.session.specs.Asked.{spent}
use Rattle.session.proofs.asking.read_locks.Given as goal

-- So far the bits below this unit's are in.
abbrev pub invariant-loop-unit : goal.invariant-loop-unit
invariant-loop-unit g l =
    (g.C.Chip.state l.chip ≡ spent l.unit (g.C.Chip.state l.initial.chip))
    × ((l.unit ≤ (g.C.Chip.state l.initial.chip).carry) × (l.locks ≡ (g.C.Chip.state l.initial.chip).face.locks % 2 ^ l.unit))
