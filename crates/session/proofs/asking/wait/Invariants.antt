use Rattle.std.proofs.Common.{◌≡◌, ◌≤◌}
use Rattle.session.specs.Asked.{spent}
use Rattle.session.proofs.asking.wait.Given as goal

-- So far each read showed BUSY.
abbrev pub invariant-loop-reads : goal.invariant-loop-reads
invariant-loop-reads g l =
    (g.C.Chip.state l.chip ≡ spent l.reads-counter (g.C.Chip.state l.initial.chip))
    × ((l.reads-counter ≤ (g.C.Chip.state l.initial.chip).carry) × (l.reads-counter ≤ (g.C.Chip.state l.initial.chip).busy))
