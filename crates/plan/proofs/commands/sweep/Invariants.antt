use Rattle.std.proofs.Common.{◌==◌}
use Rattle.plan.specs.Plan.{sweep}
use Rattle.units.specs.Units.{has}
use Rattle.plan.proofs.commands.sweep.Given as goal

abbrev pub invariant-loop-unit : goal.invariant-loop-unit
invariant-loop-unit g l = g.S.Sink.takes (sweep (λ u. has l.«set» u == 1) l.code l.unit) l.initial.to l.to
