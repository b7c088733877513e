use Rattle.std.proofs.Common.{drop}
use Rattle.session.specs.Send.{sends}
use Rattle.session.specs.World.{Runs}
use Rattle.session.proofs.send.Link.send_all.Given as goal

-- Whatever the commands still to come end in, all of them end in from the start.
abbrev pub invariant-loop-i : goal.invariant-loop-i
invariant-loop-i g l =
    (r : _) (end : _) → Runs g.C.Chip.state (sends (drop l.i-counter l.commands) l.i-counter) l.self r end →
    Runs g.C.Chip.state (sends l.commands 0) l.initial.self r end
