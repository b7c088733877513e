use Rattle.output.specs.Hex.{hex}
use Rattle.output.proofs.Chain.{Onward}
use Rattle.output.proofs.Line.hex.Given as goal

-- Writing the digits that are left from here on ends as writing all of them.
abbrev pub invariant-loop-right : goal.invariant-loop-right
invariant-loop-right l = Onward (hex l.width l.n) l.initial.self (hex l.right l.n) l.self
