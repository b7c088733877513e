use Rattle.std.proofs.Common.{drop}
use Rattle.output.proofs.Chain.{Onward}
use Rattle.output.proofs.Line.text.Given as goal

-- Writing what is left of the text from here on ends as writing all of it.
abbrev pub invariant-loop-b : goal.invariant-loop-b
invariant-loop-b l = Onward l.text l.initial.self (drop l.b-index l.text) l.self
