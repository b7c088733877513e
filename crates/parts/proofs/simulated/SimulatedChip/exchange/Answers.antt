use Rattle.std.proofs.Common.{rules}
use Rattle.chip.proofs.Steps.{stepping}
use Rattle.parts.specs.Holding.{over}
use Rattle.parts.proofs.simulated.SimulatedChip.exchange.Goals as goal

pub returns-then-idle : goal.returns-then-idle
returns-then-idle g c =
    let before = c.args.self.now in
    let after = over (g.M.Memory.held c.obey.new.self) c.obey.new.line in
    stepping c.args.e (over (g.M.Memory.held before.memory) before.line) _ after (search rules) (search rules)
