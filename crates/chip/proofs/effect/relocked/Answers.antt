use Rattle.std.proofs.Common.{rules}
use lib.Bits.{or_lt}
use Rattle.chip.proofs.Ands.{lacked}
use Rattle.chip.proofs.effect.relocked.Goals as goal

pub returns-in-Lock-clause-bound : goal.returns-in-Lock-clause-bound
returns-in-Lock-clause-bound c = search (rules, or_lt)

pub returns-in-Unlock-clause-value : goal.returns-in-Unlock-clause-value
returns-in-Unlock-clause-value c = search (rules, lacked)
