use Rattle.std.proofs.Common.{rules}
use Rattle.chip.proofs.Cleared.{second_inside}
use Rattle.chip.proofs.effect.second_after.Goals as goal

pub returns-clause-clear : goal.returns-clause-clear
returns-clause-clear c = search (rules, second_inside)
