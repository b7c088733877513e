use Rattle.std.proofs.Common.{rules}
use Rattle.chip.proofs.Cleared.{cut}
use Rattle.chip.proofs.effect.written.Goals as goal

pub returns-in-First : goal.returns-in-First
returns-in-First c = search (rules, cut)

pub returns-in-FirstTwo : goal.returns-in-FirstTwo
returns-in-FirstTwo c = search (rules, cut)

pub returns-in-Third : goal.returns-in-Third
returns-in-Third c = search (rules, cut)
