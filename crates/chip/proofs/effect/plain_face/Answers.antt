use Rattle.std.proofs.Common.{rules}
use Rattle.chip.proofs.Cleared.{cut}
use Rattle.chip.proofs.effect.plain_face.Goals as goal

pub returns-clause-plain : goal.returns-clause-plain
returns-clause-plain c = search (rules, cut)
