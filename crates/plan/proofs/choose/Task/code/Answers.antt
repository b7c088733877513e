use Rattle.plan.proofs.Smallest.{found}
use Rattle.plan.proofs.choose.Task.code.Goals as goal

pub returns : goal.returns
returns c = found c.args.self.face.part c.codes_of.result c.args.self.wish.«set» c.code_of.result c.codes_of.ensures c.code_of.ensures
