use Rattle.laws.proofs.Exact.{exact}
use Rattle.laws.proofs.Whole.{held_whole, met_whole}
use Rattle.laws.proofs.plan_for.Goals as goal

pub returns : goal.returns
returns c =
    record {
      plan = c.plan.ensures.plan;
      enough = c.plan.ensures.enough;
      short = c.plan.ensures.short;
      law = exact c.args.picture.now.reading.face c.args.wish.«set» c.args.wish.term c.args.picture.now.plain;
      held = held_whole;
      met = met_whole;
    }
