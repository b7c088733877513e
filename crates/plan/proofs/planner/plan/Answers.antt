use Rattle.std.proofs.Common.{rules}
use Rattle.plan.proofs.Short.{commands_short}
use Rattle.plan.proofs.planner.plan.Goals as goal

pub returns-clause-short : goal.returns-clause-short
returns-clause-short c =
    let short = commands_short c.in_ok-route.route c.args.picture.now.reading.face c.args.wish.«set» c.args.wish.term in search rules
