use Rattle.std.proofs.Common.{rules}
use Rattle.chip.proofs.Cleared.{locks_plain}
use Rattle.chip.proofs.effect.locks_after.Goals as goal

pub returns-in-Jw : goal.returns-in-Jw
returns-in-Jw c =
    record {
      value = search rules;
      plain = locks_plain c.args.part c.in-Jw.is c.args.locks c.relocked.result c.relocked.ensures.bound;
    }
