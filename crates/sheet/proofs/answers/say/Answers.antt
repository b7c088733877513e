use Rattle.std.proofs.Common.{rules}
use Rattle.sheet.proofs.Lengths.{seen_short, no_short}
use Rattle.sheet.proofs.answers.say.Goals as goal

pub returns-in-Ok-Seen : goal.returns-in-Ok-Seen
returns-in-Ok-Seen c =
    record { text = search rules; short = let s = seen_short c.in-Ok-Seen.set in search rules }

pub returns-in-Err : goal.returns-in-Err
returns-in-Err c =
    record {
      text = search rules;
      short =
          let s = no_short c.number.result c.place.result c.number.type_inv c.place.type_inv in search rules;
    }
