use Rattle.std.proofs.Common.{[], ◌∷◌, refl, rules}
use Rattle.places.proofs.Lay.{laid_set}
use Rattle.output.proofs.Chain.{cut_past}
use Rattle.output.proofs.Line.put.Goals as goal

pub returns-then-self : goal.returns-then-self
returns-then-self c =
    record {
      room = search rules;
      all = laid_set c.args.self.now.bytes.now c.args.self.now.len.now c.args.b;
      long = refl;
      held = record { bytes = refl; len = refl; start = refl };
    }

pub returns-else-self : goal.returns-else-self
returns-else-self c = cut_past (c.args.b ∷ []) c.if-self.false (search rules)
