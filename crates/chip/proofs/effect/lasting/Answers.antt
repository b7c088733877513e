use Rattle.std.proofs.Common.{refl}
use Rattle.chip.specs.Effect.{bits2}
use Rattle.chip.proofs.Ands.{inside, still_inside}
use Rattle.chip.proofs.effect.lasting.Goals as goal

pub returns : goal.returns
returns c =
    record {
      value = refl;
      clear = λ p h. (h.0, (still_inside c.args.r.sr2 122 (bits2 p) h.1.0, h.1.1));
      lasts = inside c.args.r.sr2 122 122 refl;
    }
