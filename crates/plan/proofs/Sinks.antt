-- Commands written after commands.
use Rattle.std.proofs.Common.{ℕ, List, ◌++◌, Ok, Err, Result, arith, length-append}
use Rattle.chip.specs.declared.model.Command.{Command}
use Rattle.plan.specs.Sinks.{SinkLaws, Writes}
use Rattle.refusals.specs.declared.RunFault.{RunFault}

module _ {S : Type 0} {room : S → ℕ} {takes : List Command → S → S → Type 0} (laws : SinkLaws room takes) where
  -- After some that are taken, others.
  pub writes_more : (cs ds : List Command) (r : Result (Unit {0}) RunFault) (s t u : S) → takes cs s t → Writes room takes ds r t u → Writes room takes (cs ++ ds) r s u
  writes_more cs ds (Ok x) s t u p q = laws.more p q
  writes_more cs ds (Err f) s t u p q =
      let n = length-append cs ds in
      let k = laws.counted p in
      (q.0, omega (arith, q.1))

  -- Too little room for the first of them is too little for all.
  pub writes_few : (cs ds : List Command) (f : RunFault) (s t : S) → Writes room takes cs (Err f) s t → Writes room takes (cs ++ ds) (Err f) s t
  writes_few cs ds f s t h = let n = length-append cs ds in (h.0, omega (arith, h.1))
