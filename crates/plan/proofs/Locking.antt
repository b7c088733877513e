-- The two sweeps and what follows them are the lock plan.
use Rattle.std.proofs.Common.{◌≡◌, ℕ, ◌^◌, ◌<◌, cond, List, [], ◌∷◌, ◌++◌, bit_and, Err, Result, ap, ◌∙◌, subst}
use Rattle.std.specs.Int.{bit_not, w64}
use Rattle.chip.specs.declared.model.Bytes.TheVariants.{One}
use Rattle.chip.specs.declared.model.Command.{Command}
use Rattle.chip.specs.declared.model.Face.{Face}
use Rattle.plan.specs.Plan.{by_lock_bits, arm, third_byte, sweep, to_lock, lock_plan}
use Rattle.plan.specs.Sinks.{SinkLaws, Writes}
use Rattle.plan.specs.declared.wish.Term.TheVariants.{Now}
use Rattle.plan.proofs.Sinks.{writes_more, writes_few}
use Rattle.plan.proofs.Sweeps.{member, sweep_to_lock, sweep_to_unlock}
use Rattle.refusals.specs.declared.RunFault.{RunFault}

-- The sweep over the units that are wanted and not locked, that over those that are locked and not wanted, and WPS raised.
abbrev pub locking : Face → ℕ → List Command
locking f w = sweep (member (bit_and w (bit_not w64 f.locks))) 54 62

abbrev pub unlocking : Face → ℕ → List Command
unlocking f w = sweep (member (bit_and f.locks (bit_not w64 w))) 57 62

abbrev pub raising : Face → List Command
raising f = cond (by_lock_bits f) [] (arm Now ∷ (record { code = 17; bytes = One (third_byte f 1) } ∷ []))

lock_plan_is : (f : Face) (w : ℕ) → f.locks < 2 ^ 64 → w < 2 ^ 64 → locking f w ++ (unlocking f w ++ raising f) ≡ lock_plan f w
unfolding lock_plan
lock_plan_is f w h k =
    ap (λ cs. cs ++ (unlocking f w ++ raising f)) (sweep_to_lock f.locks w 54 h)
    ∙ ap (λ cs. sweep (to_lock f.locks w) 54 62 ++ (cs ++ raising f)) (sweep_to_unlock f.locks w 57 k)

module _ {S : Type 0} {room : S → ℕ} {takes : List Command → S → S → Type 0} (laws : SinkLaws room takes)
    (f : Face) (w : ℕ) (h : f.locks < 2 ^ 64) (k : w < 2 ^ 64) where
  whole : (r : Result (Unit {0}) RunFault) (s t : S) → Writes room takes (locking f w ++ (unlocking f w ++ raising f)) r s t → Writes room takes (lock_plan f w) r s t
  whole r s t p = subst (λ cs. Writes room takes cs r s t) (lock_plan_is f w h k) p

  pub locks_few : (e : RunFault) (s t : S) → Writes room takes (locking f w) (Err e) s t → Writes room takes (lock_plan f w) (Err e) s t
  locks_few e s t p = whole (Err e) s t (writes_few laws (locking f w) (unlocking f w ++ raising f) e s t p)

  pub unlocks_few : (e : RunFault) (s t u : S) → takes (locking f w) s t → Writes room takes (unlocking f w) (Err e) t u → Writes room takes (lock_plan f w) (Err e) s u
  unlocks_few e s t u p q =
      whole (Err e) s u (writes_more laws (locking f w) (unlocking f w ++ raising f) (Err e) s t u p (writes_few laws (unlocking f w) (raising f) e t u q))

  pub locks_whole : (r : Result (Unit {0}) RunFault) (s t u v : S) → takes (locking f w) s t → takes (unlocking f w) t u → Writes room takes (raising f) r u v →
      Writes room takes (lock_plan f w) r s v
  locks_whole r s t u v p q x =
      whole r s v (writes_more laws (locking f w) (unlocking f w ++ raising f) r s t v p (writes_more laws (unlocking f w) (raising f) r t u v q x))
