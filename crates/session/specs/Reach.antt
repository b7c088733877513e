-- What a reach answers, and what it leaves of the chip, the picture and the places.
use Rattle.std.specs.Prelude.{◌≡◌, ℕ, cond, List, length, Some, None, Ok, Err, Option, Result, nat_le}
use Rattle.units.specs.Ranges.{range_fault, wished}
use Rattle.units.specs.declared.ranges.Range.{Range}
use Rattle.units.specs.declared.ranges.RangeFault.{RangeFault}
use Rattle.chip.specs.Effect.{suspended}
use Rattle.chip.specs.Step.{Known}
use Rattle.chip.specs.declared.model.Command.{Command}
use Rattle.picture.specs.declared.reading.Reading.{Reading}
use Rattle.places.specs.Laid.{laid}
use Rattle.plan.specs.Plan.{planned}
use Rattle.plan.specs.declared.wish.Term.{Term}
use Rattle.refusals.specs.declared.RunFault.{RunFault}
use Rattle.refusals.specs.declared.RunFault.TheVariants.{Blind, Suspended, Cable, Full}
use Rattle.refusals.specs.declared.Sent.{Sent}
use Rattle.session.specs.Send.{World, sending}
use Rattle.session.specs.View.{View}

-- The set that ranges wish for, where its fault is the run's.
abbrev pub ranged : {X : Type 0} → Result X RangeFault → Result X RunFault
ranged (Ok x) = Ok x
ranged (Err f) = Err (range_fault f)

abbrev pub and_if : {X Y : Type 0} → Result X RunFault → (X → Result Y RunFault) → Result Y RunFault
and_if (Ok x) k = k x
and_if (Err f) k = Err f

abbrev pub seen_in : Option Reading → Result Reading RunFault
seen_in None = Err Blind
seen_in (Some x) = Ok x

-- The plan that is sent: the ranges' faults come first, then that the session is blind, SUS, why there is no plan, and
-- that the places are too few.
abbrev pub reach_plan : List Range → Term → ℕ → Option Reading → Result (List Command) RunFault
reach_plan rs t room p =
    and_if (ranged (wished rs)) (λ w. and_if (seen_in p) (λ x.
    cond (suspended x.face) (Err Suspended)
    (and_if (planned x.face w t) (λ cs. cond (nat_le (length cs) room) (Ok cs) (Err Full)))))

-- Done tells how many commands were sent; a cable's fault, how many were carried.
abbrev pub counted : List Command → Result (Unit {0}) Sent → Result ℕ RunFault
counted cs (Ok u) = Ok (length cs)
counted cs (Err s) = Err (Cable s.fault s.carried)

abbrev pub sent_from : List Command → View → Reading → Result (Unit {0}) Sent × World
sent_from cs v x = sending cs (record { state = v.state; reading = x })

-- Refused, nothing changes. Sent, the plan stands in the first places, and chip and picture are as the sending leaves them.
abbrev pub ReachedBy : Result (List Command) RunFault → Option Reading → View → List Command → Result ℕ RunFault → View → List Command → Type 0
ReachedBy (Err f) p v slots r w slots' = (r ≡ Err f) × ((w ≡ v) × (slots' ≡ slots))
ReachedBy (Ok cs) None v slots r w slots' = ⊥
ReachedBy (Ok cs) (Some x) v slots r w slots' =
    (slots' ≡ laid slots 0 cs)
    × (Known v.state.face.part →
    (r ≡ counted cs (sent_from cs v x).0)
    × (w ≡ record { state = (sent_from cs v x).1.state; number = v.number; picture = Some (sent_from cs v x).1.reading }))

abbrev pub Reached : List Range → Term → View → List Command → Result ℕ RunFault → View → List Command → Type 0
Reached rs t v slots r w slots' = ReachedBy (reach_plan rs t (length slots) v.picture) v.picture v slots r w slots'
