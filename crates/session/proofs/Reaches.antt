-- A plan that was sent is what a reach promises.
use Rattle.std.proofs.Common.{rules, ◌≡◌, ℕ, ◌≤◌, false, List, [], length, take, Some, Ok, Err, Option, Result, sym, refl, ap, ◌∙◌, subst, arith}
use Rattle.std.proofs.lemmas.List.{append-nil}
use Rattle.std.proofs.lemmas.Bool.{le-leb}
use Rattle.units.specs.Ranges.{wished}
use Rattle.units.specs.declared.ranges.Range.{Range}
use Rattle.chip.specs.Effect.{suspended}
use Rattle.chip.specs.Step.{Known}
use Rattle.chip.specs.declared.model.Command.{Command}
use Rattle.picture.specs.declared.reading.Reading.{Reading}
use Rattle.places.specs.Laid.{laid}
use Rattle.places.proofs.Lay.{take_laid}
use Rattle.plan.specs.Plan.{planned}
use Rattle.plan.specs.Written.{Plans}
use Rattle.plan.specs.declared.wish.Term.{Term}
use Rattle.refusals.specs.declared.RunFault.{RunFault}
use Rattle.refusals.specs.declared.RunFault.TheVariants.{Cable}
use Rattle.refusals.specs.declared.Sent.{Sent}
use Rattle.session.specs.Reach.{ranged, reach_plan, counted, sent_from, ReachedBy, Reached}
use Rattle.session.specs.Send.{World, sending}
use Rattle.session.specs.View.{View}

-- The count of a plan that was sent, or the fault.
abbrev pub told : ℕ → Result (Unit {0}) Sent → Result ℕ RunFault
told n (Ok u) = Ok n
told n (Err s) = Err (Cable s.fault s.carried)

told_counted : (n : ℕ) (cs : List Command) (o : Result (Unit {0}) Sent) → n ≡ length cs → told n o ≡ counted cs o
told_counted n cs (Ok u) e = ap Ok e
told_counted n cs (Err s) e = refl

front : (slots cs : List Command) → length cs ≤ length slots → take (length cs) (laid slots 0 cs) ≡ cs
front slots cs h = ap (λ ys. take (length cs) (laid slots 0 ys)) (sym (append-nil cs)) ∙ take_laid slots cs [] h

plan_found : (rs : List Range) (t : Term) (room w : ℕ) (p : Option Reading) (x : Reading) (cs : List Command) → ranged (wished rs) ≡ Ok w →
    p ≡ Some x → suspended x.face ≡ false → planned x.face w t ≡ Ok cs → length cs ≤ room → reach_plan rs t room p ≡ Ok cs
plan_found rs t room w p x cs a b d e h =
    let fits = le-leb (length cs) room h in search rules

abbrev pub made : View → World → View
made v u = record { state = u.state; number = v.number; picture = Some u.reading }

pub sent_reach : (rs : List Range) (t : Term) (v : View) (slots slots' : List Command) (n w : ℕ) (x : Reading)
    (p : Result (List Command) RunFault) (o : Result (Unit {0}) Sent) (u : World) → ranged (wished rs) ≡ Ok w → v.picture ≡ Some x →
    suspended x.face ≡ false → planned x.face w t ≡ p → Plans p (Ok n) slots slots' →
    (ys : List Command) → ys ≡ take n slots' →
    (Known v.state.face.part → sending ys (record { state = v.state; reading = x }) ≡ (o, u)) →
    (r : Result ℕ RunFault) → r ≡ told n o → Reached rs t v slots r (made v u) slots'
sent_reach rs t v slots slots' n w x (Err e) o u a b d f q ys g run r e' =
    search rules
sent_reach rs t v slots slots' n w x (Ok cs) o u a b d f q ys g run r e =
    let room : length cs ≤ length slots = omega (arith, q.1.room) in
    let found = plan_found rs t (length slots) w v.picture x cs a b d f room in
    let whole : ys ≡ cs = g ∙ ap (λ i. take i slots') q.0 ∙ ap (take (length cs)) q.1.all ∙ front slots cs room in
    subst (λ y. ReachedBy y v.picture v slots r (made v u) slots') (sym found)
    (subst (λ y. ReachedBy (Ok cs) y v slots r (made v u) slots') (sym b) (
      q.1.all,
      λ known.
          let sent : sent_from cs v x ≡ (o, u) = ap (λ ys. sending ys (record { state = v.state; reading = x })) (sym whole) ∙ run known in (
            e ∙ told_counted n cs o q.0 ∙ ap (λ y. counted cs y.0) (sym sent),
            ap (λ y. made v y.1) (sym sent),
          ),
    ))
