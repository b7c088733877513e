use Rattle.std.proofs.Common.{◌≡◌, false, Some, Ok, ap, refl, sym, rules}
use Rattle.chip.specs.Effect.{suspended}
use Rattle.plan.specs.Plan.{planned}
use Rattle.session.specs.Reach.{ranged}
use Rattle.session.specs.View.{view, reading_in}
use Rattle.session.specs.World.{world}
use Rattle.session.proofs.Reaches.{sent_reach}
use Rattle.session.proofs.session.Session.run_wish.Goals as goal
use Rattle.units.specs.Ranges.{wished}

pub returns-in_err-sent : goal.returns-in_err-sent
returns-in_err-sent g c =
    let s = c.args.self.now in
    let seen = c.in_ok-picture.picture.reading in
    let picture : reading_in s.picture ≡ Some seen = search rules in
    let calm : suspended seen.face ≡ false = search rules in
    let wish : ranged (wished c.args.ranges.now) ≡ Ok c.in_ok-set.«set» = ap ranged (sym c.in_ok-set.ensures.value) in
    sent_reach c.args.ranges.now c.args.term (view g.C.Chip.state s) c.args.slots.now c.plan_for.new.slots
    c.in_ok-count.count c.in_ok-set.«set» seen (planned seen.face c.in_ok-set.«set» c.args.term)
    c.send-sent.result (world g.C.Chip.state c.send-sent.new.self) wish picture calm
    refl c.in_ok-count.ensures.plan _ (search rules) c.send-sent.ensures.run c.from_residual-in_err-sent.result (search rules)

pub returns : goal.returns
returns g c =
    let s = c.args.self.now in
    let seen = c.in_ok-picture.picture.reading in
    let picture : reading_in s.picture ≡ Some seen = search rules in
    let calm : suspended seen.face ≡ false = search rules in
    let wish : ranged (wished c.args.ranges.now) ≡ Ok c.in_ok-set.«set» = ap ranged (sym c.in_ok-set.ensures.value) in
    sent_reach c.args.ranges.now c.args.term (view g.C.Chip.state s) c.args.slots.now c.plan_for.new.slots
    c.in_ok-count.count c.in_ok-set.«set» seen (planned seen.face c.in_ok-set.«set» c.args.term)
    c.send-sent.result (world g.C.Chip.state c.send-sent.new.self) wish picture calm
    refl c.in_ok-count.ensures.plan _ (search rules) c.send-sent.ensures.run (Ok c.in_ok-count.count) (search rules)
