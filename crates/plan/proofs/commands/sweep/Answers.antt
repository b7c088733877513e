use Rattle.std.proofs.Common.{◌+◌, sym, subst, rules}
use Rattle.plan.specs.Plan.{sweep}
use Rattle.units.specs.Units.{has}
use Rattle.plan.proofs.Sweeps.{member, sweep_on, sweep_past, sweep_no_room}
use Rattle.plan.proofs.commands.sweep.Goals.{then-set-unit-eq1+in_ok-at_unit, else-set-unit-eq1}
use Rattle.plan.proofs.commands.sweep.Goals as goal

pub loop-unit-init : goal.loop-unit-init
unfolding sweep
loop-unit-init g c = g.met.S.Sink.laws.none c.args.to.now

pub returns-in_err-at_unit : goal.returns-in_err-at_unit
unfolding has
returns-in_err-at_unit g c =
    let no_room =
    sweep_no_room g.met.S.Sink.laws c.args.«set» c.args.code c.loop-unit.unit c.args.to.now c.loop-unit.to
    c.loop-unit-test.true c.if-set-unit-eq1.true c.loop-unit.invariant c.in_err-at_unit.ensures.1
    in
    search rules

pub loop-unit-preserved : goal.loop-unit-preserved
unfolding has
loop-unit-preserved g c =
    let upto = g.S.Sink.takes (sweep (member c.args.«set») c.args.code (c.loop-unit.unit + 1)) c.args.to.now in
    elim c.if-set-unit-eq1.branch [
      | then-set-unit-eq1+in_ok-at_unit w ↦
          subst upto (sym w.to-is)
          (sweep_on g.met.S.Sink.laws c.args.«set» c.args.code c.loop-unit.unit c.args.to.now c.loop-unit.to w.at_unit.new.to
          w.if-set-unit-eq1.true c.loop-unit.invariant w.in_ok-at_unit.ensures)
      | else-set-unit-eq1 w ↦
          subst upto (sym w.to-is)
          (sweep_past g.met.S.Sink.laws c.args.«set» c.args.code c.loop-unit.unit c.args.to.now c.loop-unit.to
          w.if-set-unit-eq1.false c.loop-unit.invariant)
    ]
