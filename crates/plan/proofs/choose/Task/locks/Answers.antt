use Rattle.std.proofs.Common.{Ok, rules}
use Rattle.plan.specs.Plan.{by_lock_bits}
use Rattle.plan.proofs.Locking.{locks_few, unlocks_few, locks_whole}
use Rattle.plan.proofs.choose.Task.locks.Goals as goal

pub returns-in_err-sweep : goal.returns-in_err-sweep
returns-in_err-sweep g c =
    let few =
    locks_few g.met.S.Sink.laws c.args.self.face c.args.self.wish.«set» (search rules) (search rules)
    c.in_err-sweep.field-0.0 c.args.to.now c.sweep.new.to c.in_err-sweep.ensures
    in
    search rules

pub returns-in_err-sweep-2 : goal.returns-in_err-sweep-2
returns-in_err-sweep-2 g c =
    let few =
    unlocks_few g.met.S.Sink.laws c.args.self.face c.args.self.wish.«set» (search rules) (search rules)
    c.in_err-sweep-2.field-0.0 c.args.to.now c.sweep.new.to c.sweep-2.new.to c.in_ok-sweep.ensures
    c.in_err-sweep-2.ensures
    in
    search rules

pub returns-then-has_wps : goal.returns-then-has_wps
unfolding by_lock_bits
returns-then-has_wps g c =
    let none = g.met.S.Sink.laws.none c.sweep-2.new.to in
    locks_whole g.met.S.Sink.laws c.args.self.face c.args.self.wish.«set» (search rules) (search rules) (Ok tt) c.args.to.now
    c.sweep.new.to c.sweep-2.new.to c.sweep-2.new.to c.in_ok-sweep.ensures c.in_ok-sweep-2.ensures (search rules)

pub returns-else-has_wps : goal.returns-else-has_wps
unfolding by_lock_bits
returns-else-has_wps g c =
    locks_whole g.met.S.Sink.laws c.args.self.face c.args.self.wish.«set» (search rules) (search rules) c.set_wps.result
    c.args.to.now c.sweep.new.to c.sweep-2.new.to c.set_wps.new.to c.in_ok-sweep.ensures c.in_ok-sweep-2.ensures
    (search rules)
