use Rattle.std.proofs.Common.{Ok, rules}
use Rattle.session.proofs.Sends.{run_on, run_stops, run_ended}
use Rattle.session.proofs.send.Link.send_all.Goals as goal

pub returns-in_err-map_err : goal.returns-in_err-map_err
returns-in_err-map_err g c =
    c.loop-i.invariant c.from_residual.result c.send_one.new.self
    (run_stops g.C.Chip.state c.args.commands.now c.loop-i.i-counter _ c.loop-i.self c.send_one.new.self c.send_one.result
    c.from_residual.result c.loop-i-test.true c.send_one.ensures.run (search rules) (search rules) (search rules))

pub loop-i-preserved : goal.loop-i-preserved
loop-i-preserved g c =
    λ r end rest.
    c.loop-i.invariant r end
    (run_on g.C.Chip.state c.args.commands.now c.loop-i.i-counter _ c.loop-i.self c.send_one.new.self end c.send_one.result r
    c.loop-i-test.true c.send_one.ensures.run (search rules) (search rules) rest)

pub returns : goal.returns
returns g c =
    c.loop-i.invariant (Ok tt) c.loop-i.self
    (run_ended g.C.Chip.state c.args.commands.now c.loop-i.i-counter c.loop-i.self c.loop-i-test.false)
