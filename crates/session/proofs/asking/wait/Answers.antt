use Rattle.std.proofs.Common.{arith, rules}
use Rattle.std.proofs.lemmas.Bool.{lt-ltb}
use Rattle.session.proofs.Spends.{wait_ends, wait_goes, wait_fails}
use Rattle.session.proofs.asking.wait.Goals as goal

pub returns-in_err-sr1 : goal.returns-in_err-sr1
returns-in_err-sr1 g c =
    let fails =
    wait_fails (g.C.Chip.state c.args.chip.now) (g.C.Chip.state c.loop-reads.chip) (g.C.Chip.state c.ask.new.chip)
    c.loop-reads.reads-counter c.in_err-sr1.field-0.0 c.loop-reads.invariant.0 c.loop-reads.invariant.1.0
    c.loop-reads.invariant.1.1 (omega arith) (search rules) (search rules)
    in
    search rules

pub returns-then-sr1-eq0 : goal.returns-then-sr1-eq0
returns-then-sr1-eq0 g c =
    wait_ends (g.C.Chip.state c.args.chip.now) (g.C.Chip.state c.loop-reads.chip) (g.C.Chip.state c.ask.new.chip)
    c.loop-reads.reads-counter c.in_ok-sr1.sr1 (g.met.C.Chip.sound c.args.chip.now) c.loop-reads.invariant.0
    c.loop-reads.invariant.1.0 c.loop-reads.invariant.1.1 (omega arith) (search rules) c.if-sr1-eq0.true

pub loop-reads-preserved : goal.loop-reads-preserved
loop-reads-preserved g c =
    wait_goes (g.C.Chip.state c.args.chip.now) (g.C.Chip.state c.loop-reads.chip) (g.C.Chip.state c.ask.new.chip)
    c.loop-reads.reads-counter c.in_ok-sr1.sr1 (g.met.C.Chip.sound c.args.chip.now) c.loop-reads.invariant.0
    c.loop-reads.invariant.1.0 c.loop-reads.invariant.1.1 (search rules) c.if-sr1-eq0.false

pub returns : goal.returns
returns g c = search (rules, lt-ltb)
