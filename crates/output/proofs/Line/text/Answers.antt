use Rattle.std.proofs.Common.{◌+◌, drop, arith, rules}
use Rattle.std.proofs.lemmas.List.{drop_more, drop_all}
use Rattle.output.proofs.Chain.{onward_as, onward_more, onward_cut, onward_end, puts_err, cut_past}
use Rattle.output.proofs.Line.text.Goals as goal

pub returns-then-self : goal.returns-then-self
returns-then-self c = cut_past c.args.text.now (omega arith) (omega arith)

pub returns-in_err-put : goal.returns-in_err-put
returns-in_err-put c =
    let o = onward_as (drop_more c.args.text.now c.loop-b.b-index 0 c.loop-b-test.true) c.loop-b.invariant in
    puts_err {b = c.put.new.self} c.from_residual.result c.from_residual.ensures.0
    (onward_cut (drop (c.loop-b.b-index + 1) c.args.text.now) {b = c.put.new.self} c.in_err-put.ensures o)

pub loop-b-preserved : goal.loop-b-preserved
loop-b-preserved c =
    let o = onward_as (drop_more c.args.text.now c.loop-b.b-index 0 c.loop-b-test.true) c.loop-b.invariant in
    onward_more {b = c.put.new.self} c.in_ok-put.ensures o

pub returns : goal.returns
returns c = onward_end (onward_as (drop_all c.loop-b.b-index c.args.text.now (search rules)) c.loop-b.invariant)
