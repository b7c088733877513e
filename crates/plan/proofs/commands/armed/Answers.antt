use Rattle.std.proofs.Common.{[], ◌∷◌, rules}
use Rattle.plan.proofs.Sinks.{writes_more}
use Rattle.plan.proofs.commands.armed.Goals as goal

pub returns : goal.returns
returns g c =
    let more =
    writes_more g.met.S.Sink.laws (c.arm.result ∷ []) (c.args.command ∷ []) c.put-2.result _ _ _ c.in_ok-put.ensures
    c.put-2.ensures
    in
    search rules
