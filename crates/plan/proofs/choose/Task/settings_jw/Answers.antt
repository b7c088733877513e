use Rattle.std.proofs.Common.{[], ◌∷◌, rules}
use Rattle.chip.specs.declared.model.Bytes.TheVariants.{One, Two}
use Rattle.plan.specs.Plan.{arm, first_byte, second_byte, third_byte}
use Rattle.plan.proofs.Sinks.{writes_more}
use Rattle.plan.proofs.choose.Task.settings_jw.Goals as goal

pub returns-then-lowers_wps : goal.returns-then-lowers_wps
returns-then-lowers_wps g c =
    let face = c.args.self.face in
    let term = c.args.self.wish.term in
    let more =
    writes_more g.met.S.Sink.laws
    (arm term ∷ (record { code = 1; bytes = Two (first_byte face c.args.code) (second_byte face c.args.code) } ∷ []))
    (arm term ∷ (record { code = 17; bytes = One (third_byte face 0) } ∷ []))
    c.set_wps.result c.args.to.now c.armed.new.to c.set_wps.new.to (search rules) (search rules)
    in
    search rules
