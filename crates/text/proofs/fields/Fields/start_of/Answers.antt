use Rattle.std.proofs.Common.{ap, length, rules}
use Rattle.std.proofs.lemmas.Iterator.Consumers.{nth_from_yields_List, YieldsList-from_shown}
use Rattle.text.specs.Fields.{plain, fields_left, Gives}
use Rattle.text.proofs.fields.Fields.start_of.Goals as goal

pub returns : goal.returns
returns c =
    let all = YieldsList-from_shown Gives plain fields_left (λ s t h. ap length h.0.0) (λ s x t h. h.0) c.args.self.now in
    let found = nth_from_yields_List c.nth.result c.nth.new.self _ c.nth.ensures.ran all in
    search rules
