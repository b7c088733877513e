use Rattle.std.proofs.Common.{◌≡◌, ◌+◌, rules}
use Rattle.std.specs.Prelude.{IfSome}
use Rattle.text.proofs.PartsMore.{cut_field}
use Rattle.text.proofs.fields.cut.Goals as goal

pub returns : goal.returns
returns c =
    let past : IfSome c.then.result (λ k. k ≡ c.args.at + c.up_to-width.result + 1) = search rules in
    cut_field c.args.line.now _ c.args.at _ c.skip-rest.ensures c.up_to-width.ensures.count _ c.then.ensures.variant past
