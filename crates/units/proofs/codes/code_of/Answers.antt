-- The codes are tried in order.
use Rattle.std.proofs.Common.{◌≡◌, ◌<◌, rules}
use Rattle.std.proofs.lemmas.Iterator.{first_from_Range}
use Rattle.units.specs.Codes.{set_of}
use Rattle.units.proofs.Sets.{smallest}
use Rattle.units.proofs.codes.code_of.Goals as goal

pub returns : goal.returns
returns c =
    smallest c.args.set c.args.codes c.min.result c.find.result c.min.ensures
    (first_from_Range _ _ _ c.find.result
    (λ k. (k < 64) × (set_of k ≡ c.args.set)) (λ k. k < 64 → set_of k ≡ c.args.set → ⊥)
    c.find.ensures.ran (λ x q k. search rules) (λ x q k. search rules))
