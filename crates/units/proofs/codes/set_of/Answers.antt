-- The table is the list of what the rule gives at 0, 1, 2 and so on, which antt computes and compares row by row.
use Rattle.std.proofs.Common.{◌≡◌, ◌≤◌, ◌<◌, ◌^◌, MatchOption, sym, subst, ◌∙◌}
use Rattle.units.specs.Codes.{set_of}
use Rattle.units.proofs.Sets.{given, given_small, row}
use Rattle.units.proofs.codes.set_of.Goals as goal

pub returns : goal.returns
unfolding set_of
returns c =
    let code = c.args.code in
    let e : c.copied.result ≡ given code = c.copied.ensures ∙ row code c.get.result c.get.ensures.lookup in
    record { value = e; small = subst (λ o. MatchOption o (64 ≤ code) (λ m. m < 2 ^ 62)) (sym e) (given_small code) }
