-- No range is at fault, so the union is what the ranges wish for.
use Rattle.std.proofs.Common.{sym, subst}
use Rattle.units.specs.Ranges.{United}
use Rattle.units.proofs.Unions.{ok_told, union_right}
use Rattle.units.proofs.ranges.units_of.Goals as goal

pub returns-in-None-clause-units : goal.returns-in-None-clause-units
returns-in-None-clause-units c =
    let rs = c.args.ranges.now in
    let t = ok_told _ _ _ _ c.in_ok-set.ensures in
    subst (United rs) (sym t.1) (union_right rs t.0 (sym c.in-None.ensures))
