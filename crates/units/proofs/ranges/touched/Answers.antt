-- The shifts make the run of units from that of the first byte to that of the last.
use Rattle.std.proofs.Common.{Some, sym, ap, ◌∙◌, subst, arith, le-leb}
use Rattle.std.proofs.lemmas.Bool.{and_from, cond-true}
use Rattle.units.specs.Ranges.{Touched, inside}
use Rattle.std.proofs.lemmas.Option.{cond_some}
use Rattle.units.proofs.Touch.{shifted, shifted_order, touching_right}
use Rattle.units.proofs.ranges.touched.Goals as goal

pub overflow_sub-result : goal.overflow_sub-result
overflow_sub-result c =
    let r = c.args.range in
    let low = cond_some _ _ _ (sym c.in_ok-low.ensures.value) in
    let high = cond_some _ _ _ (sym c.in_ok-high.ensures.value) in
    shifted_order r _ _ (sym low.1) (sym high.1) (and_from _ _ (le-leb r.first r.last (omega arith)) high.0)

pub returns : goal.returns
returns c =
    let r = c.args.range in
    let low = cond_some _ _ _ (sym c.in_ok-low.ensures.value) in
    let high = cond_some _ _ _ (sym c.in_ok-high.ensures.value) in
    let i = and_from _ _ (le-leb r.first r.last (omega arith)) high.0 in
    let e = shifted r _ _ (sym low.1) (sym high.1) i in
    record { value = ap Some e ∙ sym (cond-true (inside r) _ _ i); units = subst (Touched r) (sym e) (touching_right r i) }
