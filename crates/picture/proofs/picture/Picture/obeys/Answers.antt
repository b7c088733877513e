use Rattle.std.proofs.Common.{sym, ◌∙◌, arith}
use Rattle.std.proofs.lemmas.Option.{cond_some}
use Rattle.picture.proofs.Regions.{judged_offered, judged_lacking}
use Rattle.picture.proofs.picture.Picture.obeys.Goals as goal

pub returns-then-offered_by : goal.returns-then-offered_by
returns-then-offered_by c = (
  omega arith,
  judged_offered c.args.self.now.reading.face c.args.command c.args.address c.region.result c.in-Some.set c.protected.result
      c.region.ensures.value c.in-Some.ensures.units
      (sym (cond_some _ _ _ (sym c.in-Some.ensures.value)).1) c.protected.ensures
      (sym c.offered_by.ensures ∙ c.if-offered_by.true),
)

pub returns-else-offered_by : goal.returns-else-offered_by
returns-else-offered_by c = (
  omega arith,
  judged_lacking c.args.self.now.reading.face c.args.command c.args.address c.offered_by.result c.offered_by.ensures
      c.if-offered_by.false,
)
