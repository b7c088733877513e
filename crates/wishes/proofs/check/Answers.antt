use Rattle.std.proofs.Common.{rules}
use Rattle.wishes.proofs.Reading.{checked_more, checked_stop, checked_none}
use Rattle.wishes.proofs.check.Goals as goal

pub loop-field-preserved : goal.loop-field-preserved
loop-field-preserved c =
    let more = checked_more _ _ _ c.in_ok-range_in.field-0 c.in-Some.ensures.steps.0 c.in_ok-range_in.ensures in
    search rules

pub returns-in_err-range_in : goal.returns-in_err-range_in
returns-in_err-range_in c =
    let stop = checked_stop _ _ _ c.in_err-range_in.field-0.0 c.in-Some.ensures.steps.0 c.in_err-range_in.ensures in
    search rules

pub returns : goal.returns
returns c = let none = checked_none _ c.in-None.ensures.steps.0.0 in search rules
