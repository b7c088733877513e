use Rattle.std.proofs.Common.{◌≡◌, [], ◌∷◌, length, ap, ◌∙◌, arith, rules}
use Rattle.places.specs.Pushed.{Adds}
use Rattle.wishes.proofs.Reading.{readable_more, readable_stop, readable_none, laid_on, laid_out, laid_full}
use Rattle.wishes.proofs.gather.Goals as goal

pub loop-field-preserved : goal.loop-field-preserved
loop-field-preserved c =
    let more = readable_more _ _ _ c.in-Ok.range c.in-Some.ensures.steps.0 c.in-Ok.ensures in
    let pushed : Adds (c.in-Ok.range ∷ []) c.loop-field.list c.push.new.self = search rules in
    let k = laid_on c.in-Ok.range _ _ more pushed.added in
    let so_far = c.loop-field.invariant in
    record {
      can = so_far.can;
      ends = so_far.ends;
      lies = k.lies ∙ so_far.lies;
      long = omega (arith, k.long, so_far.long);
      size = k.size ∙ so_far.size;
      same = search rules;
    }

pub returns-in_default : goal.returns-in_default
returns-in_default c =
    let stop = readable_stop _ _ _ c.in_default.field-0 c.in-Some.ensures.steps.0 c.in_default.ensures in
    let k = laid_out c.loop-field.list.slots.now c.loop-field.list.len _ stop in
    search rules

pub returns-then-is_err : goal.returns-then-is_err
returns-then-is_err c =
    let more = ap length (readable_more _ _ _ c.in-Ok.range c.in-Some.ensures.steps.0 c.in-Ok.ensures) in
    let full : (c.loop-field.list.len ≡ length c.loop-field.list.slots.now) × (c.push.new.self ≡ c.loop-field.list) = search rules in
    let k = laid_full c.loop-field.list.slots.now c.loop-field.list.len _ full.0 in
    record {
      after = ap (λ p. p.slots.now) full.1 ∙ k ∙ c.loop-field.invariant.lies;
      count = λ h. absurd (omega (arith, more, full.0, c.loop-field.invariant.long, c.loop-field.invariant.size, h));
      same = search rules;
    }

pub returns : goal.returns
returns c =
    let k = laid_out c.loop-field.list.slots.now c.loop-field.list.len _ (readable_none _ c.in-None.ensures.steps.0.0) in
    search rules
