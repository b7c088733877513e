use Rattle.std.proofs.Common.{◌≡◌, ◌≤◌, length, sym, ap, ◌∙◌, arith, length-take, rules}
use Rattle.places.specs.Laid.{laid}
use Rattle.text.specs.Fields.{fields_left}
use Rattle.wishes.specs.Wishes.{readable}
use Rattle.wishes.proofs.Reading.{whole}
use Rattle.wishes.proofs.ranges_in.Goals as goal

pub returns-in_err-map_err : goal.returns-in_err-map_err
returns-in_err-map_err c =
    let w = whole (fields_left c.args.fields) (sym c.in_ok-check.ensures) in
    search rules

pub returns : goal.returns
returns c =
    let fs = fields_left c.args.fields in
    let w = whole fs (sym c.in_ok-check.ensures) in
    let few : length fs ≤ length c.args.slots.now = search rules in
    let last = c.gather.new.list in
    let lies : last.slots.now ≡ laid c.args.slots.now 0 (readable fs) = cc in
    let long : last.len ≡ length (readable fs) = search rules in
    let count : length c.entries.result.now ≡ length (readable fs) =
    ap length c.entries.ensures ∙ length-take last.len last.slots.now ∙ omega (arith, long, last.fits)
    in
    search rules
