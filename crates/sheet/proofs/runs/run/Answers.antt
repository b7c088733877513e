use Rattle.std.proofs.Common.{◌≡◌, Err, length, refl, sym, ap, ◌∙◌, arith, rules}
use Rattle.output.proofs.Pour.{onto, onto_as, onto_length, onto_line, onto_back, onto_end, poured_in}
use Rattle.output.specs.Pour.{Whole, Back}
use Rattle.refusals.specs.declared.SheetFault.TheVariants.{Room}
use Rattle.sheet.specs.Answers.{answer_text}
use Rattle.sheet.specs.Bench.{desk_of}
use Rattle.sheet.specs.Sheet.{answers}
use Rattle.text.specs.Lines.{lines, lines_left}
use Rattle.sheet.proofs.Turns.{turn, ends_whole, ends_short}
use Rattle.sheet.proofs.runs.run.Goals as goal

pub loop-line-init : goal.loop-line-init
loop-line-init c =
    let all = ap (λ d. answers d 0 (lines c.args.input.now)) (sym c.empty-bench.ensures) in
    let left : lines c.args.input.now ≡ lines_left c.into_iter-line-iterator.result = search rules in
    record {
      can = search rules;
      ends = search rules;
      onto = onto_as (all ∙ ap (answers (desk_of c.empty-bench.result) 0) left) (onto _ _ (omega arith));
      share = omega (arith, ap length left);
    }

pub returns-in_err-map_err : goal.returns-in_err-map_err
returns-in_err-map_err c =
    let t =
    turn (desk_of c.loop-line.bench) (desk_of c.obey-answer.new.self) c.loop-line.number _ _ c.in-Some.line.now
    c.obey-answer.result c.in-Some.ensures.steps c.obey-answer.ensures.answer c.obey-answer.ensures.after
    in
    let text : Back (answer_text c.obey-answer.result) c.loop-line.output c.say.new.output = search rules in
    let p = onto_back {is = c.say.new.output} text (onto_as t c.loop-line.invariant.onto) in
    let e = ends_short c.args.input.now _ c.say.new.output p in
    let lent = p.lent in
    let more = ap length c.in-Some.ensures.steps in
    let short = c.say.ensures.short in
    let back = text.room in
    let long = onto_length c.loop-line.invariant.onto in
    let share = c.loop-line.invariant.share in
    let told : c.from_residual.result ≡ Err (record { kept = c.say.new.output.len; fault = Room }) = search rules in
    let in_room = poured_in p in
    record { ends = told ∙ e.ends; out = search rules; front = search rules; within = search rules; fits = λ h. let z : ⊥ = omega arith in elim z [ ] }

pub loop-line-preserved : goal.loop-line-preserved
loop-line-preserved c =
    let t =
    turn (desk_of c.loop-line.bench) (desk_of c.obey-answer.new.self) c.loop-line.number _ _ c.in-Some.line.now
    c.obey-answer.result c.in-Some.ensures.steps c.obey-answer.ensures.answer c.obey-answer.ensures.after
    in
    let more = ap length c.in-Some.ensures.steps in
    let text : Whole (answer_text c.obey-answer.result) c.loop-line.output c.say.new.output = search rules in
    let short = c.say.ensures.short in
    let whole = text.long in
    let share = c.loop-line.invariant.share in
    record {
      can = search rules;
      ends = search rules;
      onto = onto_line {is = c.say.new.output} text (onto_as t c.loop-line.invariant.onto);
      share = omega arith;
    }

pub returns : goal.returns
unfolding answers
returns c =
    let n = ap (answers (desk_of c.loop-line.bench) c.loop-line.number) c.in-None.ensures.steps.0 in
    let p = onto_end (onto_as n c.loop-line.invariant.onto) in
    let e = ends_whole c.args.input.now _ c.loop-line.output p in
    let lent = p.lent in
    record { ends = e.ends; out = search rules; front = search rules; within = poured_in p; fits = λ h. refl }
