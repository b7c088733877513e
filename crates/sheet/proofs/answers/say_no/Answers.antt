use Rattle.std.proofs.Common.{[], ◌∷◌, ◌++◌, decimal, rules}
use Rattle.output.proofs.Chain.{kept_kept, kept_cut, cut_more}
use Rattle.sheet.proofs.answers.say_no.Goals as goal

pub returns-in-err-text : goal.returns-in-err-text
returns-in-err-text c =
    let k = cut_more (decimal c.args.number ++ ((32 ∷ []) ++ (decimal c.args.place ++ (10 ∷ [])))) c.in-err-text.ensures in
    search rules

pub returns-in-err-decimal : goal.returns-in-err-decimal
returns-in-err-decimal c =
    let k =
    kept_cut c.in-ok-text.ensures
    (cut_more ((32 ∷ []) ++ (decimal c.args.place ++ (10 ∷ []))) c.in-err-decimal.ensures)
    in
    search rules

pub returns-in-err-put : goal.returns-in-err-put
returns-in-err-put c =
    let k =
    kept_cut c.in-ok-text.ensures
    (kept_cut c.in-ok-decimal.ensures (cut_more (decimal c.args.place ++ (10 ∷ [])) c.in-err-put.ensures))
    in
    search rules

pub returns-in-err-decimal-2 : goal.returns-in-err-decimal-2
returns-in-err-decimal-2 c =
    let k =
    kept_cut c.in-ok-text.ensures
    (kept_cut c.in-ok-decimal.ensures
    (kept_cut c.in-ok-put.ensures (cut_more (10 ∷ []) c.in-err-decimal-2.ensures)))
    in
    search rules

pub returns-in-err-put-2 : goal.returns-in-err-put-2
returns-in-err-put-2 c =
    let k =
    kept_cut c.in-ok-text.ensures
    (kept_cut c.in-ok-decimal.ensures
    (kept_cut c.in-ok-put.ensures (kept_cut c.in-ok-decimal-2.ensures c.in-err-put-2.ensures)))
    in
    search rules

pub returns : goal.returns
returns c =
    let k =
    kept_kept c.in-ok-text.ensures
    (kept_kept c.in-ok-decimal.ensures
    (kept_kept c.in-ok-put.ensures (kept_kept c.in-ok-decimal-2.ensures c.in-ok-put-2.ensures)))
    in
    search rules
