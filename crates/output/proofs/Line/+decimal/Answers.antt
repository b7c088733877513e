use Rattle.std.proofs.Common.{◌+◌, ◌%◌, [], ◌∷◌, sym, rules}
use Rattle.std.proofs.lemmas.Fmt.{decimal_digit, decimal_step}
use Rattle.output.proofs.Chain.{cut_more, puts_after, puts_as, puts_err}
use Rattle.output.proofs.Line.+decimal.Goals as goal

pub returns-then-n-lt10 : goal.returns-then-n-lt10
returns-then-n-lt10 t c = puts_as c.put.result _ _ (sym (decimal_digit c.args.n (search rules))) c.put.ensures

pub returns-in_err-decimal : goal.returns-in_err-decimal
returns-in_err-decimal t c =
    puts_as c.from_residual.result _ _ (sym (decimal_step c.args.n (search rules) (search rules)))
    (puts_err c.from_residual.result c.from_residual.ensures.0 (cut_more ((48 + c.args.n % 10) ∷ []) c.in_err-decimal.ensures))

pub returns : goal.returns
returns t c =
    puts_as c.put-2.result _ _ (sym (decimal_step c.args.n (search rules) (search rules)))
    (puts_after ((48 + c.args.n % 10) ∷ []) c.put-2.result _ c.in_ok-decimal.ensures c.put-2.ensures)
