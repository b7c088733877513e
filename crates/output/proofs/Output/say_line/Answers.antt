use Rattle.std.proofs.Common.{[], ◌∷◌, rules}
use Rattle.output.proofs.Chain.{kept_kept, kept_cut, cut_more}
use Rattle.output.proofs.Output.say_line.Goals as goal

pub returns-in_err-text : goal.returns-in_err-text
returns-in_err-text c = let k = cut_more (10 ∷ []) c.in_err-text.ensures in search rules

pub returns-in_err-put : goal.returns-in_err-put
returns-in_err-put c = let k = kept_cut c.in_ok-text.ensures c.in_err-put.ensures in search rules

pub returns : goal.returns
returns c = let k = kept_kept c.in_ok-text.ensures c.in_ok-put.ensures in search rules
