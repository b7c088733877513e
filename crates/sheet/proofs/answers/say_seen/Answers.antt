use Rattle.std.proofs.Common.{[], ◌∷◌, ◌++◌, rules}
use Rattle.output.specs.Hex.{hex}
use Rattle.output.proofs.Chain.{kept_kept, kept_cut, cut_more}
use Rattle.sheet.proofs.answers.say_seen.Goals as goal

pub returns-in-err-text : goal.returns-in-err-text
returns-in-err-text c = let k = cut_more (hex 16 c.args.set ++ (10 ∷ [])) c.in-err-text.ensures in search rules

pub returns-in-err-hex : goal.returns-in-err-hex
returns-in-err-hex c =
    let k = kept_cut c.in-ok-text.ensures (cut_more (10 ∷ []) c.in-err-hex.ensures) in search rules

pub returns-in-err-put : goal.returns-in-err-put
returns-in-err-put c =
    let k = kept_cut c.in-ok-text.ensures (kept_cut c.in-ok-hex.ensures c.in-err-put.ensures) in
    search rules

pub returns : goal.returns
returns c =
    let k = kept_kept c.in-ok-text.ensures (kept_kept c.in-ok-hex.ensures c.in-ok-put.ensures) in
    search rules
