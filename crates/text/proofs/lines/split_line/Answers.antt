use Rattle.std.proofs.lemmas.List.{drop-drop}
use Rattle.text.proofs.LinesMore.{lines_split, rest_shorter}
use Rattle.text.proofs.lines.split_line.Goals as goal
use Rattle.text.specs.Lines.{first_line, after_line}
use Rattle.std.proofs.Common.{◌≡◌, take, rules}

pub returns : goal.returns
returns c =
    let text = c.args.input.now in
    let end = c.up_to-end.result in
    let past = drop-drop 1 end text in
    let l : take end text ≡ first_line text = search rules in
    let r : c.skip-2.result.now ≡ after_line text = search rules in
    record { line = l; rest = r; all = lines_split text _ _ l r; shorter = rest_shorter text _ r }
