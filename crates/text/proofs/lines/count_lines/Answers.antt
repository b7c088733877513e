use Rattle.std.proofs.Common.{inl, arith}
use Rattle.text.proofs.LinesMore.{lines_few}
use Rattle.text.proofs.lines.count_lines.Goals as goal

pub count-requires-clause-fits : goal.count-requires-clause-fits
count-requires-clause-fits c = inl (omega (arith, lines_few c.of.result.rest.now))
