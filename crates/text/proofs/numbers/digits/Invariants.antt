use Rattle.text.proofs.ReadMore.{SoFar}
use Rattle.text.proofs.numbers.digits.Given as goal

abbrev pub invariant-loop-i : goal.invariant-loop-i
invariant-loop-i l = SoFar l.base l.field.at l.field.text.now l.sum l.i
