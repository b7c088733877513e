use Rattle.std.proofs.Common.{rules}
use Rattle.text.proofs.LinesMore.{lines_none}
use Rattle.text.proofs.lines.LinesIterator.next.Goals as goal

pub returns-then-is_empty-clause-steps : goal.returns-then-is_empty-clause-steps
returns-then-is_empty-clause-steps c = let none = lines_none c.args.self.now.rest.now (search rules) in (none, none)
