use Rattle.std.proofs.Common.{length, drop, rules}
use Rattle.text.proofs.PartsMore.{parts_some}
use Rattle.text.proofs.fields.Fields.end.Goals as goal

pub returns-in-Some : goal.returns-in-Some
returns-in-Some c =
    let line = c.args.self.now.line.now in
    let some = parts_some c.in-Some.field-0 (length line) (drop c.in-Some.field-0 line) in
    search rules
