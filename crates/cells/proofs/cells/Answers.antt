use Rattle.std.proofs.Common.{refl}
use Rattle.cells.proofs.Table.{table}
use Rattle.cells.proofs.cells.Goals as goal

pub returns : goal.returns
returns c = record { cells = table; count = refl }
