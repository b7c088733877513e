use Rattle.session.proofs.Looks.{rest_found}
use Rattle.session.proofs.look.read_rest.Goals as goal

pub returns : goal.returns
returns g c =
    rest_found (g.C.Chip.state c.args.chip.now) (g.C.Chip.state c.ask.new.chip) (g.C.Chip.state c.ask-2.new.chip)
    (g.C.Chip.state c.read_locks.new.chip) c.in_ok-sr2.sr2 c.in_ok-sr3.sr3 c.in_ok-locks.locks
    (g.met.C.Chip.sound c.args.chip.now) c.requires.1 c.in_ok-sr2.ensures c.in_ok-sr3.ensures
    c.in_ok-locks.ensures
