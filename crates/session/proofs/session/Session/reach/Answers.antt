use Rattle.session.specs.View.{view}
use Rattle.session.proofs.Lawfully.{reach_law}
use Rattle.session.proofs.session.Session.reach.Goals as goal

pub returns : goal.returns
returns g c =
    record {
      reached = c.run_wish.ensures;
      law = reach_law c.args.ranges.now c.args.term (view g.C.Chip.state c.args.self.now) (g.met.C.Chip.sound c.args.self.now.chip);
    }
