use Rattle.std.proofs.Common.{◌≡◌, true, rules}
use Rattle.chip.specs.declared.model.Exchange.TheVariants.{Send}
use Rattle.session.specs.Send.{awaits}
use Rattle.session.specs.World.{world}
use Rattle.session.proofs.Sends.{owes, one_awaited}
use Rattle.session.proofs.send.Link.send_one.Goals as goal

pub returns-in_ok-map_err : goal.returns-in_ok-map_err
returns-in_ok-map_err g c =
    let s = g.C.Chip.state c.args.self.now.chip.now in
    let due : awaits c.args.command c.args.self.now.picture.reading ≡ true = search rules in
    record {
      run =
          record {
            same_chip = search rules;
            part = search rules;
            run = λ known.
                one_awaited c.args.command s (g.C.Chip.state c.exchange.new.self) c.args.self.now.picture.reading
                c.follow.new.self.reading c.wait.result (world g.C.Chip.state c.wait.new.self)
                (λ z. c.in_default.not-Down (c.exchange.ensures.down z))
                (c.exchange.ensures.step (owes s.face.part (Send c.args.command) known)).1 c.follow.ensures due
                c.wait.ensures.run (search rules);
          };
      few = tt;
    }
