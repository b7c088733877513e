-- Sending, command by command.
use Rattle.std.proofs.Common.{rules, ◌≡◌, ℕ, ◌+◌, ◌<◌, ◌≤◌, true, List, length, get_or, drop, Ok, Err, Result, IfOk, sym, refl, ap, ◌∙◌, subst}
use Rattle.std.proofs.lemmas.List.{at_drop_more, drop_all}
use Rattle.std.proofs.lemmas.Bool.{ne_eqb}
use Rattle.chip.specs.Step.{after, Known, Owes}
use Rattle.chip.specs.declared.model.Bytes.TheVariants.{Zero}
use Rattle.chip.specs.declared.model.Command.{Command}
use Rattle.chip.specs.declared.model.Exchange.{Exchange}
use Rattle.chip.specs.declared.model.Exchange.TheVariants.{Send}
use Rattle.chip.specs.declared.model.Part.{Part}
use Rattle.chip.specs.declared.model.Part.TheVariants.{Jw, Xa, Other}
use Rattle.chip.specs.declared.model.State.{State}
use Rattle.picture.specs.Shown.{followed}
use Rattle.picture.specs.declared.reading.Reading.{Reading}
use Rattle.refusals.specs.declared.CableFault.{CableFault}
use Rattle.refusals.specs.declared.Sent.{Sent}
use Rattle.session.specs.Send.{World, wait_answer, waited, waiting, awaits, one_sent, further, sends}
use Rattle.session.specs.World.{world, Runs}
use Rattle.session.specs.declared.send.Link.{Link}

-- A known part owes every exchange.
pub owes : (p : Part) (e : Exchange) → Known p → Owes p e
owes Jw e k = tt
owes Xa e k = tt
owes (Other n) e k = elim k [ ]

abbrev pub at : State → Reading → World
at s r = record { state = s; reading = r }

-- A command that was carried and waited for.
pub one_awaited : (m : Command) (s t : State) (r u : Reading) (q : Result (Unit {0}) CableFault) (w : World) → (s.carry ≡ 0 → ⊥) →
    t ≡ after (Send m) s → u ≡ followed m r → awaits m r ≡ true → waiting (at t u) ≡ (q, w) → q ≡ Ok tt →
    one_sent m (at s r) ≡ (Ok tt, w)
one_awaited m s t r u q w up e f a o d =
    let carried = ne_eqb s.carry 0 up in
    let answer : wait_answer t ≡ q = ap (λ y. y.0) o in
    let after : waited (at t u) ≡ w = ap (λ y. y.1) o in
    search rules

abbrev blank : Command
blank = record { code = 0; bytes = Zero }

-- The next command, before those to come.
next_sent : (ms : List Command) (i : ℕ) (w : World) → i < length ms →
    sends (drop i ms) i w ≡ further (one_sent (get_or ms i blank) w) i (λ u. sends (drop (i + 1) ms) (i + 1) u)
unfolding sends
next_sent ms i w h = at_drop_more (λ xs. sends xs i w) ms i blank h

pub sent_well : (ms : List Command) (i : ℕ) (w u : World) (m : Command) → i < length ms → m ≡ get_or ms i blank → one_sent m w ≡ (Ok tt, u) →
    sends (drop i ms) i w ≡ sends (drop (i + 1) ms) (i + 1) u
sent_well ms i w u m h e p =
    let next = next_sent ms i w h in search rules

pub sent_ill : (ms : List Command) (i : ℕ) (w u : World) (m : Command) (f : Sent) → i < length ms → m ≡ get_or ms i blank →
    one_sent m w ≡ (Err f, u) → sends (drop i ms) i w ≡ (Err (record { fault = f.fault; carried = i + f.carried }), u)
sent_ill ms i w u m f h e p =
    let next = next_sent ms i w h in search rules

pub none_left : (ms : List Command) (i : ℕ) (w : World) → length ms ≤ i → sends (drop i ms) i w ≡ (Ok tt, w)
unfolding sends
none_left ms i w h = ap (λ xs. sends xs i w) (drop_all i ms h)

-- One command that was sent well, and those after it.
pub run_on : {C : Type 0} (state : C → State) (ms : List Command) (i : ℕ) (m : Command) (l k n : Link C)
    (q r : Result (Unit {0}) Sent) → i < length ms → Runs state (one_sent m) l q k → m ≡ get_or ms i blank → q ≡ Ok tt →
    Runs state (sends (drop (i + 1) ms) (i + 1)) k r n → Runs state (sends (drop i ms) i) l r n
run_on state ms i m l k n q r h a e f b =
    record {
      same_chip = b.same_chip ∙ a.same_chip;
      part = b.part ∙ a.part;
      run = λ known.
          sent_well ms i _ _ m h e (a.run known ∙ ap (λ y. (y, world state k)) f) ∙ b.run (subst Known (sym a.part) known);
    }

-- One that failed, n commands being carried before it.
abbrev pub stopped : ℕ → Result (Unit {0}) Sent → Result (Unit {0}) Sent
stopped n (Ok u) = Ok u
stopped n (Err f) = Err (record { fault = f.fault; carried = n + f.carried })

pub run_stops : {C : Type 0} (state : C → State) (ms : List Command) (i : ℕ) (m : Command) (l k : Link C)
    (q r : Result (Unit {0}) Sent) → i < length ms → Runs state (one_sent m) l q k → m ≡ get_or ms i blank → IfOk q (λ u. ⊥) →
    r ≡ stopped i q → Runs state (sends (drop i ms) i) l r k
run_stops state ms i m l k (Ok u) r h a e n f = elim n [ ]
run_stops state ms i m l k (Err x) r h a e n f =
    record {
      same_chip = a.same_chip;
      part = a.part;
      run = λ known. sent_ill ms i _ _ m x h e (a.run known) ∙ ap (λ y. (y, world state k)) (sym f);
    }

-- None is left.
pub run_ended : {C : Type 0} (state : C → State) (ms : List Command) (i : ℕ) (l : Link C) → length ms ≤ i →
    Runs state (sends (drop i ms) i) l (Ok tt) l
run_ended state ms i l h =
    record { same_chip = refl; part = refl; run = λ known. none_left ms i _ h }
