-- What a sending does is what its exchanges do.
use Rattle.std.proofs.Math.Nat.{min-le_left}
use Rattle.std.proofs.Common.{rules, ◌≡◌, ℕ, zero, suc, ◌+◌, ◌-◌, ◌^◌, ◌<◌, ◌≤◌, min, Bool, true, false, cond, eqb, ltb, ◌⊎◌, List, [], ◌∷◌, ◌++◌, length, replicate, Ok, Err, Result, sym, refl, ap, ◌∙◌, subst, inl, inr, arith}
use Rattle.std.proofs.lemmas.Bool.{eqb-false, eq-eqb, ne_eqb, ltb-false}
use Rattle.chip.proofs.Steps.{stepping}
use Rattle.chip.specs.Effect.{suspended, order_of, accepts, face_after, arming_after}
use Rattle.chip.specs.Step.{wel, Sound, Known, taken, busy_after, obeyed, charged, polled, moved, answered as said, after}
use Rattle.chip.specs.declared.model.Arming.{Arming}
use Rattle.chip.specs.declared.model.Arming.TheVariants.{Disarmed, Volatile, Stored}
use Rattle.chip.specs.declared.model.Command.{Command}
use Rattle.chip.specs.declared.model.Exchange.{Exchange}
use Rattle.chip.specs.declared.model.Exchange.TheVariants.{Ask, Send}
use Rattle.chip.specs.declared.model.Face.{Face}
use Rattle.chip.specs.declared.model.Order.{Order}
use Rattle.chip.specs.declared.model.Order.TheVariants.{Ignored, Arm, Write, Change}
use Rattle.chip.specs.declared.model.Question.TheVariants.{Status1}
use Rattle.chip.specs.declared.model.State.{State}
use Rattle.laws.proofs.Whole.{held_whole, met_whole}
use Rattle.laws.specs.Laws.{Met}
use Rattle.laws.specs.Whole.{after_all, commands, Paced, Showing}
use Rattle.picture.specs.Shown.{followed}
use Rattle.picture.specs.declared.reading.Reading.{Reading}
use Rattle.plan.specs.Plan.{planned}
use Rattle.plan.specs.declared.wish.Term.{Term}
use Rattle.refusals.specs.declared.CableFault.{CableFault}
use Rattle.refusals.specs.declared.CableFault.TheVariants.{Down, Busy}
use Rattle.refusals.specs.declared.Sent.{Sent}
use Rattle.session.proofs.Arms.{IsArm, Arms, arms_planned}
use Rattle.session.proofs.Spends.{counting_same}
use Rattle.session.specs.Asked.{spent, reads, carried_reads}
use Rattle.session.specs.Send.{World, wait_answer, waited, sent_on, stores, awaits, unless_failed, further, sends, sending}
use Rattle.session.specs.Trace.{wait_reads, if_idle, command_exchanges, exchanges, Answered}

-- Exchanges from a state, and the answer and the world that the commands lead to by them: each command comes to a chip
-- that is not busy, they are a first part of the commands, and all of them, and carried, where the answer is Ok.
record Run (ms : List Command) (p : Result (Unit {0}) Sent × World) (xs : List Exchange) (s : State) : Type 0 where
  state : p.1.state ≡ after_all xs s
  shown : p.1.reading.face ≡ p.1.state.face
  paced : Paced xs s
  rest : List Command
  first : ms ≡ commands xs ++ rest
  all : p.0 ≡ Ok tt → (ms ≡ commands xs) × (length xs ≤ s.carry)

not_well : (f : Sent) → ◌≡◌ {A = Result (Unit {0}) Sent} (Err f) (Ok tt) → ⊥
not_well f h = search rules

-- Nothing more is made once one failed, or there is none.
failed : (ms : List Command) (f : Sent) (v : World) → v.reading.face ≡ v.state.face → Run ms (Err f, v) [] v.state
failed ms f v h =
    record { state = refl; shown = h; paced = tt; rest = ms; first = refl; all = λ e. let n : ⊥ = not_well f e in elim n [ ] }

ended : (v : World) → v.reading.face ≡ v.state.face → Run [] (Ok tt, v) [] v.state
ended v h = record { state = refl; shown = h; paced = tt; rest = []; first = refl; all = λ e. (refl, omega arith) }

-- The exchange that is carried costs one.
cost : (e : Exchange) (s : State) → (after e s).carry ≡ s.carry - 1
cost e s = (stepping e s (said e s) (after e s) refl refl).carry

-- A read of SR1 before others.
read_on : (s : State) → 0 < s.carry → after (Ask Status1) s ≡ spent 1 s
read_on s h = ap (λ (b : Bool). cond b s (polled Status1 (charged s))) (ne_eqb s.carry 0 (λ z. let n : ⊥ = omega arith in n))

read_first : (ms : List Command) (p : Result (Unit {0}) Sent × World) (xs : List Exchange) (s : State) → 0 < s.carry →
    Run ms p xs (spent 1 s) → Run ms p (Ask Status1 ∷ xs) s
read_first ms p xs s h k =
    let r : Run ms p xs (after (Ask Status1) s) = subst (λ (x : State). Run ms p xs x) (sym (read_on s h)) k in
    record {
      state = r.state;
      shown = r.shown;
      paced = r.paced;
      rest = r.rest;
      first = r.first;
      all = λ e. ((r.all e).0, omega (arith, (r.all e).1, cost (Ask Status1) s, h));
    }

reads_first : (n : ℕ) (ms : List Command) (p : Result (Unit {0}) Sent × World) (xs : List Exchange) (s : State) → n ≤ s.carry →
    Run ms p xs (spent n s) → Run ms p (replicate n (Ask Status1) ++ xs) s
reads_first zero ms p xs s h k = subst (λ (x : State). Run ms p xs x) (counting_same _ _ _ _ s (omega arith) (omega arith)) k
reads_first (suc n) ms p xs s h k =
    read_first ms p (replicate n (Ask Status1) ++ xs) s (omega arith)
    (reads_first n ms p xs (spent 1 s) (omega arith)
    (subst (λ (x : State). Run ms p xs x) (counting_same _ _ _ _ s (omega arith) (omega arith)) k))

-- A wait before others.
wait_first : (ms : List Command) (p : Result (Unit {0}) Sent × World) (xs : List Exchange) (s : State) →
    Run ms p xs (spent (carried_reads s) s) → Run ms p (wait_reads s ++ xs) s
wait_first ms p xs s k = reads_first (carried_reads s) ms p xs s (min-le_left s.carry (reads s)) k

-- A command before others.
sent_first : (m : Command) (ms : List Command) (p : Result (Unit {0}) Sent × World) (xs : List Exchange) (s : State) →
    eqb s.carry 0 ≡ false → s.busy ≡ 0 → Run ms p xs (after (Send m) s) → Run (m ∷ ms) p (Send m ∷ xs) s
sent_first m ms p xs s h z r =
    let up = eqb-false s.carry 0 h in
    record {
      state = r.state;
      shown = r.shown;
      paced = (inl z, r.paced);
      rest = r.rest;
      first = ap (λ (y : List Command). m ∷ y) r.first;
      all = λ e. (ap (λ (y : List Command). m ∷ y) (r.all e).0, omega (arith, (r.all e).1, cost (Send m) s, up));
    }

-- A wait that ends well leaves the chip not busy.
not_down : (f : CableFault) → ◌≡◌ {A = Result (Unit {0}) CableFault} (Err f) (Ok tt) → ⊥
not_down f h = search rules

idle_by : (a b : Bool) (k n : ℕ) → ltb n 100 ≡ b → ltb k (cond b (n + 1) 100) ≡ a →
    ◌≡◌ {A = Result (Unit {0}) CableFault} (cond a (Err Down) (cond b (Ok tt) (Err Busy))) (Ok tt) → n - min k (cond b (n + 1) 100) ≡ 0
idle_by true b k n e f h = let z : ⊥ = not_down Down h in elim z [ ]
idle_by false false k n e f h = let z : ⊥ = not_down Busy h in elim z [ ]
idle_by false true k n e f h = let l = ltb-false k (n + 1) f in omega arith

wait_idle : (s : State) → wait_answer s ≡ Ok tt → (spent (carried_reads s) s).busy ≡ 0
wait_idle s h = idle_by (ltb s.carry (reads s)) (ltb s.busy 100) s.carry s.busy refl refl h

-- The picture and the chip after a command: they show the same and are armed the same, and the chip is busy only if it stores.
record SameStep (x : Reading) (y : State) (a : Bool) : Type 0 where
  face : x.face ≡ y.face
  arming : x.arming ≡ y.arming
  idle : a ≡ false → y.busy ≡ 0

abbrev showing_with : State → Arming → Bool → Reading
showing_with s a b = record { face = s.face; arming = a; busy = b }

-- An order that stores nothing leaves the chip not busy.
order_idle : (o : Order) (a : Arming) (s : State) → s.arming ≡ a → stores o a ≡ false → s.busy ≡ 0 → busy_after o s ≡ 0
order_idle Ignored a s e h z = z
order_idle (Arm b) a s e h z = z
order_idle (Change l) a s e h z = z
order_idle (Write x) Disarmed s e h z = ap (λ (c : Arming). cond (eqb (wel c) 1) s.slow s.busy) e ∙ z
order_idle (Write x) Volatile s e h z = ap (λ (c : Arming). cond (eqb (wel c) 1) s.slow s.busy) e ∙ z
order_idle (Write x) Stored s e h z = search rules

same_by : (t : Bool) (o : Order) (s : State) (b : Bool) → s.busy ≡ 0 →
    SameStep (cond t (record { face = face_after o s.face; arming = arming_after o s.arming; busy = b }) (showing_with s s.arming b))
    (cond t (taken o s) s) (stores o s.arming)
same_by true o s b z = record { face = refl; arming = refl; idle = λ h. order_idle o s.arming s refl h z }
same_by false o s b z = record { face = refl; arming = refl; idle = λ h. z }

-- Where they were armed the same before.
same_armed : (m : Command) (s : State) (b : Bool) → s.busy ≡ 0 →
    SameStep (followed m (showing_with s s.arming b)) (obeyed m s) (awaits m (showing_with s s.arming b))
unfolding followed obeyed
same_armed m s b z =
    same_by (accepts (order_of s.face.part m) s.arming s.face) (order_of s.face.part m) s b z

-- Where the command arms.
same_arming : (o : Order) (s : State) (a : Arming) (b : Bool) → IsArm o → s.busy ≡ 0 →
    SameStep
    (cond (accepts o a s.face) (record { face = face_after o s.face; arming = arming_after o a; busy = b }) (showing_with s a b))
    (cond (accepts o s.arming s.face) (taken o s) s) (stores o a)
same_arming Ignored s a b h z = elim h [ ]
same_arming (Arm c) s a b h z = record { face = refl; arming = refl; idle = λ e. z }
same_arming (Write x) s a b h z = elim h [ ]
same_arming (Change l) s a b h z = elim h [ ]

same_first : (m : Command) (s : State) (a : Arming) (b : Bool) → IsArm (order_of s.face.part m) → s.busy ≡ 0 →
    SameStep (followed m (showing_with s a b)) (obeyed m s) (awaits m (showing_with s a b))
unfolding followed obeyed
same_first m s a b h z = same_arming (order_of s.face.part m) s a b h z

-- The latches are the same, or the next command arms.
abbrev Ready : List Command → World → Type 0
Ready ms w = (w.reading.arming ≡ w.state.arming) ⊎ Arms w.state.face.part ms

same_ready : (m : Command) (s : State) (a : Arming) (b : Bool) → (a ≡ s.arming) ⊎ IsArm (order_of s.face.part m) → s.busy ≡ 0 →
    SameStep (followed m (showing_with s a b)) (obeyed m s) (awaits m (showing_with s a b))
same_ready m s a b (inl e) z =
    subst (λ (c : Arming). SameStep (followed m (showing_with s c b)) (obeyed m s) (awaits m (showing_with s c b))) (sym e)
    (same_armed m s b z)
same_ready m s a b (inr h) z = same_first m s a b h z

same_shown : (m : Command) (r : Reading) (s : State) → r.face ≡ s.face → (r.arming ≡ s.arming) ⊎ IsArm (order_of s.face.part m) →
    s.busy ≡ 0 → SameStep (followed m r) (obeyed m s) (awaits m r)
same_shown m r s e h z =
    subst
    (λ (f : Face). SameStep (followed m (record { face = f; arming = r.arming; busy = r.busy })) (obeyed m s)
    (awaits m (record { face = f; arming = r.arming; busy = r.busy }))) (sym e)
    (same_ready m s r.arming r.busy h z)

-- A command that is carried to a chip that is not busy.
sent_same : (m : Command) (ms : List Command) (w : World) → eqb w.state.carry 0 ≡ false → w.state.busy ≡ 0 →
    w.reading.face ≡ w.state.face → Ready (m ∷ ms) w →
    SameStep (followed m w.reading) (after (Send m) w.state) (awaits m w.reading)
sent_same m ms w h z e k =
    subst (λ (x : State). SameStep (followed m w.reading) x (awaits m w.reading))
    (sym (ap (λ (b : Bool). cond b w.state (moved (Send m) w.state)) h
    ∙ ap (λ (b : Bool). cond b (obeyed m (charged w.state)) (charged w.state)) (eq-eqb w.state.busy 0 z)))
    (same_shown m w.reading (charged w.state) e k z)

-- The commands to come, from a chip that is not busy and that the picture shows.
abbrev Later : List Command → ℕ → Type 0
Later ms n = (u : World) → u.reading.face ≡ u.state.face → u.state.busy ≡ 0 → Ready ms u →
    Run ms (sends ms n u) (command_exchanges ms u) u.state

-- By how the wait after a command ends.
awaited_by : (r : Result (Unit {0}) CableFault) (ms : List Command) (n : ℕ) (x : World) → wait_answer x.state ≡ r →
    x.reading.face ≡ x.state.face → x.reading.arming ≡ x.state.arming → Later ms (n + 1) →
    Run ms (further (unless_failed r 1 (waited x) (Ok tt, waited x)) n (λ u. sends ms (n + 1) u))
    (wait_reads x.state ++ if_idle r (command_exchanges ms (waited x))) x.state
awaited_by (Ok tt) ms n x h e a later =
    wait_first ms _ _ x.state (later (waited x) e (wait_idle x.state h) (inl a))
awaited_by (Err f) ms n x h e a later =
    wait_first ms _ _ x.state (failed ms (record { fault = f; carried = n + 1 }) (waited x) e)

-- By whether a command that is carried is waited for.
carried_by : (b : Bool) (m : Command) (ms : List Command) (n : ℕ) (w : World) → awaits m w.reading ≡ b →
    SameStep (followed m w.reading) (after (Send m) w.state) b → Later ms (n + 1) →
    Run ms
    (further
    (cond b (unless_failed (wait_answer (sent_on m w).state) 1 (waited (sent_on m w)) (Ok tt, waited (sent_on m w))) (Ok tt, sent_on m w))
    n (λ u. sends ms (n + 1) u))
    (cond b
    (wait_reads (sent_on m w).state ++ if_idle (wait_answer (sent_on m w).state) (command_exchanges ms (waited (sent_on m w))))
    (command_exchanges ms (sent_on m w)))
    (after (Send m) w.state)
carried_by true m ms n w a k later =
    awaited_by (wait_answer (sent_on m w).state) ms n (sent_on m w) refl k.face k.arming later
carried_by false m ms n w a k later = later (sent_on m w) k.face (k.idle refl) (inl k.arming)

-- By whether a command is carried.
sent_by : (b : Bool) (m : Command) (ms : List Command) (n : ℕ) (w : World) → eqb w.state.carry 0 ≡ b →
    w.reading.face ≡ w.state.face → w.state.busy ≡ 0 → Ready (m ∷ ms) w → Later ms (n + 1) →
    Run (m ∷ ms)
    (further
    (cond b (Err (record { fault = Down; carried = 0 }), w)
    (cond (awaits m w.reading)
    (unless_failed (wait_answer (sent_on m w).state) 1 (waited (sent_on m w)) (Ok tt, waited (sent_on m w)))
    (Ok tt, sent_on m w)))
    n (λ u. sends ms (n + 1) u))
    (cond b []
    (Send m ∷ cond (awaits m w.reading)
    (wait_reads (sent_on m w).state ++ if_idle (wait_answer (sent_on m w).state) (command_exchanges ms (waited (sent_on m w))))
    (command_exchanges ms (sent_on m w))))
    w.state
sent_by true m ms n w h e z k later = failed (m ∷ ms) (record { fault = Down; carried = n + 0 }) w e
sent_by false m ms n w h e z k later =
    sent_first m ms _ _ w.state h z
    (carried_by (awaits m w.reading) m ms n w refl (sent_same m ms w h z e k) later)

runs : (ms : List Command) (n : ℕ) → Later ms n
unfolding sends command_exchanges
runs [] n w e z k = ended w e
runs (m ∷ ms) n w e z k = sent_by (eqb w.state.carry 0) m ms n w refl e z k (runs ms (n + 1))

-- The whole sending, by how the wait before it ends.
sending_by : (r : Result (Unit {0}) CableFault) (ms : List Command) (w : World) → wait_answer w.state ≡ r →
    w.reading.face ≡ w.state.face → Arms w.state.face.part ms →
    Run ms (unless_failed r 0 (waited w) (sends ms 0 (waited w)))
    (wait_reads w.state ++ if_idle r (command_exchanges ms (waited w))) w.state
sending_by (Ok tt) ms w h e a = wait_first ms _ _ w.state (runs ms 0 (waited w) e (wait_idle w.state h) (inr a))
sending_by (Err f) ms w h e a = wait_first ms _ _ w.state (failed ms (record { fault = f; carried = 0 }) (waited w) e)

pub answered : (cs : List Command) (set : ℕ) (t : Term) (w : World) → Sound w.state → w.reading.face ≡ w.state.face →
    Known w.state.face.part → suspended w.state.face ≡ false → set < 2 ^ 62 → planned w.state.face set t ≡ Ok cs →
    Answered cs set t w
answered cs set t w sound e known calm small plan =
    let run : Run cs (sending cs w) (exchanges cs w) w.state =
    sending_by (wait_answer w.state) cs w refl e (arms_planned w.state.face set t cs plan) in
    let showing : Showing w.state.face w.state = record { sound = sound; face = refl; known = known; calm = calm } in
    record {
      state = run.state;
      held =
          held_whole w.state.face set t w.state (exchanges cs w) run.rest showing small
          (plan ∙ ap (λ (x : List Command). Ok x) run.first) run.paced;
      met =
          λ ok.
          subst (Met t set w.state.face) (sym run.state)
          (met_whole w.state.face set t w.state (exchanges cs w) showing small
          (plan ∙ ap (λ (x : List Command). Ok x) (run.all ok).0) run.paced (run.all ok).1);
      shown = run.shown;
    }
