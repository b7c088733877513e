-- The laws over the whole step: questions change nothing that protects, a command at a chip that is not busy acts as on one
-- whose writes take no time, and where the cable carries no more nothing changes.
use Rattle.std.proofs.Common.{◌≡◌, ℕ, ◌-◌, ◌^◌, ◌<◌, ◌≤◌, Bool, true, false, cond, eqb, ◌⊎◌, List, [], ◌∷◌, ◌++◌, length, Ok, Result, sym, refl, ap, ◌∙◌, subst, ⊎_elim, arith}
use Rattle.std.proofs.lemmas.Bool.{eqb-true, eqb-false, eq-eqb, ne_eqb}
use Rattle.chip.specs.Effect.{Plain, order_of, accepts, face_after, arming_after}
use Rattle.chip.specs.Step.{Own, taken, stored_after, obeyed, charged, polled, moved, answered, after}
use Rattle.chip.specs.declared.model.Part.{Part}
use Rattle.chip.specs.declared.model.Part.TheVariants.{Jw, Xa, Other}
use Rattle.chip.specs.declared.model.Face.{Face}
use Rattle.chip.specs.declared.model.State.{State}
use Rattle.chip.specs.declared.model.Command.{Command}
use Rattle.chip.specs.declared.model.Question.{Question}
use Rattle.chip.specs.declared.model.Question.TheVariants.{Status1, Status2, Status3, PartNumber, Lock}
use Rattle.chip.specs.declared.model.Exchange.{Exchange}
use Rattle.chip.specs.declared.model.Exchange.TheVariants.{Ask, Send}
use Rattle.chip.specs.declared.model.Order.{Order}
use Rattle.chip.specs.declared.model.Order.TheVariants.{Ignored, Arm, Write, Change}
use Rattle.chip.proofs.Steps.{stepping}
use Rattle.picture.specs.Protection.{protected}
use Rattle.plan.specs.Plan.{planned}
use Rattle.plan.specs.declared.wish.Term.{Term}
use Rattle.plan.specs.declared.wish.Term.TheVariants.{Now, Kept}
use Rattle.refusals.specs.declared.RunFault.{RunFault}
use Rattle.laws.specs.Laws.{Reads, would, Met, Held, Always, Reaches, Verdict}
use Rattle.laws.specs.Whole.{after_all, Each, commands, Paced, Showing, HeldWhole, MetWhole}
use Rattle.laws.proofs.Exact.{exact}
use Rattle.laws.proofs.Sent.{held_old}

-- The chip but not busy, with writes that take no time, and no cable.
abbrev still : State → State
still s = record { face = s.face; stored = s.stored; arming = s.arming; busy = 0; slow = 0; carry = 0 }

-- A command acts on it as on the chip.
cond_same : (b : Bool) (n : ℕ) → cond b n n ≡ n
cond_same true n = refl
cond_same false n = refl

still_order : (b : Bool) (o : Order) (s : State) → still (cond b (taken o s) s) ≡ cond b (taken o (still s)) (still s)
still_order false o s = refl
still_order true Ignored s = refl
still_order true (Arm a) s = refl
still_order true (Write x) s =
    ap
    (λ (n : ℕ).
    record {
      face = face_after (Write x) s.face;
      stored = stored_after (Write x) s;
      arming = arming_after (Write x) s.arming;
      busy = n;
      slow = 0;
      carry = 0;
    })
    (sym (cond_same _ 0))
still_order true (Change l) s = refl

still_obeyed : (m : Command) (s : State) → still (obeyed m s) ≡ obeyed m (still s)
unfolding obeyed
still_obeyed m s = still_order (accepts (order_of s.face.part m) s.arming s.face) (order_of s.face.part m) s

-- A question changes only the busy time and the count of the cable.
asked_by : (b : Bool) (q : Question) (s : State) → still (cond b s (polled q (charged s))) ≡ still s
asked_by true q s = refl
asked_by false Status1 s = refl
asked_by false Status2 s = refl
asked_by false Status3 s = refl
asked_by false PartNumber s = refl
asked_by false (Lock u) s = refl

ask_still : (q : Question) (s : State) → still (after (Ask q) s) ≡ still s
ask_still q s = asked_by (eqb s.carry 0) q s

-- A command that is carried to a chip that is not busy is obeyed.
send_still : (m : Command) (s : State) → eqb s.carry 0 ≡ false → s.busy ≡ 0 → still (after (Send m) s) ≡ obeyed m (still s)
send_still m s e z =
    ap (λ (b : Bool). still (cond b s (moved (Send m) s))) e
    ∙ ap (λ (b : Bool). still (cond b (obeyed m (charged s)) (charged s))) (eq-eqb s.busy 0 z)
    ∙ still_obeyed m (charged s)

-- Where the cable carries no more, nothing changes.
down_same : (e : Exchange) (s : State) → s.carry ≡ 0 → after e s ≡ s
down_same e s z = ap (λ (b : Bool). cond b s (moved e s)) (eq-eqb s.carry 0 z)

each_down : (P : Face → Type 0) (xs : List Exchange) (s : State) → s.carry ≡ 0 → P s.face → Each (λ x. P x.face) xs s
each_down P [] s z p = tt
each_down P (e ∷ xs) s z p =
    subst (λ (x : State). P x.face × Each (λ y. P y.face) xs x) (sym (down_same e s z)) (p, each_down P xs s z p)

-- One command, by whether it is carried, and the exchanges after it.
each_sent : (P : Face → Type 0) (m : Command) (xs : List Exchange) (s : State) (b : Bool) → eqb s.carry 0 ≡ b →
    P s.face → Always (λ x. P x.face) (m ∷ commands xs) (still s) → (s.busy ≡ 0) ⊎ (s.carry ≡ 0) → Paced xs (after (Send m) s) →
    ((u : State) → P u.face → Always (λ x. P x.face) (commands xs) (still u) → Paced xs u → Each (λ x. P x.face) xs u) →
    Each (λ x. P x.face) (Send m ∷ xs) s
each_sent P m xs s true e p h k paced rest = each_down P (Send m ∷ xs) s (eqb-true s.carry 0 e) p
each_sent P m xs s false e p h k paced rest =
    let idle : s.busy ≡ 0 =
    ⊎_elim (λ (z : s.busy ≡ 0). z) (λ (z : s.carry ≡ 0). absurd (eqb-false s.carry 0 e z)) k in
    let same = send_still m s e idle in
    let here : P (after (Send m) s).face = subst (λ (x : State). P x.face) (sym same) h.0 in (
      here,
      rest (after (Send m) s) here (subst (λ (x : State). Always (λ y. P y.face) (commands xs) x) (sym same) h.1) paced,
    )

-- What holds of the face now, and after each command without questions or delay, holds after each exchange.
each_whole : (P : Face → Type 0) (xs : List Exchange) (s : State) → P s.face →
    Always (λ x. P x.face) (commands xs) (still s) → Paced xs s → Each (λ x. P x.face) xs s
each_whole P [] s p h paced = tt
each_whole P (Ask q ∷ xs) s p h paced =
    let same = ask_still q s in
    let here : P (after (Ask q) s).face = subst (λ (x : State). P x.face) (sym same) p in (
      here,
      each_whole P xs (after (Ask q) s) here (subst (λ (x : State). Always (λ y. P y.face) (commands xs) x) (sym same) h) paced,
    )
each_whole P (Send m ∷ xs) s p h paced =
    each_sent P m xs s (eqb s.carry 0) refl p h paced.0 paced.1 (each_whole P xs)

-- Exchanges that were all carried leave what their commands would.
carried : (e : Exchange) (s : State) → (after e s).carry ≡ s.carry - 1
carried e s = (stepping e s (answered e s) (after e s) refl refl).carry

would_whole : (xs : List Exchange) (s : State) → length xs ≤ s.carry → Paced xs s → still (after_all xs s) ≡ would (commands xs) (still s)
would_whole [] s l paced = refl
would_whole (Ask q ∷ xs) s l paced =
    would_whole xs (after (Ask q) s) (omega (arith, carried (Ask q) s)) paced ∙ ap (would (commands xs)) (ask_still q s)
would_whole (Send m ∷ xs) s l paced =
    let up : s.carry ≡ 0 → ⊥ = λ z. omega arith in
    let idle : s.busy ≡ 0 = ⊎_elim (λ (z : s.busy ≡ 0). z) (λ (z : s.carry ≡ 0). absurd (up z)) paced.0 in
    would_whole xs (after (Send m) s) (omega (arith, carried (Send m) s)) paced.1
    ∙ ap (would (commands xs)) (send_still m s (ne_eqb s.carry 0 up) idle)

-- A wish is met by what can be read and what power brings back alone.
met_still : (t : Term) (w : ℕ) (f : Face) (s : State) → Met t w f (still s) → Met t w f s
met_still Now w f s h = h
met_still Kept w f s h = h

always_first : (P : State → Type 0) (xs ys : List Command) (s : State) → Always P (xs ++ ys) s → Always P xs s
always_first P [] ys s h = tt
always_first P (x ∷ xs) ys s h = (h.0, always_first P xs ys (obeyed x s) h.1)

-- The chip but still reads as the chip shows.
still_own : (p : Part) (s : State) → Own p s → Own p (still s)
still_own Jw s h = h
still_own Xa s h = h
still_own (Other n) s h = h

still_reads : (f : Face) (s : State) → Showing f s → Reads f (still s)
still_reads f s h =
    record {
      sound =
          record {
            face = h.sound.face;
            stored = h.sound.stored;
            lasts = h.sound.lasts;
            busy = omega arith;
            slow = omega arith;
            carry = omega arith;
            own = still_own s.face.part s h.sound.own;
          };
      face = h.face;
      idle = refl;
      quick = refl;
    }

reaches : (f : Face) (w : ℕ) (t : Term) (s : State) (cs : List Command) → Showing f s → w < 2 ^ 62 → planned f w t ≡ Ok cs →
    Reaches cs f w t
reaches f w t s cs h small e =
    subst (λ (r : Result (List Command) RunFault). Verdict r f w t) e
    (exact f w t (subst Plain h.face h.sound.face) h.known h.calm small)

pub held_whole : HeldWhole
held_whole f w t s xs rest h small e paced =
    let reach = reaches f w t s (commands xs ++ rest) h small e in
    each_whole (λ g. Held (protected f) w (protected g)) xs s
    (held_old (protected f) w (protected s.face) (ap protected h.face))
    (always_first (λ x. Held (protected f) w (protected x.face)) (commands xs) rest (still s) (reach.held (still s) (still_reads f s h)))
    paced

pub met_whole : MetWhole
met_whole f w t s xs h small e paced l =
    let reach = reaches f w t s (commands xs) h small e in
    met_still t w f (after_all xs s)
    (subst (Met t w f) (sym (would_whole xs s l paced)) (reach.met (still s) (still_reads f s h)))
