-- The step keeps the part, /WP and the count of the cable, so a chip that takes it makes the exchange.
use Rattle.std.proofs.Common.{◌≡◌, ℕ, Bool, true, false, cond, eqb, sym, refl, ap, ◌∙◌, subst, arith, eq-eqb, eqb-true}
use Rattle.chip.specs.Effect.{order_of, accepts}
use Rattle.chip.specs.Step.{taken, obeyed, charged, polled, moved, heard, answered, after, Exchanged}
use Rattle.chip.specs.declared.model.State.{State}
use Rattle.chip.specs.declared.model.Command.{Command}
use Rattle.chip.specs.declared.model.Question.{Question}
use Rattle.chip.specs.declared.model.Question.TheVariants.{Status1, Status2, Status3, PartNumber, Lock}
use Rattle.chip.specs.declared.model.Exchange.{Exchange}
use Rattle.chip.specs.declared.model.Exchange.TheVariants.{Ask, Send}
use Rattle.chip.specs.declared.model.Answer.{Answer}
use Rattle.chip.specs.declared.model.Answer.TheVariants.{Down}
use Rattle.chip.specs.declared.model.Order.{Order}
use Rattle.chip.specs.declared.model.Order.TheVariants.{Ignored, Arm, Write, Change}

-- What no exchange changes, and the count.
pub record Stays (s t : State) : Type 0 where
  pub part : t.face.part ≡ s.face.part
  pub level : t.face.wp ≡ s.face.wp
  pub carry : t.carry ≡ s.carry

taken_stays : (o : Order) (s : State) → Stays s (taken o s)
taken_stays Ignored s = record { part = refl; level = refl; carry = refl }
taken_stays (Arm a) s = record { part = refl; level = refl; carry = refl }
taken_stays (Write w) s = record { part = refl; level = refl; carry = refl }
taken_stays (Change l) s = record { part = refl; level = refl; carry = refl }

same_stays : (s : State) → Stays s s
same_stays s = record { part = refl; level = refl; carry = refl }

either_stays : (b : Bool) (s x y : State) → Stays s x → Stays s y → Stays s (cond b x y)
either_stays true s x y h k = h
either_stays false s x y h k = k

pub obeyed_stays : (m : Command) (s : State) → Stays s (obeyed m s)
unfolding obeyed
obeyed_stays m s =
    either_stays (accepts (order_of s.face.part m) s.arming s.face) s
    (taken (order_of s.face.part m) s) s (taken_stays (order_of s.face.part m) s) (same_stays s)

polled_stays : (q : Question) (s : State) → Stays s (polled q s)
polled_stays Status1 s = record { part = refl; level = refl; carry = refl }
polled_stays Status2 s = same_stays s
polled_stays Status3 s = same_stays s
polled_stays PartNumber s = same_stays s
polled_stays (Lock u) s = same_stays s

moved_stays : (e : Exchange) (s : State) → Stays (charged s) (moved e s)
moved_stays (Ask q) s = polled_stays q (charged s)
moved_stays (Send m) s =
    either_stays (eqb s.busy 0) (charged s) (obeyed m (charged s)) (charged s) (obeyed_stays m (charged s)) (same_stays (charged s))

not_down : (e : Exchange) (s : State) → heard e s ≡ Down → ⊥
not_down (Ask q) s h = let z : ◌≡◌ {A = ℕ} 0 1 = cc in omega arith
not_down (Send m) s h = let z : ◌≡◌ {A = ℕ} 0 1 = cc in omega arith

steps_by : (b : Bool) (e : Exchange) (s : State) → eqb s.carry 0 ≡ b → Exchanged e s (cond b Down (heard e s)) (cond b s (moved e s))
steps_by true e s h =
    let z = eqb-true s.carry 0 h in
    record {
      part = refl;
      level = refl;
      carry = omega arith;
      down = λ _. refl;
      up = λ _. z;
      step = λ _. (ap (λ b. cond b Down (heard e s)) (sym h), ap (λ b. cond b s (moved e s)) (sym h));
    }
steps_by false e s h =
    let k = moved_stays e s in
    record {
      part = k.part;
      level = k.level;
      carry = k.carry;
      down = λ z. let f : false ≡ true = sym h ∙ eq-eqb s.carry 0 z in let n : ◌≡◌ {A = ℕ} 0 1 = cc in let m : ⊥ = omega arith in elim m [ ];
      up = λ d. let n : ⊥ = not_down e s d in elim n [ ];
      step = λ _. (ap (λ b. cond b Down (heard e s)) (sym h), ap (λ b. cond b s (moved e s)) (sym h));
    }

-- A chip that answers and moves as the step says makes the exchange.
pub stepping : (e : Exchange) (s : State) (r : Answer) (t : State) → r ≡ answered e s → t ≡ after e s → Exchanged e s r t
stepping e s r t p q =
    subst (λ x. Exchanged e s x t) (sym p) (subst (λ y. Exchanged e s (answered e s) y) (sym q) (steps_by (eqb s.carry 0) e s refl))
