-- Commands sent to a chip one by one: what each is taken for, and what holds after it.
use Rattle.std.proofs.Common.{◌≡◌, ℕ, ◌/◌, ◌%◌, Bool, true, false, cond, not, ◌&&◌, eqb, List, [], ◌∷◌, sym, refl, ap, ◌∙◌, subst}
use Rattle.units.specs.Units.{has}
use Rattle.units.specs.Codes.{set_of}
use Rattle.chip.specs.Effect.{order_of, locked, suspended, armed, accepts}
use Rattle.chip.specs.Step.{taken, obeyed}
use Rattle.chip.specs.declared.model.Part.{Part}
use Rattle.chip.specs.declared.model.Arming.{Arming}
use Rattle.chip.specs.declared.model.Registers.{Registers}
use Rattle.chip.specs.declared.model.Face.{Face}
use Rattle.chip.specs.declared.model.State.{State}
use Rattle.chip.specs.declared.model.Command.{Command}
use Rattle.chip.specs.declared.model.RegisterWrite.{RegisterWrite}
use Rattle.chip.specs.declared.model.Order.{Order}
use Rattle.chip.specs.declared.model.Order.TheVariants.{Arm, Write}
use Rattle.picture.specs.Protection.{protected, code}
use Rattle.plan.specs.declared.wish.Term.{Term}
use Rattle.laws.specs.Laws.{Reads, would, Met, Stands, Held, Always}
use Rattle.laws.proofs.Bytes.{code_joined}

-- What protects as before, or as is wished, holds what is shared.
pub held_old : (b w x : ℕ) → x ≡ b → Held b w x
held_old b w x e = record { kept = λ u l p q. ap (λ (m : ℕ). has m u) e ∙ p; free = λ u l p q. ap (λ (m : ℕ). has m u) e ∙ p }

pub held_new : (b w x : ℕ) → x ≡ w → Held b w x
held_new b w x e = record { kept = λ u l p q. ap (λ (m : ℕ). has m u) e ∙ q; free = λ u l p q. ap (λ (m : ℕ). has m u) e ∙ q }

pub same_stands : (r : Registers) → Stands r r
same_stands r = record { srp = refl; srl = refl; qe = refl; lb = refl; hold = refl; drv = refl }

-- A state holds what the face and the wish share.
abbrev pub Holding : Face → ℕ → State → Type 0
Holding f w x = Held (protected f) w (protected x.face)

-- Sent to this chip, the commands meet the wish made of the face, and hold what is shared after each.
pub record Sent (f : Face) (w : ℕ) (t : Term) (cs : List Command) (s : State) : Type 0 where
  pub met : Met t w f (would cs s)
  pub held : Always (Holding f w) cs s

-- A chip that reads so is known by what cannot be read of it.
pub of_reading : (f : Face) (w : ℕ) (t : Term) (cs : List Command) (s : State) → Reads f s →
    Sent f w t cs (record { face = f; stored = s.stored; arming = s.arming; busy = s.busy; slow = s.slow; carry = s.carry }) →
    Sent f w t cs s
of_reading f w t cs s reads h =
    subst
    (λ (g : Face).
    Sent f w t cs (record { face = g; stored = s.stored; arming = s.arming; busy = s.busy; slow = s.slow; carry = s.carry }))
    (sym reads.face) h

-- An arming is always taken.
pub arm_taken : (m : Command) (a : Arming) (s : State) → order_of s.face.part m ≡ Arm a → obeyed m s ≡ taken (Arm a) s
unfolding obeyed
arm_taken m a s e = ap (λ (o : Order). cond (accepts o s.arming s.face) (taken o s) s) e

-- A register write is taken once armed, where the registers are not locked and SUS is 0.
all_three : (a b c : Bool) → a ≡ true → b ≡ false → c ≡ false → (a && (not b && not c)) ≡ true
all_three a b c p q r = rw (p, q, r)

pub write_taken : (m : Command) (x : RegisterWrite) (s : State) → order_of s.face.part m ≡ Write x → armed s.arming ≡ true →
    locked s.face ≡ false → suspended s.face ≡ false → obeyed m s ≡ taken (Write x) s
unfolding obeyed
write_taken m x s e a l u =
    ap (λ (o : Order). cond (accepts o s.arming s.face) (taken o s) s) e
    ∙ ap (λ (b : Bool). cond b (taken (Write x) s) s) (all_three (armed s.arming) (locked s.face) (suspended s.face) a l u)

module _ (f : Face) (w : ℕ) (t : Term) where
  pub none_sent : (s : State) → Met t w f s → Sent f w t [] s
  none_sent s h = record { met = h; held = tt }

  -- One command, and those after it.
  pub one_sent : (m : Command) (cs : List Command) (s u : State) → obeyed m s ≡ u → Holding f w u → Sent f w t cs u → Sent f w t (m ∷ cs) s
  one_sent m cs s u e p h =
      record {
        met = subst (λ (x : State). Met t w f (would cs x)) (sym e) h.met;
        held = subst (λ (x : State). Holding f w x × Always (Holding f w) cs x) (sym e) (p, h.held);
      }

  -- An arming and a register write, and the commands after them.
  pub write_sent : (m n : Command) (a : Arming) (x : RegisterWrite) (cs : List Command) (s : State) →
      order_of s.face.part m ≡ Arm a → order_of s.face.part n ≡ Write x → armed a ≡ true →
      locked s.face ≡ false → suspended s.face ≡ false → Holding f w s → Holding f w (taken (Write x) (taken (Arm a) s)) →
      Sent f w t cs (taken (Write x) (taken (Arm a) s)) → Sent f w t (m ∷ (n ∷ cs)) s
  write_sent m n a x cs s d e b l u p q h =
      one_sent m (n ∷ cs) s (taken (Arm a) s) (arm_taken m a s d) p
      (one_sent n cs (taken (Arm a) s) (taken (Write x) (taken (Arm a) s)) (write_taken n x (taken (Arm a) s) e b l u) q h)

-- What a face protects: with WPS 0 the set of its code, with WPS 1 the units whose lock bit is set.
abbrev pub faced : Part → Registers → ℕ → Bool → Face
faced p r l h = record { part = p; working = r; locks = l; wp = h }

pub set_shown : (p : Part) (q : Registers) (l : ℕ) (h : Bool) (c w : ℕ) →
    q.sr2 / 64 % 2 ≡ c / 32 → q.sr1 / 4 % 32 ≡ c % 32 → q.sr3 / 4 % 2 ≡ 0 → set_of c ≡ w → protected (faced p q l h) ≡ w
unfolding protected
set_shown p q l h c w a b d e =
    ap (λ (x : ℕ). cond (eqb x 1) l (set_of (code (faced p q l h)))) d
    ∙ ap set_of (code_joined (q.sr2 / 64 % 2) (q.sr1 / 4 % 32) c a b) ∙ e

pub locks_shown : (p : Part) (q : Registers) (l : ℕ) (h : Bool) → eqb (q.sr3 / 4 % 2) 1 ≡ true → protected (faced p q l h) ≡ l
unfolding protected
locks_shown p q l h e = ap (λ (b : Bool). cond b l (set_of (code (faced p q l h)))) e
