-- What no command changes: of a chip with locked registers all but the lock bits and the arming, of any chip the part,
-- and that no register bit is set that the part lacks.
use Rattle.std.proofs.Common.{◌≡◌, ℕ, Bool, true, false, cond, not, ◌&&◌, List, [], ◌∷◌, refl, ◌∙◌}
use lib.Bits.{bit_and}
use Rattle.std.proofs.lemmas.Bool.{both_ways, and_left, and_right, not_from_true}
use Rattle.chip.specs.Effect.{bits1, bits2, bits3, Clear, order_of, locked, suspended, armed, accepts, second, written}
use Rattle.chip.specs.Step.{taken, obeyed}
use Rattle.chip.proofs.Ands.{inside, still_inside, both_inside}
use Rattle.chip.specs.declared.model.Part.{Part}
use Rattle.chip.specs.declared.model.Part.TheVariants.{Jw, Xa, Other}
use Rattle.chip.specs.declared.model.Arming.{Arming}
use Rattle.chip.specs.declared.model.Registers.{Registers}
use Rattle.chip.specs.declared.model.Face.{Face}
use Rattle.chip.specs.declared.model.State.{State}
use Rattle.chip.specs.declared.model.Command.{Command}
use Rattle.chip.specs.declared.model.RegisterWrite.{RegisterWrite}
use Rattle.chip.specs.declared.model.RegisterWrite.TheVariants.{First, FirstTwo, Second, Third}
use Rattle.chip.specs.declared.model.Order.{Order}
use Rattle.chip.specs.declared.model.Order.TheVariants.{Ignored, Arm, Write, Change}
use Rattle.laws.specs.Laws.{would}

-- The same but for the lock bits and the arming.
pub record Same (s t : State) : Type 0 where
  pub part : t.face.part ≡ s.face.part
  pub working : t.face.working ≡ s.face.working
  pub level : t.face.wp ≡ s.face.wp
  pub stored : t.stored ≡ s.stored

same_self : (s : State) → Same s s
same_self s = record { part = refl; working = refl; level = refl; stored = refl }

same_then : (s t u : State) → Same s t → Same t u → Same s u
same_then s t u h k =
    record {
      part = k.part ∙ h.part;
      working = k.working ∙ h.working;
      level = k.level ∙ h.level;
      stored = k.stored ∙ h.stored;
    }

-- Whether registers are locked depends on them and on /WP alone.
same_locked : (s t : State) → Same s t → locked s.face ≡ true → locked t.face ≡ true
unfolding locked
same_locked s t h l = cc (h.working, h.level)

-- Locked registers take no write.
no_write : (w : RegisterWrite) (a : Arming) (f : Face) → locked f ≡ true → accepts (Write w) a f ≡ false
no_write w a f l =
    and_right (armed a) (not (locked f) && not (suspended f)) (and_left (not (locked f)) (not (suspended f)) (not_from_true (locked f) l))

frozen_order : (b : Bool) (o : Order) (s : State) → locked s.face ≡ true → accepts o s.arming s.face ≡ b →
    Same s (cond b (taken o s) s)
frozen_order false o s l e = same_self s
frozen_order true Ignored s l e = record { part = refl; working = refl; level = refl; stored = refl }
frozen_order true (Arm a) s l e = record { part = refl; working = refl; level = refl; stored = refl }
frozen_order true (Write w) s l e = absurd (both_ways (accepts (Write w) s.arming s.face) (no_write w s.arming s.face l) e)
frozen_order true (Change c) s l e = record { part = refl; working = refl; level = refl; stored = refl }

pub frozen_one : (m : Command) (s : State) → locked s.face ≡ true → Same s (obeyed m s)
unfolding obeyed
frozen_one m s l =
    frozen_order (accepts (order_of s.face.part m) s.arming s.face) (order_of s.face.part m) s l refl

pub frozen : (cs : List Command) (s : State) → locked s.face ≡ true → Same s (would cs s)
frozen [] s l = same_self s
frozen (m ∷ ms) s l =
    let k = frozen_one m s l in
    same_then s (obeyed m s) (would ms (obeyed m s)) k (frozen ms (obeyed m s) (same_locked s (obeyed m s) k l))

-- A register write sets no bit that the part lacks.
within1 : (p : Part) → bit_and (bits1 p) (bits1 p) ≡ bits1 p
within1 Jw = refl
within1 Xa = refl
within1 (Other n) = refl

within2 : (p : Part) → bit_and (bit_and (bits2 p) 123) (bits2 p) ≡ bit_and (bits2 p) 123
within2 Jw = refl
within2 Xa = refl
within2 (Other n) = refl

within3 : (p : Part) → bit_and (bits3 p) (bits3 p) ≡ bits3 p
within3 Jw = refl
within3 Xa = refl
within3 (Other n) = refl

clear1 : (p : Part) (a : ℕ) → bit_and (bit_and a (bits1 p)) (bits1 p) ≡ bit_and a (bits1 p)
clear1 p a = inside a (bits1 p) (bits1 p) (within1 p)

clear2 : (p : Part) (b old : ℕ) → bit_and old (bits2 p) ≡ old → bit_and (second p b old) (bits2 p) ≡ second p b old
clear2 p b old h =
    both_inside (bit_and b (bit_and (bits2 p) 123)) (bit_and old 184) (bits2 p)
    (inside b (bit_and (bits2 p) 123) (bits2 p) (within2 p)) (still_inside old 184 (bits2 p) h)

clear3 : (p : Part) (b : ℕ) → bit_and (bit_and b (bits3 p)) (bits3 p) ≡ bit_and b (bits3 p)
clear3 p b = inside b (bits3 p) (bits3 p) (within3 p)

pub written_clear : (p : Part) (w : RegisterWrite) (r : Registers) → Clear p r → Clear p (written p w r)
written_clear p (First a) r h = (clear1 p a, h.1)
written_clear p (FirstTwo a b) r h = (clear1 p a, (clear2 p b r.sr2 h.1.0, h.1.1))
written_clear p (Second b) r h = (h.0, (clear2 p b r.sr2 h.1.0, h.1.1))
written_clear p (Third b) r h = (h.0, (h.1.0, clear3 p b))

-- The part stays, and its working registers stay clear.
pub record KeptClear (p : Part) (s : State) : Type 0 where
  pub part : s.face.part ≡ p
  pub clear : Clear s.face.part s.face.working

clear_order : (b : Bool) (o : Order) (p : Part) (s : State) → KeptClear p s → KeptClear p (cond b (taken o s) s)
clear_order false o p s h = h
clear_order true Ignored p s h = record { part = h.part; clear = h.clear }
clear_order true (Arm a) p s h = record { part = h.part; clear = h.clear }
clear_order true (Write w) p s h = record { part = h.part; clear = written_clear s.face.part w s.face.working h.clear }
clear_order true (Change c) p s h = record { part = h.part; clear = h.clear }

clear_one : (m : Command) (p : Part) (s : State) → KeptClear p s → KeptClear p (obeyed m s)
unfolding obeyed
clear_one m p s h = clear_order (accepts (order_of s.face.part m) s.arming s.face) (order_of s.face.part m) p s h

pub would_clear : (cs : List Command) (p : Part) (s : State) → KeptClear p s → KeptClear p (would cs s)
would_clear [] p s h = h
would_clear (m ∷ ms) p s h = would_clear ms p (obeyed m s) (clear_one m p s h)
