-- The plan by way of the lock bits meets its wish for now, and holds what is shared.
use Rattle.std.proofs.Common.{◌≡◌, ℕ, zero, suc, ◌+◌, ◌/◌, ◌%◌, ◌^◌, ◌<◌, Bool, true, false, cond, not, ◌&&◌, ◌||◌, eqb, ◌⊎◌, List, [], ◌∷◌, ◌++◌, sym, refl, ap, ◌∙◌, subst, inl, inr, ⊎_elim, arith}
use lib.Bits.{bit_and, and_le_r}
use Rattle.std.proofs.lemmas.Bool.{and_from, and_parts, cond-false, cond-true, eq-eqb, eqb-true, not_from_false, not-true}
use Rattle.units.specs.Units.{has}
use Rattle.units.specs.Codes.{set_of}
use Rattle.units.proofs.Bits.{ext, has_bit}
use Rattle.units.proofs.Tests.{same_below}
use Rattle.chip.specs.Effect.{Plain, bits3, lock_bits, locked, order_of, suspended}
use Rattle.chip.specs.Step.{obeyed}
use Rattle.chip.specs.declared.model.Arming.{Arming}
use Rattle.chip.specs.declared.model.Arming.TheVariants.{Disarmed, Volatile}
use Rattle.chip.specs.declared.model.Bytes.TheVariants.{One}
use Rattle.chip.specs.declared.model.Command.{Command}
use Rattle.chip.specs.declared.model.Face.{Face}
use Rattle.chip.specs.declared.model.Part.{Part}
use Rattle.chip.specs.declared.model.Part.TheVariants.{Jw}
use Rattle.chip.specs.declared.model.State.{State}
use Rattle.chip.proofs.Ands.{below_all}
use Rattle.picture.specs.Protection.{code, protected}
use Rattle.plan.specs.Plan.{arm, by_lock_bits, lock_plan, sweep, third_byte, to_lock, to_unlock}
use Rattle.plan.specs.declared.wish.Term.TheVariants.{Now}
use Rattle.laws.specs.Laws.{Always, Held, Met, Reaches, Reads, would}
use Rattle.laws.proofs.Sweeps.{always_append, always_sweep, having, having_own, latch, lock, lock_sets, locks_one, swept, swept_done, swept_either, swept_left, swept_small, unlock, unlock_sets, unlocks_one, would_append, would_sweep}

-- Each unit is as before or as wished.
abbrev Between : ℕ → ℕ → ℕ → Type 0
Between before wish m = (u : ℕ) → (has m u ≡ has before u) ⊎ (has m u ≡ has wish u)

held_between : (before wish m : ℕ) → Between before wish m → Held before wish m
held_between before wish m b =
    record {
      kept = λ u h p q. ⊎_elim (λ (e : has m u ≡ has before u). e ∙ p) (λ (e : has m u ≡ has wish u). e ∙ q) (b u);
      free = λ u h p q. ⊎_elim (λ (e : has m u ≡ has before u). e ∙ p) (λ (e : has m u ≡ has wish u). e ∙ q) (b u);
    }

-- What the two tests say together of one unit, wished a and locked b, that is c after the first sweep and d after both.
agree : (a b c d : ℕ) → a < 2 → b < 2 →
    ((eqb a 1 && eqb b 0) ≡ true → c ≡ 1) → ((eqb a 1 && eqb b 0) ≡ false → c ≡ b) →
    ((eqb a 0 && eqb b 1) ≡ true → d ≡ 0) → ((eqb a 0 && eqb b 1) ≡ false → d ≡ c) → d ≡ a
agree zero zero c d h l p q r t = t refl ∙ q refl
agree zero (suc zero) c d h l p q r t = r refl
agree (suc zero) zero c d h l p q r t = t refl ∙ p refl
agree (suc zero) (suc zero) c d h l p q r t = t refl ∙ q refl
agree (suc (suc a)) b c d h l p q r t = let z : ⊥ = omega arith in absurd z
agree zero (suc (suc b)) c d h l p q r t = let z : ⊥ = omega arith in absurd z
agree (suc zero) (suc (suc b)) c d h l p q r t = let z : ⊥ = omega arith in absurd z

-- The lock bits within the first sweep, and within the second.
abbrev rising : ℕ → ℕ → ℕ → ℕ
rising old w n = swept (to_lock old w) lock n old

abbrev falling : ℕ → ℕ → ℕ → ℕ
falling old w n = swept (to_unlock old w) unlock n (rising old w 62)

module _ (old w : ℕ) where
  rising_between : (n : ℕ) → Between old w (rising old w n)
  rising_between n u =
      ⊎_elim
      (λ (e : has (rising old w n) u ≡ has old u). inl e)
      (λ p. inr (p.1 ∙ sym (eqb-true (has w u) 1 (and_parts (eqb (has w u) 1) (eqb (has old u) 0) p.0).0)))
      (swept_either (to_lock old w) lock 1 lock_sets n u old)

  falling_between : (n : ℕ) → Between old w (falling old w n)
  falling_between n u =
      ⊎_elim
      (λ (e : has (falling old w n) u ≡ has (rising old w 62) u).
      ⊎_elim
      (λ (same : has (rising old w 62) u ≡ has old u). inl (e ∙ same))
      (λ (same : has (rising old w 62) u ≡ has w u). inr (e ∙ same))
      (rising_between 62 u))
      (λ p. inr (p.1 ∙ sym (eqb-true (has w u) 0 (and_parts (eqb (has w u) 0) (eqb (has old u) 1) p.0).0)))
      (swept_either (to_unlock old w) unlock 0 unlock_sets n u (rising old w 62))

  -- After both, the lock bits are the wish.
  wished : old < 2 ^ 62 → w < 2 ^ 62 → falling old w 62 ≡ w
  wished h l =
      ext 62 (falling old w 62) w
      (swept_small (to_unlock old w) unlock 0 unlock_sets 62 (rising old w 62) (omega arith)
      (swept_small (to_lock old w) lock 1 lock_sets 62 old (omega arith) h))
      l
      (λ u k.
      agree (has w u) (has old u) (has (rising old w 62) u) (has (falling old w 62) u) (has_bit w u) (has_bit old u)
      (swept_done (to_lock old w) lock 1 lock_sets 62 u old k)
      (swept_left (to_lock old w) lock 1 lock_sets 62 u old)
      (swept_done (to_unlock old w) unlock 0 unlock_sets 62 u (rising old w 62) k)
      (swept_left (to_unlock old w) unlock 0 unlock_sets 62 u (rising old w 62)))

-- The commands that raise WPS, and what they leave.
abbrev raise : Face → List Command
raise f = arm Now ∷ (record { code = 17; bytes = One (third_byte f 1) } ∷ [])

abbrev raised : State → ℕ → State
raised s m =
    record {
      face =
          record {
            part = Jw;
            working =
                record {
                  sr1 = s.face.working.sr1;
                  sr2 = s.face.working.sr2;
                  sr3 = bit_and (bit_and s.face.working.sr3 224 + 4) 228;
                };
            locks = m;
            wp = s.face.wp;
          };
      stored = s.stored;
      arming = Disarmed;
      busy = s.busy;
      slow = s.slow;
      carry = s.carry;
    }

arms_now : (s : State) (m : ℕ) (a : Arming) → obeyed (arm Now) (having s m a) ≡ having s m Volatile
unfolding obeyed order_of
arms_now s m a = refl

takes_third : (s : State) (m : ℕ) → locked s.face ≡ false → suspended s.face ≡ false →
    obeyed (record { code = 17; bytes = One (third_byte s.face 1) }) (having s m Volatile) ≡ raised s m
unfolding obeyed order_of locked suspended
takes_third s m p q =
    cond-true _ (raised s m) (having s m Volatile)
    (and_from (not (locked s.face)) (not (suspended s.face))
    (not_from_false (locked s.face) p) (not_from_false (suspended s.face) q))

raises : (s : State) (m : ℕ) (a : Arming) → locked s.face ≡ false → suspended s.face ≡ false →
    would (raise s.face) (having s m a) ≡ raised s m
raises s m a p q =
    ap (obeyed (record { code = 17; bytes = One (third_byte s.face 1) })) (arms_now s m a) ∙ takes_third s m p q

-- What SR3 says once WPS is raised.
raised_wps : (x : ℕ) → x < 256 → bit_and (bit_and x 224 + 4) 228 / 4 % 2 ≡ 1
raised_wps = same_below 256 (λ x. bit_and (bit_and x 224 + 4) 228 / 4 % 2) (λ x. 1) tt

raised_hold : (x : ℕ) → x < 256 → bit_and (bit_and x 224 + 4) 228 / 128 ≡ x / 128
raised_hold = same_below 256 (λ x. bit_and (bit_and x 224 + 4) 228 / 128) (λ x. x / 128) tt

raised_drv : (x : ℕ) → x < 256 → bit_and (bit_and x 224 + 4) 228 / 32 % 4 ≡ x / 32 % 4
raised_drv = same_below 256 (λ x. bit_and (bit_and x 224 + 4) 228 / 32 % 4) (λ x. x / 32 % 4) tt

-- With WPS 1 the lock bits protect, else the code does, whatever the lock bits are.
by_locks : (f : Face) → by_lock_bits f ≡ true → protected f ≡ f.locks
unfolding by_lock_bits protected
by_locks f e = cond-true _ f.locks (set_of (code f)) e

by_these_locks : (s : State) (m : ℕ) (a : Arming) → by_lock_bits s.face ≡ true → protected (having s m a).face ≡ m
unfolding by_lock_bits
by_these_locks s m a e = by_locks (having s m a).face e

by_settings : (s : State) (m : ℕ) (a : Arming) → by_lock_bits s.face ≡ false → protected (having s m a).face ≡ protected s.face
unfolding by_lock_bits protected
by_settings s m a e =
    cond-false _ m (set_of (code s.face)) e ∙ sym (cond-false _ s.face.locks (set_of (code s.face)) e)

raised_protects : (s : State) (m : ℕ) → s.face.working.sr3 < 256 → protected (raised s m).face ≡ m
unfolding protected
raised_protects s m h = cond-true _ m (set_of (code s.face)) (eq-eqb _ 1 (raised_wps s.face.working.sr3 h))

-- The two sweeps, and what comes after them.
abbrev lockings : State → ℕ → List Command
lockings s w = sweep (to_lock s.face.locks w) 54 62

abbrev unlockings : State → ℕ → List Command
unlockings s w = sweep (to_unlock s.face.locks w) 57 62

abbrev last : Bool → State → List Command
last b s = cond b [] (raise s.face)

-- The arming after the first sweep, and after both.
abbrev midway : State → ℕ → Arming → Arming
midway s w a = latch (to_lock s.face.locks w) 62 a

abbrev left : State → ℕ → Arming → Arming
left s w a = latch (to_unlock s.face.locks w) 62 (midway s w a)

module _ (s : State) (w : ℕ) (a : Arming) (h : s.face.locks < 2 ^ 62) (l : w < 2 ^ 62) where
  locks_risen : would (lockings s w) (having s s.face.locks a) ≡ having s (rising s.face.locks w 62) (midway s w a)
  locks_risen = would_sweep s (to_lock s.face.locks w) 54 lock locks_one 62 s.face.locks a (omega arith)

  locks_fallen : would (unlockings s w) (having s (rising s.face.locks w 62) (midway s w a)) ≡ having s w (left s w a)
  locks_fallen =
      would_sweep s (to_unlock s.face.locks w) 57 unlock unlocks_one 62 (rising s.face.locks w 62) (midway s w a) (omega arith)
      ∙ ap (λ (m : ℕ). having s m (left s w a)) (wished s.face.locks w h l)

  would_plan : (b : Bool) → by_lock_bits s.face ≡ b →
      would (lock_plan s.face w) (having s s.face.locks a) ≡ would (last b s) (having s w (left s w a))
  unfolding lock_plan
  would_plan b e =
      let rest = last (by_lock_bits s.face) s in
      would_append (lockings s w) (unlockings s w ++ rest) (having s s.face.locks a)
      ∙ ap (would (unlockings s w ++ rest)) locks_risen
      ∙ would_append (unlockings s w) rest (having s (rising s.face.locks w 62) (midway s w a))
      ∙ ap (would rest) locks_fallen
      ∙ ap (λ (c : Bool). would (last c s) (having s w (left s w a))) e

  -- What holds at all lock bits between the old and the wish, and within the last commands, holds after each command.
  always_plan : (P : State → Type 0) (b : Bool) → by_lock_bits s.face ≡ b →
      ((m : ℕ) → Between s.face.locks w m → (x : Arming) → P (having s m x)) →
      Always P (last b s) (having s w (left s w a)) → Always P (lock_plan s.face w) (having s s.face.locks a)
  unfolding lock_plan
  always_plan P b e p q =
      let rest = last (by_lock_bits s.face) s in
      always_append P (lockings s w) (unlockings s w ++ rest) (having s s.face.locks a)
      (always_sweep s (to_lock s.face.locks w) 54 lock locks_one P s.face.locks
      (λ i k x. p (rising s.face.locks w i) (rising_between s.face.locks w i) x) 62 a (omega arith))
      (subst (λ (x : State). Always P (unlockings s w ++ rest) x) (sym locks_risen)
      (always_append P (unlockings s w) rest (having s (rising s.face.locks w 62) (midway s w a))
      (always_sweep s (to_unlock s.face.locks w) 57 unlock unlocks_one P (rising s.face.locks w 62)
      (λ i k x. p (falling s.face.locks w i) (falling_between s.face.locks w i) x) 62 (midway s w a) (omega arith))
      (subst (λ (x : State). Always P rest x) (sym locks_fallen)
      (subst (λ (c : Bool). Always P (last c s) (having s w (left s w a))) (sym e) q))))

-- What is owed of the plan on one chip.
abbrev Keeps : ℕ → Face → State → Type 0
Keeps w f x = Held (protected f) w (protected x.face)

record Good (w : ℕ) (f : Face) (s : State) : Type 0 where
  pub met : Met Now w f (would (lock_plan f w) s)
  pub held : Always (Keeps w f) (lock_plan f w) s

-- It is held with WPS 1 by the lock bits, with WPS 0 since the set stands, and at the end since the set is the wish.
held_locks : (s : State) (w m : ℕ) (a : Arming) → by_lock_bits s.face ≡ true → Between s.face.locks w m →
    Keeps w s.face (having s m a)
held_locks s w m a e b =
    subst (λ (x : ℕ). Held x w (protected (having s m a).face)) (sym (by_locks s.face e))
    (subst (λ (x : ℕ). Held s.face.locks w x) (sym (by_these_locks s m a e)) (held_between s.face.locks w m b))

held_as_before : (before w after : ℕ) → after ≡ before → Held before w after
held_as_before before w after e = subst (Held before w) (sym e) (record { kept = λ u h p q. p; free = λ u h p q. p })

held_as_wished : (before w after : ℕ) → after ≡ w → Held before w after
held_as_wished before w after e = subst (Held before w) (sym e) (record { kept = λ u h p q. q; free = λ u h p q. q })

-- By whether WPS is 1 already.
good_by : (b : Bool) (s : State) (w : ℕ) (a : Arming) → by_lock_bits s.face ≡ b → s.face.locks < 2 ^ 62 → w < 2 ^ 62 →
    s.face.working.sr3 < 256 → suspended s.face ≡ false → (b || not (locked s.face)) ≡ true →
    Good w s.face (having s s.face.locks a)
good_by true s w a e h l n q k =
    record {
      met =
          subst (λ (x : State). Met Now w s.face x) (sym (would_plan s w a h l true e))
          (record {
            just = by_these_locks s w (left s w a) e;
            stands = record { srp = refl; srl = refl; qe = refl; lb = refl; hold = refl; drv = refl };
          });
      held = always_plan s w a h l (Keeps w s.face) true e (λ m b x. held_locks s w m x e b) tt;
    }
good_by false s w a e h l n q k =
    let free = not-true (locked s.face) k in
    let ends = raises s w (left s w a) free q in
    let armed = arms_now s w (left s w a) in
    record {
      met =
          subst (λ (x : State). Met Now w s.face x) (sym (would_plan s w a h l false e ∙ ends))
          (record {
            just = raised_protects s w n;
            stands =
                record {
                  srp = refl;
                  srl = refl;
                  qe = refl;
                  lb = refl;
                  hold = raised_hold s.face.working.sr3 n;
                  drv = raised_drv s.face.working.sr3 n;
                };
          });
      held =
          always_plan s w a h l (Keeps w s.face) false e
          (λ m b x. held_as_before (protected s.face) w _ (by_settings s m x e)) (
            held_as_before (protected s.face) w _
                (ap (λ (x : State). protected x.face) armed ∙ by_settings s w Volatile e),
            (
              held_as_wished (protected s.face) w _ (ap (λ (x : State). protected x.face) ends ∙ raised_protects s w n),
              tt,
            ),
          );
    }

good : (s : State) (w : ℕ) → w < 2 ^ 62 → s.face.part ≡ Jw → Plain s.face → suspended s.face ≡ false →
    (by_lock_bits s.face || not (locked s.face)) ≡ true → Good w s.face s
good s w l e p q k =
    let h : bit_and s.face.locks 4611686018427387903 ≡ s.face.locks =
    subst (λ (x : Part). bit_and s.face.locks (lock_bits x) ≡ s.face.locks) e p.1 in
    let c : bit_and s.face.working.sr3 228 ≡ s.face.working.sr3 =
    subst (λ (x : Part). bit_and s.face.working.sr3 (bits3 x) ≡ s.face.working.sr3) e p.0.1.1 in
    let n : s.face.working.sr3 < 256 = omega (arith, and_le_r s.face.working.sr3 228) in
    subst (λ (x : State). Good w s.face x) (having_own s e)
    (good_by (by_lock_bits s.face) s w s.arming refl (below_all s.face.locks h) l n q k)

pub locks_reach : (f : Face) (w : ℕ) → f.part ≡ Jw → Plain f → suspended f ≡ false → w < 2 ^ 62 →
    (by_lock_bits f || not (locked f)) ≡ true → Reaches (lock_plan f w) f w Now
locks_reach f w e p q l k = record { met = λ s r. (each s r).met; held = λ s r. (each s r).held }
  where
    each : (s : State) → Reads f s → Good w f s
    each s r =
        subst
        (λ (x : Face).
        x.part ≡ Jw → Plain x → suspended x ≡ false → (by_lock_bits x || not (locked x)) ≡ true → Good w x s)
        r.face (good s w l) e p q k
