-- The commands by way of a code: they protect just its set, hold what is shared after each, and leave the other settings.
-- And no command, where the set is protected already.
use Rattle.std.proofs.Common.{◌≡◌, ℕ, ◌-◌, ◌/◌, ◌%◌, ◌^◌, ◌<◌, Bool, true, false, cond, not, ◌&&◌, ◌||◌, eqb, List, [], ◌∷◌, sym, refl, ap, ◌∙◌, subst, arith}
use borrow.Author.Tests.{eqb-false}
use lib.Bits.{bit_and}
use Rattle.units.specs.Codes.{set_of}
use Rattle.chip.specs.Effect.{Clear, Plain, order_of, locked, suspended, armed, written, lasting}
use Rattle.chip.specs.Step.{Known, Own, fresh_locks, taken, powered}
use Rattle.chip.specs.declared.model.Part.{Part}
use Rattle.chip.specs.declared.model.Part.TheVariants.{Jw, Xa, Other}
use Rattle.chip.specs.declared.model.Arming.{Arming}
use Rattle.chip.specs.declared.model.Arming.TheVariants.{Volatile, Stored}
use Rattle.chip.specs.declared.model.Registers.{Registers}
use Rattle.chip.specs.declared.model.Face.{Face}
use Rattle.chip.specs.declared.model.State.{State}
use Rattle.chip.specs.declared.model.Bytes.TheVariants.{One, Two}
use Rattle.chip.specs.declared.model.Command.{Command}
use Rattle.chip.specs.declared.model.RegisterWrite.{RegisterWrite}
use Rattle.chip.specs.declared.model.RegisterWrite.TheVariants.{First, FirstTwo, Third}
use Rattle.chip.specs.declared.model.Order.TheVariants.{Arm, Write}
use Rattle.picture.specs.Protection.{protected}
use Rattle.plan.specs.Plan.{codes_of, by_lock_bits, bare_command, arm, is_kept, first_byte, second_byte, third_byte, settings}
use Rattle.plan.specs.declared.wish.Term.{Term}
use Rattle.plan.specs.declared.wish.Term.TheVariants.{Now, Kept}
use Rattle.laws.specs.Laws.{Reads, Stands, Shows, Met, Reaches}
use Rattle.laws.proofs.Bytes.{inside_le, first_jw_code, first_jw_srp, first_xa_code, first_xa_srp}
use Rattle.laws.proofs.Bytes.{second_cmp, second_srl, second_qe, second_lb, second_sus, stored_cmp, third_wps, third_hold, third_drv}
use Rattle.laws.proofs.Sent.{held_old, held_new, same_stands, Holding, Sent, of_reading, none_sent, write_sent, faced, set_shown, locks_shown}

-- Registers with the same SRP, SRL and QE are as locked, and with the same SUS as suspended.
still_locked : (p : Part) (r q : Registers) (l : ℕ) (h : Bool) → Stands r q → locked (faced p q l h) ≡ locked (faced p r l h)
unfolding locked
still_locked p r q l h s =
    ap (λ (x : ℕ). eqb x 1 || (eqb (q.sr1 / 128) 1 && (eqb (q.sr2 / 2 % 2) 0 && not h))) s.srl
    ∙ ap (λ (x : ℕ). eqb (r.sr2 % 2) 1 || (eqb x 1 && (eqb (q.sr2 / 2 % 2) 0 && not h))) s.srp
    ∙ ap (λ (x : ℕ). eqb (r.sr2 % 2) 1 || (eqb (r.sr1 / 128) 1 && (eqb x 0 && not h))) s.qe

still_suspended : (p : Part) (r q : Registers) (l : ℕ) (h : Bool) → q.sr2 / 128 ≡ r.sr2 / 128 →
    suspended (faced p q l h) ≡ suspended (faced p r l h)
unfolding suspended
still_suspended p r q l h e = ap (λ (x : ℕ). eqb x 1) e

-- The W25Q16JW: its arming for a term, and the two commands with what they ask.
abbrev jw : Registers → ℕ → Bool → Face
jw r l h = faced Jw r l h

abbrev arming_of : Term → Arming
arming_of Now = Volatile
arming_of Kept = Stored

arms : (t : Term) → order_of Jw (arm t) ≡ Arm (arming_of t)
unfolding order_of
arms Now = refl
arms Kept = refl

arms_any : (t : Term) → armed (arming_of t) ≡ true
arms_any Now = refl
arms_any Kept = refl

abbrev set_code : Face → ℕ → Command
set_code f c = record { code = 1; bytes = Two (first_byte f c) (second_byte f c) }

abbrev lower_wps : Face → Command
lower_wps f = record { code = 17; bytes = One (third_byte f 0) }

abbrev code_write : Face → ℕ → RegisterWrite
code_write f c = FirstTwo (first_byte f c) (second_byte f c)

abbrev wps_write : Face → RegisterWrite
wps_write f = Third (third_byte f 0)

sets_code : (f : Face) (c : ℕ) → order_of Jw (set_code f c) ≡ Write (code_write f c)
unfolding order_of
sets_code f c = refl

lowers_wps : (f : Face) → order_of Jw (lower_wps f) ≡ Write (wps_write f)
unfolding order_of
lowers_wps f = refl

-- The plan, by whether WPS reads 1.
abbrev plan_by : Bool → Term → Face → ℕ → List Command
plan_by b t f c = arm t ∷ (set_code f c ∷ cond (b || is_kept t) (arm t ∷ (lower_wps f ∷ [])) [])

module _ (r : Registers) (l : ℕ) (h : Bool) (w c : ℕ) (small1 : r.sr1 < 256) (small2 : r.sr2 < 256) (small3 : r.sr3 < 256)
    (calm : suspended (jw r l h) ≡ false) (free : locked (jw r l h) ≡ false) (small : c < 64) (e : set_of c ≡ w) where
  -- The registers once the code is set, and once WPS is lowered too.
  abbrev once : Registers
  once = written Jw (code_write (jw r l h) c) r

  abbrev twice : Registers
  twice = written Jw (wps_write (jw r l h)) once

  high : c / 32 < 2
  high = omega arith

  low : c % 32 < 32
  low = omega arith

  once_stands : Stands r once
  once_stands =
      record {
        srp = first_jw_srp r.sr1 (c % 32) small1 low;
        srl = second_srl r.sr2 (c / 32) small2 high;
        qe = second_qe r.sr2 (c / 32) small2 high;
        lb = second_lb r.sr2 (c / 32) small2 high;
        hold = refl;
        drv = refl;
      }

  twice_stands : Stands r twice
  twice_stands =
      record {
        srp = once_stands.srp;
        srl = once_stands.srl;
        qe = once_stands.qe;
        lb = once_stands.lb;
        hold = third_hold r.sr3 small3;
        drv = third_drv r.sr3 small3;
      }

  once_set : r.sr3 / 4 % 2 ≡ 0 → protected (jw once l h) ≡ w
  once_set z = set_shown Jw once l h c w (second_cmp r.sr2 (c / 32) small2 high) (first_jw_code r.sr1 (c % 32) small1 low) z e

  twice_set : protected (jw twice l h) ≡ w
  twice_set =
      set_shown Jw twice l h c w (second_cmp r.sr2 (c / 32) small2 high) (first_jw_code r.sr1 (c % 32) small1 low)
      (third_wps r.sr3 small3) e

  -- What power brings back once both are stored, whatever was before.
  stored_set : (k : Registers) (m : ℕ) → k.sr2 < 128 →
      protected (jw (lasting (written Jw (wps_write (jw r l h)) (lasting (written Jw (code_write (jw r l h) c) k)))) m h) ≡ w
  stored_set k m b =
      set_shown Jw (lasting (written Jw (wps_write (jw r l h)) (lasting (written Jw (code_write (jw r l h) c) k)))) m h c w
      (stored_cmp r.sr2 (c / 32) k.sr2 small2 high b) (first_jw_code r.sr1 (c % 32) small1 low) (third_wps r.sr3 small3) e

  module _ (k : Registers) (a : Arming) (busy slow carry : ℕ) (below : k.sr2 < 128) where
    abbrev start : State
    start = record { face = jw r l h; stored = k; arming = a; busy = busy; slow = slow; carry = carry }

    abbrev coded : Term → State
    coded t = taken (Write (code_write (jw r l h) c)) (taken (Arm (arming_of t)) start)

    abbrev lowered : Term → State
    lowered t = taken (Write (wps_write (jw r l h))) (taken (Arm (arming_of t)) (coded t))

    lowered_met : (t : Term) → Met t w (jw r l h) (lowered t)
    lowered_met Now = record { just = twice_set; stands = twice_stands }
    lowered_met Kept = (record { just = twice_set; stands = twice_stands }, stored_set k (2 ^ 62 - 1) below)

    lower_sent : (t : Term) → Holding (jw r l h) w (coded t) → Sent (jw r l h) w t (arm t ∷ (lower_wps (jw r l h) ∷ [])) (coded t)
    lower_sent t p =
        write_sent (jw r l h) w t (arm t) (lower_wps (jw r l h)) (arming_of t) (wps_write (jw r l h)) [] (coded t)
        (arms t) (lowers_wps (jw r l h)) (arms_any t)
        (still_locked Jw r once l h once_stands ∙ free)
        (still_suspended Jw r once l h (second_sus r.sr2 (c / 32) small2 high) ∙ calm)
        p (held_new (protected (jw r l h)) w (protected (jw twice l h)) twice_set)
        (none_sent (jw r l h) w t (lowered t) (lowered_met t))

    code_sent : (t : Term) (cs : List Command) → Holding (jw r l h) w (coded t) → Sent (jw r l h) w t cs (coded t) →
        Sent (jw r l h) w t (arm t ∷ (set_code (jw r l h) c ∷ cs)) start
    code_sent t cs p g =
        write_sent (jw r l h) w t (arm t) (set_code (jw r l h) c) (arming_of t) (code_write (jw r l h) c) cs start
        (arms t) (sets_code (jw r l h) c) (arms_any t) free calm (held_old (protected (jw r l h)) w (protected (jw r l h)) refl) p g

    -- With WPS 1 the lock bits protect until the last command, with WPS 0 the code does once it is set.
    locks_hold : (t : Term) → eqb (r.sr3 / 4 % 2) 1 ≡ true → Holding (jw r l h) w (coded t)
    locks_hold t z =
        held_old (protected (jw r l h)) w (protected (jw once l h)) (locks_shown Jw once l h z ∙ sym (locks_shown Jw r l h z))

    code_holds : (t : Term) → r.sr3 / 4 % 2 ≡ 0 → Holding (jw r l h) w (coded t)
    code_holds t z = held_new (protected (jw r l h)) w (protected (jw once l h)) (once_set z)

    wps_low : eqb (r.sr3 / 4 % 2) 1 ≡ false → r.sr3 / 4 % 2 ≡ 0
    wps_low z = let n = eqb-false (r.sr3 / 4 % 2) 1 z in omega arith

    plan_sent : (b : Bool) (t : Term) → eqb (r.sr3 / 4 % 2) 1 ≡ b → Sent (jw r l h) w t (plan_by b t (jw r l h) c) start
    plan_sent true t z =
        let p = locks_hold t z in code_sent t (arm t ∷ (lower_wps (jw r l h) ∷ [])) p (lower_sent t p)
    plan_sent false Now z =
        let p = wps_low z in
        code_sent Now [] (code_holds Now p) (none_sent (jw r l h) w Now (coded Now) (record { just = once_set p; stands = once_stands }))
    plan_sent false Kept z =
        let p = code_holds Kept (wps_low z) in code_sent Kept (arm Kept ∷ (lower_wps (jw r l h) ∷ [])) p (lower_sent Kept p)

    jw_sent : (t : Term) → Sent (jw r l h) w t (settings Jw t (jw r l h) c) start
    unfolding by_lock_bits
    jw_sent t = plan_sent (eqb (r.sr3 / 4 % 2) 1) t refl

-- The W25X16A: SR1 alone, and always stored.
abbrev xa : Registers → ℕ → Bool → Face
xa r l h = faced Xa r l h

abbrev sole_write : Face → ℕ → RegisterWrite
sole_write f c = First (first_byte f c)

xa_arms : order_of Xa (bare_command 6) ≡ Arm Stored
unfolding order_of
xa_arms = refl

xa_writes : (a : ℕ) → order_of Xa (record { code = 1; bytes = One a }) ≡ Write (First a)
unfolding order_of
xa_writes a = refl

module _ (r k : Registers) (l : ℕ) (h : Bool) (w c : ℕ) (small1 : r.sr1 < 256) (zero2 : r.sr2 ≡ 0) (zero3 : r.sr3 ≡ 0)
    (stored2 : k.sr2 ≡ 0) (stored3 : k.sr3 ≡ 0) (calm : suspended (xa r l h) ≡ false) (free : locked (xa r l h) ≡ false)
    (small : c < 16) (e : set_of c ≡ w) (a : Arming) (busy slow carry : ℕ) where
  abbrev xa_start : State
  xa_start = record { face = xa r l h; stored = k; arming = a; busy = busy; slow = slow; carry = carry }

  abbrev xa_coded : State
  xa_coded = taken (Write (sole_write (xa r l h) c)) (taken (Arm Stored) xa_start)

  xa_low : c % 32 < 16
  xa_low = omega arith

  no_cmp : 0 ≡ c / 32
  no_cmp = omega arith

  xa_set : protected xa_coded.face ≡ w
  xa_set =
      set_shown Xa (written Xa (sole_write (xa r l h) c) r) l h c w (ap (λ (x : ℕ). x / 64 % 2) zero2 ∙ no_cmp)
      (first_xa_code r.sr1 (c % 32) small1 xa_low) (ap (λ (x : ℕ). x / 4 % 2) zero3) e

  xa_stored_set : protected (powered xa_coded).face ≡ w
  xa_stored_set =
      set_shown Xa (lasting (written Xa (sole_write (xa r l h) c) k)) l h c w (ap (λ (x : ℕ). bit_and x 122 / 64 % 2) stored2 ∙ no_cmp)
      (first_xa_code r.sr1 (c % 32) small1 xa_low) (ap (λ (x : ℕ). x / 4 % 2) stored3) e

  xa_shows : Shows w (xa r l h) xa_coded.face
  xa_shows =
      record {
        just = xa_set;
        stands = record { srp = first_xa_srp r.sr1 (c % 32) small1 xa_low; srl = refl; qe = refl; lb = refl; hold = refl; drv = refl };
      }

  xa_met : (t : Term) → Met t w (xa r l h) xa_coded
  xa_met Now = xa_shows
  xa_met Kept = (xa_shows, xa_stored_set)

  xa_sent : (t : Term) → Sent (xa r l h) w t (settings Xa t (xa r l h) c) xa_start
  xa_sent t =
      write_sent (xa r l h) w t (bare_command 6) (record { code = 1; bytes = One (first_byte (xa r l h) c) }) Stored (sole_write (xa r l h) c) []
      xa_start xa_arms (xa_writes (first_byte (xa r l h) c)) refl free calm
      (held_old (protected (xa r l h)) w (protected (xa r l h)) refl) (held_new (protected (xa r l h)) w (protected xa_coded.face) xa_set)
      (none_sent (xa r l h) w t xa_coded (xa_met t))

-- Each chip that reads so is such a state.
module _ (r : Registers) (l : ℕ) (h : Bool) (w : ℕ) (t : Term) (c : ℕ) where
  each_jw : Plain (jw r l h) → suspended (jw r l h) ≡ false → locked (jw r l h) ≡ false → c < 64 → set_of c ≡ w →
      (s : State) → Reads (jw r l h) s → Sent (jw r l h) w t (settings Jw t (jw r l h) c) s
  each_jw plain calm free small e s reads =
      let b1 = inside_le r.sr1 252 plain.0.0 in
      let b2 = inside_le r.sr2 251 plain.0.1.0 in
      let b3 = inside_le r.sr3 228 plain.0.1.1 in
      let b = inside_le s.stored.sr2 122 reads.sound.lasts in
      of_reading (jw r l h) w t (settings Jw t (jw r l h) c) s reads
      (jw_sent r l h w c (omega arith) (omega arith) (omega arith) calm free small e s.stored s.arming s.busy s.slow s.carry
      (omega arith) t)

  each_xa : Plain (xa r l h) → suspended (xa r l h) ≡ false → locked (xa r l h) ≡ false → c < 16 → set_of c ≡ w →
      (s : State) → Reads (xa r l h) s → Sent (xa r l h) w t (settings Xa t (xa r l h) c) s
  each_xa plain calm free small e s reads =
      let b1 = inside_le r.sr1 188 plain.0.0 in
      let b2 = inside_le r.sr2 0 plain.0.1.0 in
      let b3 = inside_le r.sr3 0 plain.0.1.1 in
      let clear : Clear Xa s.stored = subst (λ (f : Face). Clear f.part s.stored) reads.face reads.sound.stored in
      let k2 = inside_le s.stored.sr2 0 clear.1.0 in
      let k3 = inside_le s.stored.sr3 0 clear.1.1 in
      of_reading (xa r l h) w t (settings Xa t (xa r l h) c) s reads
      (xa_sent r s.stored l h w c (omega arith) (omega arith) (omega arith) (omega arith) (omega arith) calm free small e
      s.arming s.busy s.slow s.carry t)

reach_by : (p : Part) (r : Registers) (l : ℕ) (h : Bool) (w : ℕ) (t : Term) (c : ℕ) → Plain (faced p r l h) → Known p →
    suspended (faced p r l h) ≡ false → locked (faced p r l h) ≡ false → c < codes_of p → set_of c ≡ w →
    Reaches (settings p t (faced p r l h) c) (faced p r l h) w t
reach_by Jw r l h w t c plain known calm free small e =
    let each = each_jw r l h w t c plain calm free small e in
    record { met = λ s reads. (each s reads).met; held = λ s reads. (each s reads).held }
reach_by Xa r l h w t c plain known calm free small e =
    let each = each_xa r l h w t c plain calm free small e in
    record { met = λ s reads. (each s reads).met; held = λ s reads. (each s reads).held }
reach_by (Other n) r l h w t c plain known calm free small e = elim known [ ]

-- The commands by way of a code reach its set, where the registers can be written.
pub settings_reach : (f : Face) (w : ℕ) (t : Term) (c : ℕ) → Plain f → Known f.part → suspended f ≡ false → locked f ≡ false →
    c < codes_of f.part → set_of c ≡ w → Reaches (settings f.part t f c) f w t
settings_reach f w t c plain known calm free small e =
    reach_by f.part f.working f.locks f.wp w t c plain known calm free small e

-- No command is needed for what is protected already: for now on each part.
shows_still : (f : Face) (w : ℕ) (s : State) → Reads f s → protected f ≡ w → Shows w f s.face
shows_still f w s reads e =
    subst (λ (g : Face). Shows w f g) (sym reads.face) (record { just = e; stands = same_stands f.working })

pub nothing_reach_now : (f : Face) (w : ℕ) → protected f ≡ w → Reaches [] f w Now
nothing_reach_now f w e = record { met = λ s reads. shows_still f w s reads e; held = λ s reads. tt }

-- On the W25X16A power changes nothing that protects, so for kept too.
xa_power : (f : Face) (w : ℕ) (s : State) → Reads f s → f.part ≡ Xa → protected f ≡ w → protected (powered s).face ≡ w
xa_power f w s reads x e =
    let y : s.face.part ≡ Xa = ap (λ (g : Face). g.part) reads.face ∙ x in
    let own : Own Xa s = subst (λ (p : Part). Own p s) y reads.sound.own in
    ap (λ (q : Registers). protected (faced s.face.part q (fresh_locks s.face.part s.face.locks) s.face.wp)) own.0
    ∙ ap (λ (m : ℕ). protected (faced s.face.part s.face.working m s.face.wp)) (ap (λ (p : Part). fresh_locks p s.face.locks) y)
    ∙ ap protected reads.face ∙ e

xa_still : (f : Face) (w : ℕ) (t : Term) (s : State) → Reads f s → f.part ≡ Xa → protected f ≡ w → Met t w f s
xa_still f w Now s reads x e = shows_still f w s reads e
xa_still f w Kept s reads x e = (shows_still f w s reads e, xa_power f w s reads x e)

pub nothing_reach_xa : (f : Face) (w : ℕ) (t : Term) → f.part ≡ Xa → protected f ≡ w → Reaches [] f w t
nothing_reach_xa f w t x e = record { met = λ s reads. xa_still f w t s reads x e; held = λ s reads. tt }
