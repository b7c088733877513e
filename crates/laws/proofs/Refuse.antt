-- Where a plan is refused there is none.
use Rattle.std.proofs.Common.{◌≡◌, ℕ, ◌+◌, ◌-◌, ◌*◌, ◌/◌, ◌%◌, ◌^◌, ◌<◌, Bool, true, false, cond, not, ◌||◌, eqb, List, Some, None, Ok, Err, Option, Result, sym, refl, ap, ◌∙◌, subst, arith}
use lib.Bits.{bit_and, and_le_r, and_zero_r}
use Rattle.std.proofs.lemmas.Bool.{eqb-true, eqb-false, cond-false}
use Rattle.units.specs.Codes.{set_of}
use Rattle.units.proofs.Tests.{same_below}
use Rattle.chip.specs.Effect.{Clear, Plain, locked, suspended}
use Rattle.chip.specs.Step.{Known, Own, powered, fresh_locks}
use Rattle.chip.specs.declared.model.Part.{Part}
use Rattle.chip.specs.declared.model.Part.TheVariants.{Jw, Xa, Other}
use Rattle.chip.specs.declared.model.Arming.TheVariants.{Disarmed}
use Rattle.chip.specs.declared.model.Registers.{Registers}
use Rattle.chip.specs.declared.model.Face.{Face}
use Rattle.chip.specs.declared.model.State.{State}
use Rattle.chip.specs.declared.model.Command.{Command}
use Rattle.picture.specs.Protection.{protected}
use Rattle.refusals.specs.declared.RunFault.{RunFault}
use Rattle.plan.specs.Plan.{smallest, chosen, by_lock_bits, lock_fault, by_code, by_locks, by_either, unless_set}
use Rattle.plan.specs.declared.wish.Term.{Term}
use Rattle.plan.specs.declared.wish.Term.TheVariants.{Now, Kept}
use Rattle.plan.specs.declared.wish.Route.{Route}
use Rattle.plan.specs.declared.wish.Route.TheVariants.{Settings, Locks}
use Rattle.laws.specs.Laws.{Reads, would, Met, Unreachable}
use Rattle.laws.proofs.Codes.{no_code}
use Rattle.laws.proofs.Frozen.{frozen, would_clear}

-- What a refusal says of the values that were tested.
unless_refused : (b : Bool) (r : Result Route RunFault) (e : RunFault) → unless_set b r ≡ Err e → (b ≡ false) × (r ≡ Err e)
unless_refused true r e h = let z : ◌≡◌ {A = ℕ} 0 1 = cc in let n : ⊥ = omega arith in elim n [ ]
unless_refused false r e h = (refl, h)

cond_refused : (b : Bool) (r : Result Route RunFault) (x : Route) (e : RunFault) → cond b r (Ok x) ≡ Err e → (b ≡ true) × (r ≡ Err e)
cond_refused true r x e h = (refl, h)
cond_refused false r x e h = let z : ◌≡◌ {A = ℕ} 0 1 = cc in let n : ⊥ = omega arith in elim n [ ]

cond_lock : (b : Bool) (d : RunFault) (x : Route) (e : RunFault) → cond {A = Result Route RunFault} b (Err d) (Ok x) ≡ Err e → b ≡ true
cond_lock b d x e h = (cond_refused b (Err d) x e h).0

locks_refused : (b l : Bool) (d e : RunFault) → cond {A = Result Route RunFault} (b || not l) (Ok Locks) (Err d) ≡ Err e →
    (b ≡ false) × (l ≡ true)
locks_refused true l d e h = let z : ◌≡◌ {A = ℕ} 0 1 = cc in let n : ⊥ = omega arith in elim n [ ]
locks_refused false true d e h = (refl, refl)
locks_refused false false d e h = let z : ◌≡◌ {A = ℕ} 0 1 = cc in let n : ⊥ = omega arith in elim n [ ]

either_refused : (o : Option ℕ) (f : Face) (e : RunFault) → by_either o f ≡ Err e → (by_lock_bits f ≡ false) × (locked f ≡ true)
either_refused None f e h = locks_refused (by_lock_bits f) (locked f) (lock_fault f) e h
either_refused (Some c) f e h =
    locks_refused (by_lock_bits f) (locked f) (lock_fault f) e (cond_refused (locked f) (by_locks f) (Settings c) e h).1

-- A chip that reads so, with these stored registers.
abbrev chip : Face → Registers → State
chip f k = record { face = f; stored = k; arming = Disarmed; busy = 0; slow = 0; carry = 0 }

reads : (f : Face) (k : Registers) → Plain f → Clear f.part k → bit_and k.sr2 122 ≡ k.sr2 → Own f.part (chip f k) →
    Reads f (chip f k)
reads f k plain clear lasts own =
    record {
      sound =
          record {
            face = plain;
            stored = clear;
            lasts = lasts;
            busy = omega arith;
            slow = omega arith;
            carry = omega arith;
            own = own;
          };
      face = refl;
      idle = refl;
      quick = refl;
    }

-- For both terms the set is protected at once.
at_once : (t : Term) (w : ℕ) (f : Face) (s : State) → Met t w f s → protected s.face ≡ w
at_once Now w f s h = h.just
at_once Kept w f s h = h.0.just

-- The block protection code in the registers.
abbrev code_in : Registers → ℕ
code_in r = r.sr2 / 64 % 2 * 32 + r.sr1 / 4 % 32

code_small : (r : Registers) → code_in r < 64
code_small r = omega arith

-- With WPS 0 the registers alone say what is protected.
by_registers : (f : Face) → by_lock_bits f ≡ false → protected f ≡ set_of (code_in f.working)
unfolding by_lock_bits protected
by_registers f e = cond-false (eqb (f.working.sr3 / 4 % 2) 1) f.locks (set_of (code_in f.working)) e

same_way : (f g : Face) → g.working ≡ f.working → by_lock_bits g ≡ by_lock_bits f
unfolding by_lock_bits
same_way f g k = ap (λ (r : Registers). eqb (r.sr3 / 4 % 2) 1) k

-- So locked registers with WPS 0 leave the protected set as it is.
stuck : (cs : List Command) (s : State) → by_lock_bits s.face ≡ false → locked s.face ≡ true →
    protected (would cs s).face ≡ protected s.face
stuck cs s b l =
    let k = (frozen cs s l).working in
    by_registers (would cs s).face (same_way s.face (would cs s).face k ∙ b)
    ∙ ap (λ (r : Registers). set_of (code_in r)) k ∙ sym (by_registers s.face b)

-- The W25X16A: SEC, CMP and WPS read 0 after any commands, so the code stays below 16.
no_sec : (a : ℕ) → a < 256 → bit_and a 188 / 4 % 32 / 16 ≡ 0
no_sec = same_below 256 (λ a. bit_and a 188 / 4 % 32 / 16) (λ a. 0) tt

xa_code : (r : Registers) → Clear Xa r → code_in r < 16
xa_code r h =
    let small = and_le_r r.sr1 188 in
    let high : r.sr1 / 4 % 32 / 16 ≡ 0 = ap (λ (a : ℕ). a / 4 % 32 / 16) (sym h.0) ∙ no_sec r.sr1 (omega (arith, h.0)) in
    let low : r.sr1 / 4 % 32 < 16 = omega arith in
    let second : r.sr2 ≡ 0 = sym h.1.0 ∙ and_zero_r r.sr2 in
    let none : r.sr2 / 64 % 2 ≡ 0 = ap (λ (a : ℕ). a / 64 % 2) second in
    omega arith

xa_way : (f : Face) → Clear Xa f.working → by_lock_bits f ≡ false
unfolding by_lock_bits
xa_way f h = ap (λ (a : ℕ). eqb (a / 4 % 2) 1) (sym h.1.1 ∙ and_zero_r f.working.sr3)

abbrev xa : Registers → ℕ → Bool → Face
xa r l h = record { part = Xa; working = r; locks = l; wp = h }

xa_reads : (r : Registers) (l : ℕ) (h : Bool) → Plain (xa r l h) → Reads (xa r l h) (chip (xa r l h) r)
xa_reads r l h plain =
    let second : r.sr2 ≡ 0 = sym plain.0.1.0 ∙ and_zero_r r.sr2 in
    reads (xa r l h) r plain plain.0 (subst (λ (a : ℕ). bit_and a 122 ≡ a) (sym second) refl)
    (refl, λ e. let z : ◌≡◌ {A = ℕ} 0 1 = cc in omega arith)

xa_no_code : (t : Term) (r : Registers) (l : ℕ) (h : Bool) (w : ℕ) → Plain (xa r l h) → smallest 16 w ≡ None → Unreachable (xa r l h) w t
xa_no_code t r l h w plain e cs meets =
    let s = chip (xa r l h) r in
    let k = would_clear cs Xa s (record { part = refl; clear = plain.0 }) in
    let c : Clear Xa (would cs s).face.working = subst (λ (p : Part). Clear p (would cs s).face.working) k.part k.clear in
    no_code 16 w e (code_in (would cs s).face.working) (xa_code (would cs s).face.working c)
    (sym (by_registers (would cs s).face (xa_way (would cs s).face c))
    ∙ at_once t w (xa r l h) (would cs s) (meets s (xa_reads r l h plain)))

xa_locked : (t : Term) (r : Registers) (l : ℕ) (h : Bool) (w : ℕ) → Plain (xa r l h) → locked (xa r l h) ≡ true →
    eqb (protected (xa r l h)) w ≡ false → Unreachable (xa r l h) w t
xa_locked t r l h w plain k n cs meets =
    let s = chip (xa r l h) r in
    eqb-false (protected (xa r l h)) w n
    (sym (stuck cs s (xa_way (xa r l h) plain.0) k) ∙ at_once t w (xa r l h) (would cs s) (meets s (xa_reads r l h plain)))

xa_refused : (o : Option ℕ) (t : Term) (r : Registers) (l : ℕ) (h : Bool) (w : ℕ) (e : RunFault) → Plain (xa r l h) →
    smallest 16 w ≡ o → eqb (protected (xa r l h)) w ≡ false → by_code o (xa r l h) ≡ Err e → Unreachable (xa r l h) w t
xa_refused None t r l h w e plain p n c = xa_no_code t r l h w plain p
xa_refused (Some i) t r l h w e plain p n c =
    xa_locked t r l h w plain (cond_lock (locked (xa r l h)) (lock_fault (xa r l h)) (Settings i) e c) n

-- The W25Q16JW. After power its stored registers count, and all lock bits are 1.
abbrev jw : Registers → ℕ → Bool → Face
jw r l h = record { part = Jw; working = r; locks = l; wp = h }

abbrev fresh : Registers → ℕ
fresh k = cond (eqb (k.sr3 / 4 % 2) 1) (2 ^ 62 - 1) (set_of (code_in k))

after_power : (t : State) → t.face.part ≡ Jw → protected (powered t).face ≡ fresh t.stored
unfolding protected
after_power t e =
    ap (λ (p : Part). cond (eqb (t.stored.sr3 / 4 % 2) 1) (fresh_locks p t.face.locks) (set_of (code_in t.stored))) e

-- The whole array has a code, so whatever is protected after power has one.
all_code : set_of 6 ≡ 2 ^ 62 - 1
unfolding set_of
all_code = refl

fresh_code : (b : Bool) (c w : ℕ) → c < 64 → smallest 64 w ≡ None → cond b (2 ^ 62 - 1) (set_of c) ≡ w → ⊥
fresh_code true c w l e k = no_code 64 w e 6 (omega arith) (all_code ∙ k)
fresh_code false c w l e k = no_code 64 w e c l k

-- A code alone in the registers: that of the whole array, or that of nothing.
abbrev alone : Bool → Registers
alone true = record { sr1 = 24; sr2 = 0; sr3 = 0 }
alone false = record { sr1 = 0; sr2 = 0; sr3 = 0 }

jw_reads : (b : Bool) (r : Registers) (l : ℕ) (h : Bool) → Plain (jw r l h) → Reads (jw r l h) (chip (jw r l h) (alone b))
jw_reads true r l h plain = reads (jw r l h) (alone true) plain (refl, (refl, refl)) refl tt
jw_reads false r l h plain = reads (jw r l h) (alone false) plain (refl, (refl, refl)) refl tt

-- It protects all where nothing is wished for, else nothing.
alone_other : (b : Bool) (w : ℕ) → eqb w 0 ≡ b → fresh (alone b) ≡ w → ⊥
unfolding set_of
alone_other true w e k = let z = eqb-true w 0 e in omega arith
alone_other false w e k = eqb-false w 0 e (sym k)

jw_no_code : (r : Registers) (l : ℕ) (h : Bool) (w : ℕ) → Plain (jw r l h) → smallest 64 w ≡ None → Unreachable (jw r l h) w Kept
jw_no_code r l h w plain e cs meets =
    let s = chip (jw r l h) (alone false) in
    let k = would_clear cs Jw s (record { part = refl; clear = plain.0 }) in
    fresh_code (eqb ((would cs s).stored.sr3 / 4 % 2) 1) (code_in (would cs s).stored) w (code_small (would cs s).stored) e
    (sym (after_power (would cs s) k.part) ∙ (meets s (jw_reads false r l h plain)).1)

jw_kept_locked : (r : Registers) (l : ℕ) (h : Bool) (w : ℕ) → Plain (jw r l h) → locked (jw r l h) ≡ true → Unreachable (jw r l h) w Kept
jw_kept_locked r l h w plain k cs meets =
    let s = chip (jw r l h) (alone (eqb w 0)) in
    let same = frozen cs s k in
    alone_other (eqb w 0) w refl
    (sym (ap fresh same.stored) ∙ sym (after_power (would cs s) same.part) ∙ (meets s (jw_reads (eqb w 0) r l h plain)).1)

jw_kept_refused : (o : Option ℕ) (r : Registers) (l : ℕ) (h : Bool) (w : ℕ) (e : RunFault) → Plain (jw r l h) → smallest 64 w ≡ o →
    by_code o (jw r l h) ≡ Err e → Unreachable (jw r l h) w Kept
jw_kept_refused None r l h w e plain p c = jw_no_code r l h w plain p
jw_kept_refused (Some i) r l h w e plain p c =
    jw_kept_locked r l h w plain (cond_lock (locked (jw r l h)) (lock_fault (jw r l h)) (Settings i) e c)

jw_now_refused : (o : Option ℕ) (r : Registers) (l : ℕ) (h : Bool) (w : ℕ) (e : RunFault) → Plain (jw r l h) →
    eqb (protected (jw r l h)) w ≡ false → by_either o (jw r l h) ≡ Err e → Unreachable (jw r l h) w Now
jw_now_refused o r l h w e plain n c cs meets =
    let s = chip (jw r l h) (alone false) in
    let k = either_refused o (jw r l h) e c in
    eqb-false (protected (jw r l h)) w n (sym (stuck cs s k.0 k.1) ∙ (meets s (jw_reads false r l h plain)).just)

by_part : (p : Part) (r : Registers) (l : ℕ) (h : Bool) (w : ℕ) (t : Term) (e : RunFault) →
    Plain (record { part = p; working = r; locks = l; wp = h }) → Known p →
    chosen (record { part = p; working = r; locks = l; wp = h }) w t ≡ Err e →
    Unreachable (record { part = p; working = r; locks = l; wp = h }) w t
unfolding chosen
by_part Jw r l h w Now e plain known c =
    let u = unless_refused (eqb (protected (jw r l h)) w) (by_either (smallest 64 w) (jw r l h)) e c in
    jw_now_refused (smallest 64 w) r l h w e plain u.0 u.1
by_part Jw r l h w Kept e plain known c = jw_kept_refused (smallest 64 w) r l h w e plain refl c
by_part Xa r l h w t e plain known c =
    let u = unless_refused (eqb (protected (xa r l h)) w) (by_code (smallest 16 w) (xa r l h)) e c in
    xa_refused (smallest 16 w) t r l h w e plain refl u.0 u.1
by_part (Other n) r l h w t e plain known c = absurd known

-- Where no route is chosen, no list of commands would meet the wish on every chip that reads so.
pub refused : (f : Face) (w : ℕ) (t : Term) (e : RunFault) → Plain f → Known f.part → suspended f ≡ false → w < 2 ^ 62 →
    chosen f w t ≡ Err e → Unreachable f w t
refused f w t e plain known sus small c = by_part f.part f.working f.locks f.wp w t e plain known c
