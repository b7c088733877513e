-- Questions in a row: what each leaves, and what the reads of SR1 tell of BUSY.
use Rattle.std.proofs.Common.{◌≡◌, ℕ, ◌+◌, ◌-◌, ◌*◌, ◌/◌, ◌%◌, ◌^◌, ◌<◌, ◌≤◌, Bool, true, false, cond, eqb, ltb, sym, refl, ap, ◌∙◌, subst, le_refl, mod-eq_of_lt, arith, rules, eq-eqb, eqb-true}
use borrow.Author.Tests.{eqb-false}
use lib.Bits.{bit_and, and_step, and_le_r}
use Rattle.std.proofs.lemmas.Nat.{mod-pow-add, pow_below, pow_pos, mod_below, mul-le}
use Rattle.units.specs.Units.{has}
use Rattle.chip.specs.Effect.{bits1, lock_bits}
use Rattle.chip.specs.Step.{wel, asked, polled, charged, Sound}
use Rattle.chip.specs.declared.model.Part.{Part}
use Rattle.chip.specs.declared.model.Part.TheVariants.{Jw, Xa, Other}
use Rattle.chip.specs.declared.model.State.{State}
use Rattle.chip.specs.declared.model.Question.TheVariants.{Status1, Lock}
use Rattle.refusals.specs.declared.CableFault.TheVariants.{Down}
use Rattle.session.specs.Asked.{spent, idle_status, reads, GivesUp}
use Rattle.session.specs.declared.asking.WaitFault.{WaitFault}

-- The same state but for busy and carry.
abbrev pub counting : ℕ → ℕ → State → State
counting b k s = record { face = s.face; stored = s.stored; arming = s.arming; busy = b; slow = s.slow; carry = k }

pub counting_same : (b c k l : ℕ) (s : State) → b ≡ c → k ≡ l → counting b k s ≡ counting c l s
counting_same b c k l s e f = ap (λ x. counting x k s) e ∙ ap (λ x. counting c x s) f

pub spent_more : (n m : ℕ) (s : State) → spent m (spent n s) ≡ spent (n + m) s
spent_more n m s = counting_same _ _ _ _ s (omega arith) (omega arith)

spent_read : (n : ℕ) (s : State) → polled Status1 (charged (spent n s)) ≡ spent (n + 1) s
spent_read n s = counting_same _ _ _ _ s (omega arith) (omega arith)

pub spent_idle : (n : ℕ) (s : State) → s.busy ≡ 0 → charged (spent n s) ≡ spent (n + 1) s
spent_idle n s e = counting_same _ _ _ _ s (omega arith) (omega arith)

even_bits : (p : Part) → bits1 p % 2 ≡ 0
even_bits Jw = refl
even_bits Xa = refl
even_bits (Other n) = refl

-- Without BUSY, SR1 is even.
even_status : (s : State) → Sound s → s.face.working.sr1 % 2 ≡ 0
even_status s h =
    let e = h.face.0.0 in
    let p = and_step s.face.working.sr1 (bits1 s.face.part) in
    let q = even_bits s.face.part in
    omega arith

-- What a read of SR1 tells, k more reads showing BUSY.
shown_by : (b : Bool) (k w r v : ℕ) → eqb k 0 ≡ b → r % 2 ≡ 0 → v ≡ r + (2 * w + cond b 0 1) → v % 2 ≡ 0 → (k ≡ 0) × (v ≡ r + 2 * w)
shown_by true k w r v h e f g = let z = eqb-true k 0 h in (z, omega arith)
shown_by false k w r v h e f g = let z : ⊥ = omega arith in elim z [ ]

hidden_by : (b : Bool) (k w r v : ℕ) → eqb k 0 ≡ b → r % 2 ≡ 0 → v ≡ r + (2 * w + cond b 0 1) → (v % 2 ≡ 0 → ⊥) → 0 < k
hidden_by true k w r v h e f g = let z : v % 2 ≡ 0 = omega arith in let n : ⊥ = g z in elim n [ ]
hidden_by false k w r v h e f g = let n = eqb-false k 0 h in omega arith

-- The reads so far all showed BUSY, and this one does not.
pub wait_ends : (s x t : State) (i v : ℕ) → Sound s → x ≡ spent i s → i ≤ s.carry → i ≤ s.busy → i < 100 →
    (0 < x.carry) × ((v ≡ asked Status1 x) × (t ≡ polled Status1 (charged x))) → v % 2 ≡ 0 →
    (s.busy < 100) × ((s.busy < s.carry) × ((v ≡ idle_status s) × (t ≡ spent (s.busy + 1) s)))
wait_ends s x t i v h e a b l q z =
    let d = shown_by (eqb (s.busy - i) 0) (s.busy - i) (wel s.arming) s.face.working.sr1 v refl (even_status s h) (q.1.0 ∙ ap (asked Status1) e) z in
    let k : x.carry ≡ s.carry - i = ap (λ y. y.carry) e in
    let same : i ≡ s.busy = omega (arith, d.0) in (
      omega arith,
      (
        omega (arith, q.0),
        (d.1, q.1.1 ∙ ap (λ y. polled Status1 (charged y)) e ∙ spent_read i s ∙ ap (λ n. spent (n + 1) s) same),
      ),
    )

-- This one shows it too.
pub wait_goes : (s x t : State) (i v : ℕ) → Sound s → x ≡ spent i s → i ≤ s.carry → i ≤ s.busy →
    (0 < x.carry) × ((v ≡ asked Status1 x) × (t ≡ polled Status1 (charged x))) → (v % 2 ≡ 0 → ⊥) →
    (t ≡ spent (i + 1) s) × ((i + 1 ≤ s.carry) × (i + 1 ≤ s.busy))
wait_goes s x t i v h e a b q n =
    let d = hidden_by (eqb (s.busy - i) 0) (s.busy - i) (wel s.arming) s.face.working.sr1 v refl (even_status s h) (q.1.0 ∙ ap (asked Status1) e) n in
    let k : x.carry ≡ s.carry - i = ap (λ y. y.carry) e in
    (q.1.1 ∙ ap (λ y. polled Status1 (charged y)) e ∙ spent_read i s, (omega (arith, q.0), omega arith))

-- The cable is down before this one.
pub wait_fails : (s x t : State) (i : ℕ) (f : WaitFault) → x ≡ spent i s → i ≤ s.carry → i ≤ s.busy → i < 100 →
    (x.carry ≡ 0) × (t ≡ x) → f ≡ record { fault = Down; busy = ltb 0 i } → GivesUp s f.fault t × (f.busy ≡ ltb 0 s.carry)
wait_fails s x t i f e a b l q g =
    let k : x.carry ≡ s.carry - i = ap (λ y. y.carry) e in
    let same : i ≡ s.carry = omega (arith, q.0) in
    let few : s.carry < reads s = search rules in
    subst (λ y. GivesUp s y.fault t × (y.busy ≡ ltb 0 s.carry)) (sym g)
    ((few, q.1 ∙ e ∙ ap (λ n. spent n s) same), ap (ltb 0) same)

-- A chip that is not busy answers its lock bits.
lock_answer : (s x : State) (i v : ℕ) → s.busy ≡ 0 → x ≡ spent i s → v ≡ asked (Lock i) x → v ≡ has s.face.locks i
lock_answer s x i v z e q =
    q ∙ ap (asked (Lock i)) e ∙ ap (λ b. cond b (has s.face.locks i) 1) (eq-eqb (s.busy - i) 0 (omega arith))

bit_small : (n u : ℕ) → has n u < 2
unfolding has
bit_small n u = mod_below (n / 2 ^ u) 2 (omega arith)

-- The bits below a unit's, and its own.
low_more : (n u : ℕ) → n % 2 ^ u + has n u * 2 ^ u ≡ n % 2 ^ (u + 1)
unfolding has
low_more n u = let e = mod-pow-add n 1 u in let f : 1 + u ≡ u + 1 = omega arith in rw (← f) (omega (arith, e))

-- Shifted into its place, a lock bit loses nothing.
shifted : (b u : ℕ) → b < 2 → u < 62 → (b * 2 ^ u) % 18446744073709551616 ≡ b * 2 ^ u
shifted b u h k = let p = pow_below u 62 k in
    let one : b ≤ 1 = omega arith in
    let q = mul-le b (2 ^ u) 1 (2 ^ u) one (le_refl (2 ^ u)) in
    let r : b * 2 ^ u < 18446744073709551616 = omega arith in
    mod-eq_of_lt r

pub locks_more : (s x t : State) (i v l : ℕ) → s.busy ≡ 0 → x ≡ spent i s → i < 62 → i ≤ s.carry → l ≡ s.face.locks % 2 ^ i →
    (0 < x.carry) × ((v ≡ asked (Lock i) x) × (t ≡ charged x)) →
    (t ≡ spent (i + 1) s) × ((i + 1 ≤ s.carry) × (l + (v * 2 ^ i) % 18446744073709551616 ≡ s.face.locks % 2 ^ (i + 1)))
locks_more s x t i v l z e h a f q =
    let w = lock_answer s x i v z e q.1.0 in
    let b : v < 2 = omega (arith, bit_small s.face.locks i) in
    let k : x.carry ≡ s.carry - i = ap (λ y. y.carry) e in (
      q.1.1 ∙ ap charged e ∙ spent_idle i s z,
      (
        omega (arith, q.0),
        ap (λ y. l + y) (shifted v i b h) ∙ ap (λ y. y + v * 2 ^ i) f ∙ ap (λ y. s.face.locks % 2 ^ i + y * 2 ^ i) w ∙ low_more s.face.locks i,
      ),
    )

pub locks_fit : (n u : ℕ) → u < 62 → n % 2 ^ (u + 1) < 18446744073709551616
locks_fit n u h =
    let p = mod_below n (2 ^ (u + 1)) (pow_pos (u + 1)) in let q = pow_below (u + 1) 64 (omega arith) in omega arith

-- No part has lock bits above unit 61.
pub locks_below : (p : Part) (m : ℕ) → bit_and m (lock_bits p) ≡ m → m < 2 ^ 62
locks_below Jw m e = let l = and_le_r m (2 ^ 62 - 1) in omega arith
locks_below Xa m e = let l = and_le_r m 0 in omega arith
locks_below (Other n) m e = let l = and_le_r m (2 ^ 62 - 1) in omega arith

pub locks_all : (s : State) → Sound s → s.face.locks % 2 ^ 62 ≡ s.face.locks
locks_all s h = mod-eq_of_lt (locks_below s.face.part s.face.locks h.face.1)
