-- Sweeps over the units: what the commands make of a chip, what holds after each of them, and the lock bits that are left.
use Rattle.std.proofs.Common.{◌≡◌, ℕ, zero, suc, ◌+◌, ◌*◌, ◌/◌, ◌%◌, ◌^◌, ◌<◌, ◌≤◌, Bool, true, false, cond, ltb, ◌⊎◌, List, [], ◌∷◌, ◌++◌, sym, refl, ap, ◌∙◌, subst, inl, inr, ⊎_elim, arith, ltb→lt}
use lib.Bits.{bit_and, bit_or, bit_xor, xor_step, differ}
use Rattle.std.proofs.lemmas.Nat.{and_le_l, or_lt, pow_below, xor_lt, xor_shr}
use Rattle.std.proofs.lemmas.Bool.{both_ways, cases_eq, cases_lt, cond-true, lt-ltb}
use Rattle.units.specs.Units.{first_of, has}
use Rattle.units.proofs.Addresses.{unit_first}
use Rattle.units.proofs.Bits.{has_and, has_bit, has_one, has_or, has_other}
use Rattle.units.proofs.Tests.{each_below, same_below}
use Rattle.chip.specs.Effect.{accepts, at_address, order_of, relocked}
use Rattle.chip.specs.Step.{obeyed, taken}
use Rattle.chip.specs.declared.model.Arming.{Arming}
use Rattle.chip.specs.declared.model.Arming.TheVariants.{Disarmed, Stored}
use Rattle.chip.specs.declared.model.Bytes.TheVariants.{Three}
use Rattle.chip.specs.declared.model.Command.{Command}
use Rattle.chip.specs.declared.model.Order.{Order}
use Rattle.chip.specs.declared.model.Order.TheVariants.{Change}
use Rattle.chip.specs.declared.model.Part.{Part}
use Rattle.chip.specs.declared.model.Part.TheVariants.{Jw}
use Rattle.chip.specs.declared.model.Relock.{Relock}
use Rattle.chip.specs.declared.model.Relock.TheVariants.{Lock, Unlock}
use Rattle.chip.specs.declared.model.State.{State}
use Rattle.plan.specs.Plan.{at_unit, bare_command, sweep}
use Rattle.laws.specs.Laws.{Always, would}

-- One list of commands after another.
pub would_append : (xs ys : List Command) (s : State) → would (xs ++ ys) s ≡ would ys (would xs s)
would_append [] ys s = refl
would_append (x ∷ xs) ys s = would_append xs ys (obeyed x s)

pub always_append : (P : State → Type 0) (xs ys : List Command) (s : State) →
    Always P xs s → Always P ys (would xs s) → Always P (xs ++ ys) s
always_append P [] ys s h k = k
always_append P (x ∷ xs) ys s h k = (h.0, always_append P xs ys (obeyed x s) h.1 k)

-- A chip with another part, other lock bits and another arming.
abbrev of_part : State → Part → ℕ → Arming → State
of_part s p m a =
    record {
      face = record { part = p; working = s.face.working; locks = m; wp = s.face.wp };
      stored = s.stored;
      arming = a;
      busy = s.busy;
      slow = s.slow;
      carry = s.carry;
    }

-- A W25Q16JW like the chip, but with these lock bits and this arming.
abbrev pub having : State → ℕ → Arming → State
having s m a = of_part s Jw m a

pub having_own : (s : State) → s.face.part ≡ Jw → having s s.face.locks s.arming ≡ s
having_own s e = ap (λ (p : Part). of_part s p s.face.locks s.arming) (sym e)

-- The command of a unit, at its first address.
abbrev unit_command : ℕ → ℕ → Command
unit_command code u =
    record { code = code; bytes = Three (first_of u / 65536) (first_of u / 256 % 256) (first_of u % 256) }

-- Its three bytes make the address again, which lies in the array.
address_again : (u : ℕ) → u < 62 → first_of u / 65536 * 65536 + first_of u / 256 % 256 * 256 + first_of u % 256 ≡ first_of u
address_again =
    same_below 62 (λ u. first_of u / 65536 * 65536 + first_of u / 256 % 256 * 256 + first_of u % 256) (λ u. first_of u) tt

in_array : (u : ℕ) → u < 62 → ltb (first_of u) 2097152 ≡ true
in_array u h =
    lt-ltb (first_of u) 2097152 (ltb→lt (first_of u) 2097152 (each_below 62 (λ v. ltb (first_of v) 2097152) tt u h))

lock_order : (u : ℕ) → u < 62 → order_of Jw (unit_command 54 u) ≡ Change (Lock u)
unfolding order_of
lock_order u h =
    ap (at_address Jw 54) (address_again u h) ∙ cond-true _ _ _ (in_array u h) ∙ ap (λ v. Change (Lock v)) (unit_first u h)

unlock_order : (u : ℕ) → u < 62 → order_of Jw (unit_command 57 u) ≡ Change (Unlock u)
unfolding order_of
unlock_order u h =
    ap (at_address Jw 57) (address_again u h) ∙ cond-true _ _ _ (in_array u h) ∙ ap (λ v. Change (Unlock v)) (unit_first u h)

-- 06h is taken always, and after it so is a change of lock bits.
arms : (s : State) (m : ℕ) (a : Arming) → obeyed (bare_command 6) (having s m a) ≡ having s m Stored
unfolding obeyed order_of
arms s m a = refl

changes : (s : State) (m : ℕ) (c : Command) (l : Relock) → order_of Jw c ≡ Change l →
    obeyed c (having s m Stored) ≡ having s (relocked l m) Disarmed
unfolding obeyed
changes s m c l e =
    ap
    (λ (o : Order).
    cond (accepts o Stored (having s m Stored).face) (taken o (having s m Stored)) (having s m Stored))
    e

-- The lock bits with one more, and with one less.
abbrev pub lock : ℕ → ℕ → ℕ
lock u m = bit_or m (2 ^ u)

abbrev pub unlock : ℕ → ℕ → ℕ
unlock u m = bit_xor m (bit_and m (2 ^ u))

-- What the command of a unit does to the lock bits.
abbrev pub Does : ℕ → (ℕ → ℕ → ℕ) → Type 0
Does code op =
    (s : State) (u m : ℕ) → u < 62 → obeyed (unit_command code u) (having s m Stored) ≡ having s (op u m) Disarmed

pub locks_one : Does 54 lock
locks_one s u m h =
    changes s m (unit_command 54 u) (Lock u) (lock_order u h)
    ∙ ap (λ (x : ℕ). having s x Disarmed) (cond-true (ltb u 62) (lock u m) m (lt-ltb u 62 h))

pub unlocks_one : Does 57 unlock
unlocks_one s u m h =
    changes s m (unit_command 57 u) (Unlock u) (unlock_order u h)
    ∙ ap (λ (x : ℕ). having s x Disarmed) (cond-true (ltb u 62) (unlock u m) m (lt-ltb u 62 h))

-- An operation on lock bits gives the bit of its unit this value, leaves the others, and adds none beyond the last unit.
pub record Sets (op : ℕ → ℕ → ℕ) (x : ℕ) : Type 0 where
  pub own : (u m : ℕ) → has (op u m) u ≡ x
  pub other : (u v m : ℕ) → (u ≡ v → ⊥) → has (op u m) v ≡ has m v
  pub small : (u m : ℕ) → u < 62 → m < 2 ^ 62 → op u m < 2 ^ 62

pub lock_sets : Sets lock 1
lock_sets =
    record {
      own = λ u m. omega (arith, has_or m (2 ^ u) u, has_one u, has_bit m u);
      other = λ u v m n. omega (arith, has_or m (2 ^ u) v, has_other u v n);
      small = λ u m h l. or_lt 62 m (2 ^ u) l (pow_below u 62 h);
    }

has_xor : (a b u : ℕ) → has (bit_xor a b) u ≡ differ (has a u) (has b u) % 2
unfolding has
has_xor a b u = rw (xor_shr a b u) (omega (arith, xor_step (a / 2 ^ u) (b / 2 ^ u)))

differ_same : (x : ℕ) → differ x x ≡ 0
differ_same zero = refl
differ_same (suc x) = differ_same x

differ_none : (x : ℕ) → differ x 0 ≡ x
differ_none zero = refl
differ_none (suc x) = refl

-- A set less another has none of that, and its own units else.
pub has_less_in : (m n u : ℕ) → has n u ≡ 1 → has (bit_xor m (bit_and m n)) u ≡ 0
has_less_in m n u h =
    let e : has (bit_and m n) u ≡ has m u = omega (arith, has_and m n u, h, has_bit m u) in
    has_xor m (bit_and m n) u ∙ ap (λ (y : ℕ). differ (has m u) y % 2) e ∙ ap (λ (y : ℕ). y % 2) (differ_same (has m u))

pub has_less_out : (m n u : ℕ) → has n u ≡ 0 → has (bit_xor m (bit_and m n)) u ≡ has m u
has_less_out m n u h =
    let e : has (bit_and m n) u ≡ 0 = omega (arith, has_and m n u, h) in
    let d : differ (has m u) 0 ≡ has m u = differ_none (has m u) in
    has_xor m (bit_and m n) u ∙ ap (λ (y : ℕ). differ (has m u) y % 2) e ∙ ap (λ (y : ℕ). y % 2) d ∙ omega (arith, has_bit m u)

pub unlock_sets : Sets unlock 0
unlock_sets =
    record {
      own = λ u m. has_less_in m (2 ^ u) u (has_one u);
      other = λ u v m n. has_less_out m (2 ^ u) v (has_other u v n);
      small = λ u m h l. xor_lt 62 m (bit_and m (2 ^ u)) l (omega (arith, and_le_l m (2 ^ u)));
    }

-- The lock bits and the arming that a sweep over the units below n leaves.
unfoldable pub swept : (ℕ → Bool) → (ℕ → ℕ → ℕ) → ℕ → ℕ → ℕ
swept test op zero m = m
swept test op (suc n) m = cond (test n) (op n (swept test op n m)) (swept test op n m)

unfoldable pub latch : (ℕ → Bool) → ℕ → Arming → Arming
latch test zero a = a
latch test (suc n) a = cond (test n) Disarmed (latch test n a)

module _ (s : State) (test : ℕ → Bool) (code : ℕ) (op : ℕ → ℕ → ℕ) (does : Does code op) where
  changed_on : (n m : ℕ) (a : Arming) → n < 62 → would (at_unit code n) (having s m a) ≡ having s (op n m) Disarmed
  changed_on n m a h = ap (obeyed (unit_command code n)) (arms s m a) ∙ does s n m h

  would_last : (b : Bool) (n m : ℕ) (a : Arming) → n < 62 →
      would (cond b (at_unit code n) []) (having s m a) ≡ having s (cond b (op n m) m) (cond b Disarmed a)
  would_last true n m a h = changed_on n m a h
  would_last false n m a h = refl

  pub would_sweep : (n m : ℕ) (a : Arming) → n ≤ 62 →
      would (sweep test code n) (having s m a) ≡ having s (swept test op n m) (latch test n a)
  unfolding sweep swept latch
  would_sweep zero m a h = refl
  would_sweep (suc n) m a h =
      would_append (sweep test code n) (cond (test n) (at_unit code n) []) (having s m a)
      ∙ ap (would (cond (test n) (at_unit code n) [])) (would_sweep n m a (omega arith))
      ∙ would_last (test n) n (swept test op n m) (latch test n a) (omega arith)

  always_last : (P : State → Type 0) (b : Bool) (n m : ℕ) (a : Arming) → n < 62 →
      ((x : Arming) → P (having s m x)) → ((x : Arming) → P (having s (cond b (op n m) m) x)) →
      Always P (cond b (at_unit code n) []) (having s m a)
  always_last P true n m a h p q =
      (subst P (sym (arms s m a)) (p Stored), (subst P (sym (changed_on n m a h)) (q Disarmed), tt))
  always_last P false n m a h p q = tt

  -- What holds at the lock bits of every shorter sweep, under any arming, holds after each command.
  pub always_sweep : (P : State → Type 0) (m : ℕ) →
      ((i : ℕ) → i ≤ 62 → (x : Arming) → P (having s (swept test op i m) x)) →
      (n : ℕ) (a : Arming) → n ≤ 62 → Always P (sweep test code n) (having s m a)
  unfolding sweep swept latch
  always_sweep P m p zero a h = tt
  always_sweep P m p (suc n) a h =
      let l : n ≤ 62 = omega arith in
      always_append P (sweep test code n) (cond (test n) (at_unit code n) []) (having s m a) (always_sweep P m p n a l)
      (subst (λ (x : State). Always P (cond (test n) (at_unit code n) []) x) (sym (would_sweep n m a l))
      (always_last P (test n) n (swept test op n m) (latch test n a) h (p n l) (p (suc n) h)))

module _ (test : ℕ → Bool) (op : ℕ → ℕ → ℕ) (x : ℕ) (sets : Sets op x) where
  beside : (b : Bool) (n v m : ℕ) → (n ≡ v → ⊥) → has (cond b (op n m) m) v ≡ has m v
  beside true n v m h = sets.other n v m h
  beside false n v m h = refl

  swept_own : (n v m : ℕ) → n ≡ v → test n ≡ true → has (cond (test n) (op n m) m) v ≡ x
  swept_own n v m e t =
      ap (λ (b : Bool). has (cond b (op n m) m) v) t ∙ ap (has (op n m)) (sym e) ∙ sets.own n m

  -- A unit that passes the test gets the value, once the sweep has come by.
  pub swept_done : (n v m : ℕ) → v < n → test v ≡ true → has (swept test op n m) v ≡ x
  unfolding swept
  swept_done zero v m h t = let z : ⊥ = omega arith in absurd z
  swept_done (suc n) v m h t =
      ⊎_elim
      (λ (e : n ≡ v). swept_own n v (swept test op n m) e (ap test e ∙ t))
      (λ (e : n ≡ v → ⊥).
      let l : v < n = ⊎_elim (λ (k : v < n). k) (λ (k : n ≤ v). absurd (e (omega arith))) (cases_lt v n) in
      beside (test n) n v (swept test op n m) e ∙ swept_done n v m l t)
      (cases_eq n v)

  either_here : (b : Bool) (n v m : ℕ) → test n ≡ b → n ≡ v →
      (has (cond b (op n m) m) v ≡ has m v) ⊎ ((test v ≡ true) × (has (cond b (op n m) m) v ≡ x))
  either_here true n v m t e = inr (ap test (sym e) ∙ t, ap (has (op n m)) (sym e) ∙ sets.own n m)
  either_here false n v m t e = inl refl

  -- A unit is as before, or it passed the test and has the value.
  pub swept_either : (n v m : ℕ) →
      (has (swept test op n m) v ≡ has m v) ⊎ ((test v ≡ true) × (has (swept test op n m) v ≡ x))
  unfolding swept
  swept_either zero v m = inl refl
  swept_either (suc n) v m =
      ⊎_elim
      (λ (e : n ≡ v).
      let ih = swept_either n v m in
      ⊎_elim
      (λ (here : has (cond (test n) (op n (swept test op n m)) (swept test op n m)) v ≡ has (swept test op n m) v).
      ⊎_elim (λ (same : has (swept test op n m) v ≡ has m v). inl (here ∙ same)) (λ p. inr (p.0, here ∙ p.1)) ih)
      (λ p. inr p)
      (either_here (test n) n v (swept test op n m) refl e))
      (λ (e : n ≡ v → ⊥).
      let b = beside (test n) n v (swept test op n m) e in
      ⊎_elim
      (λ (same : has (swept test op n m) v ≡ has m v). inl (b ∙ same))
      (λ p. inr (p.0, b ∙ p.1))
      (swept_either n v m))
      (cases_eq n v)

  -- A unit that fails the test is as before.
  pub swept_left : (n v m : ℕ) → test v ≡ false → has (swept test op n m) v ≡ has m v
  swept_left n v m t =
      ⊎_elim (λ (e : has (swept test op n m) v ≡ has m v). e) (λ p. absurd (both_ways (test v) t p.0)) (swept_either n v m)

  small_step : (b : Bool) (n m : ℕ) → n < 62 → m < 2 ^ 62 → cond b (op n m) m < 2 ^ 62
  small_step true n m h l = sets.small n m h l
  small_step false n m h l = l

  pub swept_small : (n m : ℕ) → n ≤ 62 → m < 2 ^ 62 → swept test op n m < 2 ^ 62
  unfolding swept
  swept_small zero m h l = l
  swept_small (suc n) m h l = small_step (test n) n (swept test op n m) h (swept_small n m (omega arith) l)
