-- The commands at the units of a set.
use Rattle.std.proofs.Common.{◌≡◌, ℕ, zero, suc, ◌+◌, ◌-◌, ◌*◌, ◌^◌, ◌<◌, ◌≤◌, Bool, true, false, cond, eqb, ◌&&◌, List, [], ◌++◌, length, min, refl, ap, ◌∙◌, le_refl, arith, length-append, append-nil, bit_and}
use Rattle.std.proofs.lemmas.Bool.{eq-eqb, ne_eqb}
use Rattle.std.specs.Int.{bit_at, bit_not, w64}
use Rattle.std.proofs.lemmas.Nat.Bits.{bit_at_and, bit_at_not, bit_at-lt}
use Rattle.units.specs.Units.{has}
use Rattle.chip.specs.declared.model.Command.{Command}
use Rattle.plan.specs.Plan.{sweep, at_unit, to_lock, to_unlock}
use Rattle.plan.specs.Sinks.{SinkLaws}

-- Whether a set has a unit.
abbrev pub member : ℕ → ℕ → Bool
member set u = eqb (has set u) 1

pub sweep_step : (test : ℕ → Bool) (code n : ℕ) → sweep test code (n + 1) ≡ sweep test code n ++ cond (test n) (at_unit code n) []
unfolding sweep
sweep_step test code n = let e : n + 1 ≡ suc n = omega arith in ap (sweep test code) e

pub sweep_grows : (test : ℕ → Bool) (code n : ℕ) → length (sweep test code (n + 1)) ≡ length (sweep test code n) + length (cond (test n) (at_unit code n) [])
sweep_grows test code n = ap length (sweep_step test code n) ∙ length-append (sweep test code n) (cond (test n) (at_unit code n) [])

-- A longer sweep has the shorter one in front.
pub sweep_longer : (test : ℕ → Bool) (code n d : ℕ) → length (sweep test code n) ≤ length (sweep test code (n + d))
sweep_longer test code n zero = let e : n + zero ≡ n = omega arith in rw e (le_refl (length (sweep test code n)))
sweep_longer test code n (suc d) =
    let e : n + suc d ≡ n + d + 1 = omega arith in
    let g = sweep_grows test code (n + d) in
    let h = sweep_longer test code n d in
    rw e (omega arith)

-- Each step of a sweep has at most two commands.
pub step_short : (b : Bool) (code u : ℕ) → length (cond b (at_unit code u) []) ≤ 2
step_short true code u = omega arith
step_short false code u = omega arith

pub sweep_short : (test : ℕ → Bool) (code n : ℕ) → length (sweep test code n) ≤ 2 * n
unfolding sweep
sweep_short test code zero = omega arith
sweep_short test code (suc n) =
    let a = length-append (sweep test code n) (cond (test n) (at_unit code n) []) in
    let b = step_short (test n) code n in
    let h = sweep_short test code n in
    omega arith

-- A sweep goes by what its test says of the units below its end.
pub sweep_same : (p q : ℕ → Bool) (code n : ℕ) → ((u : ℕ) → u < n → p u ≡ q u) → sweep p code n ≡ sweep q code n
unfolding sweep
sweep_same p q code zero h = refl
sweep_same p q code (suc n) h =
    ap (λ cs. cs ++ cond (p n) (at_unit code n) []) (sweep_same p q code n (λ u l. h u (omega arith)))
    ∙ ap (λ b. sweep q code n ++ cond b (at_unit code n) []) (h n (omega arith))

-- One unit more, by whether it is in the set.
module _ {S : Type 0} {room : S → ℕ} {takes : List Command → S → S → Type 0} (laws : SinkLaws room takes) (set code n : ℕ) where
  sweep_with : has set n ≡ 1 → sweep (member set) code (n + 1) ≡ sweep (member set) code n ++ at_unit code n
  sweep_with e =
      sweep_step (member set) code n
      ∙ ap (λ b. sweep (member set) code n ++ cond b (at_unit code n) []) (eq-eqb (has set n) 1 e)

  pub sweep_on : (s t u : S) → has set n ≡ 1 → takes (sweep (member set) code n) s t → takes (at_unit code n) t u → takes (sweep (member set) code (n + 1)) s u
  sweep_on s t u e p q = rw (sweep_with e) (laws.more p q)

  pub sweep_past : (s t : S) → (has set n ≡ 1 → ⊥) → takes (sweep (member set) code n) s t → takes (sweep (member set) code (n + 1)) s t
  sweep_past s t e p =
      rw (sweep_step (member set) code n ∙ ap (λ b. sweep (member set) code n ++ cond b (at_unit code n) []) (ne_eqb (has set n) 1 e) ∙ append-nil _) p

  -- A sweep that finds too little room has too little for the whole of it.
  pub sweep_no_room : (s t : S) → n < 62 → has set n ≡ 1 → takes (sweep (member set) code n) s t → room t < length (at_unit code n) →
      room s < length (sweep (member set) code 62)
  sweep_no_room s t h e p q =
      let k = laws.counted p in
      let g = ap length (sweep_with e) ∙ length-append (sweep (member set) code n) (at_unit code n) in
      let l = sweep_longer (member set) code (n + 1) (62 - (n + 1)) in
      let i : n + 1 + (62 - (n + 1)) ≡ 62 = omega arith in
      let f = ap (λ i. length (sweep (member set) code i)) i in
      omega arith

-- Of two bits, that one is set and the other is not, told by one bit.
both : (a b : ℕ) → a < 2 → b < 2 → eqb (min a (1 - b)) 1 ≡ (eqb a 1 && eqb b 0)
both zero zero h k = refl
both zero (suc zero) h k = refl
both (suc zero) zero h k = refl
both (suc zero) (suc zero) h k = refl
both (suc (suc a)) b h k = absurd (omega arith)
both a (suc (suc b)) h k = absurd (omega arith)

-- The units of one set that are not in another.
has_not : (w l u : ℕ) → l < 2 ^ 64 → u < 64 → eqb (has (bit_and w (bit_not w64 l)) u) 1 ≡ (eqb (has w u) 1 && eqb (has l u) 0)
unfolding has
has_not w l u h k =
    ap (λ b. eqb b 1) (bit_at_and w (bit_not w64 l) u ∙ ap (min (bit_at w u)) (bit_at_not w64 l u h k))
    ∙ both (bit_at w u) (bit_at l u) (bit_at-lt w u) (bit_at-lt l u)

pub sweep_to_lock : (locks w code : ℕ) → locks < 2 ^ 64 → sweep (member (bit_and w (bit_not w64 locks))) code 62 ≡ sweep (to_lock locks w) code 62
sweep_to_lock locks w code h = sweep_same (member (bit_and w (bit_not w64 locks))) (to_lock locks w) code 62 (λ u k. has_not w locks u h (omega arith))

and_swap : (a b : Bool) → (a && b) ≡ (b && a)
and_swap true true = refl
and_swap true false = refl
and_swap false true = refl
and_swap false false = refl

pub sweep_to_unlock : (locks w code : ℕ) → w < 2 ^ 64 → sweep (member (bit_and locks (bit_not w64 w))) code 62 ≡ sweep (to_unlock locks w) code 62
sweep_to_unlock locks w code h =
    sweep_same (member (bit_and locks (bit_not w64 w))) (to_unlock locks w) code 62
    (λ u k. has_not locks w u h (omega arith) ∙ and_swap (eqb (has locks u) 1) (eqb (has w u) 0))
