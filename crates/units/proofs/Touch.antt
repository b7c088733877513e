-- What one range touches.
-- Assumes nothing.
use Rattle.std.proofs.Common.{◌≡◌, ℕ, ◌+◌, ◌-◌, ◌*◌, ◌%◌, ◌^◌, ◌<◌, ◌≤◌, true, eqb, ⊎_elim, add-one, arith, pow_mono}
use Rattle.std.proofs.lemmas.Nat.{pow_pos, shl_whole, one_shl}
use Rattle.std.proofs.lemmas.Bool.{and_parts, cases_lt, eqb-true}
use Rattle.std.proofs.lemmas.Bool.Decides.{nat_tests}
use Rattle.units.specs.Units.{array_size, first_of, unit_at, has}
use Rattle.units.specs.Ranges.{Holds, Touched, aligned, inside, touching}
use Rattle.units.specs.declared.ranges.Range.{Range}
use Rattle.units.proofs.Addresses.{first_mono, unit_begins, unit_ends, unit_first, unit_mono, unit_small}
use Rattle.units.proofs.Bits.{has_run, has_run_only}

pub inside_parts : (r : Range) → inside r ≡ true → (r.first ≤ r.last) × (r.last < array_size)
inside_parts r h = (grind (arith, nat_tests), grind (arith, nat_tests))

-- The run as the program shifts it together, without loss.
module _ (r : Range) (low high : ℕ) (l : low ≡ unit_at r.first) (h : high ≡ unit_at r.last) (i : inside r ≡ true) where
  order : (low ≤ high) × (high < 62)
  order =
      let p = inside_parts r i in
      (omega (arith, unit_mono r.first r.last p.0), omega (arith, unit_small r.last p.1))

  pub shifted_order : (1 * 2 ^ low) % 2 ^ 64 ≤ (2 * 2 ^ high) % 2 ^ 64
  shifted_order =
      let o = order in
      rw (shl_whole 2 2 high 64 (omega arith) (omega arith), one_shl low 64 (omega arith)) (omega (arith, pow_mono o.0))

  pub shifted : (2 * 2 ^ high) % 2 ^ 64 - (1 * 2 ^ low) % 2 ^ 64 ≡ touching r
  unfolding touching
  shifted =
      let o = order in
      rw (shl_whole 2 2 high 64 (omega arith) (omega arith), one_shl low 64 (omega arith), ← l, ← h, add-one high) (omega arith)

-- A byte of the range in each unit of its run: the range's first byte, or else the unit's.
byte_of : (r : Range) (u : ℕ) → r.first ≤ r.last → r.last < array_size → unit_at r.first ≤ u → u ≤ unit_at r.last →
    (b : ℕ) × Holds r b × (unit_at b ≡ u)
byte_of r u o e low high =
    ⊎_elim
    (λ (l : unit_at r.first < u).
    let small : u < 62 = omega (arith, unit_small r.last e) in
    let above : r.first ≤ first_of u = omega (arith, unit_ends r.first, first_mono (unit_at r.first + 1) u (omega arith)) in
    let under : first_of u ≤ r.last = omega (arith, first_mono u (unit_at r.last) high, unit_begins r.last) in
    (first_of u, (above, under), unit_first u small))
    (λ (l : u ≤ unit_at r.first). (r.first, (omega arith, o), omega arith))
    (cases_lt (unit_at r.first) u)

pub touching_right : (r : Range) → inside r ≡ true → Touched r (touching r)
unfolding touching
touching_right r h =
    let p = inside_parts r h in
    let low = unit_at r.first in
    let high = unit_at r.last in
    let top : high + 1 ≤ 62 = omega (arith, unit_small r.last p.1) in
    record {
      small = omega (arith, pow_pos low, pow_mono top);
      each_byte = λ b q. has_run low (high + 1) (unit_at b) (unit_mono r.first b q.0) (omega (arith, unit_mono b r.last q.1));
      each_unit = λ u e. let w = has_run_only low (high + 1) u e in byte_of r u p.0 p.1 w.0 (omega arith);
    }

-- In a range that cuts no unit lie all the bytes of the units that it touches.
pub aligned_holds : (r : Range) → inside r ≡ true → aligned r ≡ true → (b : ℕ) → has (touching r) (unit_at b) ≡ 1 → Holds r b
unfolding touching
aligned_holds r h a b e =
    let p = inside_parts r h in
    let low = unit_at r.first in
    let high = unit_at r.last in
    let w = has_run_only low (high + 1) (unit_at b) e in
    let q = and_parts (eqb r.first (first_of low)) (eqb (r.last + 1) (first_of (high + 1))) a in
    let begins : r.first ≡ first_of low = eqb-true r.first (first_of low) q.0 in
    let ends : r.last + 1 ≡ first_of (high + 1) = eqb-true (r.last + 1) (first_of (high + 1)) q.1 in (
      omega (arith, first_mono low (unit_at b) w.0, unit_begins b),
      omega (arith, first_mono (unit_at b + 1) (high + 1) (omega arith), unit_ends b),
    )
