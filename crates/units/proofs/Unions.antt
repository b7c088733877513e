-- What ranges touch together.
-- Assumes nothing.
use Rattle.std.proofs.Common.{◌≡◌, ℕ, ◌+◌, ◌^◌, ◌<◌, Bool, true, false, cond, not, ◌⊎◌, List, [], ◌∷◌, Some, None, Ok, fold, Option, sym, refl, ap, ◌∙◌, inl, inr, ⊎_elim, arith}
use Rattle.std.specs.List.{position_from, AllByRecursion as All}
use Rattle.std.proofs.lemmas.Nat.{or_lt, pow_pos}
use Rattle.std.proofs.lemmas.Iterator.Adapters.{position_from-zero}
use Rattle.std.proofs.lemmas.Option.{none-some}
use Rattle.units.specs.Units.{has, unit_at}
use Rattle.units.specs.Ranges.{Among, Holds, United, aligned, first_failing, inside, plus, touching, union, unless}
use Rattle.units.specs.declared.ranges.Range.{Range}
use Rattle.units.specs.declared.ranges.RangeFault.{RangeFault}
use Rattle.units.proofs.Bits.{has_bit, has_either, has_none, has_or}
use Rattle.units.proofs.Touch.{aligned_holds, touching_right}

pub none_told : {X : Type 0} (b : Bool) (x : X) → None ≡ cond b (Some x) None → b ≡ false
none_told true x e = absurd (none-some x e)
none_told false x e = refl

passing : (b : Bool) (i : ℕ) (o : Option ℕ) → cond (not b) (Some i) o ≡ None → (b ≡ true) × (o ≡ None)
passing true i o e = (refl, e)
passing false i o e = absurd (none-some i (sym e))

all_pass : (test : Range → Bool) (i : ℕ) (rs : List Range) → position_from (λ r. not (test r)) i rs ≡ None → All (λ r. test r ≡ true) rs
all_pass test i [] e = tt
all_pass test i (r ∷ rs) e =
    let p = passing (test r) i (position_from (λ x. not (test x)) (i + 1) rs) e in
    (p.0, all_pass test (i + 1) rs p.1)

-- Where no range fails a test, each passes it.
each_passes : (test : Range → Bool) (rs : List Range) → first_failing test rs ≡ None → All (λ r. test r ≡ true) rs
each_passes test rs e = all_pass test 0 rs (sym (position_from-zero (λ r. not (test r)) rs) ∙ e)

-- A union has what was in the set before,
kept : (rs : List Range) (m u : ℕ) → has m u ≡ 1 → has (fold plus m rs) u ≡ 1
kept [] m u h = h
kept (r ∷ rs) m u h = kept rs (plus m r) u (omega (arith, has_or m (touching r) u, has_bit (touching r) u))

-- has the unit of each byte of the ranges,
marked : (rs : List Range) (m b : ℕ) → All (λ r. inside r ≡ true) rs → Among rs (λ r. Holds r b) → has (fold plus m rs) (unit_at b) ≡ 1
marked [] m b i w = absurd w
marked (r ∷ rs) m b i (inl h) =
    kept rs (plus m r) (unit_at b)
    (omega (arith, has_or m (touching r) (unit_at b), has_bit m (unit_at b), (touching_right r i.0).each_byte b h))
marked (r ∷ rs) m b i (inr w) = marked rs (plus m r) b i.1 w

-- has only units that lie in one range,
only : (rs : List Range) (m u : ℕ) → All (λ r. inside r ≡ true) rs → All (λ r. aligned r ≡ true) rs →
    has (fold plus m rs) u ≡ 1 → (has m u ≡ 1) ⊎ Among rs (λ r. (b : ℕ) → unit_at b ≡ u → Holds r b)
only [] m u i a h = inl h
only (r ∷ rs) m u i a h =
    ⊎_elim
    (λ (e : has (plus m r) u ≡ 1).
    ⊎_elim
    (λ f. inl f)
    (λ f. inr (inl (λ b at. aligned_holds r i.0 a.0 b (ap (has (touching r)) at ∙ f))))
    (has_either m (touching r) u e))
    (λ w. inr (inr w))
    (only rs (plus m r) u i.1 a.1 h)

-- and no unit beyond the last.
bounded : (rs : List Range) (m : ℕ) → All (λ r. inside r ≡ true) rs → m < 2 ^ 62 → fold plus m rs < 2 ^ 62
bounded [] m i h = h
bounded (r ∷ rs) m i h = bounded rs (plus m r) i.1 (or_lt 62 m (touching r) h (touching_right r i.0).small)

pub union_right : (rs : List Range) → first_failing inside rs ≡ None → first_failing aligned rs ≡ None → United rs (union rs)
union_right rs p q =
    let i = each_passes inside rs p in
    let a = each_passes aligned rs q in
    record {
      small = bounded rs 0 i (pow_pos 62);
      each_byte = λ b w. marked rs 0 b i w;
      each_unit = λ u h. ⊎_elim (λ (e : has 0 u ≡ 1). let z : ⊥ = omega (arith, has_none u) in absurd z) (λ w. w) (only rs 0 u i a h);
    }

-- A set that stands under a fault's place says that there is none.
pub ok_told : (o : Option ℕ) (fault : ℕ → RangeFault) (x y : ℕ) → Ok y ≡ unless o fault (Ok x) → (o ≡ None) × (y ≡ x)
ok_told (Some at) fault x y e = let z : ◌≡◌ {A = ℕ} 0 1 = cc in let n : ⊥ = omega arith in absurd n
ok_told None fault x y e = (refl, cc)
