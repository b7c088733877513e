-- The smallest code that gives a set is the one below which none does.
use Rattle.std.proofs.Common.{◌≡◌, ℕ, zero, suc, ◌<◌, ◌≤◌, min, Bool, true, false, cond, eqb, ◌⊎◌, IfSome, Some, None, Option, sym, refl, ap, ◌∙◌, inl, inr, arith, MatchOption}
use Rattle.std.proofs.lemmas.Bool.{eq-eqb, ne_eqb, cases_lt}
use Rattle.units.specs.Codes.{set_of}
use Rattle.chip.specs.declared.model.Part.{Part}
use Rattle.chip.specs.declared.model.Part.TheVariants.{Jw, Xa, Other}
use Rattle.plan.specs.Plan.{smallest, or_else, codes_of}

none_is : (n w : ℕ) → ((k : ℕ) → k < n → set_of k ≡ w → ⊥) → smallest n w ≡ None
unfolding smallest
none_is zero w none = refl
none_is (suc n) w none =
    ap (λ o. or_else o (cond (eqb (set_of n) w) (Some n) None)) (none_is n w (λ k h. none k (omega arith)))
    ∙ ap (λ b. cond b (Some n) None) (ne_eqb (set_of n) w (none n (omega arith)))

least_by : (n w c : ℕ) → c < suc n → set_of c ≡ w → ((k : ℕ) → k < c → set_of k ≡ w → ⊥) → (c < n → smallest n w ≡ Some c) →
    (c < n) ⊎ (n ≤ c) → or_else (smallest n w) (cond (eqb (set_of n) w) (Some n) None) ≡ Some c
least_by n w c h e none below (inl l) = ap (λ o. or_else o (cond (eqb (set_of n) w) (Some n) None)) (below l)
least_by n w c h e none below (inr l) =
    let same : n ≡ c = omega arith in
    ap (λ o. or_else o (cond (eqb (set_of n) w) (Some n) None)) (none_is n w (λ k i. none k (omega arith)))
    ∙ ap (λ b. cond b (Some n) None) (eq-eqb (set_of n) w (ap set_of same ∙ e))
    ∙ ap Some same

least_is : (n w c : ℕ) → c < n → set_of c ≡ w → ((k : ℕ) → k < c → set_of k ≡ w → ⊥) → smallest n w ≡ Some c
unfolding smallest
least_is zero w c h e none = let z : ⊥ = omega arith in elim z [ ]
least_is (suc n) w c h e none = least_by n w c h e none (λ l. least_is n w c l e none) (cases_lt c n)

codes_few : (p : Part) → codes_of p ≤ 64
codes_few Jw = omega arith
codes_few Xa = omega arith
codes_few (Other n) = omega arith

-- What a search over the codes of a part has found.
pub found : (p : Part) (n w : ℕ) (r : Option ℕ) → n ≡ codes_of p →
    MatchOption r ((k : ℕ) → k < min n 64 → set_of k ≡ w → ⊥) (λ c. (c < min n 64) × (set_of c ≡ w) × ((k : ℕ) → k < c → set_of k ≡ w → ⊥)) →
    r ≡ smallest (codes_of p) w
found p n w None e h = let f = codes_few p in sym (none_is (codes_of p) w (λ k l. h k (omega arith)))
found p n w (Some c) e h = let f = codes_few p in let l = h.0 in sym (least_is (codes_of p) w c (omega arith) h.1 h.2)

-- It is below the codes that were looked at.
below_by : (n : ℕ) (o : Option ℕ) (b : Bool) → IfSome o (λ c. c < n) → IfSome (or_else o (cond b (Some n) None)) (λ c. c < suc n)
below_by n (Some c) b h = omega arith
below_by n None true h = omega arith
below_by n None false h = tt

smallest_below : (n w : ℕ) → IfSome (smallest n w) (λ c. c < n)
unfolding smallest
smallest_below zero w = tt
smallest_below (suc n) w = below_by n (smallest n w) (eqb (set_of n) w) (smallest_below n w)

six_bits_by : (n : ℕ) (o : Option ℕ) → n ≤ 64 → IfSome o (λ c. c < n) → IfSome o (λ c. c < 64)
six_bits_by n (Some c) f h = omega arith
six_bits_by n None f h = tt

-- Each code of a part has six bits at most.
pub six_bits : (p : Part) (w : ℕ) → IfSome (smallest (codes_of p) w) (λ c. c < 64)
six_bits p w = six_bits_by (codes_of p) (smallest (codes_of p) w) (codes_few p) (smallest_below (codes_of p) w)
