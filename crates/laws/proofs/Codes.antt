-- The smallest code of a set is one of its codes, and there is none only where no code gives the set.
use Rattle.std.proofs.Common.{◌≡◌, ℕ, zero, suc, ◌<◌, ◌≤◌, Bool, true, false, cond, eqb, Some, None, Option, refl, subst, ⊎_elim, arith}
use Rattle.std.proofs.lemmas.Bool.{cases_lt, eqb-true, eqb-false}
use Rattle.units.specs.Codes.{set_of}
use Rattle.plan.specs.Plan.{or_else, smallest}

-- What an answer to the search below n owes.
abbrev pub Right : ℕ → ℕ → Option ℕ → Type 0
Right n w (Some c) = (c < n) × (set_of c ≡ w)
Right n w None = (c : ℕ) → c < n → set_of c ≡ w → ⊥

-- One code more, by what came of those below and whether this one gives the set.
one_more : (n w : ℕ) (o : Option ℕ) (b : Bool) → eqb (set_of n) w ≡ b → Right n w o → Right (suc n) w (or_else o (cond b (Some n) None))
one_more n w (Some c) b e h = (omega (arith, h.0), h.1)
one_more n w None true e h = (omega arith, eqb-true (set_of n) w e)
one_more n w None false e h =
    λ c l k.
    ⊎_elim
    (λ (below : c < n). h c below k)
    (λ (top : n ≤ c). let same : c ≡ n = omega arith in eqb-false (set_of n) w e (subst (λ (x : ℕ). set_of x ≡ w) same k))
    (cases_lt c n)

pub smallest_right : (n w : ℕ) → Right n w (smallest n w)
unfolding smallest
smallest_right zero w = λ c l k. omega arith
smallest_right (suc n) w = one_more n w (smallest n w) (eqb (set_of n) w) refl (smallest_right n w)

pub no_code : (n w : ℕ) → smallest n w ≡ None → (c : ℕ) → c < n → set_of c ≡ w → ⊥
no_code n w e = subst (Right n w) e (smallest_right n w)

pub a_code : (n w c : ℕ) → smallest n w ≡ Some c → (c < n) × (set_of c ≡ w)
a_code n w c e = subst (Right n w) e (smallest_right n w)
