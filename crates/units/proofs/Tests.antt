-- What holds of each number below a bound, by one test that antt computes at all of them.
-- Assumes nothing.
use Rattle.std.proofs.Common.{◌≡◌, ℕ, zero, suc, ◌<◌, Bool, true, false, ◌&&◌, T, eqb, subst, ⊎_elim, arith, eqb→eq}
use Rattle.std.proofs.lemmas.Bool.{cases_lt}

-- The test passes at each number below n.
abbrev pub all : (ℕ → Bool) → ℕ → Bool
all f zero = true
all f (suc n) = f n && all f n

here : (a b : Bool) → T (a && b) → T a
here a b t = elim a as (λ x. T (x && b) → T x) [ true ↦ λ _. tt | false ↦ λ z. z ] t

rest : (a b : Bool) → T (a && b) → T b
rest a b t = elim a as (λ x. T (x && b) → T b) [ true ↦ λ z. z | false ↦ λ z. absurd z ] t

pub each_below : (n : ℕ) (f : ℕ → Bool) → T (all f n) → (k : ℕ) → k < n → T (f k)
each_below zero f t k h = let z : ⊥ = omega arith in absurd z
each_below (suc n) f t k h =
    ⊎_elim
    (λ (l : k < n). each_below n f (rest (f n) (all f n) t) k l)
    (λ l. let e : n ≡ k = omega arith in subst (λ (m : ℕ). T (f m)) e (here (f n) (all f n) t))
    (cases_lt k n)

-- Two functions agree below n; at a use `tt` stands for the test.
pub same_below : (n : ℕ) (f g : ℕ → ℕ) → T (all (λ k. eqb (f k) (g k)) n) → (k : ℕ) → k < n → f k ≡ g k
same_below n f g t k h = eqb→eq (f k) (g k) (each_below n (λ i. eqb (f i) (g i)) t k h)

-- The same for two arguments, below n and below m.
pub same_below2 : (n m : ℕ) (f g : ℕ → ℕ → ℕ) → T (all (λ i. all (λ j. eqb (f i j) (g i j)) m) n) →
    (i j : ℕ) → i < n → j < m → f i j ≡ g i j
same_below2 n m f g t i j h k = same_below m (f i) (g i) (each_below n (λ a. all (λ b. eqb (f a b) (g a b)) m) t i h) j k
