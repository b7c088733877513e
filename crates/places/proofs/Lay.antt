-- What stands in a list after others are laid over it.
use Rattle.std.proofs.Common.{◌≡◌, ℕ, zero, suc, ◌+◌, ◌≤◌, List, [], ◌∷◌, ◌++◌, length, take, set, sym, refl, ap, ◌∙◌, suc-add, zero-add, arith}
use Rattle.places.specs.Laid.{laid}

pub laid_none : {A : Type 0} (xs : List A) (at : ℕ) → laid xs at [] ≡ xs
unfolding laid
laid_none [] at = refl
laid_none (x ∷ xs) zero = refl
laid_none (x ∷ xs) (suc at) = ap (λ ys. x ∷ ys) (laid_none xs at)

pub length_laid : {A : Type 0} (xs : List A) (at : ℕ) (text : List A) → length (laid xs at text) ≡ length xs
unfolding laid
length_laid [] at text = refl
length_laid (x ∷ xs) zero [] = refl
length_laid (x ∷ xs) zero (b ∷ text) = ap suc (length_laid xs zero text)
length_laid (x ∷ xs) (suc at) text = ap suc (length_laid xs at text)

pub laid_set : {A : Type 0} (xs : List A) (at : ℕ) (b : A) → set xs at b ≡ laid xs at (b ∷ [])
unfolding laid
laid_set [] at b = refl
laid_set (x ∷ xs) zero b = ap (λ ys. b ∷ ys) (sym (laid_none xs zero))
laid_set (x ∷ xs) (suc at) b = ap (λ ys. x ∷ ys) (laid_set xs at b)

pub laid_past : {A : Type 0} (xs : List A) (at : ℕ) (text : List A) → length xs ≤ at → laid xs at text ≡ xs
unfolding laid
laid_past [] at text h = refl
laid_past (x ∷ xs) zero text h = absurd (omega arith)
laid_past (x ∷ xs) (suc at) text h = ap (λ ys. x ∷ ys) (laid_past xs at text (omega arith))

-- A text and then another after it are the two in one.
pub laid_laid : {A : Type 0} (xs : List A) (at : ℕ) (s t : List A) → laid (laid xs at s) (at + length s) t ≡ laid xs at (s ++ t)
unfolding laid
laid_laid [] at s t = refl
laid_laid (x ∷ xs) zero [] t = refl
laid_laid (x ∷ xs) zero (b ∷ s) t = rw (zero-add (suc (length s))) (ap (λ ys. b ∷ ys) (rw (zero-add (length s)) at (laid_laid xs zero s t)))
laid_laid (x ∷ xs) (suc at) s t = rw (suc-add at (length s)) (ap (λ ys. x ∷ ys) (laid_laid xs at s t))

-- Nothing stands of what comes after a text that ends the bytes.
pub laid_cut : {A : Type 0} (xs : List A) (at : ℕ) (s t : List A) → length xs ≤ at + length s → laid xs at (s ++ t) ≡ laid xs at s
laid_cut xs at s t h = sym (laid_laid xs at s t) ∙ laid_past (laid xs at s) (at + length s) t (rw (length_laid xs at s) h)

-- A text as long as the one before it hides that.
pub laid_over : {A : Type 0} (xs s t : List A) → length s ≤ length t → laid (laid xs 0 s) 0 t ≡ laid xs 0 t
unfolding laid
laid_over [] s t h = refl
laid_over (x ∷ xs) [] t h = refl
laid_over (x ∷ xs) (b ∷ s) [] h = absurd (omega arith)
laid_over (x ∷ xs) (b ∷ s) (e ∷ t) h = ap (λ ys. e ∷ ys) (laid_over xs s t (omega arith))

-- From the start on, and what stands before the place goes along.
pub laid_front : {A : Type 0} (xs : List A) (at : ℕ) (text : List A) → at ≤ length xs → laid xs at text ≡ laid xs 0 (take at xs ++ text)
unfolding laid
laid_front [] zero text h = refl
laid_front [] (suc at) text h = refl
laid_front (x ∷ xs) zero text h = refl
laid_front (x ∷ xs) (suc at) text h = ap (λ ys. x ∷ ys) (laid_front xs at text (omega arith))

pub laid_take : {A : Type 0} (xs : List A) (n : ℕ) → laid xs 0 (take n xs) ≡ xs
unfolding laid
laid_take [] n = refl
laid_take (x ∷ xs) zero = refl
laid_take (x ∷ xs) (suc n) = ap (λ ys. x ∷ ys) (laid_take xs n)

-- The front of a text that is laid from the start on.
pub take_laid : {A : Type 0} (xs s t : List A) → length s ≤ length xs → take (length s) (laid xs 0 (s ++ t)) ≡ s
unfolding laid
take_laid xs [] t h = refl
take_laid [] (b ∷ s) t h = absurd (omega arith)
take_laid (x ∷ xs) (b ∷ s) t h = ap (λ ys. b ∷ ys) (take_laid xs s t (omega arith))
