-- The lines of a text are its first line and those of the rest.
use Rattle.std.proofs.Common.{◌≡◌, ℕ, suc, ◌+◌, ◌<◌, ◌≤◌, Bool, true, false, cond, not, eqb, List, [], ◌∷◌, length, take, drop, refl, ap, arith, length-drop}
use Rattle.std.specs.List.{prefix_len}
use Rattle.text.specs.Lines.{lines, before, first_line, after_line}
use Rattle.text.specs.Scan.{other}

-- By the test at the first byte.
abbrev pub width_by : Bool → List ℕ → ℕ
width_by t bs = cond (not t) (1 + prefix_len (other 10) bs) 0

lines_by : (t : Bool) (b : ℕ) (bs : List ℕ)
    → (0 < length bs → lines bs ≡ first_line bs ∷ lines (after_line bs))
    → cond t ([] ∷ lines bs) (before b (lines bs)) ≡ take (width_by t bs) (b ∷ bs) ∷ lines (drop (width_by t bs + 1) (b ∷ bs))
unfolding lines
lines_by true b bs later = refl
lines_by false b [] later = refl
lines_by false b (c ∷ cs) later =
    let n = prefix_len (other 10) (c ∷ cs) in
    let e : 1 + n ≡ suc n = omega arith in
    let d : 1 + n + 1 ≡ suc (n + 1) = omega arith in
    let some : 0 < length (c ∷ cs) = omega arith in
    rw (d, e) (ap (before b) (later some))

pub lines_more : (text : List ℕ) → 0 < length text → lines text ≡ first_line text ∷ lines (after_line text)
unfolding lines
lines_more [] h = let z : ⊥ = omega arith in elim z [ ]
lines_more (b ∷ bs) h = lines_by (eqb b 10) b bs (lines_more bs)

-- The same of a line and a rest that are known by equations, as after `split_line`.
pub lines_split : (text line rest : List ℕ) → line ≡ first_line text → rest ≡ after_line text → 0 < length text → lines text ≡ line ∷ lines rest
lines_split text line rest l r h = let e = lines_more text h in cc

pub rest_shorter : (text rest : List ℕ) → rest ≡ after_line text → 0 < length text → length rest < length text
rest_shorter text rest r h = omega (arith, ap length r, length-drop (prefix_len (other 10) text + 1) text)

-- Each line takes at least one byte.
few_by : (t : Bool) (b : ℕ) (bs : List ℕ) → length (lines bs) ≤ length bs → length (cond t ([] ∷ lines bs) (before b (lines bs))) ≤ length (b ∷ bs)
unfolding lines
few_by true b bs h = omega arith
few_by false b bs h = few_before b (lines bs) (length bs) h
  where
    few_before : (b : ℕ) (ls : List (List ℕ)) (n : ℕ) → length ls ≤ n → length (before b ls) ≤ suc n
    few_before b [] n h = omega arith
    few_before b (l ∷ ls) n h = omega arith

pub lines_few : (text : List ℕ) → length (lines text) ≤ length text
unfolding lines
lines_few [] = omega arith
lines_few (b ∷ bs) = few_by (eqb b 10) b bs (lines_few bs)

pub lines_none : (text : List ℕ) → length text ≡ 0 → lines text ≡ []
unfolding lines
lines_none [] h = refl
lines_none (b ∷ bs) h = absurd (omega arith)
