-- How long an answer can be.
use Rattle.std.proofs.Common.{◌≡◌, ℕ, zero, suc, ◌^◌, ◌<◌, ◌≤◌, [], ◌∷◌, ◌++◌, length, codes, decimal, refl, ap, arith, length-append}
use Rattle.output.specs.Hex.{hex}
use Rattle.sheet.specs.Answers.{seen_text, no_text}
use Rattle.std.proofs.lemmas.Fmt.{length-decimal-le}

hex_length : (width n : ℕ) → length (hex width n) ≡ width
unfolding hex
hex_length zero n = refl
hex_length (suc width) n = ap suc (hex_length width n)

pub seen_short : (set : ℕ) → length (seen_text set) ≤ 28
seen_short set =
    let a = length-append (codes "seen ") (hex 16 set ++ (10 ∷ [])) in
    let b = length-append (hex 16 set) (10 ∷ []) in
    let h = hex_length 16 set in
    omega arith

pub no_short : (number place : ℕ) → number < 256 → place < 2 ^ 64 → length (no_text number place) ≤ 28
no_short number place f g =
    let last = decimal place ++ (10 ∷ []) in
    let a = length-append (codes "no ") (decimal number ++ ((32 ∷ []) ++ last)) in
    let b = length-append (decimal number) ((32 ∷ []) ++ last) in
    let d = length-append (32 ∷ []) last in
    let e = length-append (decimal place) (10 ∷ []) in
    let small = length-decimal-le 3 number (omega arith) (omega arith) (omega arith) in
    let large = length-decimal-le 20 place (omega arith) (omega arith) g in
    omega arith
