-- The fields of a text are its first field and those past the tab.
use Rattle.std.proofs.Common.{◌≡◌, ℕ, suc, ◌+◌, ◌<◌, ◌≤◌, Bool, true, false, cond, not, eqb, List, [], ◌∷◌, length, take, drop, Some, None, Err, Option, nat_lt, refl, ap, ◌∙◌, arith, rules, length-drop}
use Rattle.std.specs.List.{prefix_len}
use Rattle.std.specs.Option.{is_some}
use Rattle.std.specs.Prelude.{IfSome}
use Rattle.refusals.specs.declared.SheetFault.TheVariants.{Count}
use Rattle.std.proofs.lemmas.List.{drop-drop}
use Rattle.text.specs.Fields.{FieldText, parts, begun, ended_among, fields_from}
use Rattle.text.specs.Scan.{other}

abbrev pub width_by : Bool → List ℕ → ℕ
width_by t bs = cond (not t) (1 + prefix_len (other 9) bs) 0

-- The first field of a text from the place `at` on has n bytes.
abbrev pub first_of : ℕ → ℕ → List ℕ → FieldText
first_of n at xs = record { text = take n xs; at = at }

more_by : (t : Bool) (at b : ℕ) (bs : List ℕ)
    → (prefix_len (other 9) bs < length bs → parts (at + 1) bs ≡ first_of (prefix_len (other 9) bs) (at + 1) bs ∷ parts ((at + 1) + prefix_len (other 9) bs + 1) (drop (prefix_len (other 9) bs + 1) bs))
    → width_by t bs < length (b ∷ bs)
    → cond t (record { text = []; at = at } ∷ parts (at + 1) bs) (begun b at (parts (at + 1) bs))
    ≡ first_of (width_by t bs) at (b ∷ bs) ∷ parts (at + width_by t bs + 1) (drop (width_by t bs + 1) (b ∷ bs))
more_by true at b bs later h =
    let e : at + 1 ≡ at + 0 + 1 = omega arith in
    ap (λ k. first_of 0 at (b ∷ bs) ∷ parts k bs) e
more_by false at b bs later h =
    let n = prefix_len (other 9) bs in
    let e : suc n ≡ 1 + n = omega arith in
    let d : suc (n + 1) ≡ 1 + n + 1 = omega arith in
    let a : (at + 1) + n + 1 ≡ at + (1 + n) + 1 = omega arith in
    let some : n < length bs = omega arith in
    ap (begun b at) (later some)
    ∙ ap (λ k. first_of (suc n) at (b ∷ bs) ∷ parts k (drop (suc (n + 1)) (b ∷ bs))) a
    ∙ ap (λ k. first_of k at (b ∷ bs) ∷ parts (at + (1 + n) + 1) (drop (suc (n + 1)) (b ∷ bs))) e
    ∙ ap (λ k. first_of (1 + n) at (b ∷ bs) ∷ parts (at + (1 + n) + 1) (drop k (b ∷ bs))) d

pub parts_more : (at : ℕ) (xs : List ℕ) → prefix_len (other 9) xs < length xs
    → parts at xs ≡ first_of (prefix_len (other 9) xs) at xs ∷ parts (at + prefix_len (other 9) xs + 1) (drop (prefix_len (other 9) xs + 1) xs)
unfolding parts
parts_more at [] h = let z : ⊥ = omega arith in elim z [ ]
parts_more at (b ∷ bs) h = more_by (eqb b 9) at b bs (parts_more (at + 1) bs) h

last_by : (t : Bool) (at b : ℕ) (bs : List ℕ)
    → (length bs ≤ prefix_len (other 9) bs → parts (at + 1) bs ≡ first_of (prefix_len (other 9) bs) (at + 1) bs ∷ [])
    → length (b ∷ bs) ≤ width_by t bs
    → cond t (record { text = []; at = at } ∷ parts (at + 1) bs) (begun b at (parts (at + 1) bs))
    ≡ first_of (width_by t bs) at (b ∷ bs) ∷ []
last_by true at b bs later h = let z : ⊥ = omega arith in elim z [ ]
last_by false at b bs later h =
    let n = prefix_len (other 9) bs in
    let e : suc n ≡ 1 + n = omega arith in
    let none : length bs ≤ n = omega arith in
    ap (begun b at) (later none) ∙ ap (λ k. first_of k at (b ∷ bs) ∷ []) e

pub parts_last : (at : ℕ) (xs : List ℕ) → length xs ≤ prefix_len (other 9) xs → parts at xs ≡ first_of (prefix_len (other 9) xs) at xs ∷ []
unfolding parts
parts_last at [] h = refl
parts_last at (b ∷ bs) h = last_by (eqb b 9) at b bs (parts_last (at + 1) bs) h

-- A text has a first field.
begun_some : (b at size : ℕ) (fs : List FieldText) → ended_among (begun b at fs) size ≡ Err (Count size)
begun_some b at size [] = refl
begun_some b at size (f ∷ fs) = refl

some_by : (t : Bool) (at b size : ℕ) (fs : List FieldText)
    → ended_among (cond t (record { text = []; at = at } ∷ fs) (begun b at fs)) size ≡ Err (Count size)
some_by true at b size fs = refl
some_by false at b size fs = begun_some b at size fs

pub parts_some : (at size : ℕ) (xs : List ℕ) → ended_among (parts at xs) size ≡ Err (Count size)
unfolding parts
parts_some at size [] = refl
parts_some at size (b ∷ bs) = some_by (eqb b 9) at b size (parts (at + 1) bs)

-- Each field but the first takes at least one byte.
few_begun : (b at : ℕ) (fs : List FieldText) (n : ℕ) → length fs ≤ n + 1 → length (begun b at fs) ≤ n + 1
few_begun b at [] n h = omega arith
few_begun b at (f ∷ fs) n h = omega arith

few_by : (t : Bool) (at b : ℕ) (fs : List FieldText) (n : ℕ) → length fs ≤ n + 1
    → length (cond t (record { text = []; at = at } ∷ fs) (begun b at fs)) ≤ suc n + 1
few_by true at b fs n h = omega arith
few_by false at b fs n h = omega (arith, few_begun b at fs n h)

pub parts_few : (at : ℕ) (xs : List ℕ) → length (parts at xs) ≤ length xs + 1
unfolding parts
parts_few at [] = omega arith
parts_few at (b ∷ bs) = few_by (eqb b 9) at b (parts (at + 1) bs) (length bs) (parts_few (at + 1) bs)

pub fields_few : (at : Option ℕ) (line : List ℕ) → length (fields_from at line) ≤ length line + 1
fields_few None line = omega arith
fields_few (Some at) line = omega (arith, parts_few at (drop at line), length-drop at line)

-- The same from a place in a line on, at a width that was counted, with the place where the next field starts.
module _ (line rest : List ℕ) (at n : ℕ) (r : rest ≡ drop at line) (e : n ≡ prefix_len (other 9) rest) where
  pub cut_field : (next : Option ℕ) → is_some next ≡ nat_lt n (length rest) → IfSome next (λ k. k ≡ at + n + 1)
      → parts at (drop at line) ≡ first_of n at rest ∷ fields_from next line
  cut_field (Some k) s i =
      let within : n < length rest = search rules in
      let some : prefix_len (other 9) rest < length rest = omega arith in
      let m = parts_more at rest some in
      let d = drop-drop (n + 1) at line in
      let a : at + (n + 1) ≡ at + n + 1 = omega arith in
      cc
  cut_field None s i =
      let beyond : length rest ≤ n = search rules in
      let none : length rest ≤ prefix_len (other 9) rest = omega arith in
      let m = parts_last at rest none in
      cc
