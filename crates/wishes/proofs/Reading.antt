-- Ranges, one field after another.
use Rattle.std.proofs.Common.{◌≡◌, ℕ, suc, ◌+◌, List, [], ◌∷◌, length, Ok, Err, Result, sym, refl, ap, ◌∙◌, arith}
use Rattle.places.specs.Laid.{laid}
use Rattle.places.specs.Pushed.{Added}
use Rattle.places.proofs.Lay.{laid_none, laid_past, laid_laid, length_laid}
use Rattle.refusals.specs.declared.SheetFault.{SheetFault}
use Rattle.text.specs.Fields.{FieldText, after}
use Rattle.units.specs.declared.ranges.Range.{Range}
use Rattle.wishes.specs.Wishes.{range_in, ranges_in, if_read, readable}

-- One field more, by what is read of it.
checked_on : (r : Range) (x : Result (List Range) SheetFault) →
    after (after x (λ rs. Ok (r ∷ rs))) (λ _. Ok (tt {0})) ≡ after x (λ _. Ok (tt {0}))
checked_on r (Ok rs) = refl
checked_on r (Err e) = refl

pub checked_more : (f : FieldText) (us fs : List FieldText) (r : Range) → us ≡ f ∷ fs → Ok r ≡ range_in f →
    after (ranges_in us) (λ _. Ok (tt {0})) ≡ after (ranges_in fs) (λ _. Ok (tt {0}))
unfolding ranges_in
checked_more f us fs r e p =
    rw (e, ← p) (checked_on r (ranges_in fs))

pub checked_stop : (f : FieldText) (us fs : List FieldText) (e : SheetFault) → us ≡ f ∷ fs → Err e ≡ range_in f →
    after (ranges_in us) (λ _. Ok (tt {0})) ≡ Err e
unfolding ranges_in
checked_stop f us fs e p q = rw (p, ← q) refl

pub checked_none : (us : List FieldText) → us ≡ [] → after (ranges_in us) (λ _. Ok (tt {0})) ≡ Ok tt
unfolding ranges_in
checked_none us p = rw p refl

pub readable_more : (f : FieldText) (us fs : List FieldText) (r : Range) → us ≡ f ∷ fs → Ok r ≡ range_in f → readable us ≡ r ∷ readable fs
unfolding readable
readable_more f us fs r e p = rw (e, ← p) refl

pub readable_stop : (f : FieldText) (us fs : List FieldText) (x : SheetFault) → us ≡ f ∷ fs → Err x ≡ range_in f → readable us ≡ []
unfolding readable
readable_stop f us fs x e p = rw (e, ← p) refl

pub readable_none : (us : List FieldText) → us ≡ [] → readable us ≡ []
unfolding readable
readable_none us e = ap readable e

-- Where every field is a range, all are readable, and there are as many ranges as fields.
pub record Whole (fs : List FieldText) (x : Result (List Range) SheetFault) (rs : List Range) : Type 0 where
  pub reads : x ≡ Ok rs
  pub count : length rs ≡ length fs

whole_more : (f : FieldText) (fs : List FieldText) (x : Result Range SheetFault) (y : Result (List Range) SheetFault) →
    (after y (λ _. Ok (tt {0})) ≡ Ok tt → Whole fs y (readable fs)) → after (after x (λ r. after y (λ rs. Ok (r ∷ rs)))) (λ _. Ok (tt {0})) ≡ Ok tt →
    Whole (f ∷ fs) (after x (λ r. after y (λ rs. Ok (r ∷ rs)))) (if_read x (readable fs))
whole_more f fs (Err e) y later q = absurd cc
whole_more f fs (Ok r) y later q =
    let w = later (sym (checked_on r y) ∙ q) in
    record { reads = rw w.reads refl; count = ap suc w.count }

pub whole : (fs : List FieldText) → after (ranges_in fs) (λ _. Ok (tt {0})) ≡ Ok tt → Whole fs (ranges_in fs) (readable fs)
unfolding ranges_in readable
whole [] q = record { reads = refl; count = refl }
whole (f ∷ fs) q = whole_more f fs (range_in f) (ranges_in fs) (whole fs) q

-- Laying `new` after what is laid comes to laying `old` before: what it ends with, and where.
pub record Still (slots slots' : List Range) (len len' : ℕ) (old new : List Range) : Type 0 where
  pub lies : laid slots' len' new ≡ laid slots len old
  pub long : len' + length new ≡ len + length old
  pub size : length slots' ≡ length slots

pub laid_on : {slots slots' : List Range} {len len' : ℕ} (r : Range) (old new : List Range) → old ≡ r ∷ new →
    Added (r ∷ []) slots len slots' len' → Still slots slots' len len' old new
laid_on {slots} {slots'} {len} {len'} r old new e a =
    let k = ap length e in
    record {
      lies =
          ap (λ x. laid x len' new) a.all ∙ ap (λ n. laid (laid slots len (r ∷ [])) n new) a.long ∙ laid_laid slots len (r ∷ []) new
          ∙ ap (laid slots len) (sym e);
      long = omega (arith, a.long, k);
      size = ap length a.all ∙ length_laid slots len (r ∷ []);
    }

-- Nothing is left to lay, or there is no place left.
pub record Out (slots : List Range) (len : ℕ) (old : List Range) : Type 0 where
  pub lies : slots ≡ laid slots len old
  pub long : len + length old ≡ len

pub laid_out : (slots : List Range) (len : ℕ) (old : List Range) → old ≡ [] → Out slots len old
laid_out slots len old e = let k = ap length e in record { lies = sym (ap (laid slots len) e ∙ laid_none slots len); long = omega (arith, k) }

pub laid_full : (slots : List Range) (len : ℕ) (old : List Range) → len ≡ length slots → slots ≡ laid slots len old
laid_full slots len old e = sym (laid_past slots len old (omega (arith, e)))
