-- Entries after entries.
use Rattle.std.proofs.Common.{◌≡◌, ℕ, ◌+◌, ◌-◌, ◌≤◌, List, [], ◌++◌, length, sym, refl, ap, ◌∙◌, arith, length-append}
use Rattle.places.specs.Laid.{laid}
use Rattle.places.specs.Pushed.{Added, Adds}
use Rattle.places.specs.declared.Places.{Places}
use Rattle.places.proofs.Lay.{laid_none, laid_laid, length_laid}

pub added_none : {A : Type 0} (xs : List A) (n : ℕ) → n ≤ length xs → Added [] xs n xs n
added_none xs n h = record { room = omega arith; all = sym (laid_none xs n); long = omega arith }

pub added_more : {A : Type 0} {s t : List A} {xs ys zs : List A} {m n k : ℕ} → Added s xs m ys n → Added t ys n zs k → Added (s ++ t) xs m zs k
added_more {A} {s} {t} {xs} {ys} {zs} {m} {n} {k} p q =
    let l = length-append s t in
    let y : length ys ≡ length xs = ap length p.all ∙ length_laid xs m s in
    record {
      room = omega (arith, q.room, p.long);
      all = q.all ∙ ap (λ i. laid ys i t) p.long ∙ ap (λ z. laid z (m + length s) t) p.all ∙ laid_laid xs m s t;
      long = omega (arith, q.long, p.long);
    }

-- The same over the list before and after.
pub adds_none : {A : Type 0} (p : Places A) → Adds [] p p
adds_none p = record { added = added_none p.slots.now p.len p.fits; lent = refl }

pub adds_more : {A : Type 0} {s t : List A} {p q r : Places A} → Adds s p q → Adds t q r → Adds (s ++ t) p r
adds_more a b = record { added = added_more a.added b.added; lent = b.lent ∙ a.lent }

-- Each entry takes up one place.
pub adds_room : {A : Type 0} {s : List A} {p q : Places A} → Adds s p q → length q.slots.now - q.len + length s ≡ length p.slots.now - p.len
adds_room {A} {s} {p} {q} a =
    let l = ap length a.added.all ∙ length_laid p.slots.now p.len s in
    omega (arith, a.added.room, a.added.long)
