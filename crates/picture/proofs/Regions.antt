-- A command is obeyed exactly when no byte of its region lies in a protected unit.
use Rattle.std.proofs.Common.{◌≡◌, ℕ, ◌<◌, Bool, true, false, ◌&&◌, eqb, sym, refl, ap, ◌∙◌, subst, inl, inr, arith, eqb-true}
use borrow.Author.Tests.{eqb-false}
use lib.Bits.{bit_and}
use Rattle.units.specs.Units.{unit_at, has}
use Rattle.units.specs.Ranges.{touching, Touched}
use Rattle.units.specs.declared.ranges.Range.{Range}
use Rattle.units.proofs.Bits.{has_bit, has_both, has_not_both}
use Rattle.chip.specs.declared.model.Face.{Face}
use Rattle.picture.specs.Protection.{region, offers, protected, obeys, Judged}
use Rattle.picture.specs.declared.array.ArrayCommand.{ArrayCommand}

module _ (f : Face) (c : ArrayCommand) (a m : ℕ) (t : Touched (region c a) m) where
  judged_by : offers f.part c ≡ true → (b : Bool) → eqb (bit_and m (protected f)) 0 ≡ b → Judged b f c a
  judged_by o true e = (
    o,
    λ b h.
        let u = unit_at b in
        let not : has (protected f) u ≡ 1 → ⊥ = has_not_both m (protected f) u (eqb-true (bit_and m (protected f)) 0 e) (t.each_byte b h) in
        let small = has_bit (protected f) u in
        omega arith,
  )
  judged_by o false e =
      let some : 0 < bit_and m (protected f) = omega (arith, eqb-false (bit_and m (protected f)) 0 e) in
      let both = has_both 62 m (protected f) t.small some in
      let byte = t.each_unit both.0 both.2 in
      inr (byte.0, byte.1, ap (has (protected f)) byte.2 ∙ both.3)

-- The part has the command: what it touches decides.
pub judged_offered : (f : Face) (c : ArrayCommand) (a : ℕ) (r : Range) (m p : ℕ) → r ≡ region c a → Touched r m → m ≡ touching r →
    p ≡ protected f → offers f.part c ≡ true → (eqb (bit_and m p) 0 ≡ obeys f c a) × Judged (eqb (bit_and m p) 0) f c a
unfolding obeys
judged_offered f c a r m p e t w q o =
    let u = subst (λ x. Touched x m) e t in
    let v = w ∙ ap touching e in (
      ap (λ x. eqb (bit_and x p) 0) v ∙ ap (λ x. eqb (bit_and (touching (region c a)) x) 0) q
          ∙ ap (λ x. x && eqb (bit_and (touching (region c a)) (protected f)) 0) (sym o),
      subst (λ x. Judged (eqb (bit_and m x) 0) f c a) (sym q) (judged_by f c a m u o (eqb (bit_and m (protected f)) 0) refl),
    )

-- The part lacks it.
pub judged_lacking : (f : Face) (c : ArrayCommand) (a : ℕ) (b : Bool) → b ≡ offers f.part c → b ≡ false → (b ≡ obeys f c a) × Judged b f c a
unfolding obeys
judged_lacking f c a b e z =
    let o = sym e ∙ z in (
      z ∙ ap (λ x. x && eqb (bit_and (touching (region c a)) (protected f)) 0) (sym o),
      subst (λ x. Judged x f c a) (sym z) (inl o),
    )
