-- The questions of a look, put together.
use Rattle.std.proofs.Common.{rules, ◌≡◌, ℕ, ◌-◌, ◌<◌, ◌≤◌, true, cond, eqb, sym, refl, ap, ◌∙◌, arith, eq-eqb}
use lib.Bits.{bit_and}
use Rattle.chip.specs.Effect.{bits2, bits3}
use Rattle.chip.specs.Step.{asked, charged, Sound}
use Rattle.chip.proofs.Ands.{inside}
use Rattle.chip.specs.declared.model.Part.{Part}
use Rattle.chip.specs.declared.model.Part.TheVariants.{Jw, Xa, Other}
use Rattle.chip.specs.declared.model.State.{State}
use Rattle.chip.specs.declared.model.Question.TheVariants.{Status2, Status3}
use Rattle.session.specs.Asked.{spent}
use Rattle.session.specs.Seen.{rest_of}
use Rattle.session.specs.declared.rest.Rest.{Rest}
use Rattle.session.proofs.Spends.{counting_same}

two_bytes : (p : Part) → bit_and (bits2 p) 255 ≡ bits2 p
two_bytes Jw = refl
two_bytes Xa = refl
two_bytes (Other n) = refl

three_bytes : (p : Part) → bit_and (bits3 p) 255 ≡ bits3 p
three_bytes Jw = refl
three_bytes Xa = refl
three_bytes (Other n) = refl

cut : (x m : ℕ) → bit_and x m ≡ x → bit_and m 255 ≡ m → bit_and x 255 ≡ x
cut x m e f = ap (λ z. bit_and z 255) (sym e) ∙ inside x m 255 f ∙ e

-- SR2, SR3 and the lock bits, asked one after the other.
pub rest_found : (s s1 s2 t : State) (v w l : ℕ) → Sound s → s.busy ≡ 0 →
    (0 < s.carry) × ((v ≡ asked Status2 s) × (s1 ≡ charged s)) →
    (0 < s1.carry) × ((w ≡ asked Status3 s1) × (s2 ≡ charged s1)) →
    (62 ≤ s2.carry) × ((l ≡ s2.face.locks) × (t ≡ spent 62 s2)) →
    (64 ≤ s.carry) × ((◌≡◌ {A = Rest} (record { sr2 = bit_and v 255; sr3 = bit_and w 255; locks = l }) (rest_of s)) × (t ≡ spent 64 s))
rest_found s s1 s2 t v w l h z a b d =
    let e1 = a.1.1 in
    let e2 : s2 ≡ charged (charged s) = b.1.1 ∙ ap charged e1 in
    let idle : eqb s.busy 0 ≡ true = eq-eqb s.busy 0 z in
    let sr2 : v ≡ s.face.working.sr2 = a.1.0 ∙ ap (λ b. cond b s.face.working.sr2 255) idle in
    let sr3 : w ≡ s.face.working.sr3 = b.1.0 ∙ ap (asked Status3) e1 ∙ ap (λ b. cond b s.face.working.sr3 255) idle in
    let locks : l ≡ s.face.locks = d.1.0 ∙ ap (λ x. x.face.locks) e2 in
    let left : s2.carry ≡ s.carry - 1 - 1 = ap (λ x. x.carry) e2 in
    let cut2 = ap (λ x. bit_and x 255) sr2 ∙ cut s.face.working.sr2 (bits2 s.face.part) h.face.0.1.0 (two_bytes s.face.part) in
    let cut3 = ap (λ x. bit_and x 255) sr3 ∙ cut s.face.working.sr3 (bits3 s.face.part) h.face.0.1.1 (three_bytes s.face.part) in (
      omega (arith, d.0, a.0),
      (
        search rules,
        d.1.1 ∙ ap (spent 62) e2 ∙ counting_same _ _ _ _ s (omega arith) (omega arith),
      ),
    )
