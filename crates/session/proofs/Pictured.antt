-- The answers of a look make the chip's own face.
use Rattle.std.proofs.Common.{rules, ◌≡◌, ℕ, ◌+◌, ◌*◌, ◌/◌, ◌%◌, ◌<◌, Bool, false, cond, eqb, sym, refl, ap, ◌∙◌, subst, arith}
use lib.Bits.{bit_and, and_le_r, and_zero_r}
use Rattle.units.proofs.Tests.{same_below2}
use Rattle.chip.specs.Effect.{bits1, Plain}
use Rattle.chip.specs.Step.{wel, Known, Sound}
use Rattle.chip.specs.declared.model.State.{State}
use Rattle.session.specs.Asked.{idle_status}
use Rattle.chip.specs.declared.model.Part.{Part}
use Rattle.chip.specs.declared.model.Part.TheVariants.{Jw, Xa, Other}
use Rattle.chip.specs.declared.model.Arming.{Arming}
use Rattle.chip.specs.declared.model.Arming.TheVariants.{Disarmed, Volatile, Stored}
use Rattle.chip.specs.declared.model.Registers.{Registers}
use Rattle.picture.specs.declared.reading.Reading.{Reading}
use Rattle.session.specs.Look.{shown, read_of}
use Rattle.session.specs.Seen.{seen, rest_of}
use Rattle.session.specs.declared.rest.Rest.{Rest}

small : (a : Arming) → wel a < 2
small Disarmed = omega arith
small Volatile = omega arith
small Stored = omega arith

-- WEL and BUSY are cut from SR1, and WEL is read from it, by trying every value.
jw_cut : (r w : ℕ) → r < 256 → w < 2 → bit_and (bit_and (bit_and r 252 + 2 * w) 252) 252 ≡ bit_and r 252
jw_cut = same_below2 256 2 (λ r w. bit_and (bit_and (bit_and r 252 + 2 * w) 252) 252) (λ r w. bit_and r 252) tt

xa_cut : (r w : ℕ) → r < 256 → w < 2 → bit_and (bit_and (bit_and r 188 + 2 * w) 252) 188 ≡ bit_and r 188
xa_cut = same_below2 256 2 (λ r w. bit_and (bit_and (bit_and r 188 + 2 * w) 252) 188) (λ r w. bit_and r 188) tt

jw_wel : (r w : ℕ) → r < 256 → w < 2 → (bit_and r 252 + 2 * w) / 2 % 2 ≡ w
jw_wel = same_below2 256 2 (λ r w. (bit_and r 252 + 2 * w) / 2 % 2) (λ r w. w) tt

xa_wel : (r w : ℕ) → r < 256 → w < 2 → (bit_and r 188 + 2 * w) / 2 % 2 ≡ w
xa_wel = same_below2 256 2 (λ r w. (bit_and r 188 + 2 * w) / 2 % 2) (λ r w. w) tt

sr1_cut : (p : Part) (r w : ℕ) → Known p → bit_and r (bits1 p) ≡ r → w < 2 → bit_and (bit_and (r + 2 * w) 252) (bits1 p) ≡ r
sr1_cut Jw r w k e h =
    let b : r < 256 = omega (arith, and_le_r r 252) in ap (λ x. bit_and (bit_and (x + 2 * w) 252) 252) (sym e) ∙ jw_cut r w b h ∙ e
sr1_cut Xa r w k e h =
    let b : r < 256 = omega (arith, and_le_r r 188) in ap (λ x. bit_and (bit_and (x + 2 * w) 252) 188) (sym e) ∙ xa_cut r w b h ∙ e
sr1_cut (Other n) r w k e h = elim k [ ]

wel_read : (p : Part) (r w : ℕ) → Known p → bit_and r (bits1 p) ≡ r → w < 2 → (r + 2 * w) / 2 % 2 ≡ w
wel_read Jw r w k e h = let b : r < 256 = omega (arith, and_le_r r 252) in ap (λ x. (x + 2 * w) / 2 % 2) (sym e) ∙ jw_wel r w b h
wel_read Xa r w k e h = let b : r < 256 = omega (arith, and_le_r r 188) in ap (λ x. (x + 2 * w) / 2 % 2) (sym e) ∙ xa_wel r w b h
wel_read (Other n) r w k e h = elim k [ ]

latch : (a : Arming) → cond (eqb (wel a) 1) Stored Disarmed ≡ shown a
latch Disarmed = refl
latch Volatile = refl
latch Stored = refl

abbrev made : Part → ℕ → ℕ → ℕ → ℕ → Bool → Arming → Reading
made p r s t m h a =
    record {
      face = record { part = p; working = record { sr1 = r; sr2 = s; sr3 = t }; locks = m; wp = h };
      arming = a;
      busy = false;
    }

-- What is seen of a chip of a known part is what there is.
seen_right : (p : Part) (r : Registers) (m : ℕ) (h : Bool) (a : Arming) → Known p →
    Plain (record { part = p; working = r; locks = m; wp = h }) →
    seen p (r.sr1 + 2 * wel a) (record { sr2 = r.sr2; sr3 = r.sr3; locks = m }) h ≡ made p r.sr1 r.sr2 r.sr3 m h (shown a)
seen_right p r m h a k e =
    let sr1 = sr1_cut p r.sr1 (wel a) k e.0.0 (small a) in
    let arming = ap (λ x. cond (eqb x 1) Stored Disarmed) (wel_read p r.sr1 (wel a) k e.0.0 (small a)) ∙ latch a in
    search rules

-- The picture of a chip, from the answers that were given.
pub pictured : (s : State) (p : Part) (v : ℕ) (x : Rest) (h : Bool) (q : Reading) → Sound s → Known p → s.face.part ≡ p →
    v ≡ idle_status s → x ≡ rest_of s → h ≡ s.face.wp → q ≡ seen p v x h → q ≡ read_of s
pictured s p v x h q d k e f g i j =
    let right = seen_right s.face.part s.face.working s.face.locks s.face.wp s.arming (subst Known (sym e) k) d.face in
    search rules

-- The W25X16A has nothing beyond SR1.
none_beyond : (p : Part) (r : Registers) (m : ℕ) (h : Bool) → p ≡ Xa → Plain (record { part = p; working = r; locks = m; wp = h }) →
    ◌≡◌ {A = Rest} (record { sr2 = 0; sr3 = 0; locks = 0 }) (record { sr2 = r.sr2; sr3 = r.sr3; locks = m })
none_beyond Jw r m h e d = search rules
none_beyond Xa r m h e d = search (rules, and_zero_r r.sr2, and_zero_r r.sr3, and_zero_r m)
none_beyond (Other n) r m h e d = search rules

pub nothing_beyond : (s : State) → Sound s → s.face.part ≡ Xa → ◌≡◌ {A = Rest} (record { sr2 = 0; sr3 = 0; locks = 0 }) (rest_of s)
nothing_beyond s d e = none_beyond s.face.part s.face.working s.face.locks s.face.wp e d.face
