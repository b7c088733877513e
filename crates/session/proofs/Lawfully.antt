-- What a reach is good for.
use Rattle.std.proofs.Common.{rules, ◌≡◌, ℕ, ◌^◌, ◌<◌, false, List, Some, None, Ok, Option, sym, refl, ap, ◌∙◌, subst}
use Rattle.units.specs.Ranges.{wished, first_failing, inside, aligned, unless, union}
use Rattle.units.specs.declared.ranges.Range.{Range}
use Rattle.units.specs.declared.ranges.RangeFault.TheVariants.{Beyond, Cut}
use Rattle.units.proofs.Unions.{union_right}
use Rattle.chip.specs.Effect.{suspended, Plain}
use Rattle.chip.specs.Step.{Known, Sound}
use Rattle.laws.proofs.Exact.{exact}
use Rattle.plan.specs.Plan.{planned}
use Rattle.plan.specs.declared.wish.Term.{Term}
use Rattle.session.specs.Reach.{ranged}
use Rattle.session.specs.Trace.{ReachLaw}
use Rattle.session.specs.View.{View}
use Rattle.session.proofs.Traced.{answered}

-- The set of ranges is a set of the 62 units.
small_by : (rs : List Range) (a b : Option ℕ) (set : ℕ) → first_failing inside rs ≡ a → first_failing aligned rs ≡ b →
    ranged (unless a Beyond (unless b Cut (Ok (union rs)))) ≡ Ok set → set < 2 ^ 62
small_by rs (Some i) b set p q e = search rules
small_by rs None (Some i) set p q e = search rules
small_by rs None None set p q e = let same : union rs ≡ set = cc in subst (λ m. m < 2 ^ 62) same (union_right rs p q).small

small : (rs : List Range) (set : ℕ) → ranged (wished rs) ≡ Ok set → set < 2 ^ 62
small rs set e = small_by rs (first_failing inside rs) (first_failing aligned rs) set refl refl e

pub reach_law : (rs : List Range) (t : Term) (v : View) → Sound v.state → ReachLaw rs t v
reach_law rs t v sound =
    record {
      exact = λ x set p f k c e.
          exact x.face set t (subst Plain (sym f) sound.face) (subst (λ y. Known y.part) (sym f) k) c (small rs set e);
      sent = λ x set cs p f k c e q.
          answered cs set t (record { state = v.state; reading = x }) sound f k (subst (λ y. suspended y ≡ false) f c) (small rs set e)
          (ap (λ y. planned y set t) (sym f) ∙ q);
    }
