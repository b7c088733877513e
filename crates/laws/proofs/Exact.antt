-- A plan is refused exactly where none exists: by cases of the route that is chosen.
use Rattle.std.proofs.Common.{◌≡◌, ℕ, ◌^◌, ◌<◌, Bool, true, false, cond, not, ◌||◌, eqb, Some, None, Ok, Err, Option, Result, refl}
use Rattle.std.proofs.lemmas.Bool.{eqb-true}
use Rattle.chip.specs.Effect.{Plain, locked, suspended}
use Rattle.chip.specs.Step.{Known}
use Rattle.chip.specs.declared.model.Part.{Part}
use Rattle.chip.specs.declared.model.Part.TheVariants.{Jw, Xa, Other}
use Rattle.chip.specs.declared.model.Face.{Face}
use Rattle.picture.specs.Protection.{protected}
use Rattle.refusals.specs.declared.RunFault.{RunFault}
use Rattle.refusals.specs.declared.RunFault.TheVariants.{NoCode}
use Rattle.plan.specs.Plan.{smallest, codes_of, by_lock_bits, lock_fault, by_code, by_locks, by_either, chosen_by, chosen, commands_in}
use Rattle.plan.specs.declared.wish.Term.{Term}
use Rattle.plan.specs.declared.wish.Term.TheVariants.{Now, Kept}
use Rattle.plan.specs.declared.wish.Route.{Route}
use Rattle.plan.specs.declared.wish.Route.TheVariants.{Nothing, Settings, Locks}
use Rattle.laws.specs.Laws.{Verdict, Exact}
use Rattle.laws.proofs.Codes.{a_code}
use Rattle.laws.proofs.Refuse.{refused}
use Rattle.laws.proofs.Settings.{settings_reach, nothing_reach_now, nothing_reach_xa}
use Rattle.laws.proofs.Locks.{locks_reach}

-- What is owed of a choice, where it is the one that is made.
abbrev Owed : Face → ℕ → Term → Result Route RunFault → Type 0
Owed f w t r = chosen f w t ≡ r → Verdict (commands_in r f w t) f w t

-- What is owed of both arms of a test, each with the test's outcome, is owed of the test.
owed_test : (f : Face) (w : ℕ) (t : Term) (b : Bool) (x y : Result Route RunFault) →
    (b ≡ true → Owed f w t x) → (b ≡ false → Owed f w t y) → Owed f w t (cond b x y)
owed_test f w t true x y p q = p refl
owed_test f w t false x y p q = q refl

module _ (f : Face) (w : ℕ) (plain : Plain f) (known : Known f.part) (calm : suspended f ≡ false) (small : w < 2 ^ 62) where
  owed_refused : (t : Term) (e : RunFault) → Owed f w t (Err e)
  owed_refused t e c = refused f w t e plain known calm small c

  owed_code : (t : Term) (c : ℕ) → smallest (codes_of f.part) w ≡ Some c → locked f ≡ false → Owed f w t (Ok (Settings c))
  owed_code t c e free _ =
      let k = a_code (codes_of f.part) w c e in settings_reach f w t c plain known calm free k.0 k.1

  owed_by_code : (t : Term) (o : Option ℕ) → smallest (codes_of f.part) w ≡ o → Owed f w t (by_code o f)
  owed_by_code t None e = owed_refused t NoCode
  owed_by_code t (Some c) e =
      owed_test f w t (locked f) (Err (lock_fault f)) (Ok (Settings c)) (λ _. owed_refused t (lock_fault f)) (owed_code t c e)

  owed_by_locks : f.part ≡ Jw → Owed f w Now (by_locks f)
  owed_by_locks jw =
      owed_test f w Now (by_lock_bits f || not (locked f)) (Ok Locks) (Err (lock_fault f))
      (λ k _. locks_reach f w jw plain calm small k) (λ _. owed_refused Now (lock_fault f))

  owed_by_either : (o : Option ℕ) → f.part ≡ Jw → smallest (codes_of f.part) w ≡ o → Owed f w Now (by_either o f)
  owed_by_either None jw e = owed_by_locks jw
  owed_by_either (Some c) jw e =
      owed_test f w Now (locked f) (by_locks f) (Ok (Settings c)) (λ _. owed_by_locks jw) (owed_code Now c e)

  owed_by_part : (p : Part) (t : Term) (o : Option ℕ) → f.part ≡ p → smallest (codes_of f.part) w ≡ o →
      Owed f w t (chosen_by o p t (eqb (protected f) w) f)
  owed_by_part Jw Now o jw e =
      owed_test f w Now (eqb (protected f) w) (Ok Nothing) (by_either o f)
      (λ k _. nothing_reach_now f w (eqb-true (protected f) w k)) (λ _. owed_by_either o jw e)
  owed_by_part Jw Kept o jw e = owed_by_code Kept o e
  owed_by_part Xa t o xa e =
      owed_test f w t (eqb (protected f) w) (Ok Nothing) (by_code o f)
      (λ k _. nothing_reach_xa f w t xa (eqb-true (protected f) w k)) (λ _. owed_by_code t o e)
  owed_by_part (Other n) t o other e = owed_refused t NoCode

-- For whatever is read of a chip of a known part, and every wish: the plan reaches it, or no list of commands does.
pub exact : Exact
unfolding chosen
exact f w t plain known calm small =
    owed_by_part f w plain known calm small f.part t (smallest (codes_of f.part) w) refl refl refl
