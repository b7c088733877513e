-- Every plan begins with a command that arms.
use Rattle.std.proofs.lemmas.Bool.{cond_both}
use Rattle.std.proofs.Common.{rules, ◌≡◌, ℕ, zero, suc, Bool, cond, not, ◌||◌, eqb, List, [], ◌∷◌, ◌++◌, Some, None, Ok, Err, Option, Result, sym, refl, subst}
use Rattle.chip.specs.Effect.{order_of, locked}
use Rattle.chip.specs.declared.model.Command.{Command}
use Rattle.chip.specs.declared.model.Face.{Face}
use Rattle.chip.specs.declared.model.Order.{Order}
use Rattle.chip.specs.declared.model.Order.TheVariants.{Ignored, Arm, Write, Change}
use Rattle.chip.specs.declared.model.Part.{Part}
use Rattle.chip.specs.declared.model.Part.TheVariants.{Jw, Xa, Other}
use Rattle.picture.specs.Protection.{protected}
use Rattle.plan.specs.Plan.{smallest, codes_of, by_lock_bits, lock_fault, by_code, by_locks, by_either, chosen_by, chosen, arm, settings, at_unit, sweep, to_lock, to_unlock, lock_plan, commands_of, commands_in, planned}
use Rattle.plan.specs.declared.wish.Route.{Route}
use Rattle.plan.specs.declared.wish.Route.TheVariants.{Nothing, Settings, Locks}
use Rattle.plan.specs.declared.wish.Term.{Term}
use Rattle.plan.specs.declared.wish.Term.TheVariants.{Now, Kept}
use Rattle.refusals.specs.declared.RunFault.{RunFault}

abbrev pub IsArm : Order → Type 0
IsArm Ignored = ⊥
IsArm (Arm a) = Unit {0}
IsArm (Write x) = ⊥
IsArm (Change l) = ⊥

-- There is no command, or the first arms.
abbrev pub Arms : Part → List Command → Type 0
Arms p [] = Unit {0}
Arms p (m ∷ ms) = IsArm (order_of p m)

arms_append : (p : Part) (xs ys : List Command) → Arms p xs → Arms p ys → Arms p (xs ++ ys)
arms_append p [] ys h k = k
arms_append p (x ∷ xs) ys h k = h

arms_first : (t : Term) → IsArm (order_of Jw (arm t))
unfolding order_of
arms_first Now = tt
arms_first Kept = tt

arms_unit : (code u : ℕ) → Arms Jw (at_unit code u)
unfolding order_of
arms_unit code u = tt

arms_settings : (p : Part) (t : Term) (f : Face) (c : ℕ) → Arms p (settings p t f c)
unfolding order_of
arms_settings Jw t f c = arms_first t
arms_settings Xa t f c = tt
arms_settings (Other n) t f c = tt

arms_sweep : (test : ℕ → Bool) (code n : ℕ) → Arms Jw (sweep test code n)
unfolding sweep
arms_sweep test code zero = tt
arms_sweep test code (suc n) =
    arms_append Jw (sweep test code n) (cond (test n) (at_unit code n) []) (arms_sweep test code n)
    (cond_both (test n) (at_unit code n) [] (Arms Jw) (λ e. arms_unit code n) (λ e. tt))

arms_locks : (f : Face) (w : ℕ) → Arms Jw (lock_plan f w)
unfolding lock_plan
arms_locks f w =
    arms_append Jw (sweep (to_lock f.locks w) 54 62) _ (arms_sweep (to_lock f.locks w) 54 62)
    (arms_append Jw (sweep (to_unlock f.locks w) 57 62) _ (arms_sweep (to_unlock f.locks w) 57 62)
    (cond_both (by_lock_bits f) [] _ (Arms Jw) (λ e. tt) (λ e. arms_first Now)))

-- The route that is taken, if one is, begins so.
abbrev Starts : Face → ℕ → Term → Result Route RunFault → Type 0
Starts f w t (Ok r) = Arms f.part (commands_of r f w t)
Starts f w t (Err e) = Unit {0}

starts_code : (f : Face) (w : ℕ) (t : Term) (c : Option ℕ) → Starts f w t (by_code c f)
starts_code f w t None = tt
starts_code f w t (Some c) =
    cond_both (locked f) (Err (lock_fault f)) (Ok (Settings c)) (Starts f w t) (λ e. tt) (λ e. arms_settings f.part t f c)

starts_locks : (f : Face) (w : ℕ) (t : Term) → f.part ≡ Jw → Starts f w t (by_locks f)
starts_locks f w t e =
    cond_both (by_lock_bits f || not (locked f)) (Ok Locks) (Err (lock_fault f)) (Starts f w t)
    (λ i. subst (λ p. Arms p (lock_plan f w)) (sym e) (arms_locks f w)) (λ i. tt)

starts_any : (f : Face) (w : ℕ) (t : Term) (c : Option ℕ) → f.part ≡ Jw → Starts f w t (by_either c f)
starts_any f w t None e = starts_locks f w t e
starts_any f w t (Some c) e =
    cond_both (locked f) (by_locks f) (Ok (Settings c)) (Starts f w t) (λ i. starts_locks f w t e) (λ i. arms_settings f.part t f c)

starts_chosen : (f : Face) (w : ℕ) (t : Term) (c : Option ℕ) (p : Part) (u : Term) (b : Bool) → f.part ≡ p →
    Starts f w t (chosen_by c p u b f)
starts_chosen f w t c Jw Now b e = cond_both b (Ok Nothing) (by_either c f) (Starts f w t) (λ i. tt) (λ i. starts_any f w t c e)
starts_chosen f w t c Jw Kept b e = starts_code f w t c
starts_chosen f w t c Xa u b e = cond_both b (Ok Nothing) (by_code c f) (Starts f w t) (λ i. tt) (λ i. starts_code f w t c)
starts_chosen f w t c (Other n) u b e = tt

starts_arms : (f : Face) (w : ℕ) (t : Term) (r : Result Route RunFault) (cs : List Command) → Starts f w t r → commands_in r f w t ≡ Ok cs →
    Arms f.part cs
starts_arms f w t (Ok r) cs h e = let same : commands_of r f w t ≡ cs = cc in subst (Arms f.part) same h
starts_arms f w t (Err x) cs h e = search rules

pub arms_planned : (f : Face) (w : ℕ) (t : Term) (cs : List Command) → planned f w t ≡ Ok cs → Arms f.part cs
unfolding chosen
arms_planned f w t cs e =
    starts_arms f w t (chosen f w t) cs
    (starts_chosen f w t (smallest (codes_of f.part) w) f.part t (eqb (protected f) w) refl) e
