-- No plan has more than 126 commands: two for each of the 62 units, and two for WPS.
use Rattle.std.proofs.Common.{◌≡◌, ℕ, zero, suc, ◌+◌, ◌*◌, ◌<◌, ◌≤◌, Bool, true, false, cond, not, ◌||◌, eqb, IfSome, List, [], ◌∷◌, ◌++◌, length, Some, None, Ok, Err, Option, Result, refl, subst, arith, length-append}
use Rattle.std.proofs.lemmas.Bool.{and_parts, eqb-true}
use Rattle.units.specs.Units.{has}
use Rattle.chip.specs.Effect.{locked}
use Rattle.chip.specs.declared.model.Bytes.TheVariants.{One}
use Rattle.chip.specs.declared.model.Command.{Command}
use Rattle.chip.specs.declared.model.Face.{Face}
use Rattle.chip.specs.declared.model.Part.{Part}
use Rattle.chip.specs.declared.model.Part.TheVariants.{Jw, Xa, Other}
use Rattle.picture.specs.Protection.{protected}
use Rattle.plan.specs.Plan.{smallest, codes_of, by_lock_bits, locked_for_good, lock_fault, by_code, by_locks, by_either, unless_set, chosen_by, chosen, arm, third_byte, is_kept, settings, at_unit, sweep, to_lock, to_unlock, lock_plan, commands_of, commands_in, planned}
use Rattle.plan.proofs.Smallest.{six_bits}
use Rattle.plan.specs.Written.{Codable}
use Rattle.plan.specs.declared.wish.Route.{Route}
use Rattle.plan.specs.declared.wish.Route.TheVariants.{Nothing, Settings, Locks}
use Rattle.plan.specs.declared.wish.Term.{Term}
use Rattle.plan.specs.declared.wish.Term.TheVariants.{Now, Kept}
use Rattle.refusals.specs.Numbers.{run_number}
use Rattle.refusals.specs.declared.RunFault.{RunFault}
use Rattle.refusals.specs.declared.RunFault.TheVariants.{RegisterLock, PinLock}

-- A unit is not both to be locked and to be unlocked, as it is not both wanted and not.
not_both : (locks w u : ℕ) → to_lock locks w u ≡ true → to_unlock locks w u ≡ true → ⊥
not_both locks w u p q =
    let wanted = eqb-true (has w u) 1 (and_parts (eqb (has w u) 1) (eqb (has locks u) 0) p).0 in
    let unwanted = eqb-true (has w u) 0 (and_parts (eqb (has w u) 0) (eqb (has locks u) 1) q).0 in
    omega arith

-- So the two sweeps have two commands for it at most.
unit_short : (lock unlock : Bool) (u : ℕ) → (lock ≡ true → unlock ≡ true → ⊥) →
    length (cond lock (at_unit 54 u) []) + length (cond unlock (at_unit 57 u) []) ≤ 2
unit_short true true u h = absurd (h refl refl)
unit_short true false u h = omega arith
unit_short false true u h = omega arith
unit_short false false u h = omega arith

sweeps_short : (locks w n : ℕ) → length (sweep (to_lock locks w) 54 n) + length (sweep (to_unlock locks w) 57 n) ≤ 2 * n
unfolding sweep
sweeps_short locks w zero = omega arith
sweeps_short locks w (suc n) =
    let a = length-append (sweep (to_lock locks w) 54 n) (cond (to_lock locks w n) (at_unit 54 n) []) in
    let b = length-append (sweep (to_unlock locks w) 57 n) (cond (to_unlock locks w n) (at_unit 57 n) []) in
    let here = unit_short (to_lock locks w n) (to_unlock locks w n) n (not_both locks w n) in
    let below = sweeps_short locks w n in
    omega arith

raising_short : (b : Bool) (x y : Command) → length (cond b [] (x ∷ (y ∷ []))) ≤ 2
raising_short true x y = omega arith
raising_short false x y = omega arith

pub lock_plan_short : (f : Face) (w : ℕ) → length (lock_plan f w) ≤ 126
unfolding lock_plan
lock_plan_short f w =
    let locking : List Command = sweep (to_lock f.locks w) 54 62 in
    let unlocking : List Command = sweep (to_unlock f.locks w) 57 62 in
    let raising : List Command = cond (by_lock_bits f) [] (arm Now ∷ (record { code = 17; bytes = One (third_byte f 1) } ∷ [])) in
    let a = length-append locking (unlocking ++ raising) in
    let b = length-append unlocking raising in
    let sweeps = sweeps_short f.locks w 62 in
    let last = raising_short (by_lock_bits f) (arm Now) (record { code = 17; bytes = One (third_byte f 1) }) in
    omega arith

lowering_short : (b : Bool) (x y : Command) → length (cond b (x ∷ (y ∷ [])) []) ≤ 2
lowering_short true x y = omega arith
lowering_short false x y = omega arith

settings_short : (p : Part) (t : Term) (f : Face) (c : ℕ) → length (settings p t f c) ≤ 4
settings_short Jw t f c =
    let last = lowering_short (by_lock_bits f || is_kept t) (arm t) (record { code = 17; bytes = One (third_byte f 0) }) in omega arith
settings_short Xa t f c = omega arith
settings_short (Other n) t f c = omega arith

pub commands_short : (r : Route) (f : Face) (w : ℕ) (t : Term) → length (commands_of r f w t) ≤ 126
commands_short Nothing f w t = omega arith
commands_short (Settings c) f w t = let s = settings_short f.part t f c in omega arith
commands_short Locks f w t = lock_plan_short f w

-- The planner takes a code of six bits, and refuses with 11, 12 or 13 only.
abbrev pub Fair : Result Route RunFault → Type 0
Fair (Ok r) = Codable r
Fair (Err e) = (11 ≤ run_number e) × (run_number e ≤ 13)

lock_fault_by : (b : Bool) → Fair (Err (cond b RegisterLock PinLock))
lock_fault_by true = (omega arith, omega arith)
lock_fault_by false = (omega arith, omega arith)

unless_locked : (b : Bool) (f : Face) (r : Result Route RunFault) → Fair r → Fair (cond b r (Err (lock_fault f)))
unless_locked true f r h = h
unless_locked false f r h = lock_fault_by (locked_for_good f)

if_unlocked_by : (b : Bool) (f : Face) (c : ℕ) → c < 64 → Fair (cond b (Err (lock_fault f)) (Ok (Settings c)))
if_unlocked_by true f c h = lock_fault_by (locked_for_good f)
if_unlocked_by false f c h = h

by_code_fair : (c : Option ℕ) (f : Face) → IfSome c (λ k. k < 64) → Fair (by_code c f)
by_code_fair None f h = (omega arith, omega arith)
by_code_fair (Some c) f h = if_unlocked_by (locked f) f c h

by_locks_fair : (f : Face) → Fair (by_locks f)
by_locks_fair f = unless_locked (by_lock_bits f || not (locked f)) f (Ok Locks) tt

either_by : (b : Bool) (f : Face) (c : ℕ) → c < 64 → Fair (cond b (by_locks f) (Ok (Settings c)))
either_by true f c h = by_locks_fair f
either_by false f c h = h

by_either_fair : (c : Option ℕ) (f : Face) → IfSome c (λ k. k < 64) → Fair (by_either c f)
by_either_fair None f h = by_locks_fair f
by_either_fair (Some c) f h = either_by (locked f) f c h

settled_by : (b : Bool) (r : Result Route RunFault) → Fair r → Fair (unless_set b r)
settled_by true r h = tt
settled_by false r h = h

chosen_by_fair : (c : Option ℕ) (p : Part) (t : Term) (b : Bool) (f : Face) → IfSome c (λ k. k < 64) → Fair (chosen_by c p t b f)
chosen_by_fair c Jw Now b f h = settled_by b (by_either c f) (by_either_fair c f h)
chosen_by_fair c Jw Kept b f h = by_code_fair c f h
chosen_by_fair c Xa t b f h = settled_by b (by_code c f) (by_code_fair c f h)
chosen_by_fair c (Other n) t b f h = (omega arith, omega arith)

pub chosen_fair : (f : Face) (w : ℕ) (t : Term) → Fair (chosen f w t)
unfolding chosen
chosen_fair f w t = chosen_by_fair (smallest (codes_of f.part) w) f.part t (eqb (protected f) w) f (six_bits f.part w)

-- So does a plan, and it has 126 commands at most.
abbrev Few : Result (List Command) RunFault → Type 0
Few (Ok cs) = length cs ≤ 126
Few (Err e) = (11 ≤ run_number e) × (run_number e ≤ 13)

in_few : (r : Result Route RunFault) (f : Face) (w : ℕ) (t : Term) → Fair r → Few (commands_in r f w t)
in_few (Ok r) f w t h = commands_short r f w t
in_few (Err e) f w t h = h

planned_few : (f : Face) (w : ℕ) (t : Term) → Few (planned f w t)
planned_few f w t = in_few (chosen f w t) f w t (chosen_fair f w t)

pub planned_short : (f : Face) (w : ℕ) (t : Term) (cs : List Command) → planned f w t ≡ Ok cs → length cs ≤ 126
planned_short f w t cs e = subst Few e (planned_few f w t)

pub planned_number : (f : Face) (w : ℕ) (t : Term) (x : RunFault) → planned f w t ≡ Err x → (11 ≤ run_number x) × (run_number x ≤ 13)
planned_number f w t x e = subst Few e (planned_few f w t)
