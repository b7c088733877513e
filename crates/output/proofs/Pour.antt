-- Lines after lines: what they leave is what pouring all their texts leaves.
use Rattle.std.proofs.Common.{◌≡◌, ℕ, ◌+◌, ◌<◌, ◌≤◌, Bool, true, false, cond, leb, List, [], ◌∷◌, ◌++◌, length, take, is_err, Ok, Err, Result, sym, refl, ap, ◌∙◌, subst, append-nil, arith, length-append, length-take}
use Rattle.std.proofs.lemmas.List.{length-take-le}
use Rattle.std.proofs.lemmas.Result.{MatchResult-from_err}
use Rattle.std.proofs.lemmas.Bool.{both_ways, leb-true, leb-false, le-leb, lt-leb}
use Rattle.output.specs.declared.NoRoom.{NoRoom}
use Rattle.output.specs.declared.Output.{Output}
use Rattle.places.specs.Laid.{laid}
use Rattle.output.specs.Pour.{Whole, Back, Said, Paper, pour, poured, Poured, Pours, total}
use Rattle.places.proofs.Lay.{length_laid, laid_over, laid_front, laid_take, take_laid}

-- What `p`, the texts `ss` poured, says of pouring more after them.
record Flows (said : List ℕ) (room : ℕ) (ss : List (List ℕ)) (p : Paper) : Type 0 where
  on : (rest : List (List ℕ)) → p.full ≡ false → pour said room (ss ++ rest) ≡ pour p.said room rest
  stop : (rest : List (List ℕ)) → p.full ≡ true → pour said room (ss ++ rest) ≡ p
  ends : p.full ≡ false → p.lost ≡ []
  within : length said ≤ room → length p.said ≤ room
  longer : length said ≤ length p.said

flows_more :
    (said : List ℕ) (room : ℕ) (t : List ℕ) (ss : List (List ℕ)) (fits : Bool) → leb (length said + length t) room ≡ fits →
    Flows (said ++ t) room ss (pour (said ++ t) room ss) →
    Flows said room (t ∷ ss) (cond fits (pour (said ++ t) room ss) (record { said = said; lost = t; full = true }))
unfolding pour
flows_more said room t ss true e g =
    record {
      on = λ rest f. rw e (g.on rest f);
      stop = λ rest f. rw e (g.stop rest f);
      ends = g.ends;
      within = λ h. g.within (rw (length-append said t) (leb-true _ _ e));
      longer = omega (arith, g.longer, length-append said t);
    }
flows_more said room t ss false e g =
    record {
      on = λ rest f. absurd (both_ways true f refl);
      stop = λ rest f. rw e refl;
      ends = λ f. absurd (both_ways true f refl);
      within = λ h. h;
      longer = omega arith;
    }

flows : (said : List ℕ) (room : ℕ) (ss : List (List ℕ)) → Flows said room ss (pour said room ss)
unfolding pour
flows said room [] =
    record {
      on = λ rest f. refl;
      stop = λ rest f. absurd (both_ways false refl f);
      ends = λ f. refl;
      within = λ h. h;
      longer = omega arith;
    }
flows said room (t ∷ ss) = flows_more said room t ss (leb (length said + length t) room) refl (flows (said ++ t) room ss)

-- What is said fits the bytes, and is no shorter than what stood before the length.
module _ (was : Output) where
  front_within : length (take was.len was.bytes.now) ≤ length was.bytes.now
  front_within = omega (arith, length-take was.len was.bytes.now)

  poured_within : (ts : List (List ℕ)) → length (poured ts was).said ≤ length was.bytes.now
  poured_within ts = (flows (take was.len was.bytes.now) (length was.bytes.now) ts).within front_within

  poured_longer : (ts : List (List ℕ)) → length (take was.len was.bytes.now) ≤ length (poured ts was).said
  poured_longer ts = (flows (take was.len was.bytes.now) (length was.bytes.now) ts).longer

-- The front of the bytes is what is said.
pub poured_front : {full : Bool} {ts : List (List ℕ)} {was is : Output} → Poured full ts was is → take is.len is.bytes.now ≡ (poured ts was).said
poured_front {full} {ts} {was} {is} p =
    rw (p.all, p.long) (take_laid was.bytes.now (poured ts was).said (poured ts was).lost (poured_within was ts))

pub poured_none : (a : Output) → a.len ≤ length a.bytes.now → Poured false [] a a
unfolding pour
poured_none a h =
    record {
      all = sym (rw (append-nil (take a.len a.bytes.now)) (laid_take a.bytes.now a.len));
      long = sym (length-take-le a.len a.bytes.now h);
      ended = refl;
      lent = refl;
    }

-- After a refusal nothing more is poured.
pub poured_stop : {ss : List (List ℕ)} (rest : List (List ℕ)) {was is : Output} → Poured true ss was is → Poured true (ss ++ rest) was is
poured_stop {ss} rest {was} {is} p =
    let e = (flows (take was.len was.bytes.now) (length was.bytes.now) ss).stop rest p.ended in
    record { all = rw e p.all; long = rw e p.long; ended = rw e p.ended; lent = p.lent }

fits_once : (said : List ℕ) (room : ℕ) (t : List ℕ) → length said + length t ≤ room → pour said room (t ∷ []) ≡ record { said = said ++ t; lost = []; full = false }
unfolding pour
fits_once said room t h = rw (le-leb _ _ h) refl

lost_once : (said : List ℕ) (room : ℕ) (t : List ℕ) → room < length said + length t → pour said room (t ∷ []) ≡ record { said = said; lost = t; full = true }
unfolding pour
lost_once said room t h = rw (lt-leb _ _ h) refl

-- A line that fits, and one that does not.
pub whole_poured : {t : List ℕ} {was is : Output} → Whole t was is → Poured false (t ∷ []) was is
whole_poured {t} {was} {is} k =
    let front = length-take-le was.len was.bytes.now (omega (arith, k.room)) in
    let e = fits_once (take was.len was.bytes.now) (length was.bytes.now) t (omega (arith, k.room, front)) in
    record {
      all = rw (e, append-nil (take was.len was.bytes.now ++ t)) (k.all ∙ laid_front was.bytes.now was.len t (omega (arith, k.room)));
      long = rw e (omega (arith, k.long, front, length-append (take was.len was.bytes.now) t));
      ended = rw e refl;
      lent = k.lent;
    }

pub back_poured : {t : List ℕ} {was is : Output} → was.len ≤ length was.bytes.now → Back t was is → Poured true (t ∷ []) was is
back_poured {t} {was} {is} h k =
    let front = length-take-le was.len was.bytes.now h in
    let e = lost_once (take was.len was.bytes.now) (length was.bytes.now) t (omega (arith, k.room, front)) in
    record {
      all = rw e (k.all ∙ laid_front was.bytes.now was.len t h);
      long = rw e (omega (arith, k.long, front));
      ended = rw e refl;
      lent = k.lent;
    }

-- Pouring `rest` from `here` on ends as pouring `ts` from `was` on.
pub record Onto (ts : List (List ℕ)) (was : Output) (rest : List (List ℕ)) (here : Output) : Type 0 where
  pub same : poured rest here ≡ poured ts was
  pub lies : here.bytes.now ≡ laid was.bytes.now 0 (take here.len here.bytes.now)
  pub within : here.len ≤ length here.bytes.now
  pub lent : here.bytes.ghost_name ≡ was.bytes.ghost_name

pub onto : (ts : List (List ℕ)) (a : Output) → a.len ≤ length a.bytes.now → Onto ts a ts a
onto ts a h = record { same = refl; lies = sym (laid_take a.bytes.now a.len); within = h; lent = refl }

pub onto_as : {ts us vs : List (List ℕ)} {was here : Output} → us ≡ vs → Onto ts was us here → Onto ts was vs here
onto_as {ts} {us} {vs} {was} {here} e o = subst (λ x. Onto ts was x here) e o

-- There are as many bytes as at the start.
pub onto_length : {ts rest : List (List ℕ)} {was here : Output} → Onto ts was rest here → length here.bytes.now ≡ length was.bytes.now
onto_length {ts} {rest} {was} {here} o = ap length o.lies ∙ length_laid was.bytes.now 0 (take here.len here.bytes.now)

-- A text over what is poured so far hides all of that.
onto_over : {ts rest : List (List ℕ)} {was here : Output} (text : List ℕ) → Onto ts was rest here → length (take here.len here.bytes.now) ≤ length text → laid here.bytes.now 0 text ≡ laid was.bytes.now 0 text
onto_over {ts} {rest} {was} {here} text o k = ap (λ x. laid x 0 text) o.lies ∙ laid_over was.bytes.now (take here.len here.bytes.now) text k

pub onto_more :
    {ts ss rest : List (List ℕ)} {was here is : Output} →
    Poured false ss here is → Onto ts was (ss ++ rest) here → Onto ts was rest is
onto_more {ts} {ss} {rest} {was} {here} {is} p o =
    let f = flows (take here.len here.bytes.now) (length here.bytes.now) ss in
    let said = (poured ss here).said in
    let front : take is.len is.bytes.now ≡ said = poured_front p in
    let whole : is.bytes.now ≡ laid here.bytes.now 0 said = p.all ∙ rw (f.ends p.ended, append-nil said) refl in
    let long : length is.bytes.now ≡ length here.bytes.now = ap length whole ∙ length_laid here.bytes.now 0 said in
    record {
      same = rw (front, long) (sym (f.on rest p.ended) ∙ o.same);
      lies = rw front (whole ∙ onto_over said o f.longer);
      within = omega (arith, p.long, long, poured_within here ss);
      lent = p.lent ∙ o.lent;
    }

pub onto_last : {full : Bool} {ts rest : List (List ℕ)} {was here is : Output} → Poured full rest here is → Onto ts was rest here → Poured full ts was is
onto_last {full} {ts} {rest} {was} {here} {is} p o =
    let said = (poured rest here).said in
    let lost = (poured rest here).lost in
    let over = onto_over (said ++ lost) o (omega (arith, poured_longer here rest, length-append said lost)) in
    record {
      all = rw (← o.same) (p.all ∙ over);
      long = rw (← o.same) p.long;
      ended = rw (← o.same) p.ended;
      lent = p.lent ∙ o.lent;
    }

pub onto_cut :
    {ts ss : List (List ℕ)} (rest : List (List ℕ)) {was here is : Output} →
    Poured true ss here is → Onto ts was (ss ++ rest) here → Poured true ts was is
onto_cut rest p o = onto_last (poured_stop rest p) o

pub onto_end : {ts : List (List ℕ)} {was here : Output} → Onto ts was [] here → Poured false ts was here
onto_end {ts} {was} {here} o = onto_last (poured_none here o.within) o

-- One line more, and one for which there was no room.
pub onto_line : {ts rest : List (List ℕ)} {t : List ℕ} {was here is : Output} → Whole t here is → Onto ts was (t ∷ rest) here → Onto ts was rest is
onto_line k o = onto_more (whole_poured k) o

pub onto_back : {ts rest : List (List ℕ)} {t : List ℕ} {was here is : Output} → Back t here is → Onto ts was (t ∷ rest) here → Poured true ts was is
onto_back {ts} {rest} k o = onto_cut rest (back_poured o.within k) o

-- What the exit of a `?` returns.
pub pours_err : {A : Type 0} {ts : List (List ℕ)} {was is : Output} (r : Result A NoRoom) → is_err r ≡ true → Poured true ts was is → Pours ts r was is
pours_err {A} {ts} {was} {is} r e p = MatchResult-from_err r (λ _. Poured false ts was is) (λ _. Poured true ts was is) e (λ _. p)

pub pours_as : {A : Type 0} {ts us : List (List ℕ)} (r : Result A NoRoom) (was is : Output) → ts ≡ us → Pours ts r was is → Pours us r was is
pours_as r was is e p = subst (λ x. Pours x r was is) e p

-- The last answer is the answer.
pub pours_last :
    {A : Type 0} {ts rest : List (List ℕ)} {was here : Output} (r : Result A NoRoom) (is : Output) →
    Onto ts was rest here → Pours rest r here is → Pours ts r was is
pours_last (Ok x) is o p = onto_last p o
pours_last (Err e) is o p = onto_last p o

pub said_pours : {A : Type 0} (t : List ℕ) (r : Result A NoRoom) (was is : Output) → was.len ≤ length was.bytes.now → Said t r was is → Pours (t ∷ []) r was is
said_pours t (Ok x) was is h k = whole_poured k
said_pours t (Err e) was is h k = back_poured h k

-- All texts fit exactly where there is room for their bytes.
record Sized (said : List ℕ) (room : ℕ) (ts : List (List ℕ)) (p : Paper) : Type 0 where
  fit : p.full ≡ false → length p.said ≡ length said + total ts
  over : p.full ≡ true → room < length said + total ts

sized_by : (said : List ℕ) (room : ℕ) (t : List ℕ) (ts : List (List ℕ)) (fits : Bool) → leb (length said + length t) room ≡ fits →
    Sized (said ++ t) room ts (pour (said ++ t) room ts) →
    Sized said room (t ∷ ts) (cond fits (pour (said ++ t) room ts) (record { said = said; lost = t; full = true }))
unfolding total
sized_by said room t ts true e s =
    record {
      fit = λ f. omega (arith, s.fit f, length-append said t);
      over = λ f. omega (arith, s.over f, length-append said t);
    }
sized_by said room t ts false e s =
    record {
      fit = λ f. absurd (both_ways true f refl);
      over = λ f. omega (arith, leb-false (length said + length t) room e);
    }

sized : (said : List ℕ) (room : ℕ) (ts : List (List ℕ)) → Sized said room ts (pour said room ts)
unfolding pour total
sized said room [] = record { fit = λ f. omega arith; over = λ f. absurd (both_ways false refl f) }
sized said room (t ∷ ts) = sized_by said room t ts (leb (length said + length t) room) refl (sized (said ++ t) room ts)

pub poured_fits : {ts : List (List ℕ)} {was is : Output} → was.len ≤ length was.bytes.now → Poured false ts was is → is.len ≡ was.len + total ts
poured_fits {ts} {was} {is} h p = omega (arith, p.long, (sized (take was.len was.bytes.now) (length was.bytes.now) ts).fit p.ended, length-take-le was.len was.bytes.now h)

pub poured_over : {ts : List (List ℕ)} {was is : Output} → was.len ≤ length was.bytes.now → Poured true ts was is → length was.bytes.now < was.len + total ts
poured_over {ts} {was} {is} h p = omega (arith, (sized (take was.len was.bytes.now) (length was.bytes.now) ts).over p.ended, length-take-le was.len was.bytes.now h)

-- What stands fits the bytes.
pub poured_in : {full : Bool} {ts : List (List ℕ)} {was is : Output} → Poured full ts was is → is.len ≤ length was.bytes.now
poured_in {full} {ts} {was} {is} p = omega (arith, p.long, poured_within was ts)
