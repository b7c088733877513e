-- Writers one after another: what they leave is what one writer of all their texts leaves.
use Rattle.std.proofs.Common.{◌≡◌, ℕ, ◌+◌, ◌<◌, ◌≤◌, true, List, [], ◌++◌, length, is_err, Ok, Err, Result, sym, refl, ◌∙◌, subst, arith, length-append}
use Rattle.std.proofs.lemmas.Result.{MatchResult-from_err}
use Rattle.output.specs.declared.Line.{Line}
use Rattle.output.specs.declared.NoRoom.{NoRoom}
use Rattle.output.specs.Puts.{Held, Kept, Cut, Puts}
use Rattle.places.proofs.Lay.{laid_none, length_laid, laid_past, laid_laid, laid_cut}

-- The line does not reach past its bytes.
abbrev pub Open : Line → Type 0
Open line = line.len.now ≤ length line.bytes.now

same_line : (a : Line) → Held a a
same_line a = record { bytes = refl; len = refl; start = refl }

still : {a b c : Line} → Held a b → Held b c → Held a c
still h k = record { bytes = k.bytes ∙ h.bytes; len = k.len ∙ h.len; start = k.start ∙ h.start }

-- Every writer leaves as many bytes as there were.
kept_length : {t : List ℕ} {a b : Line} → Kept t a b → length b.bytes.now ≡ length a.bytes.now
kept_length {t} {a} k = rw k.all (length_laid a.bytes.now a.len.now t)

pub kept_open : {t : List ℕ} {a b : Line} → Kept t a b → Open b
kept_open k = omega (arith, k.room, k.long, kept_length k)

pub kept_none : {a : Line} → Open a → Kept [] a a
kept_none {a} h =
    record {
      room = omega arith;
      all = sym (laid_none a.bytes.now a.len.now);
      long = omega arith;
      held = same_line a;
    }

-- A line at the end of its bytes, or past it, takes nothing of a text that it has no room for.
pub cut_past : {a : Line} (t : List ℕ) → length a.bytes.now ≤ a.len.now → length a.bytes.now < a.len.now + length t → Cut t a a
cut_past {a} t h k =
    record {
      room = k;
      all = sym (laid_past a.bytes.now a.len.now t h);
      long = omega arith;
      held = same_line a;
    }

pub kept_kept : {s t : List ℕ} {a b c : Line} → Kept s a b → Kept t b c → Kept (s ++ t) a c
kept_kept {s} {t} {a} {b} {c} k l =
    record {
      room = omega (arith, k.long, l.room, kept_length k, length-append s t);
      all = l.all ∙ rw (k.all, k.long) (laid_laid a.bytes.now a.len.now s t);
      long = omega (arith, k.long, l.long, length-append s t);
      held = still k.held l.held;
    }

pub kept_cut : {s t : List ℕ} {a b c : Line} → Kept s a b → Cut t b c → Cut (s ++ t) a c
kept_cut {s} {t} {a} {b} {c} k l =
    record {
      room = omega (arith, k.long, l.room, kept_length k, length-append s t);
      all = l.all ∙ rw (k.all, k.long) (laid_laid a.bytes.now a.len.now s t);
      long = omega (arith, k.long, k.room, l.long, kept_length k);
      held = still k.held l.held;
    }

-- After a refusal nothing more is written.
pub cut_more : {s : List ℕ} (t : List ℕ) {a b : Line} → Cut s a b → Cut (s ++ t) a b
cut_more {s} t {a} {b} k =
    record {
      room = omega (arith, k.room, length-append s t);
      all = k.all ∙ sym (laid_cut a.bytes.now a.len.now s t (omega (arith, k.room)));
      long = k.long;
      held = k.held;
    }

-- What the exit of a `?` returns.
pub puts_err : {A : Type 0} {t : List ℕ} {a b : Line} (r : Result A NoRoom) → is_err r ≡ true → Cut t a b → Puts t r a b
puts_err {A} {t} {a} {b} r e k = MatchResult-from_err r (λ _. Kept t a b) (λ _. Cut t a b) e (λ _. k)

pub puts_as : {A : Type 0} {t u : List ℕ} (r : Result A NoRoom) (a b : Line) → t ≡ u → Puts t r a b → Puts u r a b
puts_as r a b e p = subst (λ v. Puts v r a b) e p

-- The last writer's answer is the answer.
pub puts_after : {A : Type 0} {s : List ℕ} {a b : Line} (t : List ℕ) (r : Result A NoRoom) (c : Line) → Kept s a b → Puts t r b c → Puts (s ++ t) r a c
puts_after t (Ok x) c k p = kept_kept k p
puts_after t (Err e) c k p = kept_cut k p

-- Writing `rest` from `here` on ends as writing `text` from `was` on.
pub record Onward (text : List ℕ) (was : Line) (rest : List ℕ) (here : Line) : Type 0 where
  pub kept : (is : Line) → Kept rest here is → Kept text was is
  pub cut : (is : Line) → Cut rest here is → Cut text was is
  pub within : Open here

pub onward : {t : List ℕ} {a : Line} → Open a → Onward t a t a
onward h = record { kept = λ is k. k; cut = λ is k. k; within = h }

pub onward_as : {t u v : List ℕ} {w a : Line} → u ≡ v → Onward t w u a → Onward t w v a
onward_as {t} {u} {v} {w} {a} e o = subst (λ x. Onward t w x a) e o

pub onward_more : {t s rest : List ℕ} {w a b : Line} → Kept s a b → Onward t w (s ++ rest) a → Onward t w rest b
onward_more k o =
    record {
      kept = λ is l. o.kept is (kept_kept k l);
      cut = λ is l. o.cut is (kept_cut k l);
      within = kept_open k;
    }

pub onward_cut : {t s : List ℕ} (rest : List ℕ) {w a b : Line} → Cut s a b → Onward t w (s ++ rest) a → Cut t w b
onward_cut rest {w} {a} {b} k o = o.cut b (cut_more rest k)

pub onward_end : {t : List ℕ} {w a : Line} → Onward t w [] a → Kept t w a
onward_end {t} {w} {a} o = o.kept a (kept_none o.within)

pub puts_last : {A : Type 0} {t rest : List ℕ} {w a : Line} (r : Result A NoRoom) (b : Line) → Onward t w rest a → Puts rest r a b → Puts t r w b
puts_last (Ok x) b o p = o.kept b p
puts_last (Err e) b o p = o.cut b p
