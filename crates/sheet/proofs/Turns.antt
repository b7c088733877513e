-- One turn of a sheet's run, and its end.
use Rattle.std.proofs.Common.{◌≡◌, ℕ, ◌+◌, ◌%◌, Bool, true, false, cond, List, ◌∷◌, ◌++◌, length, take, MutBor, None, Ok, Err, Option, Result, sym, ap, ◌∙◌}
use Rattle.places.specs.Laid.{laid}
use Rattle.output.specs.declared.Output.{Output}
use Rattle.output.specs.Pour.{Paper, Poured}
use Rattle.output.proofs.Pour.{poured_front}
use Rattle.refusals.specs.declared.SheetFault.{SheetFault}
use Rattle.refusals.specs.declared.SheetFault.TheVariants.{Room}
use Rattle.session.specs.View.{View}
use Rattle.sheet.specs.Answers.{answer_text}
use Rattle.sheet.specs.Bench.{told, next}
use Rattle.sheet.specs.Sheet.{answers, sheet, finish}
use Rattle.sheet.specs.declared.bench.Said.{Said}
use Rattle.sheet.specs.declared.runs.Unfinished.{Unfinished}
use Rattle.text.specs.Lines.{lines}

-- The first line is answered, and the others go on from what it leaves.
pub turn : (d e : Option View) (number : ℕ) (all more : List (List ℕ)) (line : List ℕ) (a : Result Said SheetFault) →
    all ≡ line ∷ more → a ≡ told line d → e ≡ next line number d →
    answers d number all ≡ answer_text a ∷ answers e ((number + 1) % 65536) more
unfolding answers
turn d e number all more line a p q r =
    ap (answers d number) p ∙ ap (λ x. answer_text x ∷ answers (next line number d) ((number + 1) % 65536) more) (sym q)
    ∙ ap (λ x. answer_text a ∷ answers x ((number + 1) % 65536) more) (sym r)

-- What the run promises, from what has been poured.
pub record Ends (r : Result ℕ Unfinished) (input was is : List ℕ) : Type 0 where
  pub ends : r ≡ finish (sheet input (length was))
  pub out : is ≡ laid was 0 ((sheet input (length was)).said ++ (sheet input (length was)).lost)
  pub front : take (length (sheet input (length was)).said) is ≡ (sheet input (length was)).said

finish_by : (b : Bool) (p : Paper) → p.full ≡ b → finish p ≡ cond b (Err (record { kept = length p.said; fault = Room })) (Ok (length p.said))
finish_by b p e = ap (λ x. cond x (Err (record { kept = length p.said; fault = Room })) (Ok (length p.said))) e

-- The sheet's answers, poured into the space lent from its start on.
abbrev pub Answered : Bool → List ℕ → MutBor (List ℕ) → Output → Type 0
Answered full input out is = Poured full (answers None 0 (lines input)) (record { bytes = out; len = 0 }) is

front_of : (full : Bool) (input : List ℕ) (out : MutBor (List ℕ)) (is : Output) → Answered full input out is →
    take (length (sheet input (length out.now)).said) is.bytes.now ≡ (sheet input (length out.now)).said
front_of full input out is p = ap (λ n. take n is.bytes.now) (sym p.long) ∙ poured_front p

pub ends_whole : (input : List ℕ) (out : MutBor (List ℕ)) (is : Output) → Answered false input out is → Ends (Ok is.len) input out.now is.bytes.now
ends_whole input out is p =
    record {
      ends = ap Ok p.long ∙ sym (finish_by false (sheet input (length out.now)) p.ended);
      out = p.all;
      front = front_of false input out is p;
    }

pub ends_short : (input : List ℕ) (out : MutBor (List ℕ)) (is : Output) → Answered true input out is →
    Ends (Err (record { kept = is.len; fault = Room })) input out.now is.bytes.now
ends_short input out is p =
    record {
      ends = ap (λ n. Err (record { kept = n; fault = Room })) p.long ∙ sym (finish_by true (sheet input (length out.now)) p.ended);
      out = p.all;
      front = front_of true input out is p;
    }
