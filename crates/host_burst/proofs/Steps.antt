-- What the proofs of the functions cite. Assumes nothing.
use Rattle.std.specs.Prelude.{Some, None}
use mathlib.Core.Path.{◌≡◌, refl, sym, ap, ◌∙◌}
use mathlib.Core.Bool.{Bool, ◌&&◌, cond}
use mathlib.Core.List.{List, [], ◌∷◌}
use native.Mathlib.Omega.{arith}
use Prim.Native.Nat.{ℕ, zero, suc, ◌≤◌}
use lib.Dec.{eqb, leb}
use lib.ListN.{length, get_or, set}
use Rattle.ledger_steps.specs.declared.Accepted.{Accepted}
use Rattle.ledger_steps.specs.declared.Accepted.TheVariants.{Duplicate, Unknown, Unique}
use Rattle.host_calls.specs.Calls as host_calls
use Rattle.host_calls.specs.Calls.{reply_of}
use Rattle.ledger_steps.specs.Accept.{AcceptOutcome}
use Rattle.ledger_steps.specs.Calls.{accept_by}
use Rattle.host_accept_words.specs.Accept.{accept_from}
use Rattle.host_burst.specs.Burst.{burst_refusal}
use Rattle.host_burst.specs.Entries.{answer_in, refused_row, row_after}

-- of two flags that say the same the reply is the same
pub same-reply : (sender reflector t3 time tag p q : ℕ) → eqb p 0 ≡ eqb q 0 → reply_of sender reflector t3 p time tag ≡ reply_of sender reflector t3 q time tag
same-reply sender reflector t3 time tag p q e = λ i. record {
  key = record { sender = sender; reflector = reflector; t3 = t3 };
  pending = cond (e i) None (Some (record { time = time; tag = tag }));
}

-- a row that is not there is not written
pub set_outside : (rows : List (List ℕ)) (n : ℕ) (row : List ℕ) → length rows ≤ n → rows ≡ set rows n row
set_outside [] n row h = refl
set_outside (x ∷ rows) zero row h = absurd (omega (arith, h))
set_outside (x ∷ rows) (suc n) row h = ap (λ (more : List (List ℕ)). x ∷ more) (set_outside rows n row (omega (arith, h)))

-- the words of an answer are six
pub six : (x : Accepted) → let w = host_calls.accepted_words x in w ≡ get_or w 0 0 ∷ get_or w 1 0 ∷ get_or w 2 0 ∷ get_or w 3 0 ∷ get_or w 4 0 ∷ get_or w 5 0 ∷ []
six Duplicate = refl
six Unknown = refl
six (Unique packet None train) = refl
six (Unique packet (Some n) train) = refl

-- the row of an entry that is refused
pub refused_row_lem : (row : List ℕ) (n : ℕ) (words : List ℕ) → (n ≡ 0 → ⊥) → refused_row row n ≡ row_after row n words
refused_row_lem row zero words h = absurd (h refl)
refused_row_lem row (suc n) words h = refl

-- The row of a call, whatever words its answer began with: what the call leaves in the words that stand in the row.
-- k is the call's refusal, o what it leaves where it is served.
pub row_of_call : (w begun row : List ℕ) (k : ℕ) (o : AcceptOutcome) (keys slots probes links : List (List ℕ))
    → let x = accept_from w begun (accept_by k o keys slots probes links) in let y = accept_from w (answer_in row) (accept_by k o keys slots probes links) in row_after row x.number x.answer ≡ y.number ∷ y.answer
row_of_call w begun row zero o keys slots probes links = ap (λ (v : List ℕ). 0 ∷ v) (sym (six o.accepted))
row_of_call w begun row (suc k) o keys slots probes links = refl

-- the refusal of a list, by the code's one test
pub refusal-by : (entries rows : ℕ) (b : Bool) → eqb rows entries && leb entries 256 ≡ b → cond b 0 5 ≡ burst_refusal entries rows
refusal-by entries rows b e = sym (ap (λ (x : Bool). cond x 0 5) e)
