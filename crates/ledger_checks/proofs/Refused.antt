-- A refusal is the number of document 01's table, no other, and changes nothing; and why one of its lines never holds.
-- Assumes nothing.
use Rattle.std.specs.Prelude.{Result, Err}
use mathlib.Core.Path.{◌≡◌, refl, sym, ap}
use mathlib.Core.List.{List}
use Prim.Native.Nat.{ℕ, zero, suc, ◌+◌, ◌-◌}
use lib.ListN.{length, set}
use native.Mathlib.Omega.{arith}
use Rattle.call_types.specs.declared.Reply.{Reply}
use Rattle.call_types.specs.declared.ReplyKey.{ReplyKey}
use Rattle.call_types.specs.declared.ReplyObservation.{ReplyObservation}
use Rattle.call_types.specs.declared.SentProbe.{SentProbe}
use Rattle.chains.specs.declared.Ring.{Ring}
use Rattle.chains.specs.Rings.{RingFits}
use Rattle.chains.proofs.Tests.{lt_true}
use Rattle.chains.proofs.Places.{wrap-below}
use Rattle.key_ring.specs.Table.{newest_slot}
use Rattle.ledger_state.specs.declared.Ledger.{Ledger}
use Rattle.ledger_steps.specs.Refusals.{refusal_of_sent, refusal_of_accept, refusal_of_observe}
use Rattle.ledger_steps.specs.Sent.{SentOutcome, sent_on}
use Rattle.ledger_steps.specs.Accept.{AcceptOutcome, accept_on}
use Rattle.ledger_steps.specs.Observe.{ObserveOutcome, holder_of, own_words, own_in, observe_on}
use Rattle.ledger_steps.specs.Calls.{number, sent_result, sent_by, sent_to}
use Rattle.ledger_steps.specs.Calls.{accept_result, accept_by, accept_to}
use Rattle.ledger_steps.specs.Calls.{ObserveResult, observe_result, observe_by, observe_to}

-- ---- `sent`

module _ (probes links : List (List ℕ)) where
  sent-number_by : (k : ℕ) (o : SentOutcome) → number (sent_by k o probes links).answer ≡ k
  sent-number_by zero o = refl
  sent-number_by (suc k) o = refl

  sent-refused-by :
      (k : ℕ) (o : SentOutcome) (n : ℕ) → (sent_by k o probes links).answer ≡ Err n →
      (k ≡ n) × (sent_by k o probes links ≡ sent_result (Err n) probes links)
  sent-refused-by zero o n e = absurd (let z : ◌≡◌ {A = ℕ} 0 1 = cc in omega arith)
  sent-refused-by (suc k) o n e = (ap number e, ap (λ (a : Result Ledger ℕ). sent_result a probes links) e)

module _ (other : ℕ) (l : Ledger) (probes links : List (List ℕ)) (s : SentProbe) where
  -- the number of the answer is the table's on every input, 0 where the call is served
  pub sent-number : number (sent_to other l probes links s).answer ≡ refusal_of_sent other l (length probes) (length links)
  unfolding sent_to
  sent-number = sent-number_by probes links (refusal_of_sent other l (length probes) (length links)) (sent_on l probes links s)

  -- a refusal is that number and changes nothing
  pub sent-refused :
      (n : ℕ) → (sent_to other l probes links s).answer ≡ Err n →
      (refusal_of_sent other l (length probes) (length links) ≡ n) × (sent_to other l probes links s ≡ sent_result (Err n) probes links)
  unfolding sent_to
  sent-refused n e = sent-refused-by probes links (refusal_of_sent other l (length probes) (length links)) (sent_on l probes links s) n e

-- ---- `accept`

-- what a result by number n says where it is a refusal: n is that number, and the rooms are as they were
accept-refused-by : (m : ℕ) (o : AcceptOutcome) (keys slots probes links : List (List ℕ)) (n : ℕ) → (accept_by m o keys slots probes links).answer ≡ Err n
    → (n ≡ m) × (accept_by m o keys slots probes links ≡ accept_result (Err n) keys slots probes links)
accept-refused-by zero o keys slots probes links n e = let z : ◌≡◌ {A = ℕ} 0 1 = cc in absurd (omega arith)
accept-refused-by (suc m) o keys slots probes links n e =
    let same : n ≡ suc m = cc in
    (same, ap (λ (k : ℕ). accept_result (Err k) keys slots probes links) (sym same))

module _ (other : ℕ) (l : Ledger) (keys slots probes links : List (List ℕ)) (a : Reply) where
  abbrev refusal : ℕ
  refusal = refusal_of_accept other l (length keys) (length slots) (length probes) (length links)

  -- a refusal is the table's number and changes nothing
  pub accept-refused : (n : ℕ) → (accept_to other l keys slots probes links a).answer ≡ Err n
      → (n ≡ refusal) × (accept_to other l keys slots probes links a ≡ accept_result (Err n) keys slots probes links)
  unfolding accept_to
  accept-refused n e = accept-refused-by refusal (accept_on l keys slots probes links a) keys slots probes links n e

  -- and where the table has a number, the call is refused with it
  pub refused-accept : (n : ℕ) → refusal ≡ suc n → accept_to other l keys slots probes links a ≡ accept_result (Err (suc n)) keys slots probes links
  unfolding accept_to
  refused-accept n e = ap (λ (m : ℕ). accept_by m (accept_on l keys slots probes links a) keys slots probes links) e

-- ---- `observe`

module _ (slots : List (List ℕ)) (offsets : List ℕ) (links : List (List ℕ)) where
  -- what a refused observation says
  pub record Refused (out : ObserveResult) (n number : ℕ) : Type 0 where
    pub is_number : n ≡ number
    pub not_none : n ≡ 0 → ⊥
    pub unchanged : out ≡ observe_result (Err n) slots offsets links

  observe-refused-by : (k : ℕ) (out : ObserveOutcome) (n : ℕ) → (observe_by k out slots offsets links).answer ≡ Err n → Refused (observe_by k out slots offsets links) n k
  observe-refused-by zero out n e = absurd (let z : ◌≡◌ {A = ℕ} 0 1 = cc in omega arith)
  observe-refused-by (suc k) out n e =
      let q : n ≡ suc k = cc in
      record { is_number = q; not_none = λ z. omega arith; unchanged = rw q }

  observe_number-by : (k : ℕ) (out : ObserveOutcome) → number (observe_by k out slots offsets links).answer ≡ k
  observe_number-by zero out = refl
  observe_number-by (suc k) out = refl

module _ (l : Ledger) (keys slots : List (List ℕ)) (offsets : List ℕ) (links : List (List ℕ)) (o : ReplyObservation) where
  -- the number of the answer is the table's on every input, 0 where the call is served
  pub observe-number : number (observe_to l keys slots offsets links o).answer ≡ refusal_of_observe l keys (length slots) (length offsets) (length links) o
  unfolding observe_to
  observe-number = observe_number-by slots offsets links _ (observe_on l keys slots offsets links o)

  -- a refusal is that number, and every lent word stays as it was
  pub observe-refused : (n : ℕ) → (observe_to l keys slots offsets links o).answer ≡ Err n → Refused slots offsets links (observe_to l keys slots offsets links o) n (refusal_of_observe l keys (length slots) (length offsets) (length links) o)
  unfolding observe_to
  observe-refused n e = observe-refused-by slots offsets links _ (observe_on l keys slots offsets links o) n e

-- ---- refusal 5, "needs a new slot and none is free"

module _ (N : ℕ) (by_key : ReplyKey → ℕ) (by_number : ℕ → ℕ) where
  -- the awaiting key's own row is there in every ring that fits, and takes the slot: none is ever lacking
  pub own-place :
      (copies : ℕ) (ring : Ring) (keys slots links : List (List ℕ)) (o : ReplyObservation) → RingFits N ring
      → own_in N by_key by_number copies ring keys slots links o
      ≡ set slots (newest_slot N ring) (own_words N copies slots (holder_of N by_key by_number ring keys slots links o.key.reflector) o)
  unfolding own_in
  own-place copies ring keys slots links o fits =
      rw (lt_true (newest_slot N ring) N (wrap-below N (ring.head + (ring.len - 1)) (omega (arith, fits.head_in, fits.len_in))))
