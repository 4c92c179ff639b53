-- From one entry to all entries of a list: what the calls in a row leave is what the definition says. Assumes nothing.
use Rattle.std.specs.Prelude.{Result}
use Rattle.ledger_steps.specs.declared.Accepted.{Accepted}
use mathlib.Core.Path.{◌≡◌, refl, sym, ap, ◌∙◌}
use mathlib.Core.Bool.{cond}
use mathlib.Core.List.{List, [], ◌∷◌}
use native.Mathlib.Omega.{arith}
use Prim.Native.Nat.{ℕ, zero, suc, ◌+◌, ◌≤◌, ◌<◌}
use lib.Dec.{eqb}
use lib.ListN.{length, get_or, set}
use Rattle.call_types.specs.declared.Reply.{Reply}
use Rattle.probe_queue.specs.declared.QueuedProbe.{QueuedProbe}
use Rattle.monitor.specs.declared.Monitor.{Monitor}
use Rattle.ledger_state.specs.declared.Ledger.{Ledger}
use Rattle.monitor.specs.Refusals as monitor
use Rattle.ledger_steps.specs.Refusals.{refusal_of_accept}
use Rattle.ledger_steps.specs.Accept.{AcceptOutcome, accept_on}
use Rattle.ledger_steps.specs.Calls.{accept_by}
use Rattle.ledger_steps.specs.Calls as ledger
use Rattle.ledger_watched.specs.Watched.{accept_number, both_accept, accept_to}
use Rattle.host_ledger.specs.Words.{ledger_at}
use Rattle.host_monitor_words.specs.Words.{monitor_at}
use Rattle.host_watched_accept_words.specs.declared.ReplyAnswer.{ReplyAnswer}
use Rattle.host_watched_accept_words.specs.Calls.{Left, answer_after, ended, zeros}
use Rattle.host_watched_accept_words.specs.Calls as calls
use Rattle.host_watched_accept.specs.Calls.{watched_accept_to}
use Rattle.host_burst.specs.Burst.{Burst, left, listed, burst_refusal, one_more, up_to}
use Rattle.host_burst.specs.Entries.{reply_at, answer_in, row_after}
use Rattle.host_burst.proofs.Steps.{six}
use Rattle.host_burst.proofs.Folds.{up_none, up_more, list_ends}
use Rattle.host_watched_accept_burst.specs.Burst.{Lent, lent, accept_entry, watched_burst}

-- ---- one entry

-- the answer of the call with this refusal, with a monitor that then stands
abbrev given_by : ℕ → AcceptOutcome → Monitor → (keys slots probes links : List (List ℕ)) → Result (Ledger × Monitor × Accepted) ℕ
given_by k o m keys slots probes links = both_accept (accept_by k o keys slots probes links).answer m

-- its row, whatever words its answer began with: k is the call's refusal, o what it leaves where it is served
row_by : (row : List ℕ) (k : ℕ) (o : AcceptOutcome) (m : Monitor) (keys slots probes links : List (List ℕ))
    → let g = given_by k o m keys slots probes links in row_after row (accept_number g) (answer_after zeros g) ≡ accept_number g ∷ answer_after (answer_in row) g
row_by row zero o m keys slots probes links = ap (λ (v : List ℕ). 0 ∷ v) (sym (six o.accepted))
row_by row (suc k) o m keys slots probes links = refl

row_is : (row : List ℕ) (l : Ledger) (m : Monitor) (keys slots probes links : List (List ℕ)) (queue : List QueuedProbe) (a : Reply)
    → let g = (accept_to l m keys slots probes links queue a).answer in row_after row (accept_number g) (answer_after zeros g) ≡ accept_number g ∷ answer_after (answer_in row) g
unfolding accept_to ledger.accept_to
row_is row l m keys slots probes links queue a =
    row_by row (refusal_of_accept (monitor.refusal_of m (length queue)) l (length keys) (length slots) (length probes) (length links)) (accept_on l keys slots probes links a) _ keys slots probes links

entry_ends :
    (ledger monitor : List ℕ) (keys slots probes links : List (List ℕ)) (queue : List QueuedProbe) (entries : List (List ℕ)) (i : ℕ) (answers : List (List ℕ))
    (reply : Reply) (given : ReplyAnswer) (ledger' monitor' : List ℕ) (keys' slots' probes' links' : List (List ℕ)) (queue' : List QueuedProbe) (answers' : List (List ℕ))
    → reply ≡ reply_at (get_or entries i [])
    → calls.left given.number ledger' monitor' keys' slots' probes' links' queue' given.words ≡ ended ledger monitor zeros (accept_to (ledger_at ledger) (monitor_at monitor) keys slots probes links queue reply)
    → answers' ≡ set answers i (row_after (get_or answers i []) given.number given.words)
    → left (lent ledger' monitor' keys' slots' probes' links' queue') answers' ≡ one_more accept_entry entries (left (lent ledger monitor keys slots probes links queue) answers) i
unfolding watched_accept_to
entry_ends ledger monitor keys slots probes links queue entries i answers reply given ledger' monitor' keys' slots' probes' links' queue' answers' er eg ea =
    let row = get_or answers i [] in
    let a = reply_at (get_or entries i []) in
    let whole = ended ledger monitor zeros (accept_to (ledger_at ledger) (monitor_at monitor) keys slots probes links queue a) in
    let state : Left → Lent = λ x. lent x.ledger x.monitor x.keys x.slots x.probes x.links x.queue in
    ap (left (lent ledger' monitor' keys' slots' probes' links' queue')) ea
    ∙ ap (λ (x : Left). left (state x) (set answers i (row_after row x.number x.answer)))
    (eg ∙ ap (λ (y : Reply). ended ledger monitor zeros (accept_to (ledger_at ledger) (monitor_at monitor) keys slots probes links queue y)) er)
    ∙ ap (λ (new : List ℕ). left (state whole) (set answers i new)) (row_is row (ledger_at ledger) (monitor_at monitor) keys slots probes links queue a)

-- ---- the loop
module _ (ledger₀ monitor₀ : List ℕ) (keys₀ slots₀ probes₀ links₀ : List (List ℕ)) (queue₀ : List QueuedProbe) (entries : List (List ℕ)) (count : ℕ) (answers₀ : List (List ℕ)) (refusal : ℕ) where
  abbrev begun : Burst Lent
  begun = left (lent ledger₀ monitor₀ keys₀ slots₀ probes₀ links₀ queue₀) answers₀

  -- what stands after i entries
  abbrev pub Serves : ℕ → (ledger monitor : List ℕ) → (keys slots probes links : List (List ℕ)) → List QueuedProbe → List (List ℕ) → Type 0
  Serves i ledger monitor keys slots probes links queue answers = left (lent ledger monitor keys slots probes links queue) answers ≡ up_to accept_entry entries begun i

  pub begins_serving : Serves 0 ledger₀ monitor₀ keys₀ slots₀ probes₀ links₀ queue₀ answers₀
  begins_serving = up_none accept_entry entries begun

  pub serves_on : (i : ℕ) (ledger monitor : List ℕ) (keys slots probes links : List (List ℕ)) (queue : List QueuedProbe) (answers : List (List ℕ))
      (reply : Reply) (given : ReplyAnswer) (ledger' monitor' : List ℕ) (keys' slots' probes' links' : List (List ℕ)) (queue' : List QueuedProbe) (answers' : List (List ℕ))
      → Serves i ledger monitor keys slots probes links queue answers → i < count
      → reply ≡ reply_at (get_or entries i [])
      → calls.left given.number ledger' monitor' keys' slots' probes' links' queue' given.words ≡ ended ledger monitor zeros (accept_to (ledger_at ledger) (monitor_at monitor) keys slots probes links queue reply)
      → answers' ≡ set answers i (row_after (get_or answers i []) given.number given.words)
      → Serves (i + 1) ledger' monitor' keys' slots' probes' links' queue' answers'
  serves_on i ledger monitor keys slots probes links queue answers reply given ledger' monitor' keys' slots' probes' links' queue' answers' h less er eg ea =
      up_more accept_entry entries begun (left (lent ledger monitor keys slots probes links queue) answers) (left (lent ledger' monitor' keys' slots' probes' links' queue') answers') i h
      (entry_ends ledger monitor keys slots probes links queue entries i answers reply given ledger' monitor' keys' slots' probes' links' queue' answers' er eg ea)

  pub all_served : (i : ℕ) (ledger monitor : List ℕ) (keys slots probes links : List (List ℕ)) (queue : List QueuedProbe) (answers : List (List ℕ)) (r : ℕ)
      → Serves i ledger monitor keys slots probes links queue answers → i ≤ count → count ≤ i → r ≡ refusal
      → (left (lent ledger monitor keys slots probes links queue) answers ≡ up_to accept_entry entries begun count) × (r ≡ refusal)
  all_served i ledger monitor keys slots probes links queue answers r h most least er =
      let e : i ≡ count = omega (arith, most, least) in
      (h ∙ ap (up_to accept_entry entries begun) e, er)

-- ---- the list
pub burst-ends :
    (ledger monitor : List ℕ) (keys slots probes links : List (List ℕ)) (queue : List QueuedProbe) (entries answers : List (List ℕ)) (refusal count r : ℕ)
    (ledger' monitor' : List ℕ) (keys' slots' probes' links' : List (List ℕ)) (queue' : List QueuedProbe) (answers' : List (List ℕ))
    → refusal ≡ burst_refusal (length entries) (length answers) → count ≡ cond (eqb refusal 0) (length entries) 0
    → (left (lent ledger' monitor' keys' slots' probes' links' queue') answers' ≡ up_to accept_entry entries (left (lent ledger monitor keys slots probes links queue) answers) count) × (r ≡ refusal)
    → listed r (left (lent ledger' monitor' keys' slots' probes' links' queue') answers') ≡ watched_burst (lent ledger monitor keys slots probes links queue) entries answers
unfolding watched_burst
burst-ends ledger monitor keys slots probes links queue entries answers refusal count r ledger' monitor' keys' slots' probes' links' queue' answers' ef ec er =
    (λ i. listed (er.1 i) (er.0 i)) ∙ list_ends accept_entry (lent ledger monitor keys slots probes links queue) entries answers refusal count ef ec
