-- The number that each call returns, after any calls, follows from the calls that were served. Assumes nothing.
use mathlib.Core.Path.{◌≡◌, refl, sym, ap, ◌∙◌}
use mathlib.Core.Bool.{Bool, true, false, not, ◌||◌, ◌&&◌}
use mathlib.Core.List.{List, [], ◌∷◌, map}
use Prim.Native.Nat.{ℕ, zero, suc, ◌+◌, ◌^◌}
use lib.Dec.{leb, ltb}
use lib.ListN.{length}
use borrow.Author.Tests.{le-ltb, lt-ltb, leb-true, leb-false}
use Rattle.limits.specs.Limits.{capacity, most_calls}
use Rattle.call_types.specs.declared.Call.{Call}
use Rattle.ranges.specs.Ranges.{in_range}
use Rattle.probe_queue.specs.Queue.{choose}
use Rattle.monitor_model.specs.Plain.{Sent, Plain}
use Rattle.monitor_model.specs.Playing as monitor
use Rattle.ledger_state.specs.Refusal.{first_refusal}
use Rattle.ledger_steps.specs.Refusals.{earlier}
use Rattle.history.specs.Ledger.{count, awaiting, events}
use Rattle.reply_history.specs.Follows.{awaits_in}
use Rattle.link_history.specs.Shows.{calls_in}
use Rattle.link_history.specs.Fresh as making
use Rattle.link_mixed_history.specs.Shows.{plain_from, number_from}
use Rattle.link_mixed_history.proofs.Whole.{mixed-shows}
use Rattle.host_observation.specs.Observation.{observation_at}
use Rattle.host_mixed_history.specs.Hosted.{mixed_told}
use Rattle.host_typed_history.proofs.Shows.{all_fit}
use Rattle.host_plain_history.specs.Host.{Memory, HostCall, sent, watched_sent, accept, watched_accept, observe, monitor_sent, monitor_reply, monitor_advance, monitor_idle, play, after, told, onto, ledger_calls, monitor_calls, Settings, begun, Fits, Typed, AllTyped}
use Rattle.host_plain_history.specs.Monitor.{Watch}
use Rattle.host_plain_history.specs.Numbers.{ledger_full, watch_full, heard_number, returned}
use Rattle.host_plain_history.specs.Reads.{monitor_by}
use Rattle.host_plain_history.proofs.Monitor.{waiting, as_watch, watch_is}
use Rattle.host_plain_history.proofs.Host.{mixed_of, all_of, said_of, fit_all, making_of, making_fits, number_is, ledger_calls_lem, monitor_calls_lem, all_served}

-- ---- 4 of the ledger, by how many calls it was served

one_more : (n : ℕ) (c : HostCall) (h : List Call) → calls_in h ≡ length h → calls_in (onto n (told c) h) ≡ length (onto n (told c) h)
unfolding count
one_more zero (sent sequence ordinal train time tag) h e = ap suc e
one_more zero (watched_sent sequence ordinal train time tag) h e = ap suc e
one_more zero (accept sender reflector t3 pending time tag) h e = ap suc e
one_more zero (watched_accept sender reflector t3 pending time tag) h e = ap suc e
one_more zero (observe words) h e = ap suc e
one_more zero (monitor_sent sequence time) h e = e
one_more zero (monitor_reply sequence) h e = e
one_more zero (monitor_advance time) h e = e
one_more zero monitor_idle h e = e
one_more (suc n) c h e = e

all_counted : (x : Memory) (cs : List HostCall) → calls_in (ledger_calls x cs) ≡ length (ledger_calls x cs)
unfolding ledger_calls count
all_counted x [] = refl
all_counted x (c ∷ cs) = one_more (play (after x cs) c).number c (ledger_calls x cs) (all_counted x cs)

below_not : (m n : ℕ) (b : Bool) → leb m n ≡ b → ltb n m ≡ not b
below_not m n true e = le-ltb n m (leb-true m n e)
below_not m n false e = lt-ltb n m (leb-false m n e)

room_is : (h : List Call) → calls_in h ≡ length h → ltb (calls_in h) most_calls ≡ not (ledger_full h)
room_is h e = ap (λ (n : ℕ). ltb n most_calls) e ∙ below_not most_calls (length h) (ledger_full h) refl

-- ---- the table's order

-- the ledger's refusal by whether it is full
abbrev own : Bool → ℕ
own room = first_refusal true true true room true true

alone_by : (full : Bool) → earlier (own (not full)) 0 ≡ choose full 4 0
unfolding earlier
alone_by true = refl
alone_by false = refl

sent-by : (full p q r : Bool) → earlier (own (not full)) (choose p 6 (choose q 4 (choose r 3 0))) ≡ choose p 6 (choose (full || q) 4 (choose r 3 0))
unfolding earlier
sent-by true true q r = refl
sent-by true false true r = refl
sent-by true false false true = refl
sent-by true false false false = refl
sent-by false true q r = refl
sent-by false false true r = refl
sent-by false false false true = refl
sent-by false false false false = refl

accept-by : (full q : Bool) → earlier (own (not full)) (choose q 4 0) ≡ choose (full || q) 4 0
unfolding earlier
accept-by true true = refl
accept-by true false = refl
accept-by false true = refl
accept-by false false = refl

observe-by : (ranged full awaits : Bool) → first_refusal true ranged true (not full) awaits true ≡ choose (not ranged) 1 (choose full 4 (choose (not awaits) 2 0))
observe-by false full awaits = refl
observe-by true true awaits = refl
observe-by true false true = refl
observe-by true false false = refl

-- ---- the monitor's

map-length : (ps : List Sent) → length (map waiting ps) ≡ length ps
map-length [] = refl
map-length (p ∷ ps) = ap suc (map-length ps)

heard-by : (full : Bool) (time : ℕ) (p : Plain)
    → heard_number full time (as_watch p) ≡ choose (leb (2 ^ 64) (time + p.timeout)) 6 (choose full 4 (choose (ltb 0 p.timeout && leb capacity (length p.probes)) 3 0))
heard-by full time p = ap (λ (n : ℕ). choose (leb (2 ^ 64) (time + p.timeout)) 6 (choose full 4 (choose (ltb 0 p.timeout && leb capacity n) 3 0))) (map-length p.probes)

module _ (threshold timeout : ℕ) (h : List Call) (counted : calls_in h ≡ length h) (ops : List monitor.Call) where
  -- each number, over the plain model
  number-plain : (c : HostCall) → number_from (making.watching threshold timeout) h ops (mixed_told (mixed_of c)) ≡ returned h (as_watch (plain_from threshold timeout ops)) c
  unfolding monitor.play_plain
  number-plain (sent sequence ordinal train time tag) = ap (λ (b : Bool). earlier (own b) 0) (room_is h counted) ∙ alone_by (ledger_full h)
  number-plain (watched_sent sequence ordinal train time tag) =
      let w = plain_from threshold timeout ops in
      ap (λ (b : Bool). earlier (own b) (choose (leb (2 ^ 64) (time + w.timeout)) 6 (choose (watch_full (as_watch w)) 4 (choose (ltb 0 w.timeout && leb capacity (length w.probes)) 3 0)))) (room_is h counted)
      ∙ sent-by (ledger_full h) (leb (2 ^ 64) (time + w.timeout)) (watch_full (as_watch w)) (ltb 0 w.timeout && leb capacity (length w.probes))
      ∙ sym (heard-by (ledger_full h || watch_full (as_watch w)) time w)
  number-plain (accept sender reflector t3 pending time tag) = ap (λ (b : Bool). earlier (own b) 0) (room_is h counted) ∙ alone_by (ledger_full h)
  number-plain (watched_accept sender reflector t3 pending time tag) =
      let w = plain_from threshold timeout ops in
      ap (λ (b : Bool). earlier (own b) (choose (watch_full (as_watch w)) 4 0)) (room_is h counted) ∙ accept-by (ledger_full h) (watch_full (as_watch w))
  number-plain (observe words) =
      let o = observation_at words in
      ap (λ (b : Bool). first_refusal true (in_range o) true b (awaits_in (awaiting (events capacity h)) o.key) true) (room_is h counted)
      ∙ observe-by (in_range o) (ledger_full h) (awaits_in (awaiting (events capacity h)) o.key)
  number-plain (monitor_sent sequence time) = sym (heard-by (watch_full (as_watch (plain_from threshold timeout ops))) time (plain_from threshold timeout ops))
  number-plain (monitor_reply sequence) = refl
  number-plain (monitor_advance time) = refl
  number-plain monitor_idle = refl

-- THE THEOREM. Whatever was called before, the number that the next call returns is document 01's, worked out from the calls that returned 0.
pub returned_plainly : (s : Settings) (x : Memory) → Fits s x → (cs : List HostCall) → AllTyped cs → (c : HostCall) → Typed c
    → (play (after (begun s x) cs) c).number ≡ returned (ledger_calls (begun s x) cs) (monitor_by s (monitor_calls (begun s x) cs)) c
returned_plainly s x fits cs w c typed =
    number_is s x fits cs w c typed
    ∙ (mixed-shows (making_of s x) (making_fits s x fits) (said_of cs) (all_fit (all_of cs) (fit_all cs w)).1).numbers (mixed_told (mixed_of c))
    ∙ sym (λ i. number_from (making.watching s.threshold s.timeout) (ledger_calls_lem s x fits cs w i) (monitor_calls_lem s x fits cs w i) (mixed_told (mixed_of c)))
    ∙ number-plain s.threshold s.timeout (ledger_calls (begun s x) cs) (all_counted (begun s x) cs) (monitor_calls (begun s x) cs) c
    ∙ ap (λ (v : Watch). returned (ledger_calls (begun s x) cs) v c) (sym (watch_is s.threshold s.timeout (monitor_calls (begun s x) cs) (all_served s x fits cs w)))
