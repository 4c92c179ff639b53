-- From what each callee of a part leaves to the part. Assumes nothing.
use Rattle.std.specs.Prelude.{Option, Some, None}
use Rattle.call_types.specs.declared.CounterPoint.{CounterPoint}
use Rattle.monitor.specs.declared.Monitor.{Monitor}
use mathlib.Core.Path.{◌≡◌, refl, sym, ap, subst, ◌∙◌}
use mathlib.Core.Bool.{Bool, false}
use mathlib.Core.List.{List}
use Prim.Native.Nat.{ℕ, zero, suc}
use native.Mathlib.Omega.{arith}
use lib.Dec.{eqb}
use lib.ListN.{length}
use borrow.Author.Tests.{ne_eqb}
use Rattle.call_types.specs.declared.Call.{Call}
use Rattle.call_types.specs.declared.Call.TheVariants as call
use Rattle.call_types.specs.declared.SentProbe.{SentProbe}
use Rattle.call_types.specs.declared.Reply.{Reply}
use Rattle.call_types.specs.declared.ReplyObservation.{ReplyObservation}
use Rattle.reply_history.specs.Fits as history
use Rattle.record_parts.specs.Fits.{CountersFit, ObservationFits}
use Rattle.ledger_state.specs.declared.Ledger.{Ledger}
use Rattle.ledger_steps.specs.Refusals.{refusal_of_sent, refusal_of_accept, refusal_of_observe}
use Rattle.ledger_steps.specs.Sent.{sent_on}
use Rattle.ledger_steps.specs.Accept.{accept_on}
use Rattle.ledger_steps.specs.Observe.{observe_on}
use Rattle.ledger_steps.specs.Calls.{sent_by, accept_by, observe_by, sent_to, accept_to, observe_to}
use Rattle.ledger_steps.specs.Rooms.{Rooms}
use Rattle.host_observation.specs.Observation.{observation_at}
use Rattle.host_call_words.specs.Words.{observation_words}
use Rattle.host_call_words.proofs.Back.{observation-back}
use Rattle.host_ledger.specs.Words.{ledger_at}
use Rattle.host_ledger_read_back.proofs.Sent.{sent_back}
use Rattle.host_ledger_read_back.proofs.Accept.{accept-back}
use Rattle.host_observe_read_back.proofs.Observed.{observed-back}
use Rattle.host_sent_words.specs.Sent.{SentLeft, sent_left, sent_from}
use Rattle.host_accept_words.specs.Served.{served_words}
use Rattle.host_accept_words.specs.Accept.{AcceptLeft, accept_left, accept_from}
use Rattle.host_watched_accept_words.specs.declared.ReplyAnswer.{ReplyAnswer}
use Rattle.host_watched_accept_words.specs.Calls.{zeros, heard_in}
use Rattle.host_watched_accept_words.proofs.Joined.{heard_is}
use Rattle.host_observe_words.specs.Observe.{Left, left, left_by, observe_leaves}
use Rattle.log_play_parts.specs.declared.Part.{Part}
use Rattle.log_play_parts.specs.Parts.{CallFits, ReadFits, rooms_of, other_of, part_with, Parted, parted, by_sent, by_accept, by_observe, call_part, part_of}

-- the monitor's refusal of a call that is known
pub other_at : (w : Option Monitor) (room : ℕ) (r : Option Call) (c c' : Call) (n : ℕ) → r ≡ Some c → c ≡ c' → n ≡ other_of w (Some c') room → n ≡ other_of w r room
other_at w room r c c' n er ec en = en ∙ sym (ap (λ (x : Call). other_of w (Some x) room) ec) ∙ sym (ap (λ (x : Option Call). other_of w x room) er)

-- a refusal's number is not 0
not_zero : (k : ℕ) → suc k ≡ 0 → ⊥
not_zero k e = omega (arith, e)

-- ---- the observation in words, and back

pub observed-told : (w : List ℕ) (keys slots : List (List ℕ)) (offsets : List ℕ) (links : List (List ℕ)) (o : ReplyObservation) (words : List ℕ) (x : Left) → ObservationFits o → words ≡ observation_words o
    → x ≡ observe_leaves w keys slots offsets links words → x ≡ left_by (observe_to (ledger_at w) keys slots offsets links o) o.counters w
unfolding observe_leaves
observed-told w keys slots offsets links o words x fits ew ex =
    let same : observation_at words ≡ o = ap observation_at ew ∙ observation-back o fits in
    ex ∙ ap (λ (y : ReplyObservation). left_by (observe_to (ledger_at w) keys slots offsets links y) y.counters w) same

-- the counters of what was told, in the words of crate reply_history
counters_fit : (k : Option CounterPoint) → CountersFit k → history.CountersFit k
counters_fit None f = tt
counters_fit (Some p) f = record { sender_in = f.sender; received_in = f.received; transmitted_in = f.transmitted }

-- ---- what the words say after the ledger's call is the ledger after the call

module _ (other : ℕ) (w : List ℕ) (long : length w ≡ 80) (keys slots probes : List (List ℕ)) (offsets : List ℕ) (links : List (List ℕ)) where
  abbrev rooms : Rooms
  rooms = rooms_of keys slots probes offsets links

  -- `sent`: by what it left, and by the refusal's number k
  abbrev sent_parted : SentLeft → Parted
  sent_parted x = parted (part_with x.number (eqb x.number 0)) (ledger_at x.ledger) (rooms_of keys slots x.probes offsets x.links)

  sent-by : (s : SentProbe) (k : ℕ) → let r = sent_by k (sent_on (ledger_at w) probes links s) probes links in sent_parted (sent_from w r) ≡ by_sent (ledger_at w) rooms r
  sent-by s zero =
      let o = sent_on (ledger_at w) probes links s in
      ap (λ (l : Ledger). parted (part_with 0 (eqb 0 0)) l (rooms_of keys slots o.probes offsets o.links)) (sent_back w long probes links s)
  sent-by s (suc k) = ap (λ (go : Bool). parted (part_with (suc k) go) (ledger_at w) rooms) (ne_eqb (suc k) 0 (not_zero k))

  sent-parted : (s : SentProbe) → sent_parted (sent_from w (sent_to other (ledger_at w) probes links s)) ≡ by_sent (ledger_at w) rooms (sent_to other (ledger_at w) probes links s)
  unfolding sent_to
  sent-parted s = sent-by s (refusal_of_sent other (ledger_at w) (length probes) (length links))

  -- `accept`, likewise
  abbrev accept_parted : AcceptLeft → Parted
  accept_parted x = parted (part_with x.number (heard_in x.answer)) (ledger_at x.ledger) (rooms_of x.keys x.slots x.probes offsets x.links)

  accept-by : (a : Reply) → CallFits (call.Accept a) → (k : ℕ) → let r = accept_by k (accept_on (ledger_at w) keys slots probes links a) keys slots probes links in accept_parted (accept_from w zeros r) ≡ by_accept (ledger_at w) rooms r
  accept-by a h zero =
      let o = accept_on (ledger_at w) keys slots probes links a in
      let left' = rooms_of o.keys o.slots o.probes offsets o.links in
      let back = accept-back w long (served_words w) (λ l. refl) (λ l. refl) (λ l p n t. refl) keys slots probes links a h in
      λ j. parted (part_with 0 (heard_is o.accepted j)) (back j) left'
  accept-by a h (suc k) = refl

  accept-parted : (a : Reply) → CallFits (call.Accept a) → accept_parted (accept_from w zeros (accept_to other (ledger_at w) keys slots probes links a)) ≡ by_accept (ledger_at w) rooms (accept_to other (ledger_at w) keys slots probes links a)
  unfolding accept_to
  accept-parted a h = accept-by a h (refusal_of_accept other (ledger_at w) (length keys) (length slots) (length probes) (length links))

  -- `observe`, likewise
  abbrev observe_parted : Left → Parted
  observe_parted x = parted (part_with x.number false) (ledger_at x.ledger) (rooms_of keys x.slots probes x.offsets x.links)

  observe-by : (o : ReplyObservation) → ObservationFits o → (k : ℕ) → let r = observe_by k (observe_on (ledger_at w) keys slots offsets links o) slots offsets links in observe_parted (left_by r o.counters w) ≡ by_observe (ledger_at w) rooms r
  observe-by o h zero =
      let x = observe_on (ledger_at w) keys slots offsets links o in
      ap (λ (l : Ledger). parted (part_with 0 false) l (rooms_of keys x.slots probes x.offsets x.links)) (observed-back w keys slots offsets links o long (counters_fit o.counters h.counters))
  observe-by o h (suc k) = refl

  observe-parted : (o : ReplyObservation) → ObservationFits o → observe_parted (left_by (observe_to (ledger_at w) keys slots offsets links o) o.counters w) ≡ by_observe (ledger_at w) rooms (observe_to (ledger_at w) keys slots offsets links o)
  unfolding observe_to
  observe-parted o h = observe-by o h (refusal_of_observe (ledger_at w) keys (length slots) (length offsets) (length links) o)

  -- ---- the part of a call, by its kind

  module _ (c : Call) (fits : CallFits c) (p : Part) where
    pub by-sent : (s : SentProbe) (n : ℕ) (w' : List ℕ) (probes' links' : List (List ℕ)) → c ≡ call.Sent s → sent_left n w' probes' links' ≡ sent_from w (sent_to other (ledger_at w) probes links s) → p ≡ part_with n (eqb n 0)
        → parted p (ledger_at w') (rooms_of keys slots probes' offsets links') ≡ call_part other (ledger_at w) rooms c
    by-sent s n w' probes' links' ec ea ep =
        (λ j. parted (ep j) (ledger_at w') (rooms_of keys slots probes' offsets links')) ∙ ap sent_parted ea ∙ sent-parted s ∙ sym (ap (call_part other (ledger_at w) rooms) ec)

    pub by-accept : (a : Reply) (g : ReplyAnswer) (w' : List ℕ) (keys' slots' probes' links' : List (List ℕ)) → c ≡ call.Accept a
        → accept_left g.number w' keys' slots' probes' links' g.words ≡ accept_from w zeros (accept_to other (ledger_at w) keys slots probes links a) → p ≡ part_with g.number (heard_in g.words)
        → parted p (ledger_at w') (rooms_of keys' slots' probes' offsets links') ≡ call_part other (ledger_at w) rooms c
    by-accept a g w' keys' slots' probes' links' ec ea ep =
        (λ j. parted (ep j) (ledger_at w') (rooms_of keys' slots' probes' offsets links')) ∙ ap accept_parted ea ∙ accept-parted a (subst CallFits ec fits) ∙ sym (ap (call_part other (ledger_at w) rooms) ec)

    pub by-observe : (o : ReplyObservation) (n : ℕ) (w' : List ℕ) (slots' : List (List ℕ)) (offsets' : List ℕ) (links' : List (List ℕ)) → c ≡ call.Observe o
        → left n w' slots' offsets' links' ≡ left_by (observe_to (ledger_at w) keys slots offsets links o) o.counters w → p ≡ part_with n false
        → parted p (ledger_at w') (rooms_of keys slots' probes offsets' links') ≡ call_part other (ledger_at w) rooms c
    by-observe o n w' slots' offsets' links' ec ea ep =
        (λ j. parted (ep j) (ledger_at w') (rooms_of keys slots' probes offsets' links')) ∙ ap observe_parted ea ∙ observe-parted o (subst CallFits ec fits) ∙ sym (ap (call_part other (ledger_at w) rooms) ec)

-- a call that no word and no room is lent to
pub by-none : (other : ℕ) (l : Ledger) (rooms : Rooms) (c c' : Call) (p q : Part) → c ≡ c' → p ≡ q → parted q l rooms ≡ call_part other l rooms c' → parted p l rooms ≡ call_part other l rooms c
by-none other l rooms c c' p q ec ep e = (λ j. parted (ep j) l rooms) ∙ e ∙ sym (ap (call_part other l rooms) ec)

-- a record, and none
pub part_call : (other : ℕ) (l : Ledger) (rooms : Rooms) (r : Option Call) (c : Call) (x : Parted) → r ≡ Some c → x ≡ call_part other l rooms c → x ≡ part_of other l rooms r
part_call other l rooms r c x er e = e ∙ sym (ap (part_of other l rooms) er)

pub part_none : (other : ℕ) (l : Ledger) (rooms : Rooms) (r : Option Call) (p q : Part) → r ≡ None → p ≡ q → parted q l rooms ≡ part_of other l rooms None → parted p l rooms ≡ part_of other l rooms r
part_none other l rooms r p q er ep e = (λ j. parted (ep j) l rooms) ∙ e ∙ sym (ap (part_of other l rooms) er)
