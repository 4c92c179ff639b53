-- The counts of replies: what each served call adds to them is what it adds to the history's.
-- Assumes nothing.
use Rattle.std.specs.Prelude.{Option, Some, None}
use Rattle.call_types.specs.declared.PendingPacket.{PendingPacket}
use mathlib.Core.Path.{◌≡◌, refl}
use mathlib.Core.Bool.{Bool, true, false, not, ◌&&◌}
use mathlib.Core.List.{List, ◌∷◌}
use Prim.Native.Nat.{ℕ, suc, ◌+◌, ◌-◌, ◌*◌, ◌^◌, ◌<◌, min}
use native.Mathlib.Nat.{mul-suc}
use native.Mathlib.Omega.{arith}
use lib.Dec.{eqb, ltb}
use lib.ListN.{length}
use Rattle.call_types.specs.declared.ReplyObservation.{ReplyObservation}
use Rattle.call_types.specs.declared.SentProbe.{SentProbe}
use Rattle.call_types.specs.declared.Reply.{Reply}
use Rattle.call_types.specs.declared.Call.TheVariants.{Sent, Accept, Observe, Advance, Idle}
use Rattle.call_types.specs.declared.Call.{Call}
use Rattle.probe_ring.specs.Row.{most_replies}
use Rattle.replies.specs.Served as served
use Rattle.replies.specs.Served.{after_sent, after_duplicate, after_unknown, after_unique, highest_after, is_reordered}
use Rattle.history.specs.Counting.{tally, has, present}
use Rattle.history.specs.Given.{packet_of}
use Rattle.history.specs.Ledger.{Event, Class, duplicate, unknown, unique, accepted, held, reply_class, ready, before, after_reply, events, count, is_sent, is_class, is_answered, is_additional, is_late, is_satisfying, is_reordered as is_behind, is_independent, behind, last_reflector, highest_reflector, replies, oldest, probes_evicted, evicted_unanswered}
use Rattle.ledger_steps.specs.Accept.{is_pending}
use Rattle.reply_history.specs.Fits.{KeyFits}
use Rattle.reply_history.specs.Follows.{as_reflector, replies_in}
use Rattle.reply_history.proofs.Saturation.{none_yet, some_before, below-copies}
use Rattle.reply_history.proofs.Numbers.{KeysFit, ready-accepted, highest-fits, highest-same, behind-same}

pub tally-same : (b : Bool) (n : ℕ) → served.tally b n ≡ tally b n
tally-same true n = omega arith
tally-same false n = refl

one : (n : ℕ) → n + 1 ≡ suc n
one n = omega arith

pub pending_same : (p : Option PendingPacket) → is_pending p ≡ present (packet_of p)
pending_same None = refl
pending_same (Some q) = refl

module _ (N copies : ℕ) (h : List Call) where
  -- ---- `sent`

  pub counts-sent : (s : SentProbe) (evicted lost : Bool) → evicted ≡ (eqb (length (held N (events N h))) N && not (has (held N (events N h)) s.sequence))
      → lost ≡ (eqb (length (held N (events N h))) N && not (has (held N (events N h)) s.sequence) && eqb (replies (oldest s.sequence (held N (events N h))) (events N h)) 0)
      → after_sent copies evicted lost (replies_in N copies h) ≡ replies_in N copies (Sent s ∷ h)
  unfolding after_sent count events accepted probes_evicted evicted_unanswered
  counts-sent s evicted lost e f =
      rw (
        e,
        f,
        tally-same (eqb (length (held N (events N h))) N && not (has (held N (events N h)) s.sequence)) (probes_evicted N (events N h)),
        tally-same (eqb (length (held N (events N h))) N && not (has (held N (events N h)) s.sequence) && eqb (replies (oldest s.sequence (held N (events N h))) (events N h)) 0) (evicted_unanswered N (events N h)),
        mul-suc,
      )

  -- ---- calls that are no replies

  pub counts-observe : (o : ReplyObservation) → replies_in N copies h ≡ replies_in N copies (Observe o ∷ h)
  unfolding count events accepted probes_evicted evicted_unanswered
  counts-observe o = refl

  pub counts-advance : (t : ℕ) → replies_in N copies h ≡ replies_in N copies (Advance t ∷ h)
  unfolding count events
  counts-advance t = refl

  pub counts-idle : replies_in N copies h ≡ replies_in N copies (Idle ∷ h)
  unfolding count events
  counts-idle = refl

  -- ---- `accept`

  module _ (a : Reply) where
    abbrev es : List Event
    es = events N h

    abbrev class : Class
    class = reply_class N es a.key (packet_of a.pending)

    pub counts-duplicate : class ≡ duplicate → after_duplicate (replies_in N copies h) ≡ replies_in N copies (Accept a ∷ h)
    unfolding after_duplicate count events after_reply
    counts-duplicate e = rw (e, one (count N (is_class N duplicate) h))

    pub counts-unknown : class ≡ unknown → after_unknown (replies_in N copies h) ≡ replies_in N copies (Accept a ∷ h)
    unfolding after_unknown count events after_reply
    counts-unknown e = rw (e, one (count N (is_class N unknown) h))

    module _ (e : class ≡ unique) (probe lost key : Bool) (copies_in : copies < 2 ^ 16) (key_fits : KeyFits a.key) (all_fit : KeysFit (accepted es))
        (probe_is : served.tally probe (probes_evicted N es) ≡ probes_evicted N (ready N es a.key (packet_of a.pending)))
        (lost_is : served.tally lost (evicted_unanswered N es) ≡ evicted_unanswered N (ready N es a.key (packet_of a.pending)))
        (key-is : served.tally key (length (accepted es) - N) ≡ suc (length (accepted es)) - N) where
      -- the replies that its probe had before it
      abbrev had : ℕ
      had = before N a.key (packet_of a.pending) es

      unique_more : count N (is_class N unique) h + 1 ≡ count N (is_class N unique) (Accept a ∷ h)
      unfolding count
      unique_more = rw e (one (count N (is_class N unique) h))

      duplicate-same : count N (is_class N duplicate) h ≡ count N (is_class N duplicate) (Accept a ∷ h)
      unfolding count
      duplicate-same = rw e

      unknown-same : count N (is_class N unknown) h ≡ count N (is_class N unknown) (Accept a ∷ h)
      unfolding count
      unknown-same = rw e

      answered_more : served.tally (eqb (min had most_replies) 0) (count N (is_answered N) h) ≡ count N (is_answered N) (Accept a ∷ h)
      unfolding count
      answered_more = rw (e, none_yet had) (tally-same (eqb had 0) (count N (is_answered N) h))

      additional_more : served.tally (ltb 0 (min had most_replies)) (count N (is_additional N) h) ≡ count N (is_additional N) (Accept a ∷ h)
      unfolding count
      additional_more = rw (e, some_before had) (tally-same (not (eqb had 0)) (count N (is_additional N) h))

      late_more : served.tally (eqb (min had most_replies) 0 && not (is_pending a.pending)) (count N (is_late N) h) ≡ count N (is_late N) (Accept a ∷ h)
      unfolding count
      late_more = rw (e, none_yet had, pending_same a.pending) (tally-same (eqb had 0 && not (present (packet_of a.pending))) (count N (is_late N) h))

      satisfied_more : served.tally (ltb (min had most_replies) copies) (count N (is_satisfying N copies) h) ≡ count N (is_satisfying N copies) (Accept a ∷ h)
      unfolding count
      satisfied_more = rw (e, below-copies had copies copies_in) (tally-same (ltb had copies) (count N (is_satisfying N copies) h))

      reordered_more : served.tally (is_reordered (as_reflector (highest_reflector (accepted es))) a.key.reflector) (count N (is_behind N) h) ≡ count N (is_behind N) (Accept a ∷ h)
      unfolding count
      reordered_more = rw (e, behind-same a.key.reflector (highest_reflector (accepted es))) (tally-same (behind a.key.reflector (highest_reflector (accepted es))) (count N (is_behind N) h))

      independent_more : served.tally (not (eqb a.key.reflector a.key.sender)) (count N (is_independent N) h) ≡ count N (is_independent N) (Accept a ∷ h)
      unfolding count
      independent_more = rw e (tally-same (not (eqb a.key.reflector a.key.sender)) (count N (is_independent N) h))

      requested-same : copies * count N is_sent h ≡ copies * count N is_sent (Accept a ∷ h)
      unfolding count
      requested-same = refl

      pub accepted_more : accepted (events N (Accept a ∷ h)) ≡ a.key ∷ accepted es
      unfolding events after_reply accepted
      accepted_more = rw (e, ready-accepted N es a.key (packet_of a.pending))

      probes_evicted_more : served.tally probe (probes_evicted N es) ≡ probes_evicted N (events N (Accept a ∷ h))
      unfolding events after_reply probes_evicted
      probes_evicted_more = rw e probe_is

      unanswered_more : served.tally lost (evicted_unanswered N es) ≡ evicted_unanswered N (events N (Accept a ∷ h))
      unfolding events after_reply evicted_unanswered
      unanswered_more = rw e lost_is

      replies_evicted_more : served.tally key (length (accepted es) - N) ≡ length (accepted (events N (Accept a ∷ h))) - N
      replies_evicted_more = rw accepted_more key-is

      last_is : Some a.key.reflector ≡ as_reflector (last_reflector (accepted (events N (Accept a ∷ h))))
      last_is = rw accepted_more

      highest_is : highest_after (as_reflector (highest_reflector (accepted es))) a.key.reflector ≡ as_reflector (highest_reflector (accepted (events N (Accept a ∷ h))))
      unfolding highest_reflector
      highest_is = rw accepted_more (highest-same a.key.reflector (highest_reflector (accepted es)) key_fits.reflector_in (highest-fits (accepted es) all_fit))

      -- EVERY COUNT AFTER A UNIQUE REPLY.
      pub counts-unique :
          after_unique (min had most_replies) copies (is_pending a.pending) a.key.sender a.key.reflector probe lost key (replies_in N copies h)
          ≡ replies_in N copies (Accept a ∷ h)
      unfolding after_unique
      counts-unique = λ i. record {
        totals = record { requested = requested-same i; unique = unique_more i; duplicate = duplicate-same i; unknown = unknown-same i };
        answers = record { answered = answered_more i; additional = additional_more i; late = late_more i; satisfied = satisfied_more i };
        numbers = record { last = last_is i; highest = highest_is i; reordered = reordered_more i; independent = independent_more i };
        evicted = record { probes = probes_evicted_more i; replies = replies_evicted_more i; unanswered = unanswered_more i };
      }
