-- Tests of observations alone, of marked records and of calls. Assumes nothing.
use Rattle.std.specs.Prelude.{Option, Some, None}
use mathlib.Core.Path.{◌≡◌, refl}
use mathlib.Core.Bool.{Bool, true, false, cond}
use mathlib.Core.List.{List}
use Prim.Native.Nat.{ℕ, ◌≤◌}
use lib.ListN.{length}
use Rattle.limits.specs.Limits.{capacity}
use Rattle.call_types.specs.declared.Reply.{Reply}
use Rattle.call_types.specs.declared.ReplyObservation.{ReplyObservation}
use Rattle.history.specs.Counting.{has, present}
use Rattle.history.specs.Given.{packet_of}
use Rattle.history.specs.Ledger.{Event, accepted, has_key, rememberings, on_observe}
use Rattle.recount_seen.specs.Seen.{reply_by}
use Rattle.recount_observed.specs.Observed.{observation_of}
use Rattle.recount_marks.specs.Marks.{reply_mark}
use Rattle.recount_history.proofs.Counts.{Agree, agrees}

module _ (watched : Bool) (t : ℕ) (f : Option ReplyObservation → List Event → Bool) (of_none : (es : List Event) → f None es ≡ false) where
  no_reply : (es : List Event) (a : Reply) → f (observation_of (reply_by (reply_mark es a) a)) es ≡ false
  unfolding reply_mark
  no_reply es a = go (has_key (accepted es) a.key) (has (rememberings es) a.key.sender) (present (packet_of a.pending))
    where
      go : (d b q : Bool) → f (observation_of (reply_by (cond d 2 (cond b 4 (cond q 5 3))) a)) es ≡ false
      go true b q = of_none es
      go false true q = of_none es
      go false false true = of_none es
      go false false false = of_none es

  -- it is enough that the two agree at an observation
  pub observe_agrees : (test : ReplyObservation → List Event → Bool)
      → ((es : List Event) → length (accepted es) ≤ capacity → (o : ReplyObservation) → f (Some o) es ≡ test o es)
      → Agree watched t (λ s es. f (observation_of s) es) (on_observe test)
  observe_agrees test same =
      agrees watched t (λ s es. f (observation_of s) es) of_none (on_observe test) (λ s es. of_none es) (λ es la lr a. no_reply es a) same (λ x es. refl) (λ es. refl)
