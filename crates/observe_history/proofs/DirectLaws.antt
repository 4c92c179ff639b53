-- Direct loss follows from the served calls: a fresh ledger has it so, each observe keeps it, and no other call touches it. Assumes nothing.
use Rattle.std.specs.Prelude.{Some, None, Option}
use mathlib.Core.Path.{◌≡◌, refl, sym, ap, ap₂, ◌∙◌, subst}
use mathlib.Core.Bool.{Bool, true, false, cond}
use mathlib.Core.List.{List, ◌∷◌}
use Prim.Native.Nat.{ℕ, suc, ◌≤◌}
use native.Mathlib.Omega.{arith}
use native.Mathlib.Numerals.{add-one}
use lib.Dec.{ltb}
use lib.ListN.{length}
use Rattle.call_types.specs.declared.CounterPoint.{CounterPoint}
use Rattle.call_types.specs.declared.ReplyObservation.{ReplyObservation}
use Rattle.call_types.specs.declared.Call.{Call}
use Rattle.call_types.specs.declared.Call.TheVariants.{Observe}
use Rattle.chains.proofs.Tests.{lt_true}
use Rattle.direct.specs.declared.Counts.{Counts as StateCounts}
use Rattle.direct.specs.declared.Direct.{Direct}
use Rattle.direct.specs.Outcomes.{sought_in, seen_in}
use Rattle.offset_set.specs.Offsets as offset_set
use Rattle.offset_set.specs.Offsets.{OffsetSet}
use Rattle.offset_set.proofs.Laws.{contains_is}
use Rattle.history.specs.Counting.{tally, has}
use Rattle.history.specs.Given.{ordinal_of, counters_of}
use Rattle.history.specs.Ledger.{events, count}
use Rattle.history.specs.DirectLoss.{DirectClass, direct_class, with_counters, window, direct_at, is_direct, direct_counts, is_observation, is_unavailable, is_discontinuity, is_below, is_exceeded}
use Rattle.ledger_steps.specs.Observe.{DirectOutcome, direct_by, direct_in}
use Rattle.observe_history.specs.Direct.{window_of, seen_since, as_direct_counts, since, offsets_of, DirectFollows}
use Rattle.observe_history.proofs.Windows.{has_same}
use Rattle.observe_history.proofs.DirectSteps.{raised_by, counts_after, sought, sought-same, step_is, class_room}
use Rattle.observe_history.proofs.SeenOffsets.{Seen, seen-length, after_class}

-- ---- one observe

-- the counts after an observation, with counters or none
abbrev counts_with : ℕ → Option ℕ → Option CounterPoint → List CounterPoint → StateCounts → StateCounts
counts_with N o None w n = n
counts_with N o (Some c) w n = counts_after (direct_class N o c w) n

module _ (N : ℕ) (by_number : ℕ → ℕ) where
  -- what is left of the measurement and its room
  record Left (out : DirectOutcome) (n : StateCounts) (w : List CounterPoint) : Type 0 where
    counts : out.direct.counts ≡ n
    window : out.direct.window ≡ window_of w
    offsets : Seen N by_number (offsets_of out.direct out.offsets out.links) (seen_since w)

  module _ (n : StateCounts) (w : List CounterPoint) (s : OffsetSet) (size : s.count ≡ length w) (h : Seen N by_number s (seen_since w)) (o : Option ℕ) where
    abbrev standing : Direct
    standing = record { counts = n; window = window_of w }

    fits : length w ≤ N
    fits = omega (arith, h.sound.count_in)

    found : (c : CounterPoint) → offset_set.contains N by_number s (sought_in (window_of w) c) ≡ has (seen_since w) (sought w c)
    found c =
        contains_is N by_number s h.sound (sought_in (window_of w) c)
        ∙ ap₂ (λ (xs : List ℕ) (k : ℕ). offset_set.has xs k) h.offsets (sought-same w c)
        ∙ has_same (seen_since w) (sought w c)

    by-counters : (k : Option CounterPoint) → Left (direct_by N by_number k standing s o) (counts_with N (ordinal_of o) (counters_of k) w n) (with_counters N (ordinal_of o) (counters_of k) w)
    by-counters None = record { counts = refl; window = refl; offsets = rw (seen-length w, ← size) h }
    by-counters (Some c) =
        rw (step_is N c n w o (offset_set.contains N by_number s (sought_in (window_of w) c)) (found c)) (record {
          counts = refl;
          window = refl;
          offsets = after_class N by_number c (direct_class N (ordinal_of o) c w) w s size h (class_room N c (ordinal_of o) w fits);
        })

  -- ---- the counts of the history

  more_is : (b : Bool) (n : ℕ) → raised_by b n ≡ tally b n
  more_is true n = add-one n
  more_is false n = refl

  stays_set : (b : Bool) (n : ℕ) → cond b true (ltb 0 n) ≡ ltb 0 (tally b n)
  stays_set true n = sym (lt_true 0 (suc n) (omega arith))
  stays_set false n = refl

  -- a count with this observation
  abbrev now : ReplyObservation → List Call → (DirectClass → Bool) → Option CounterPoint → ℕ
  now o h test k = tally (direct_at N test (ordinal_of o.ordinal) k (events N h)) (count N (is_direct N test) h)

  counts_more : (o : ReplyObservation) (h : List Call)
      → counts_with N (ordinal_of o.ordinal) (counters_of o.counters) (since N h) (as_direct_counts (direct_counts N h)) ≡ as_direct_counts (direct_counts N (Observe o ∷ h))
  unfolding count
  counts_more o h = go (counters_of o.counters)
    where
      go : (k : Option CounterPoint) → counts_with N (ordinal_of o.ordinal) k (since N h) (as_direct_counts (direct_counts N h))
          ≡ record { observations = now o h is_observation k; unavailable = now o h is_unavailable k; discontinuities = now o h is_discontinuity k; reordered = now o h is_below k; exceeded = ltb 0 (now o h is_exceeded k) }
      go None = refl
      go (Some c) = let x = direct_class N (ordinal_of o.ordinal) c (since N h) in λ i. record {
        observations = more_is (is_observation x) (count N (is_direct N is_observation) h) i;
        unavailable = more_is (is_unavailable x) (count N (is_direct N is_unavailable) h) i;
        discontinuities = more_is (is_discontinuity x) (count N (is_direct N is_discontinuity) h) i;
        reordered = more_is (is_below x) (count N (is_direct N is_below) h) i;
        exceeded = stays_set (is_exceeded x) (count N (is_direct N is_exceeded) h) i;
      }

  -- ---- the laws

  -- an observe
  pub direct-observed : (h : List Call) (d : Direct) (offsets : List ℕ) (links : List (List ℕ)) (o : ReplyObservation) → DirectFollows N by_number h d offsets links
      → DirectFollows N by_number (Observe o ∷ h) (direct_in N by_number d offsets links o).direct (direct_in N by_number d offsets links o).offsets (direct_in N by_number d offsets links o).links
  unfolding direct_in events window
  direct-observed h d offsets links o f =
      let same : d ≡ record { counts = as_direct_counts (direct_counts N h); window = window_of (since N h) } = λ i. record { counts = f.counts i; window = f.window i } in
      let size : seen_in d.window ≡ length (since N h) = ap seen_in f.window ∙ seen-length (since N h) in
      let left = by-counters (as_direct_counts (direct_counts N h)) (since N h) (offsets_of d offsets links) size (record { offsets = f.seen; sound = f.sound }) o.ordinal o.counters in
      let left' : Left (direct_by N by_number o.counters d (offsets_of d offsets links) o.ordinal)
      (counts_with N (ordinal_of o.ordinal) (counters_of o.counters) (since N h) (as_direct_counts (direct_counts N h)))
      (with_counters N (ordinal_of o.ordinal) (counters_of o.counters) (since N h)) =
      subst (λ (e : Direct). Left (direct_by N by_number o.counters e (offsets_of d offsets links) o.ordinal)
      (counts_with N (ordinal_of o.ordinal) (counters_of o.counters) (since N h) (as_direct_counts (direct_counts N h)))
      (with_counters N (ordinal_of o.ordinal) (counters_of o.counters) (since N h))) (sym same) left in
      record {
        counts = left'.counts ∙ counts_more o h;
        window = left'.window;
        seen = left'.offsets.offsets;
        sound = left'.offsets.sound;
      }
