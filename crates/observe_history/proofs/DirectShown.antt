-- What the summary shows of direct loss is what the history says: every figure of `summary_from`, and reverse missing above all.
-- Assumes nothing.
use Rattle.std.specs.Prelude.{Some, Option, None}
use mathlib.Core.Path.{◌≡◌, refl, sym, ap, ◌∙◌}
use mathlib.Core.Bool.{Bool, true, false, cond}
use mathlib.Core.List.{List, [], ◌∷◌, map}
use Prim.Native.Nat.{ℕ, zero, suc, ◌+◌, ◌-◌, ◌≤◌}
use native.Mathlib.Omega.{arith}
use lib.Dec.{eqb, leb, eqb-zero-suc}
use lib.ListN.{length, length-map}
use borrow.Author.Tests.{leb-true, leb-false}
use Rattle.call_types.specs.declared.CounterPoint.{CounterPoint}
use Rattle.call_types.specs.declared.Call.{Call}
use Rattle.chains.proofs.Tests.{lt_true, lt_false, eq_true, true_not_false}
use Rattle.direct.specs.declared.Direct.{Direct}
use Rattle.direct.specs.declared.summary.DirectSummary.{DirectSummary}
use Rattle.direct.specs.Outcomes as outcomes
use Rattle.direct.specs.Shown as shown
use Rattle.history.specs.Counting.{has}
use Rattle.history.specs.Ledger.{events}
use Rattle.history.specs.DirectLoss.{anchor_of, transmit_offset, seen, highest, sender_maximum, received_maximum, latest, missing, window, forward_missing, Spans, spans, anchor, latest_transmit, above0, shown_reverse, highest_less_seen}
use Rattle.history.proofs.Missing.{Distinct, Clean, missing-present, present-distinct, largest_bounds, window_clean, reverse-missing_is}
use Rattle.observe_history.specs.Direct.{epoch_of, window_of, packets_of, point_of, spans_shown, since, summary_from, DirectFollows}
use Rattle.observe_history.proofs.Windows.{offset-same, offset_self, latest-highest, or_true}

-- ---- the seen offsets above 0 are all but the anchor's

has_later : (x : ℕ) (xs : List ℕ) → has (suc x ∷ xs) 0 ≡ has xs 0
unfolding has
has_later x xs = rw (eqb-zero-suc x)

has-none : has [] 0 ≡ false
unfolding has
has-none = refl

has_first : (xs : List ℕ) → has (0 ∷ xs) 0 ≡ true
unfolding has
has_first xs = rw (eq_true 0 0 refl)

no_zero : (xs : List ℕ) → has xs 0 ≡ false → above0 xs ≡ length xs
unfolding above0
no_zero [] e = refl
no_zero (zero ∷ xs) e = absurd (true_not_false (has_first xs) e)
no_zero (suc x ∷ xs) e = ap suc (no_zero xs (sym (has_later x xs) ∙ e))

one_zero : (xs : List ℕ) → Distinct xs → has xs 0 ≡ true → suc (above0 xs) ≡ length xs
unfolding above0
one_zero [] d e = absurd (true_not_false e has-none)
one_zero (zero ∷ xs) d e = ap suc (no_zero xs d.0)
one_zero (suc x ∷ xs) d e = ap suc (one_zero xs d.1 (sym (has_later x xs) ∙ e))

-- the anchor's own offset is 0
anchor-seen : (a c : CounterPoint) (w : List CounterPoint) → anchor_of c w ≡ a → has (map (transmit_offset a) (c ∷ w)) 0 ≡ true
unfolding anchor_of has
anchor-seen a c [] e = rw (e, offset_self a.transmitted.0)
anchor-seen a c (d ∷ w) e = rw (anchor-seen a d w e, or_true (eqb 0 (transmit_offset a c)))

module _ (c : CounterPoint) (w : List CounterPoint) (g : Clean (c ∷ w)) where
  abbrev at : CounterPoint
  at = anchor_of c w

  above-count : above0 (seen at (c ∷ w)) ≡ length w
  above-count = omega (arith, one_zero (seen at (c ∷ w)) g (anchor-seen at c w refl), length-map (c ∷ w) (transmit_offset at))

  -- the highest offset less the seen offsets above 0 is not negative, and is the number of those missing
  missing_sum : missing (highest at (c ∷ w)) (seen at (c ∷ w)) + length w ≡ highest at (c ∷ w)
  missing_sum =
      ap (λ (n : ℕ). missing (highest at (c ∷ w)) (seen at (c ∷ w)) + n)
      (sym (present-distinct (highest at (c ∷ w)) (seen at (c ∷ w)) g (largest_bounds (seen at (c ∷ w))) ∙ above-count))
      ∙ missing-present (highest at (c ∷ w)) (seen at (c ∷ w))

  reverse_is : shown.less (highest at (c ∷ w)) (length (c ∷ w) - 1) ≡ Some (missing (highest at (c ∷ w)) (seen at (c ∷ w)))
  reverse_is =
      let last : length (c ∷ w) - 1 ≡ length w = omega arith in
      let least : length w ≤ highest at (c ∷ w) = omega (arith, missing_sum) in
      let rest : highest at (c ∷ w) - length w ≡ missing (highest at (c ∷ w)) (seen at (c ∷ w)) = omega (arith, missing_sum) in
      rw (last, lt_false (highest at (c ∷ w)) (length w) least) (ap Some rest)

-- forward missing is absent if negative
forward_is : (sent received : ℕ) → shown.less sent received ≡ packets_of (forward_missing sent received)
forward_is sent received = go (leb received sent) refl
  where
    go : (b : Bool) → leb received sent ≡ b → shown.less sent received ≡ packets_of (cond b (Some (sent - received)) None)
    go true e = rw (lt_false sent received (leb-true received sent e))
    go false e = rw (lt_true sent received (leb-false received sent e))

spans_are : (w : List CounterPoint) → Clean w → shown.spans_of (window_of w) ≡ spans_shown (spans w)
unfolding spans anchor_of
spans_are [] g = refl
spans_are (c ∷ []) g = refl
spans_are (c ∷ d ∷ w) g =
    let a = anchor_of d w in
    let v = c ∷ d ∷ w in
    rw (lt_true 1 (length v) (omega arith))
    (λ i. record {
      sent = Some (sender_maximum a v);
      received = Some (received_maximum a v);
      forward = forward_is (sender_maximum a v) (received_maximum a v) i;
      transmitted = Some (high a v i);
      replies = Some (length v - 1);
      reverse = (ap (λ (n : ℕ). shown.less n (length v - 1)) (high a v) ∙ reverse_is c (d ∷ w) g) i;
    })
  where
    high : (a : CounterPoint) (v : List CounterPoint) → outcomes.highest (epoch_of a v) ≡ highest a v
    high a v = offset-same a.transmitted.0 (latest a v).transmitted.0 ∙ latest-highest a v

anchor_is : (w : List CounterPoint) → shown.anchor_of (window_of w) ≡ point_of (anchor w)
unfolding anchor
anchor_is [] = refl
anchor_is (c ∷ w) = refl

latest_is : (w : List CounterPoint) → shown.latest_of (window_of w) ≡ point_of (latest_transmit w)
unfolding latest_transmit
latest_is [] = refl
latest_is (c ∷ w) = refl

-- THE SUMMARY that the state shows is the one that the served calls call for.
pub direct-shows : (N : ℕ) (by_number : ℕ → ℕ) (h : List Call) (d : Direct) (offsets : List ℕ) (links : List (List ℕ)) → DirectFollows N by_number h d offsets links
    → shown.summary_of d ≡ summary_from N h
direct-shows N by_number h d offsets links f = λ i. record {
  counts = f.counts i;
  anchor = (ap shown.anchor_of f.window ∙ anchor_is (since N h)) i;
  latest = (ap shown.latest_of f.window ∙ latest_is (since N h)) i;
  spans = (ap shown.spans_of f.window ∙ spans_are (since N h) (window_clean N (events N h))) i;
}

-- what the figures of a window show as reverse missing
reverse_of : (x : Option Spans) → (spans_shown x).reverse ≡ packets_of (shown_reverse x)
reverse_of None = refl
reverse_of (Some s) = refl

-- REVERSE MISSING, where it is shown, is the highest transmit offset less the offsets above 0 that were seen since the anchor, of the served calls:
-- and that is how many of the offsets from 1 to the highest were not (`reverse-missing_is` of crate history).
pub reverse-shows : (N : ℕ) (by_number : ℕ → ℕ) (h : List Call) (d : Direct) (offsets : List ℕ) (links : List (List ℕ)) → DirectFollows N by_number h d offsets links
    → (shown.summary_of d).spans.reverse ≡ packets_of (highest_less_seen (since N h))
reverse-shows N by_number h d offsets links f =
    ap (λ (x : DirectSummary). x.spans.reverse) (direct-shows N by_number h d offsets links f)
    ∙ reverse_of (spans (since N h)) ∙ ap packets_of (reverse-missing_is N (events N h))
