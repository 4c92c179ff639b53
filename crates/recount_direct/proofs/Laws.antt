-- The class of a record's counters as a number, the start of the window, and the counts, after one record more. Assumes nothing.
use Rattle.std.specs.Prelude.{Some, None, Option}
use Rattle.call_types.specs.declared.ReplyObservation.{ReplyObservation}
use mathlib.Core.Path.{◌≡◌, refl, sym, ap, subst, ◌∙◌}
use mathlib.Core.Bool.{Bool, true, false, ◌&&◌, ◌||◌, cond}
use mathlib.Core.List.{List, [], ◌∷◌}
use Prim.Native.Nat.{ℕ, suc, ◌+◌, ◌-◌, ◌≤◌, ◌<◌}
use native.Mathlib.Omega.{arith}
use lib.Dec.{eqb, leb, ltb}
use borrow.Author.Tests.{eq-eqb, ne_eqb, lt-ltb, le-ltb}
use lib.ListN.{length}
use Rattle.limits.specs.Limits.{capacity}
use Rattle.call_types.specs.declared.CounterPoint.{CounterPoint}
use Rattle.history.specs.Counting.{has, tally}
use Rattle.history.specs.Ledger.{Event}
use Rattle.recount_seen.specs.declared.Seen.{Seen}
use Rattle.recount_counts.specs.Tests.{passing}
use Rattle.history.specs.Given.{ordinal_of, counters_of}
use Rattle.history.specs.DirectLoss.{DirectClass, mismatch, zeros, anchors, jump, again, exceeded, reordered, advanced, jumps, within, sender_offset, received_offset, transmit_offset, seen, highest, anchor_of, anchor, on_window, direct_class, direct_at, window}
use Rattle.recount_seen.specs.Seen.{seen_at, events_of}
use Rattle.recount_observed.specs.Observed.{observation_at}
use Rattle.recount_window.specs.declared.Reach.{Reach}
use Rattle.recount_window.specs.Reach.{reach_of}
use Rattle.recount_window.specs.Window.{clears, clears_at, clears_by, points_from, start_of, window_in}
use Rattle.recount_window.proofs.Runs.{window_is_a_run}
use Rattle.recount_direct.specs.Classes.{direct_number, without_anchor, from_anchor, counters_class, class_in, class_test, direct_in, direct_by}
use Rattle.recount_class.specs.Numbers.{clears_number, start_next, number_test}

-- ---- the class on a window

module _ (c : CounterPoint) where
  pick-number : (b : Bool) (x y : DirectClass) → direct_number (cond b x y) ≡ cond b (direct_number x) (direct_number y)
  pick-number true x y = refl
  pick-number false x y = refl

  -- a window without an anchor
  pub unanchored : (w : List CounterPoint) → None ≡ anchor w → without_anchor c ≡ direct_number (on_window capacity c w)
  unfolding anchor
  unanchored [] e = sym (pick-number (eqb c.received.0 0 && eqb c.transmitted.0 0) zeros anchors)
  unanchored (d ∷ w) e = absurd (let z : ◌≡◌ {A = ℕ} 0 1 = cc in omega arith)

  -- one with an anchor
  pub anchored : (a : CounterPoint) (w : List CounterPoint) → Some a ≡ anchor w → from_anchor a c w ≡ direct_number (on_window capacity c w)
  unfolding anchor from_anchor
  anchored a [] e = absurd (let z : ◌≡◌ {A = ℕ} 0 1 = cc in omega arith)
  anchored a (d ∷ w) e =
      let same : a ≡ anchor_of d w = cc in
      ap (λ (b : CounterPoint). direct_number (within (jumps b c) (has (seen b (d ∷ w)) (transmit_offset b c)) (eqb (length (d ∷ w)) capacity) (ltb (transmit_offset b c) (highest b (d ∷ w))))) same

-- the four tests of an anchored window, in the code's order
module _ (j s f b : Bool) where
  pub is_jump : j ≡ true → 3 ≡ direct_number (within j s f b)
  is_jump p = rw p

  pub is_again : j ≡ false → s ≡ true → 4 ≡ direct_number (within j s f b)
  is_again p q = rw (p, q)

  pub is_exceeded : j ≡ false → s ≡ false → f ≡ true → 5 ≡ direct_number (within j s f b)
  is_exceeded p q r = rw (p, q, r)

  pub is_below : j ≡ false → s ≡ false → f ≡ false → b ≡ true → 6 ≡ direct_number (within j s f b)
  is_below p q r t = rw (p, q, r, t)

  pub is_above : j ≡ false → s ≡ false → f ≡ false → b ≡ false → 7 ≡ direct_number (within j s f b)
  is_above p q r t = rw (p, q, r, t)

-- an anchored window, by what the code looks at
module _ (a c : CounterPoint) (w : List CounterPoint) (transmit sender received : ℕ)
    (t : transmit ≡ transmit_offset a c) (s : sender ≡ sender_offset a c) (r : received ≡ received_offset a c) where
  abbrev seen? : Bool
  seen? = has (seen a w) (transmit_offset a c)

  abbrev full? : Bool
  full? = eqb (length w) capacity

  abbrev below? : Bool
  below? = ltb (transmit_offset a c) (highest a w)

  abbrev jumped : Bool
  jumped = (leb 2147483648 transmit || leb 2147483648 sender) || leb 2147483648 received

  jumped_is : jumped ≡ jumps a c
  jumped_is = λ i. (leb 2147483648 (t i) || leb 2147483648 (s i)) || leb 2147483648 (r i)

  pub from_jump : jumped ≡ true → 3 ≡ from_anchor a c w
  unfolding from_anchor
  from_jump e = is_jump (jumps a c) seen? full? below? (sym jumped_is ∙ e)

  module _ (none-jumped : jumped ≡ false) (b : Bool) (saw : b ≡ has (seen a w) transmit) where
    seen_is : has (seen a w) (transmit_offset a c) ≡ b
    seen_is = sym (saw ∙ ap (has (seen a w)) t)

    pub from_again : b ≡ true → 4 ≡ from_anchor a c w
    unfolding from_anchor
    from_again e = is_again (jumps a c) seen? full? below? (sym jumped_is ∙ none-jumped) (seen_is ∙ e)

    module _ (new : b ≡ false) (q : Reach) (reached : q ≡ reach_of a w) where
      points_are : q.points ≡ length w
      points_are = ap (λ (x : Reach). x.points) reached

      highest_is : q.highest ≡ highest a w
      highest_is = ap (λ (x : Reach). x.highest) reached

      pub from_full : q.points ≡ 4096 → 5 ≡ from_anchor a c w
      unfolding from_anchor
      from_full e = is_exceeded (jumps a c) seen? full? below? (sym jumped_is ∙ none-jumped) (seen_is ∙ new) (eq-eqb (length w) capacity (sym points_are ∙ e))

      module _ (not_full : q.points ≡ 4096 → ⊥) where
        room : eqb (length w) capacity ≡ false
        room = ne_eqb (length w) capacity (λ e. not_full (points_are ∙ e))

        pub from_below : transmit < q.highest → 6 ≡ from_anchor a c w
        unfolding from_anchor
        from_below l =
            is_below (jumps a c) seen? full? below? (sym jumped_is ∙ none-jumped) (seen_is ∙ new) room
            (lt-ltb (transmit_offset a c) (highest a w) (omega (arith, t, highest_is, l)))

        pub from_above : q.highest ≤ transmit → 7 ≡ from_anchor a c w
        unfolding from_anchor
        from_above l =
            is_above (jumps a c) seen? full? below? (sym jumped_is ∙ none-jumped) (seen_is ∙ new) room
            (le-ltb (transmit_offset a c) (highest a w) (omega (arith, t, highest_is, l)))

-- ---- the start of the window

clears-number : (x : DirectClass) → clears x ≡ clears_number (direct_number x)
clears-number mismatch = refl
clears-number zeros = refl
clears-number anchors = refl
clears-number jump = refl
clears-number again = refl
clears-number exceeded = refl
clears-number reordered = refl
clears-number advanced = refl

clears-counters : (n : Option ℕ) (x : Option CounterPoint) (w : List CounterPoint) → clears_at capacity n x w ≡ clears_number (counters_class n x w)
clears-counters n None w = refl
clears-counters n (Some c) w = clears-number (direct_class capacity n c w)

clears_is : (x : Option ReplyObservation) (w : List CounterPoint) → clears_by capacity x w ≡ clears_number (class_in x w)
clears_is None w = refl
clears_is (Some o) w = clears-counters (ordinal_of o.ordinal) (counters_of o.counters) w

next-most : (class start j : ℕ) → start ≤ j → start_next class start j ≤ j + 1
next-most class start j l = go (clears_number class)
  where
    go : (b : Bool) → cond b (j + 1) start ≤ j + 1
    go true = omega arith
    go false = omega arith

pub start-within : (class start start' j : ℕ) → start' ≡ start_next class start j → start ≤ j → start' ≤ j + 1
start-within class start start' j e l = omega (arith, e, next-most class start j l)

module _ (log marks : List ℕ) where
  pub start_first : 0 ≡ start_of (observation_at log marks) capacity 0
  unfolding start_of
  start_first = refl

  module _ (j start class : ℕ) (is-start : start ≡ start_of (observation_at log marks) capacity j) (is_class : class ≡ class_in (observation_at log marks j) (points_from (observation_at log marks) start (j - start))) where
    -- the run from the start is the window
    run : points_from (observation_at log marks) start (j - start) ≡ window_in (observation_at log marks) capacity j
    run = ap (λ (a : ℕ). points_from (observation_at log marks) a (j - a)) is-start

    in_window : class ≡ class_in (observation_at log marks j) (window_in (observation_at log marks) capacity j)
    in_window = is_class ∙ ap (class_in (observation_at log marks j)) run

    pub start-turn : (start' : ℕ) → start' ≡ start_next class start j → start' ≡ start_of (observation_at log marks) capacity (j + 1)
    unfolding start_of
    start-turn start' e =
        let one : suc j ≡ j + 1 = omega arith in
        let cleared : clears_number class ≡ clears_by capacity (observation_at log marks j) (window_in (observation_at log marks) capacity j)
        = ap clears_number in_window ∙ sym (clears_is (observation_at log marks j) (window_in (observation_at log marks) capacity j)) in
        subst (λ (m : ℕ). start' ≡ start_of (observation_at log marks) capacity m) one
        (e ∙ (λ i. cond (cleared i) (sym one i) (is-start i)))

    -- ---- the tests

    pub test_is : (kind : ℕ) → number_test kind class ≡ direct_by kind (seen_at log marks j) (events_of log marks j)
    test_is kind =
        ap (number_test kind) (in_window ∙ ap (class_in (observation_at log marks j)) (sym (window_is_a_run log marks capacity j)))
        ∙ go (observation_at log marks j)
      where
        number_test_lem : (x : DirectClass) → number_test kind (direct_number x) ≡ class_test kind x
        number_test_lem mismatch = refl
        number_test_lem zeros = refl
        number_test_lem anchors = refl
        number_test_lem jump = refl
        number_test_lem again = refl
        number_test_lem exceeded = refl
        number_test_lem reordered = refl
        number_test_lem advanced = refl

        no_test : number_test kind 8 ≡ false
        no_test = by (eqb kind 0) (eqb kind 1) (eqb kind 2) (eqb kind 3)
          where
            by : (a b d e : Bool) → cond a false (cond b false (cond d false (cond e false false))) ≡ false
            by true b d e = refl
            by false true d e = refl
            by false false true e = refl
            by false false false true = refl
            by false false false false = refl

        of_counters : (n : Option ℕ) (x : Option CounterPoint) → number_test kind (counters_class n x (window capacity (events_of log marks j))) ≡ direct_at capacity (class_test kind) n x (events_of log marks j)
        of_counters n None = no_test
        of_counters n (Some c) = number_test_lem (direct_class capacity n c (window capacity (events_of log marks j)))

        go : (x : Option ReplyObservation) → number_test kind (class_in x (window capacity (events_of log marks j))) ≡ direct_in kind x (events_of log marks j)
        go None = no_test
        go (Some o) = of_counters (ordinal_of o.ordinal) (counters_of o.counters)

-- ---- how many records pass, one record more

module _ (test : Seen → List Event → Bool) (log marks : List ℕ) where
  pub passing-none : 0 ≡ passing test log marks 0
  unfolding passing
  passing-none = refl

  pub passing_more : (n a r : ℕ) (b : Bool) → r ≡ tally b a → b ≡ test (seen_at log marks n) (events_of log marks n) → a ≡ passing test log marks n → r ≡ passing test log marks (n + 1)
  unfolding passing
  passing_more n a r b s e inv =
      let one : suc n ≡ n + 1 = omega arith in
      subst (λ (m : ℕ). r ≡ passing test log marks m) one (s ∙ ap (λ (x : Bool). tally x a) e ∙ ap (tally (test (seen_at log marks n) (events_of log marks n))) inv)
