-- What the direct counters of a reply leave in the eleven words of direct loss. Assumes nothing.
use Rattle.std.specs.Prelude.{Option, Some, None}
use mathlib.Core.Path.{◌≡◌, refl, sym, ap, ◌∙◌}
use mathlib.Core.Bool.{Bool, true, false, ◌&&◌, ◌||◌, cond, false≢true, and-eq-true_iff}
use mathlib.Core.List.{List, [], ◌∷◌}
use Prim.Native.Nat.{ℕ, zero, suc, ◌+◌, ◌^◌, ◌≤◌, ◌<◌}
use native.Mathlib.Omega.{arith}
use lib.Dec.{eqb, ltb, leb}
use lib.ListN.{get_or, set}
use lib.Seq.{sets, set-get_or, get_or-set_other}
use borrow.Author.Tests.{eqb-true, ltb-true, leb-true, lt-leb, le-ltb, ne_eqb}
use Rattle.limits.specs.Limits.{capacity}
use Rattle.call_types.specs.declared.CounterPoint.{CounterPoint}
use Rattle.call_types.specs.declared.ReplyObservation.{ReplyObservation}
use Rattle.direct.specs.declared.Counts.{Counts}
use Rattle.direct.specs.declared.Direct.{Direct}
use Rattle.direct.specs.declared.Epoch.{Epoch}
use Rattle.direct.specs.declared.Step.{Step}
use Rattle.direct.specs.Offsets.{sender_offset, received_offset, transmit_offset}
use Rattle.direct.specs.Outcomes.{one_observed, above, highest, advanced, with_anchor, by_ordinal, recorded, InBounds, seen_in}
use Rattle.offset_set.specs.Offsets.{OffsetSet, offset_set, contains, added}
use Rattle.ledger_steps.specs.Observe.{DirectOutcome, direct_outcome, direct_with, direct_by, direct_in}
use Rattle.host_numbers.specs.Numbers.{flag_word, is_set}
use Rattle.host_ledger.specs.Parts.{epoch_of, epoch_words, window_at, direct_at, direct_words}
use Rattle.host_direct_loss.specs.Left.{DirectLeft, direct_left, direct_leaves, told_leaves}
use Rattle.host_direct_loss.specs.Order.{opened, epoch_in, goes_on}

-- ---- counters that go on in order

module _ (e : Epoch) (c : CounterPoint) where
  abbrev transmitted : ℕ
  transmitted = transmit_offset e.anchor c

  abbrev sender : ℕ
  sender = sender_offset e.anchor c

  abbrev received : ℕ
  received = received_offset e.anchor c

  module _ (m : ℕ) (g : goes_on e c (Some m) ≡ true) where
    abbrev at₁ : Bool
    at₁ = eqb c.sender.0 m

    abbrev at₂ : Bool
    at₂ = at₁ && ltb transmitted (2 ^ 31)

    abbrev at₃ : Bool
    at₃ = at₂ && ltb sender (2 ^ 31)

    abbrev at₄ : Bool
    at₄ = at₃ && ltb received (2 ^ 31)

    abbrev at₅ : Bool
    at₅ = at₄ && ltb e.seen capacity

    to₅ : (at₅ ≡ true) × (leb (highest e) transmitted ≡ true)
    to₅ = (and-eq-true_iff at₅ (leb (highest e) transmitted)).0 g

    to₄ : (at₄ ≡ true) × (ltb e.seen capacity ≡ true)
    to₄ = (and-eq-true_iff at₄ (ltb e.seen capacity)).0 to₅.0

    to₃ : (at₃ ≡ true) × (ltb received (2 ^ 31) ≡ true)
    to₃ = (and-eq-true_iff at₃ (ltb received (2 ^ 31))).0 to₄.0

    to₂ : (at₂ ≡ true) × (ltb sender (2 ^ 31) ≡ true)
    to₂ = (and-eq-true_iff at₂ (ltb sender (2 ^ 31))).0 to₃.0

    to₁ : (at₁ ≡ true) × (ltb transmitted (2 ^ 31) ≡ true)
    to₁ = (and-eq-true_iff at₁ (ltb transmitted (2 ^ 31))).0 to₂.0

    no_step-back : (o : ℕ) → ltb o (2 ^ 31) ≡ true → leb (2 ^ 31) o ≡ false
    no_step-back o t = lt-leb (2 ^ 31) o (ltb-true o (2 ^ 31) t)

    has_room : eqb e.seen capacity ≡ false
    has_room = ne_eqb e.seen capacity (λ same. never e.seen (ltb-true e.seen capacity to₄.1) same)
      where
        never : (s : ℕ) → s < capacity → s ≡ capacity → ⊥
        never s h same = omega (arith, h, same)

    seen_below : e.seen < capacity
    seen_below = ltb-true e.seen capacity to₄.1

    in_order : (n : Counts) (again : Bool) → again ≡ false → recorded capacity (record { counts = n; window = Some e }) c (Some m) again ≡ advanced n e c
    unfolding recorded
    in_order n again a =
        (λ i. by_ordinal capacity (to₁.0 i) n (Some e) c again)
        ∙ (λ i.
        with_anchor (no_step-back transmitted to₁.1 i || no_step-back sender to₂.1 i || no_step-back received to₃.1 i) (a i) (has_room i)
        (le-ltb transmitted (highest e) (leb-true (highest e) transmitted to₅.1) i) n e c)

  -- what `goes_on` answers
  pub tested_as : (o : Option ℕ) (m t s r h : ℕ) → o ≡ Some m → t ≡ transmitted → s ≡ sender → r ≡ received → h ≡ highest e
      → (eqb c.sender.0 m && ltb t (2 ^ 31) && ltb s (2 ^ 31) && ltb r (2 ^ 31) && ltb e.seen capacity && leb h t) ≡ goes_on e c o
  tested_as o m t s r h eo et es er eh =
      (λ i. eqb c.sender.0 m && ltb (et i) (2 ^ 31) && ltb (es i) (2 ^ 31) && ltb (er i) (2 ^ 31) && ltb e.seen capacity && leb (eh i) (et i))
      ∙ ap (goes_on e c) (sym eo)

  goes_on_as : (n : Counts) (o : Option ℕ) → goes_on e c o ≡ true → (again : Bool) → again ≡ false
      → recorded capacity (record { counts = n; window = Some e }) c o again ≡ advanced n e c
  goes_on_as n None g again a = absurd (false≢true g)
  goes_on_as n (Some m) g again a = in_order m g n again a

  pub room_for : (o : Option ℕ) → goes_on e c o ≡ true → e.seen < capacity
  room_for None g = absurd (false≢true g)
  room_for (Some m) g = seen_below m g

-- ---- the words

-- one observation more can be counted
pub observations_fit : (w : List ℕ) → InBounds (direct_at 33 w).counts → get_or w 33 0 < 2 ^ 63
unfolding direct_at
observations_fit w b = b.observed

module _ (w : List ℕ) (x : ℕ) where
  abbrev one : List ℕ
  one = set w 33 x

  stays : (i : ℕ) → 33 < i → set one i (get_or w i 0) ≡ one
  stays i h = ap (set one i) (sym (get_or-set_other w 33 i x 0 (λ e. omega (arith, h, e)))) ∙ set-get_or one i 0

  five : set (set (set (set (set one 34 (get_or w 34 0)) 35 (get_or w 35 0)) 36 (get_or w 36 0)) 37 (get_or w 37 0)) 38 (get_or w 38 0) ≡ one
  five =
      ap (λ (v : List ℕ). set (set (set (set v 35 (get_or w 35 0)) 36 (get_or w 36 0)) 37 (get_or w 37 0)) 38 (get_or w 38 0)) (stays 34 (omega arith))
      ∙ ap (λ (v : List ℕ). set (set (set v 36 (get_or w 36 0)) 37 (get_or w 37 0)) 38 (get_or w 38 0)) (stays 35 (omega arith))
      ∙ ap (λ (v : List ℕ). set (set v 37 (get_or w 37 0)) 38 (get_or w 38 0)) (stays 36 (omega arith))
      ∙ ap (λ (v : List ℕ). set v 38 (get_or w 38 0)) (stays 37 (omega arith))
      ∙ stays 38 (omega arith)

  stored : (ws : List ℕ) → sets one 39 ws ≡ sets w 33 (x ∷ get_or w 34 0 ∷ get_or w 35 0 ∷ get_or w 36 0 ∷ get_or w 37 0 ∷ get_or w 38 0 ∷ ws)
  stored ws = ap (λ (v : List ℕ). sets v 39 ws) (sym five)

flag_word_lem : (x : ℕ) → x < 2 → x ≡ flag_word (is_set x)
flag_word_lem zero h = refl
flag_word_lem (suc zero) h = refl
flag_word_lem (suc (suc n)) h = absurd (never n h)
  where
    never : (n : ℕ) → suc (suc n) < 2 → ⊥
    never n h = omega arith

module _ (w : List ℕ) (opens : opened w ≡ true) where
  flag-said : get_or w 37 0 < 2
  flag-said = ltb-true (get_or w 37 0) 2 ((and-eq-true_iff (ltb (get_or w 37 0) 2) (eqb (get_or w 38 0) 1)).0 opens).0

  open_said : get_or w 38 0 ≡ 1
  open_said = eqb-true (get_or w 38 0) 1 ((and-eq-true_iff (ltb (get_or w 37 0) 2) (eqb (get_or w 38 0) 1)).0 opens).1

  -- what these words say
  pub said : direct_at 33 w ≡ record { counts = (direct_at 33 w).counts; window = Some (epoch_in w) }
  unfolding direct_at window_at
  said = λ i. record { counts = (direct_at 33 w).counts; window = cond (is_set (open_said i)) (Some (epoch_in w)) None }

  -- the stores of `store`
  pub words_as : (e : Epoch)
      → sets (set w 33 (get_or w 33 0 + 1)) 39 (epoch_words e) ≡ sets w 33 (direct_words (record { counts = one_observed (direct_at 33 w).counts; window = Some e }))
  unfolding direct_at direct_words
  words_as e =
      stored w (get_or w 33 0 + 1) (epoch_words e)
      ∙ (λ i. sets w 33 ((get_or w 33 0 + 1) ∷ get_or w 34 0 ∷ get_or w 35 0 ∷ get_or w 36 0 ∷ flag_word_lem (get_or w 37 0) flag-said i ∷ open_said i ∷ epoch_words e))

-- ---- the counters

module _ (by_number : ℕ → ℕ) (w offsets : List ℕ) (links : List (List ℕ)) (o : ReplyObservation) where
  -- of any kind
  pub any-as :
      (before after : Direct) (w' offsets' : List ℕ) (links' : List (List ℕ))
      → before ≡ direct_at 33 w → direct_outcome after offsets' links' ≡ direct_in capacity by_number before offsets links o
      → w' ≡ sets w 33 (direct_words after)
      → direct_left w' offsets' links' ≡ told_leaves w (direct_in capacity by_number (direct_at 33 w) offsets links o)
  any-as before after w' offsets' links' e₁ e₂ e₃ =
      ap (λ (v : List ℕ). direct_left v offsets' links') e₃
      ∙ ap (told_leaves w) (e₂ ∙ ap (λ (d : Direct). direct_in capacity by_number d offsets links o) e₁)

  -- in order
  pub went_on :
      (c : CounterPoint) (e next : Epoch) (offset : ℕ) (again : Bool) (w' offsets' : List ℕ) (links' : List (List ℕ)) (count : ℕ)
      → o.counters ≡ Some c → e ≡ epoch_in w → opened w ≡ true → goes_on e c o.ordinal ≡ true
      → offset ≡ transmit_offset e.anchor c → again ≡ contains capacity by_number (offset_set offsets links e.seen) offset → again ≡ false
      → next ≡ above e c → w' ≡ sets (set w 33 (get_or w 33 0 + 1)) 39 (epoch_words next)
      → offset_set offsets' links' count ≡ added capacity by_number (offset_set offsets links e.seen) offset
      → direct_left w' offsets' links' ≡ told_leaves w (direct_in capacity by_number (direct_at 33 w) offsets links o)
  unfolding direct_in
  went_on c e next offset again w' offsets' links' count ec ee opens g eo ea none en ew es =
      let n = (direct_at 33 w).counts in
      let s = offset_set offsets links e.seen in
      let known : direct_at 33 w ≡ record { counts = n; window = Some e } = said w opens ∙ sym (ap (λ (x : Epoch). record { counts = n; window = Some x }) ee) in
      let told : direct_in capacity by_number (direct_at 33 w) offsets links o ≡ direct_with capacity by_number (advanced n e c) s =
      (λ i. direct_by capacity by_number (ec i) (known i) (offset_set offsets links (seen_in (known i).window)) o.ordinal)
      ∙ ap (λ (x : Step). direct_with capacity by_number x s) (goes_on_as e c n o.ordinal g _ (sym (ea ∙ ap (contains capacity by_number s) eo) ∙ none)) in
      let stored' : offset_set offsets' links' count ≡ added capacity by_number s (transmit_offset e.anchor c) = es ∙ ap (added capacity by_number s) eo in
      let words' : w' ≡ sets (set w 33 (get_or w 33 0 + 1)) 39 (epoch_words (above e c)) = ew ∙ ap (λ (x : Epoch). sets (set w 33 (get_or w 33 0 + 1)) 39 (epoch_words x)) en in
      (λ i. direct_left (words' i) (stored' i).offsets (stored' i).links)
      ∙ ap (λ (v : List ℕ). direct_left v (added capacity by_number s (transmit_offset e.anchor c)).offsets (added capacity by_number s (transmit_offset e.anchor c)).links) (words_as w opens (above e c))
      ∙ sym (ap (told_leaves w) told)

  -- none
  pub untold_as : o.counters ≡ None → direct_left w offsets links ≡ direct_leaves o.counters w (direct_in capacity by_number (direct_at 33 w) offsets links o)
  unfolding direct_in
  untold_as e =
      sym (ap (λ (x : Option CounterPoint). direct_leaves x w (direct_by capacity by_number x (direct_at 33 w) (offset_set offsets links (seen_in (direct_at 33 w).window)) o.ordinal)) e)

-- those that were told
pub told_as : (cs : Option CounterPoint) (c : CounterPoint) (w : List ℕ) (out : DirectOutcome) (left : DirectLeft) → cs ≡ Some c → left ≡ told_leaves w out → left ≡ direct_leaves cs w out
told_as cs c w out left e h = h ∙ ap (λ (x : Option CounterPoint). direct_leaves x w out) (sym e)
