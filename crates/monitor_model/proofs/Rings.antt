-- What storing and unmarking in a room do to the records that a ring has queued there.
-- Assumes nothing.
use mathlib.Core.Path.{◌≡◌, refl, sym, ap, subst, ◌∙◌}
use mathlib.Core.Bool.{Bool, true, false}
use mathlib.Core.List.{List, [], ◌∷◌, ◌++◌, map}
use Prim.Native.Nat.{ℕ, zero, suc, ◌+◌, ◌%◌, ◌<◌, ◌≤◌, ◌-◌}
use native.Mathlib.Nat.{mod-lt, mod-eq_of_lt, mod-eq-sub-mod, mod-add-mod, add_assoc}
use native.Mathlib.Numerals.{add-one}
use native.Mathlib.Omega.{arith}
use lib.ListN.{length, get_or, set, drop, length-set}
use lib.Seq.{get_or-set_same, get_or-set_other}
use lib.Dec.{eqb, ltb}
use borrow.Author.Tests.{ltb-true, ltb-false, eqb-true, eqb-false}
use Rattle.limits.specs.Limits.{capacity}
use Rattle.probe_queue.specs.declared.QueuedProbe.{QueuedProbe}
use Rattle.probe_queue.specs.declared.QueueRing.{QueueRing}
use Rattle.probe_queue.specs.Queue.{choose, nil, place, at, tabulate, queued, unmark, unmarked, after, popped}
use Rattle.monitor_model.proofs.Lists.{tabulate_cong, tabulate_snoc, drop-tabulate, map-tabulate}

folds : (x : ℕ) (t : Bool) → ltb x capacity ≡ t → x < capacity + capacity → x % capacity ≡ choose t x (x - capacity)
folds x true e l = mod-eq_of_lt (ltb-true x capacity e)
folds x false e l = mod-eq-sub-mod {n = x} {m = capacity} (ltb-false x capacity e) ∙ mod-eq_of_lt (omega (arith, l, ltb-false x capacity e))

apart_by : (h i j : ℕ) (s t : Bool) → h < capacity → i < j → j ≤ capacity → j < i + capacity → ltb (h + i) capacity ≡ s → ltb (h + j) capacity ≡ t → choose s (h + i) (h + i - capacity) ≡ choose t (h + j) (h + j - capacity) → ⊥
apart_by h i j true true lh lij lj k es et e = omega (arith, e)
apart_by h i j true false lh lij lj k es et e = omega (arith, e, ltb-true (h + i) capacity es, ltb-false (h + j) capacity et)
apart_by h i j false true lh lij lj k es et e = omega (arith, e, ltb-false (h + i) capacity es, ltb-true (h + j) capacity et)
apart_by h i j false false lh lij lj k es et e = omega (arith, e, ltb-false (h + i) capacity es, ltb-false (h + j) capacity et)

-- two queued records lie at two places
apart_lt : (ring : QueueRing) (i j : ℕ) → ring.head < capacity → i < j → j < capacity → place ring i ≡ place ring j → ⊥
apart_lt ring i j lh lij lj e =
    apart_by ring.head i j (ltb (ring.head + i) capacity) (ltb (ring.head + j) capacity) lh lij (omega arith) (omega arith) refl refl
    (sym (folds (ring.head + i) (ltb (ring.head + i) capacity) refl (omega arith)) ∙ e ∙ folds (ring.head + j) (ltb (ring.head + j) capacity) refl (omega arith))

pub apart : (ring : QueueRing) (i j : ℕ) → ring.head < capacity → i < capacity → j < capacity → (i ≡ j → ⊥) → place ring i ≡ place ring j → ⊥
apart ring i j lh li lj ne e = first (ltb i j) refl
  where
    second : (t : Bool) → ltb j i ≡ t → j ≤ i → ⊥
    second true h l = apart_lt ring j i lh (ltb-true j i h) li (sym e)
    second false h l = ne (omega (arith, l, ltb-false j i h))

    first : (t : Bool) → ltb i j ≡ t → ⊥
    first true h = apart_lt ring i j lh (ltb-true i j h) lj e
    first false h = second (ltb j i) refl (ltb-false i j h)

-- ---- one record is stored
module _ (room : List QueuedProbe) (ring : QueueRing) (long : length room ≡ capacity) (lh : ring.head < capacity) where
  inside : (i : ℕ) → place ring i < length room
  inside i = subst (λ (n : ℕ). place ring i < n) (sym long) (mod-lt (ring.head + i) {m = capacity} (omega arith))

  pub at_same : (i : ℕ) (v : QueuedProbe) → at (set room (place ring i) v) ring i ≡ v
  at_same i v = get_or-set_same room (place ring i) v nil (inside i)

  pub at_other : (i j : ℕ) (v : QueuedProbe) → i < capacity → j < capacity → (j ≡ i → ⊥) → at (set room (place ring i) v) ring j ≡ at room ring j
  at_other i j v li lj ne = get_or-set_other room (place ring i) (place ring j) v nil (apart ring j i lh lj li ne)

-- a probe is queued behind the others
pub pushes : (room : List QueuedProbe) (ring : QueueRing) (v : QueuedProbe) → length room ≡ capacity → ring.head < capacity → ring.len < capacity
    → queued (set room (place ring ring.len) v) (record { head = ring.head; len = ring.len + 1 }) ≡ queued room ring ++ v ∷ []
pushes room ring v long lh ll =
    ap (λ (n : ℕ). tabulate n (at (set room (place ring ring.len) v) ring)) (add-one ring.len)
    ∙ tabulate_snoc ring.len (at (set room (place ring ring.len) v) ring)
    ∙ ap (λ (xs : List QueuedProbe). xs ++ at (set room (place ring ring.len) v) ring ring.len ∷ [])
    (tabulate_cong ring.len (at (set room (place ring ring.len) v) ring) (at room ring) (λ i l. at_other room ring long lh ring.len i v ll (omega (arith, l, ll)) (λ e. irrefl i ring.len l e)))
    ∙ ap (λ (x : QueuedProbe). queued room ring ++ x ∷ []) (at_same room ring long lh ring.len v)
  where
    irrefl : (i n : ℕ) → i < n → i ≡ n → ⊥
    irrefl i n l e = omega (arith, l, e)

-- ---- a sequence is unmarked
pub unmark_sequence : (s : ℕ) (p : QueuedProbe) → (unmark s p).sequence ≡ p.sequence
unfolding unmark
unmark_sequence s p = by (eqb p.sequence s)
  where
    by : (t : Bool) → (choose t (record { sequence = p.sequence; deadline = p.deadline; mark = 0 }) p).sequence ≡ p.sequence
    by true = refl
    by false = refl

pub unmark-deadline : (s : ℕ) (p : QueuedProbe) → (unmark s p).deadline ≡ p.deadline
unfolding unmark
unmark-deadline s p = by (eqb p.sequence s)
  where
    by : (t : Bool) → (choose t (record { sequence = p.sequence; deadline = p.deadline; mark = 0 }) p).deadline ≡ p.deadline
    by true = refl
    by false = refl

-- the room keeps its sequences
sequence_kept : (room : List QueuedProbe) (s j k : ℕ) → (get_or (set room j (unmark s (get_or room j nil))) k nil).sequence ≡ (get_or room k nil).sequence
sequence_kept [] s j k = refl
sequence_kept (x ∷ room) s zero zero = unmark_sequence s x
sequence_kept (x ∷ room) s zero (suc k) = refl
sequence_kept (x ∷ room) s (suc j) zero = refl
sequence_kept (x ∷ room) s (suc j) (suc k) = sequence_kept room s j k

unmarked_sequence : (room : List QueuedProbe) (ring : QueueRing) (s n k : ℕ) → (get_or (unmarked room ring s n) k nil).sequence ≡ (get_or room k nil).sequence
unmarked_sequence room ring s zero k = refl
unmarked_sequence room ring s (suc n) k = sequence_kept (unmarked room ring s n) s (place ring n) k ∙ unmarked_sequence room ring s n k

popped_sequence : (room : List QueuedProbe) (ring rest : QueueRing) (n k : ℕ) → (get_or (popped room ring rest n) k nil).sequence ≡ (get_or room k nil).sequence
popped_sequence room ring rest zero k = refl
popped_sequence room ring rest (suc n) k = unmarked_sequence (popped room ring rest n) rest _ rest.len k ∙ popped_sequence room ring rest n k

pub unmarked-long : (room : List QueuedProbe) (ring : QueueRing) (s n : ℕ) → length (unmarked room ring s n) ≡ length room
unmarked-long room ring s zero = refl
unmarked-long room ring s (suc n) = length-set (unmarked room ring s n) (place ring n) _ ∙ unmarked-long room ring s n

pub popped-long : (room : List QueuedProbe) (ring rest : QueueRing) (n : ℕ) → length (popped room ring rest n) ≡ length room
popped-long room ring rest zero = refl
popped-long room ring rest (suc n) = unmarked-long (popped room ring rest n) rest _ rest.len ∙ popped-long room ring rest n

-- the records before n are unmarked, and the others are as they were
module _ (room : List QueuedProbe) (ring : QueueRing) (s : ℕ) (long : length room ≡ capacity) (lh : ring.head < capacity) where
  long-at : (n : ℕ) → length (unmarked room ring s n) ≡ capacity
  long-at n = unmarked-long room ring s n ∙ long

  unmarked-late : (n i : ℕ) → n ≤ i → i < capacity → at (unmarked room ring s n) ring i ≡ at room ring i
  unmarked-late zero i l li = refl
  unmarked-late (suc n) i l li =
      at_other (unmarked room ring s n) ring (long-at n) lh n i _ (omega arith) li (λ e. omega (arith, l, e)) ∙ unmarked-late n i (omega arith) li

  unmarked_early : (n i : ℕ) → n ≤ capacity → i < n → at (unmarked room ring s n) ring i ≡ unmark s (at room ring i)
  unmarked_early zero i ln l = absurd (omega (arith, l))
  unmarked_early (suc n) i ln l = here (eqb i n) refl (λ h. unmarked_early n i (omega arith) h)
    where
      before : (i n : ℕ) → i < suc n → (i ≡ n → ⊥) → i < n
      before i n l ne = strict (ltb i n) refl
        where
          strict : (t : Bool) → ltb i n ≡ t → i < n
          strict true h = ltb-true i n h
          strict false h = absurd (ne (omega (arith, l, ltb-false i n h)))

      here : (t : Bool) → eqb i n ≡ t → (i < n → at (unmarked room ring s n) ring i ≡ unmark s (at room ring i)) → at (unmarked room ring s (suc n)) ring i ≡ unmark s (at room ring i)
      here true e so =
          ap (at (unmarked room ring s (suc n)) ring) (eqb-true i n e) ∙ at_same (unmarked room ring s n) ring (long-at n) lh n _
          ∙ ap (unmark s) (unmarked-late n n (omega arith) (omega arith)) ∙ ap (λ (k : ℕ). unmark s (at room ring k)) (sym (eqb-true i n e))
      here false e so =
          at_other (unmarked room ring s n) ring (long-at n) lh n i _ (omega arith) (omega arith) (eqb-false i n e) ∙ so (before i n l (eqb-false i n e))

  pub unmarks : ring.len ≤ capacity → queued (unmarked room ring s ring.len) ring ≡ map (unmark s) (queued room ring)
  unmarks ll =
      tabulate_cong ring.len (at (unmarked room ring s ring.len) ring) (λ i. unmark s (at room ring i)) (λ i l. unmarked_early ring.len i ll l)
      ∙ sym (map-tabulate (unmark s) ring.len (at room ring))

-- every sequence of a list is unmarked
abbrev pub unmarks_all : List QueuedProbe → List QueuedProbe → List QueuedProbe
unmarks_all [] xs = xs
unmarks_all (p ∷ ps) xs = unmarks_all ps (map (unmark p.sequence) xs)

unmarks_snoc : (ps : List QueuedProbe) (p : QueuedProbe) (xs : List QueuedProbe) → unmarks_all (ps ++ p ∷ []) xs ≡ map (unmark p.sequence) (unmarks_all ps xs)
unmarks_snoc [] p xs = refl
unmarks_snoc (x ∷ ps) p xs = unmarks_snoc ps p (map (unmark x.sequence) xs)

-- pops unmark the popped sequences in what stays queued
pub pops-unmark : (room : List QueuedProbe) (ring rest : QueueRing) (n : ℕ) → length room ≡ capacity → rest.head < capacity → rest.len ≤ capacity → queued (popped room ring rest n) rest ≡ unmarks_all (tabulate n (at room ring)) (queued room rest)
pops-unmark room ring rest zero long lh ll = refl
pops-unmark room ring rest (suc n) long lh ll =
    unmarks (popped room ring rest n) rest _ (popped-long room ring rest n ∙ long) lh ll
    ∙ ap (λ (s : ℕ). map (unmark s) (queued (popped room ring rest n) rest)) (popped_sequence room ring rest n (place ring n))
    ∙ ap (map (unmark (at room ring n).sequence)) (pops-unmark room ring rest n long lh ll)
    ∙ sym (ap (λ (ps : List QueuedProbe). unmarks_all ps (queued room rest)) (tabulate_snoc n (at room ring)) ∙ unmarks_snoc (tabulate n (at room ring)) (at room ring n) (queued room rest))

-- what stays queued after n pops
pub drops : (room : List QueuedProbe) (ring : QueueRing) (n : ℕ) → n ≤ ring.len → queued room (after ring n) ≡ drop n (queued room ring)
drops room ring n l =
    tabulate_cong (ring.len - n) (at room (after ring n)) (λ i. at room ring (n + i)) (λ i h. ap (λ (k : ℕ). get_or room k nil) (mod-add-mod (ring.head + n) capacity i ∙ ap (λ (k : ℕ). k % capacity) (add_assoc ring.head n i)))
    ∙ sym (drop-tabulate n (ring.len - n) (at room ring))
    ∙ ap (λ (k : ℕ). drop n (tabulate k (at room ring))) (sums ring.len n l)
  where
    sums : (a b : ℕ) → b ≤ a → b + (a - b) ≡ a
    sums a b h = omega (arith, h)
