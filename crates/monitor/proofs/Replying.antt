-- `reply`: each ring that is looked at lies in the room, and what is popped is what `reply_if` leaves.
-- Assumes nothing.
use mathlib.Core.Path.{◌≡◌, refl, sym, ap, subst, ◌∙◌}
use mathlib.Core.Bool.{Bool, true, false, not}
use mathlib.Core.List.{List, [], ◌∷◌}
use Prim.Native.Nat.{ℕ, suc, ◌+◌, ◌<◌, ◌≤◌, zero-le, suc-le-suc}
use native.Mathlib.Nat.{le_refl, le_trans, lt_of_le_of_lt}
use native.Mathlib.Numerals.{add-one-le}
use native.Mathlib.Omega.{arith}
use lib.ListN.{length}
use lib.Dec.{T, eqb, leb, ltb}
use borrow.Author.Tests.{leb-true, ltb-true}
use Rattle.limits.specs.Limits.{capacity}
use Rattle.probe_queue.specs.declared.QueuedProbe.{QueuedProbe}
use Rattle.probe_queue.specs.declared.QueueRing.{QueueRing}
use Rattle.probe_queue.specs.declared.Rule.TheVariants.{Below, Until, Unmarked}
use Rattle.probe_queue.specs.Queue.{choose, Held, queued, leading, is_marked, passes, after, popped}
use Rattle.monitor.specs.declared.Monitor.{Monitor}
use Rattle.monitor.specs.Refusals.{served, refusal_of}
use Rattle.monitor.specs.States.{hears}
use Rattle.monitor.specs.Operations.{Leaves, ascending, repeated, least, standing, searched, taken, reply_on, reply_if}
use Rattle.monitor.specs.Parts.{hearing, ring_if, near_if, search_in, taken_of, settled}
use Rattle.monitor.proofs.Chosen.{chosen, passed, and_both}
use Rattle.monitor.proofs.Served.{served_zero}
use Rattle.monitor.proofs.Popping.{below, lies, remains, popping, idling}

pub held : (go : Bool) (m : Monitor) (n : ℕ) (heard : Bool) (ring : QueueRing) → heard ≡ hearing go m n → ring ≡ ring_if heard m → Held ring
unfolding hearing
held go m n heard ring eh er = lies m n heard ring (λ e. served_zero go (refusal_of m n) (and_both (served go (refusal_of m n)) m.transmitting (sym eh ∙ e)).0) er

choose-first_le : (t : Bool) (n : ℕ) → choose t n 0 ≤ n
choose-first_le true n = le_refl n
choose-first_le false n = zero-le

least_of : (a b : ℕ) (t : Bool) → leb a b ≡ t → choose t a b ≤ b
least_of a b true e = leb-true a b e
least_of a b false e = le_refl b

choose_le : (t : Bool) (a b : ℕ) → a ≤ b → choose t a b ≤ b
choose_le true a b l = l
choose_le false a b l = le_refl b

-- the search is not longer than the ring
search_le : (m : Monitor) (ring : QueueRing) (n : ℕ) → choose (ascending m) (least (n + 1) ring.len) ring.len ≤ ring.len
search_le m ring n = choose_le (ascending m) (least (n + 1) ring.len) ring.len (least_of (n + 1) ring.len (leb (n + 1) ring.len) refl)

pub nears : (go : Bool) (m : Monitor) (n : ℕ) (heard : Bool) (ring near : QueueRing) → heard ≡ hearing go m n → ring ≡ ring_if heard m → near ≡ near_if m ring → Held near
unfolding near_if
nears go m n heard ring near eh er en =
    let h = held go m n heard ring eh er in
    subst Held (sym en) (h.0, le_trans (choose-first_le (ascending m) ring.len) h.1)

pub searches : (go : Bool) (m : Monitor) (n : ℕ) (heard : Bool) (ring : QueueRing) (low : ℕ) (search : QueueRing) → heard ≡ hearing go m n → ring ≡ ring_if heard m → search ≡ search_in m ring low → Held search
unfolding search_in
searches go m n heard ring low search eh er es =
    let h = held go m n heard ring eh er in
    subst Held (sym es) (h.0, le_trans (search_le m ring low) h.1)

pub within : (ys : List QueuedProbe) (ring : QueueRing) (test : QueuedProbe → Bool) (n : ℕ) → Held ring → n ≡ leading test (queued ys ring) → n ≤ capacity
within ys ring test n h e = le_trans (below test ys ring n e) h.1

step_le : (a b : Bool) (m n : ℕ) → (a ≡ true → b ≡ true) → m ≤ n → choose a (suc m) 0 ≤ choose b (suc n) 0
step_le false b m n i l = zero-le
step_le true true m n i l = suc-le-suc l
step_le true false m n i l = let z : false ≡ true = i refl in absurd (transp z)
  where
    transp : false ≡ true → ⊥
    transp z = subst (λ (u : Bool). T (not u)) z tt

-- a test that another one implies passes no more
leading_mono : {X : Type 0} (f g : X → Bool) → ((x : X) → f x ≡ true → g x ≡ true) → (xs : List X) → leading f xs ≤ leading g xs
leading_mono f g i [] = zero-le
leading_mono f g i (x ∷ xs) = step_le (f x) (g x) (leading f xs) (leading g xs) (i x) (leading_mono f g i xs)

other-unmarked : (a k : Bool) → not a ≡ true → choose a (not k) true ≡ true
other-unmarked true k e = absurd (subst (λ (u : Bool). T (not u)) e tt)
other-unmarked false k e = refl

-- a record of another sequence is not a marked one of this
until_unmarked : (s : ℕ) (p : QueuedProbe) → passes (Until s) p ≡ true → passes (Unmarked s) p ≡ true
unfolding passes
until_unmarked s p e = other-unmarked (eqb p.sequence s) (is_marked p) e

taken_le : (t : Bool) (first marked len : ℕ) → ltb marked len ≡ t → first ≤ marked → choose t (first + 1) 0 ≤ len
taken_le true first marked len e l = add-one-le (lt_of_le_of_lt l (ltb-true marked len e))
taken_le false first marked len e l = zero-le

-- no more are popped than are queued
pub takes : (m : Monitor) (ys : List QueuedProbe) (s : ℕ) (ring : QueueRing) (low : ℕ) (search : QueueRing) (first marked count : ℕ) → search ≡ search_in m ring low → first ≡ leading (passes (Until s)) (queued ys search)
    → marked ≡ leading (passes (Unmarked s)) (queued ys search) → count ≡ taken_of search first marked → count ≤ ring.len
unfolding search_in taken_of
takes m ys s ring low search first marked count es ef em ec =
    let l : first ≤ marked = subst (λ (k : ℕ). k ≤ marked) (sym ef) (subst (λ (k : ℕ). leading (passes (Until s)) (queued ys search) ≤ k) (sym em) (leading_mono (passes (Until s)) (passes (Unmarked s)) (until_unmarked s) (queued ys search))) in
    subst (λ (k : ℕ). k ≤ ring.len) (sym ec)
    (le_trans (taken_le (ltb marked search.len) first marked search.len refl l) (subst (λ (g : QueueRing). g.len ≤ ring.len) (sym es) (search_le m ring low)))

pub rests : (go : Bool) (m : Monitor) (n : ℕ) (heard : Bool) (ring : QueueRing) (count : ℕ) (rest : QueueRing) (again : ℕ) → heard ≡ hearing go m n → ring ≡ ring_if heard m → count ≤ ring.len → rest ≡ after ring count → again ≡ repeated m count
    → Held ring × (Held rest × (again ≤ capacity))
rests go m n heard ring count rest again eh er l et ea = remains m ring count rest again (held go m n heard ring eh er) l et ea

abbrev ringed : ℕ → ℕ → QueueRing
ringed head len = record { head = head; len = len }

-- where sequences ascend the near ring is the ring, and elsewhere it does not matter
search-same : (t : Bool) (ring : QueueRing) (ys : List QueuedProbe) (f : QueuedProbe → Bool)
    → choose t (least (leading f (queued ys (ringed ring.head (choose t ring.len 0))) + 1) ring.len) ring.len ≡ choose t (least (leading f (queued ys ring) + 1) ring.len) ring.len
search-same true ring ys f = refl
search-same false ring ys f = refl

module _ (go : Bool) (m : Monitor) (ys : List QueuedProbe) (s : ℕ) where
  abbrev S : Bool
  S = hearing go m (length ys)

  -- how many are taken, from the ring of the monitor
  counting : (ring near : QueueRing) (low : ℕ) (search : QueueRing) (first marked count : ℕ) → ring ≡ m.ring → near ≡ near_if m ring → low ≡ leading (passes (Below s)) (queued ys near) → search ≡ search_in m ring low
      → first ≡ leading (passes (Until s)) (queued ys search) → marked ≡ leading (passes (Unmarked s)) (queued ys search) → count ≡ taken_of search first marked → count ≡ taken ys (searched m ys s) s
  unfolding near_if search_in taken_of
  counting ring near low search first marked count er en el es ef em ec =
      let en' : near ≡ near_if m m.ring = en ∙ ap (near_if m) er in
      let es' : search ≡ searched m ys s =
      es ∙ ap (λ (n : ℕ). search_in m ring n) (el ∙ ap (λ (g : QueueRing). leading (passes (Below s)) (queued ys g)) en') ∙ ap (λ (g : QueueRing). search_in m g (leading (passes (Below s)) (queued ys (near_if m m.ring)))) er
      ∙ ap (ringed m.ring.head) (search-same (ascending m) m.ring ys (passes (Below s))) in
      ec ∙ ap (λ (n : ℕ). taken_of search n marked) ef ∙ ap (taken_of search (leading (passes (Until s)) (queued ys search))) em
      ∙ ap (λ (g : QueueRing). taken_of g (leading (passes (Until s)) (queued ys g)) (leading (passes (Unmarked s)) (queued ys g))) es'

  least_zero : (n : ℕ) → least (n + 1) 0 ≡ 0
  least_zero n = none (leb (n + 1) 0) refl
    where
      none : (t : Bool) → leb (n + 1) 0 ≡ t → choose t (n + 1) 0 ≡ 0
      none true e = let l : n + 1 ≤ 0 = leb-true (n + 1) 0 e in absurd (omega (arith, l))
      none false e = refl

  choose-both : (t : Bool) (x : ℕ) → x ≡ 0 → choose t x 0 ≡ 0
  choose-both true x e = e
  choose-both false x e = refl

  none-taken : (g : QueueRing) (first marked : ℕ) → g.len ≡ 0 → taken_of g first marked ≡ 0
  unfolding taken_of
  none-taken g first marked e = lookup (ltb marked g.len) refl
    where
      lookup : (t : Bool) → ltb marked g.len ≡ t → choose t (first + 1) 0 ≡ 0
      lookup true h = let l : marked < g.len = ltb-true marked g.len h in absurd (omega (arith, l, e))
      lookup false h = refl

  empty-search : (ring : QueueRing) (low : ℕ) (search : QueueRing) → ring.len ≡ 0 → search ≡ search_in m ring low → search.len ≡ 0
  unfolding search_in
  empty-search ring low search e es =
      ap (λ (g : QueueRing). g.len) es ∙ ap (λ (n : ℕ). choose (ascending m) (least (low + 1) n) n) e ∙ choose-both (ascending m) (least (low + 1) 0) (least_zero low)

  pub replies : (heard : Bool) (ring near : QueueRing) (low : ℕ) (search : QueueRing) (first marked count : ℕ) (rest : QueueRing) (again : ℕ) (zs : List QueuedProbe) (r : Monitor) → heard ≡ S → ring ≡ ring_if heard m → near ≡ near_if m ring
      → low ≡ leading (passes (Below s)) (queued ys near) → search ≡ search_in m ring low → first ≡ leading (passes (Until s)) (queued ys search) → marked ≡ leading (passes (Unmarked s)) (queued ys search) → count ≡ taken_of search first marked
      → rest ≡ after ring count → again ≡ repeated m count → zs ≡ popped ys ring rest again → r ≡ settled S m (hears m.summary) rest → Leaves (reply_if go m ys s) r zs
  unfolding reply_if reply_on hearing ring_if
  replies true ring near low search first marked count rest again zs r eh er en el es ef em ec et ea ez ew =
      popping m ys (hears m.summary) (taken ys (searched m ys s) s) (reply_if go m ys s) ring count rest again zs r
      (sym (chosen S _ _ (sym eh))) er (counting ring near low search first marked count er en el es ef em ec) et ea ez
      (ew ∙ sym (chosen S (standing m (hears m.summary) rest) m (sym eh)))
  replies false ring near low search first marked count rest again zs r eh er en el es ef em ec et ea ez ew =
      idling m ys (reply_if go m ys s) ring count rest again zs r
      (sym (passed S _ _ (sym eh))) (ec ∙ none-taken search first marked (empty-search ring low search (ap (λ (g : QueueRing). g.len) er) es)) ea ez
      (ew ∙ sym (passed S (standing m (hears m.summary) rest) m (sym eh)))
