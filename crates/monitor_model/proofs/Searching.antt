-- How many probes a reply pops, of the queued records: up to and including the first of its sequence where one of it is marked, and none elsewhere.
-- Assumes nothing.
use mathlib.Core.Path.{◌≡◌, refl, sym, ap, subst, ◌∙◌}
use mathlib.Core.Bool.{Bool, true, false}
use mathlib.Core.List.{List, ◌++◌}
use Prim.Native.Nat.{ℕ, suc, ◌+◌, ◌<◌, ◌≤◌, ◌-◌}
use native.Mathlib.Nat.{le_refl}
use native.Mathlib.Numerals.{add-one}
use native.Mathlib.Omega.{arith}
use lib.ListN.{length, take, drop, take-append-drop}
use lib.Seq.{take_all}
use lib.Dec.{leb, ltb}
use borrow.Author.Tests.{leb-true, leb-false}
use Rattle.probe_queue.specs.declared.QueuedProbe.{QueuedProbe}
use Rattle.probe_queue.specs.declared.QueueRing.{QueueRing}
use Rattle.probe_queue.specs.declared.Rule.TheVariants.{Below, Until, Unmarked}
use Rattle.probe_queue.specs.Queue.{choose, at, queued, leading, passes}
use Rattle.monitor.specs.declared.Monitor.{Monitor}
use Rattle.monitor.specs.Operations.{MonitorStand, ascending, least, searched, taken}
use Rattle.monitor_model.specs.Plain.{Marks}
use Rattle.monitor_model.specs.Playing.{marked}
use Rattle.monitor_model.proofs.Lists.{tabulate-length, take-tabulate, leading-append}
use Rattle.monitor_model.proofs.Rising.{Rises}
use Rattle.monitor_model.proofs.Marks.{seqs, finds, first-within, stops_early}
use Rattle.monitor_model.proofs.Standing.{Kept}

least_le : (a b : ℕ) (t : Bool) → leb a b ≡ t → choose t a b ≤ b
least_le a b true e = leb-true a b e
least_le a b false e = le_refl b

-- taking no more than there is
take-least : (xs : List QueuedProbe) (n : ℕ) (t : Bool) → leb (n + 1) (length xs) ≡ t → take (choose t (n + 1) (length xs)) xs ≡ take (suc n) xs
take-least xs n true e = ap (λ (k : ℕ). take k xs) (add-one n)
take-least xs n false e = take_all (length xs) xs (le_refl (length xs)) ∙ sym (take_all (suc n) xs (omega (arith, leb-false (n + 1) (length xs) e)))

module _ (x : MonitorStand) (marks : Marks) (kept : Kept x marks) (s : ℕ) where
  abbrev m : Monitor
  m = x.monitor

  abbrev xs : List QueuedProbe
  xs = queued x.room m.ring

  abbrev search : QueueRing
  search = searched m x.room s

  abbrev near : List QueuedProbe
  near = queued x.room search

  long : length xs ≡ m.ring.len
  long = tabulate-length m.ring.len (at x.room m.ring)

  bound_le : (t : Bool) (n : ℕ) → choose t (least (n + 1) m.ring.len) m.ring.len ≤ m.ring.len
  bound_le true n = least_le (n + 1) m.ring.len (leb (n + 1) m.ring.len) refl
  bound_le false n = le_refl m.ring.len

  search_le : search.len ≤ m.ring.len
  search_le = bound_le (ascending m) (leading (passes (Below s)) xs)

  near_is : near ≡ take search.len xs
  near_is = sym (take-tabulate search.len m.ring.len (at x.room m.ring) search_le)

  near-long : length near ≡ search.len
  near-long = tabulate-length search.len (at x.room search)

  rises : ascending m ≡ true → Rises (seqs xs)
  rises e = subst (λ (k : ℕ). Rises (drop k (seqs xs))) (none m.ring.len m.run (leb-true m.ring.len m.run e)) kept.rising
    where
      none : (a b : ℕ) → a ≤ b → a - b ≡ 0
      none a b h = omega (arith, h)

  enough : (t : Bool) → ascending m ≡ t → marked s (take (choose t (least (leading (passes (Below s)) xs + 1) m.ring.len) m.ring.len) xs) ≡ marked s xs
  enough true e =
      ap (λ (k : ℕ). marked s (take (least (leading (passes (Below s)) xs + 1) k) xs)) (sym long)
      ∙ ap (marked s) (take-least xs (leading (passes (Below s)) xs) (leb (leading (passes (Below s)) xs + 1) (length xs)) refl) ∙ stops_early s xs (rises e)
  enough false e = ap (marked s) (ap (λ (k : ℕ). take k xs) (sym long) ∙ take_all (length xs) xs (le_refl (length xs)))

  near-marked : marked s near ≡ marks s
  near-marked = ap (marked s) near_is ∙ enough (ascending m) refl ∙ kept.received s

  -- the first of the sequence lies within the search
  same_first : marked s near ≡ true → leading (passes (Until s)) near ≡ leading (passes (Until s)) xs
  same_first e =
      sym (leading-append (passes (Until s)) near (drop search.len xs) (first-within s near e))
      ∙ ap (leading (passes (Until s))) (ap (λ (ys : List QueuedProbe). ys ++ drop search.len xs) near_is ∙ take-append-drop search.len xs)

  by : (t : Bool) → marks s ≡ t → choose t (leading (passes (Until s)) near + 1) 0 ≡ choose t (suc (leading (passes (Until s)) xs)) 0
  by true e = add-one (leading (passes (Until s)) near) ∙ ap suc (same_first (near-marked ∙ e))
  by false e = refl

  pub takes : taken x.room search s ≡ choose (marks s) (suc (leading (passes (Until s)) xs)) 0
  takes =
      ap (λ (t : Bool). choose t (leading (passes (Until s)) near + 1) 0) (ap (ltb (leading (passes (Unmarked s)) near)) (sym near-long) ∙ finds s near ∙ near-marked) ∙ by (marks s) refl

  -- there are so many
  within_by : (t : Bool) → marks s ≡ t → choose t (suc (leading (passes (Until s)) xs)) 0 ≤ m.ring.len
  within_by true e = subst (λ (k : ℕ). suc (leading (passes (Until s)) xs) ≤ k) long (first-within s xs (kept.received s ∙ e))
  within_by false e = omega arith

  pub within : choose (marks s) (suc (leading (passes (Until s)) xs)) 0 ≤ m.ring.len
  within = within_by (marks s) refl

  pub first_there : marks s ≡ true → leading (passes (Until s)) xs < length xs
  first_there e = first-within s xs (kept.received s ∙ e)
