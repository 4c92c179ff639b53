-- From a record to the tally of all records so far. Assumes nothing.
use Rattle.std.specs.Prelude.{Option, Some, None}
use Rattle.call_types.specs.declared.Call.{Call}
use Rattle.monitor.specs.declared.Monitor.{Monitor}
use mathlib.Core.Path.{◌≡◌, refl, sym, ap, subst, ◌∙◌}
use mathlib.Core.List.{List}
use native.Mathlib.Omega.{arith}
use Prim.Native.Nat.{ℕ, zero, suc, ◌+◌, ◌≤◌, ◌<◌, ◌^◌}
use Rattle.probe_queue.specs.declared.QueuedProbe.{QueuedProbe}
use Rattle.log_whole.specs.Logs.{call_at}
use Rattle.link_steps.specs.Steps.{LinkStand, refuses, one_if}
use Rattle.log_play_parts.specs.Parts.{rooms_of}
use Rattle.log_play.specs.declared.Step.{Step}
use Rattle.log_play.specs.declared.Tally.{Tally}
use Rattle.log_play.specs.Tally.{link_at, standing_of, Tallied, tally_of, recorded, tallied, Stepped}

-- one record more
tallied_on : (log : List ℕ) (start t t' : Tallied) (n : ℕ) → t' ≡ recorded t (call_at log n) → t ≡ tallied log start n → t' ≡ tallied log start (n + 1)
unfolding tallied
tallied_on log start t t' n l e =
    let one : suc n ≡ n + 1 = omega arith in
    subst (λ (m : ℕ). t' ≡ tallied log start m) one (l ∙ ap (λ (x : Tallied). recorded x (call_at log n)) e)

tallied-none : (log : List ℕ) (start : Tallied) → start ≡ tallied log start 0
unfolding tallied
tallied-none log start = refl

-- no more records are turned away than were played
one_at_most : (k n m : ℕ) → n ≤ m → one_if k n ≤ m + 1
one_at_most zero n m l = omega arith
one_at_most (suc k) n m l = omega arith

recorded-most : (t : Tallied) (r : Option Call) (m : ℕ) → t.turned ≤ m → (recorded t r).turned ≤ m + 1
recorded-most t None m l = omega arith
recorded-most t (Some c) m l = one_at_most (refuses t.standing c) t.turned m l

turned_on : (log : List ℕ) (start t t' : Tallied) (n : ℕ) → t' ≡ recorded t (call_at log n) → t ≡ tallied log start n → t.turned ≤ n → t'.turned ≤ n + 1
turned_on log start t t' n e _ l = subst (λ (x : Tallied). x.turned ≤ n + 1) (sym e) (recorded-most t (call_at log n) n l)

-- a record that is counted is the tally's next
counted : (t : Tallied) (r : Option Call) (step : Step) (left : LinkStand) (turned : ℕ) → Stepped t.standing r step left → turned ≡ one_if step.refused t.turned → tally_of left turned ≡ recorded t r
counted t None step left turned h e = λ j. tally_of (h.stands j) ((e ∙ ap (λ (n : ℕ). one_if n t.turned) h.refused) j)
counted t (Some c) step left turned h e = λ j. tally_of (h.stands j) ((e ∙ ap (λ (n : ℕ). one_if n t.turned) h.refused) j)

module _ (start : Option Monitor) (log : List ℕ) (count : ℕ) (ledger₀ : List ℕ) (keys₀ slots₀ probes₀ : List (List ℕ)) (offsets₀ : List ℕ) (links₀ : List (List ℕ)) (queue₀ : List QueuedProbe) where
  abbrev begun : Tallied
  begun = tally_of (standing_of (link_at ledger₀ start) queue₀ (rooms_of keys₀ slots₀ probes₀ offsets₀ links₀)) 0

  -- what stands after i records, and that no more were turned away than were played
  abbrev pub Played : ℕ → Option Monitor → ℕ → List ℕ → List (List ℕ) → List (List ℕ) → List (List ℕ) → List ℕ → List (List ℕ) → List QueuedProbe → Type 0
  Played i watch turned ledger keys slots probes offsets links queue =
      (tally_of (standing_of (link_at ledger watch) queue (rooms_of keys slots probes offsets links)) turned ≡ tallied log begun i) × (turned ≤ i)

  pub begins_played : Played 0 start 0 ledger₀ keys₀ slots₀ probes₀ offsets₀ links₀ queue₀
  begins_played = (tallied-none log begun, omega arith)

  pub plays_on : (i : ℕ) (watch : Option Monitor) (turned : ℕ) (ledger : List ℕ) (keys slots probes : List (List ℕ)) (offsets : List ℕ) (links : List (List ℕ)) (queue : List QueuedProbe)
      (step : Step) (ledger' : List ℕ) (keys' slots' probes' : List (List ℕ)) (offsets' : List ℕ) (links' : List (List ℕ)) (queue' : List QueuedProbe) (turned' : ℕ) (watch' : Option Monitor)
      → Played i watch turned ledger keys slots probes offsets links queue → i < count
      → Stepped (standing_of (link_at ledger watch) queue (rooms_of keys slots probes offsets links)) (call_at log i) step (standing_of (link_at ledger' step.watch) queue' (rooms_of keys' slots' probes' offsets' links'))
      → turned' ≡ one_if step.refused turned → watch' ≡ step.watch
      → Played (i + 1) watch' turned' ledger' keys' slots' probes' offsets' links' queue'
  plays_on i watch turned ledger keys slots probes offsets links queue step ledger' keys' slots' probes' offsets' links' queue' turned' watch' h less hs et el =
      let t = tally_of (standing_of (link_at ledger watch) queue (rooms_of keys slots probes offsets links)) turned in
      let rooms = rooms_of keys' slots' probes' offsets' links' in
      let next : tally_of (standing_of (link_at ledger' watch') queue' rooms) turned' ≡ recorded t (call_at log i) =
      (λ j. tally_of (standing_of (link_at ledger' (el j)) queue' rooms) turned') ∙ counted t (call_at log i) step (standing_of (link_at ledger' step.watch) queue' rooms) turned' hs et in
      (tallied_on log begun t _ i next h.0, turned_on log begun t _ i next h.0 h.1)

  pub all_played : (i : ℕ) (watch : Option Monitor) (turned : ℕ) (ledger : List ℕ) (keys slots probes : List (List ℕ)) (offsets : List ℕ) (links : List (List ℕ)) (queue : List QueuedProbe) (r : Tally)
      → Played i watch turned ledger keys slots probes offsets links queue → i ≤ count → count ≤ i → (r.watch ≡ watch) × (r.turned ≡ turned)
      → tally_of (standing_of (link_at ledger r.watch) queue (rooms_of keys slots probes offsets links)) r.turned ≡ tallied log begun count
  all_played i watch turned ledger keys slots probes offsets links queue r h most least er =
      let e : i ≡ count = omega arith in
      (λ j. tally_of (standing_of (link_at ledger (er.0 j)) queue (rooms_of keys slots probes offsets links)) (er.1 j)) ∙ h.0 ∙ ap (tallied log begun) e

-- the count fits
pub fits : (turned i count : ℕ) → turned ≤ i → i < count → count < 2 ^ 32 → turned < 2 ^ 63
fits turned i count a b c = omega (arith, a, b, c)
