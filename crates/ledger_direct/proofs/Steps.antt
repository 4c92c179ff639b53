-- What the answers of the functions that are called say together: the outcome of the direct counters. At any capacity N.
-- Assumes nothing.
use Rattle.std.specs.Prelude.{Option, Some}
use mathlib.Core.Path.{◌≡◌, sym, ap, ◌∙◌}
use mathlib.Core.Bool.{Bool}
use mathlib.Core.List.{List}
use Prim.Native.Nat.{ℕ}
use Rattle.call_types.specs.declared.CounterPoint.{CounterPoint}
use Rattle.call_types.specs.declared.ReplyObservation.{ReplyObservation}
use Rattle.direct.specs.declared.Direct.{Direct}
use Rattle.direct.specs.declared.Offsets.{Offsets}
use Rattle.direct.specs.declared.Step.{Step}
use Rattle.direct.specs.Outcomes.{recorded, sought_in, seen_in}
use Rattle.offset_set.specs.Offsets.{OffsetSet, offset_set, contains}
use Rattle.ledger_steps.specs.Observe.{DirectOutcome, direct_outcome, offsets_after, direct_by, direct_in}

module _ (N : ℕ) (hash : ℕ → ℕ) where
  -- the rooms after an offset was added, by what becomes of the set
  pub kept-as :
      (a b : Offsets) (s : OffsetSet) (offsets : List ℕ) (links : List (List ℕ)) (count : ℕ)
      → a ≡ b → offset_set offsets links count ≡ offsets_after N hash b s
      → (offsets ≡ (offsets_after N hash a s).offsets) × (links ≡ (offsets_after N hash a s).links)
  kept-as a b s offsets links count e f =
      let g = f ∙ ap (λ (x : Offsets). offsets_after N hash x s) (sym e) in
      (ap (λ (x : OffsetSet). x.offsets) g, ap (λ (x : OffsetSet). x.links) g)

  -- the counters of a reply
  pub measured :
      (d : Direct) (p : CounterPoint) (o : Option ℕ) (offsets : List ℕ) (links : List (List ℕ))
      (count sought : ℕ) (again : Bool) (step : Step) (offsets' : List ℕ) (links' : List (List ℕ))
      → count ≡ seen_in d.window → sought ≡ sought_in d.window p → again ≡ contains N hash (offset_set offsets links count) sought
      → step ≡ recorded N d p o again
      → offsets' ≡ (offsets_after N hash step.offsets (offset_set offsets links count)).offsets
      → links' ≡ (offsets_after N hash step.offsets (offset_set offsets links count)).links
      → direct_outcome step.direct offsets' links' ≡ direct_by N hash (Some p) d (offset_set offsets links (seen_in d.window)) o
  measured d p o offsets links count sought again step offsets' links' e₁ e₂ e₃ e₄ e₅ e₆ = rw (e₅, e₆, e₄, e₃, e₂, e₁)

  -- an observation, by its counters
  pub counted :
      (d : Direct) (offsets : List ℕ) (links : List (List ℕ)) (o : ReplyObservation) (cs : Option CounterPoint) (out : DirectOutcome)
      → o.counters ≡ cs → out ≡ direct_by N hash cs d (offset_set offsets links (seen_in d.window)) o.ordinal
      → out ≡ direct_in N hash d offsets links o
  unfolding direct_in
  counted d offsets links o cs out e f = rw e f
