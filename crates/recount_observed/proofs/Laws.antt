-- A loop's turn, where only observations change the answer. Assumes nothing.
use Rattle.std.specs.Prelude.{Some, None, Option}
use mathlib.Core.Path.{◌≡◌, refl, sym, ap, subst, ◌∙◌}
use mathlib.Core.List.{List, ◌∷◌}
use Prim.Native.Nat.{ℕ, suc, ◌+◌}
use native.Mathlib.Omega.{arith}
use Rattle.call_types.specs.declared.PendingPacket.{PendingPacket}
use Rattle.call_types.specs.declared.ReplyKey.{ReplyKey}
use Rattle.call_types.specs.declared.ReplyObservation.{ReplyObservation}
use Rattle.history.specs.Ledger.{Event, remembered, replied, observed}
use Rattle.recount_seen.specs.declared.Seen.{Seen}
use Rattle.recount_seen.specs.declared.Seen.TheVariants.{Nothing, Probe, Duplicate, Unknown, Known, First, Observed}
use Rattle.recount_seen.specs.Seen.{seen_at, grow, events_of}
use Rattle.recount_observed.specs.Observed.{observation_of, observation_at}

module _ {A : Type 0} (f : List Event → A) (next : Option ReplyObservation → A → A)
    (nothing : (a : A) → next None a ≡ a)
    (of-remembered : (s : ℕ) (o : Option ℕ) (t : ℕ) (p : PendingPacket) (es : List Event) → f (remembered s o t p ∷ es) ≡ f es)
    (of-replied : (k : ReplyKey) (p : Option PendingPacket) (es : List Event) → f (replied k p ∷ es) ≡ f es)
    (of-observed : (o : ReplyObservation) (es : List Event) → f (observed o ∷ es) ≡ next (Some o) (f es)) where
  -- one record more
  pub grows : (s : Seen) (es : List Event) → f (grow s es) ≡ next (observation_of s) (f es)
  grows Nothing es = sym (nothing (f es))
  grows (Probe s) es = of-remembered _ _ _ _ es ∙ sym (nothing (f es))
  grows Duplicate es = sym (nothing (f es))
  grows Unknown es = sym (nothing (f es))
  grows (Known a) es = of-replied _ _ es ∙ sym (nothing (f es))
  grows (First a) es = of-replied _ _ _ ∙ of-remembered _ _ _ _ es ∙ sym (nothing (f es))
  grows (Observed o) es = of-observed o es

  -- the answer for n records, one record more, the answer for n + 1
  pub observed-turn : (log marks : List ℕ) (n : ℕ) (x : Option ReplyObservation) (a a' : A) → x ≡ observation_at log marks n → a' ≡ next x a → a ≡ f (events_of log marks n)
      → a' ≡ f (events_of log marks (n + 1))
  unfolding events_of
  observed-turn log marks n x a a' e step inv =
      let one : suc n ≡ n + 1 = omega arith in
      subst (λ (m : ℕ). a' ≡ f (events_of log marks m)) one
      (step ∙ ap (λ (y : Option ReplyObservation). next y a) e ∙ ap (next (observation_at log marks n)) inv ∙ sym (grows (seen_at log marks n) (events_of log marks n)))
