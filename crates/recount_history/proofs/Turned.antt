-- WHICH RECORDS ARE TURNED AWAY: a record's mark is 0 exactly where its call is refused, after the calls that were served before it.
-- Assumes nothing.
use Rattle.std.specs.Prelude.{Option, Some}
use mathlib.Core.Path.{◌≡◌, refl, sym, ap, ◌∙◌}
use mathlib.Core.Bool.{Bool, true, false, not, cond}
use mathlib.Core.List.{List, ◌∷◌}
use Prim.Native.Nat.{ℕ, zero, suc, ◌≤◌, ◌<◌}
use native.Mathlib.Omega.{arith}
use lib.Dec.{eqb}
use lib.ListN.{length, get_or}
use borrow.Author.Tests.{ne_eqb}
use Rattle.limits.specs.Limits.{capacity}
use Rattle.call_types.specs.declared.Call.{Call}
use Rattle.history.specs.Ledger.{Event, events}
use Rattle.log_whole.specs.Logs.{call_at}
use Rattle.link_steps.specs.Steps.{kept_if}
use Rattle.link_history.specs.Fresh.{Watching}
use Rattle.link_history.specs.Link.{refuses_from}
use Rattle.recount_seen.specs.Seen.{events_of}
use Rattle.recount_marks.specs.Marks.{call_mark, played_mark, Marked}
use Rattle.recount_history.specs.Settings.{watched_in, Timed}
use Rattle.recount_history.proofs.Refusals.{call_kept}
use Rattle.recount_history.proofs.Marked.{served_in, served_few, marks_say}

-- a call is kept where the one or the other test says so
same_test : (refusal : ℕ) (turned : Bool) (c : Call) (h : List Call) → kept_if refusal c h ≡ cond turned h (c ∷ h) → turned ≡ not (eqb refusal 0)
same_test zero true c h e = absurd (omega (arith, ap length e))
same_test zero false c h e = refl
same_test (suc n) true c h e = sym (ap not (ne_eqb (suc n) 0 (λ z. omega arith)))
same_test (suc n) false c h e = absurd (omega (arith, ap length e))

module _ (v : Watching) (t : ℕ) (ok : Timed v t) (log marks : List ℕ) (n : ℕ) (few : n ≤ capacity) (marked : Marked (watched_in v) t log marks n) where
  -- THE THEOREM
  pub mark-tells : (j : ℕ) → j < n → (c : Call) → call_at log j ≡ Some c → eqb (get_or marks j 0) 0 ≡ not (eqb (refuses_from v (served_in v t ok log j) c) 0)
  mark-tells j l c e =
      let h = served_in v t ok log j in
      ap (λ (m : ℕ). eqb m 0) (marked j l)
      ∙ ap (λ (es : List Event). eqb (played_mark (watched_in v) t es (call_at log j)) 0) (marks_say v t ok log marks n few marked j (omega arith))
      ∙ ap (λ (r : Option Call). eqb (played_mark (watched_in v) t (events capacity h) r) 0) e
      ∙ same_test (refuses_from v h c) (eqb (call_mark (watched_in v) t (events capacity h) c) 0) c h (call_kept h (omega (arith, served_few v t ok log j, few, l)) v t ok c)
