use mathlib.Core.Path.{sym, ◌∙◌, subst}
use mathlib.Core.Bool.{Bool, true, false}
use Prim.Native.Nat.{ℕ, ◌+◌, ◌^◌, ◌≤◌, ◌<◌}
use native.Mathlib.Omega.{arith}
use Rattle.buckets.specs.Signed.{bucket_count}
use Rattle.buckets.proofs.SignedFacts.{pick-below, pick-above}
use Rattle.histogram_ranks.proofs.block_end.Goals as goal

small : (s : Bool) (from : ℕ) → from < 4096 + bucket_count s → from + 128 < 2 ^ 64
small true from h = omega arith
small false from h = omega arith

pub overflow_add-from : goal.overflow_add-from
overflow_add-from c = record { fits = small c.args.signed c.args.from c.requires }

pub returns-then-from-start : goal.returns-then-from-start
returns-then-from-start c =
    let a = c.args in
    let t = c.totals_start-start.ensures in
    let l : a.from + 128 < 4096 + bucket_count a.signed = subst (λ (n : ℕ). a.from + 128 < n) t c.if-from-start.true in
    (sym (pick-below (a.from + 128) (4096 + bucket_count a.signed) (a.from + 128) (4096 + bucket_count a.signed) l), omega arith, omega arith)

pub returns-else-from-start : goal.returns-else-from-start
returns-else-from-start c =
    let a = c.args in
    let t = c.totals_start-start.ensures in
    let l : 4096 + bucket_count a.signed ≤ a.from + 128 = subst (λ (n : ℕ). n ≤ a.from + 128) t c.if-from-start.false in
    (t ∙ sym (pick-above (a.from + 128) (4096 + bucket_count a.signed) (a.from + 128) (4096 + bucket_count a.signed) l), subst (λ (n : ℕ). a.from < n) (sym t) c.requires, omega arith)
