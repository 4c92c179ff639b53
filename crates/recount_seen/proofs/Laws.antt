-- A byte that is no mark says nothing of its record. Assumes nothing.
use Rattle.std.specs.Prelude.{Option, Some, None}
use Rattle.std.proofs.Common.{◌≡◌, ℕ, ◌<◌, refl, arith}
use borrow.Author.Tests.{ne_eqb}
use Rattle.call_types.specs.declared.Call.{Call}
use Rattle.call_types.specs.declared.Call.TheVariants as call
use Rattle.recount_seen.specs.declared.Seen.TheVariants.{Nothing}
use Rattle.recount_seen.specs.Seen.{seen_by}

pub no_mark : (n : ℕ) (x : Option Call) → 5 < n → Nothing ≡ seen_by n x
no_mark n None far = refl
no_mark n (Some (call.Sent s)) far = simp (ne_eqb n 1 (omega arith))
no_mark n (Some (call.Accept a)) far = simp (ne_eqb n 2 (omega arith), ne_eqb n 3 (omega arith), ne_eqb n 4 (omega arith), ne_eqb n 5 (omega arith))
no_mark n (Some (call.Observe o)) far = simp (ne_eqb n 1 (omega arith))
no_mark n (Some (call.Advance t)) far = refl
no_mark n (Some call.Idle) far = refl
