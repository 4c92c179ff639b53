-- The 24 bytes of a trailer are those of its settings, whatever they held before. Assumes nothing.
use mathlib.Core.Path.{◌≡◌}
use mathlib.Core.Bool.{Bool, true, false}
use mathlib.Core.List.{List}
use Prim.Native.Nat.{ℕ, ◌<◌}
use native.Mathlib.Omega.{arith}
use lib.Dec.{T}
use lib.ListN.{length}
use Rattle.log_rules.proofs.Copied.{covered}
use Rattle.log_rules.proofs.Kept.{each_below}
use Rattle.log_rules.proofs.Over.{written_same}
use Rattle.log_whole.specs.Logs.{trailer_table, trailer_over}

module _ (count copies threshold timeout : ℕ) where
  -- every byte belongs to a field
  whole : (i : ℕ) → i < 24 → T (covered (trailer_table count copies threshold timeout) i)
  whole = each_below 24 (covered (trailer_table count copies threshold timeout)) tt

  never : (b : Bool) → T b → b ≡ false → ⊥
  never true t e = let z : ◌≡◌ {A = ℕ} 0 1 = cc in omega arith
  never false t e = t

  pub trailer_whole : (bs cs : List ℕ) → length bs ≡ 24 → length cs ≡ 24
      → trailer_over bs count copies threshold timeout ≡ trailer_over cs count copies threshold timeout
  unfolding trailer_over
  trailer_whole bs cs p q =
      written_same 24 (trailer_table count copies threshold timeout) bs cs p q tt
      (λ i l e. absurd (never (covered (trailer_table count copies threshold timeout) i) (whole i l) e))
