-- A refusal of the writers changes nothing. Assumes nothing.
use Rattle.std.specs.Prelude.{Result, Ok, Err}
use Rattle.limits.specs.declared.Refusal.{Refusal}
use Rattle.limits.specs.declared.Refusal.TheVariants as refusal
use mathlib.Core.Path.{◌≡◌, refl}
use mathlib.Core.Bool.{Bool, true, false, cond}
use mathlib.Core.List.{List}
use Prim.Native.Nat.{ℕ}
use lib.Dec.{ltb}
use lib.ListN.{length}
use Rattle.big_endian.specs.Fields.{Field, written}
use Rattle.area_fields.specs.Fields.{Wrote, wrote, wrote_fields}

pub refused-unchanged : (n : ℕ) (fs : List Field) (bytes : List ℕ) → ((wrote_fields n fs bytes).answer ≡ Ok tt → ⊥) → (wrote_fields n fs bytes).bytes ≡ bytes
unfolding wrote_fields
refused-unchanged n fs bytes = by (ltb (length bytes) n)
  where
    by : (b : Bool) → let w : Wrote = cond b (wrote (Err refusal.ShortRoom) bytes) (wrote (Ok tt) (written fs bytes)) in (◌≡◌ {A = Result (Unit {0}) Refusal} w.answer (Ok tt) → ⊥) → w.bytes ≡ bytes
    by true h = refl
    by false h = absurd (h refl)
