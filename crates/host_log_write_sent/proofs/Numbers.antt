-- The writer refuses a wrong size with 5, and nothing else. Assumes nothing.
use mathlib.Core.Path.{◌≡◌, refl}
use mathlib.Core.Bool.{Bool, true, false, cond}
use Rattle.std.specs.Prelude.{Ok, Err}
use Rattle.limits.specs.declared.Refusal.TheVariants as refusal
use mathlib.Core.List.{List}
use Prim.Native.Nat.{ℕ}
use lib.Dec.{eqb}
use lib.ListN.{length}
use Rattle.limits.specs.Refusals.{wrong_room}
use Rattle.log_record.specs.Records.{number_in, told_of, written_to}
use Rattle.host_log_write_sent.specs.Told.{sent_told}

pub sent-number : (bytes : List ℕ) (sequence ordinal train time tag : ℕ)
    → (told_of (written_to bytes (sent_told sequence ordinal train time tag))).number ≡ cond (eqb (length bytes) 96) 0 wrong_room
unfolding written_to
sent-number bytes sequence ordinal train time tag = by (eqb (length bytes) 96)
  where
    by : (sized : Bool) → number_in (cond sized (Ok tt) (Err refusal.WrongRoom)) ≡ cond sized 0 wrong_room
    by true = refl
    by false = refl
