-- What a served call leaves: at the start of the room the log that log_cut speaks of, and the log is accepted with its settings. Assumes nothing.
use Rattle.std.specs.Prelude.{Result, Ok, Err}
use Rattle.limits.specs.declared.Refusal.{Refusal}
use Rattle.limits.specs.declared.Refusal.TheVariants as refusal
use mathlib.Core.Path.{◌≡◌, refl, sym, ap, ◌∙◌}
use mathlib.Core.Bool.{Bool, true, false, cond}
use mathlib.Core.List.{List}
use Prim.Native.Nat.{ℕ, ◌+◌, ◌≤◌}
use native.Mathlib.Omega.{arith}
use lib.Dec.{ltb}
use lib.ListN.{length, take, drop}
use lib.Seq.{take_at}
use borrow.Author.Tests.{ltb-false}
use Rattle.record_parts.specs.Fits.{U16, U64}
use Rattle.log_whole.specs.Logs.{most_bytes, log_of}
use Rattle.log_cut.specs.Cut.{stop_of, output_of, settings_for}
use Rattle.log_cut.proofs.Output.{output_length, output_accepted}
use Rattle.log_trim.specs.declared.Cut.{Cut}
use Rattle.log_trim.specs.Trimmed.{cut_of, answer_of, room_after, trim_to}
use Rattle.log_trim.proofs.Laws.{answer_by}

module _ (bs : List ℕ) (copies threshold timeout : ℕ) (room : List ℕ) (cut : Cut) where
  -- it says what log_cut says, and the log of `stop` + 24 bytes is that of log_cut
  pub served_is : (trim_to bs copies threshold timeout room).answer ≡ Ok cut
      → (cut ≡ cut_of bs) × (length bs ≤ 65536) × (take (cut.stop + 24) (trim_to bs copies threshold timeout room).room ≡ output_of bs copies threshold timeout)
  unfolding trim_to answer_of
  served_is e =
      let s = served (ltb most_bytes (length bs)) (ltb (length room) (stop_of bs + 24)) refl (opened ∙ e) in (
        s.0,
        s.1,
        ap (λ (a : Result Cut Refusal). take (cut.stop + 24) (room_after a (output_of bs copies threshold timeout) room)) e
            ∙ take_at (output_of bs copies threshold timeout) (drop (length (output_of bs copies threshold timeout)) room) (cut.stop + 24)
            (output_length bs copies threshold timeout ∙ ap (λ (c : Cut). c.stop + 24) (sym s.0)),
      )
    where
      opened : answer_by bs (ltb most_bytes (length bs)) (ltb (length room) (stop_of bs + 24)) ≡ answer_of bs room
      opened = refl

      served : (long short : Bool) → ltb most_bytes (length bs) ≡ long → answer_by bs long short ≡ Ok cut → (cut ≡ cut_of bs) × (length bs ≤ 65536)
      served true short t h = absurd (let z : ◌≡◌ {A = ℕ} 0 1 = cc in omega arith)
      served false true t h = absurd (let z : ◌≡◌ {A = ℕ} 0 1 = cc in omega arith)
      served false false t h = let same : cut ≡ cut_of bs = cc in (same, ltb-false 65536 (length bs) t)

  -- The reader accepts what a served call wrote.
  pub served-accepted : U16 copies → U16 threshold → U64 timeout → (trim_to bs copies threshold timeout room).answer ≡ Ok cut
      → log_of (take (cut.stop + 24) (trim_to bs copies threshold timeout room).room) ≡ Ok (settings_for bs copies threshold timeout)
  served-accepted fc ft fo e =
      let s = served_is e in
      ap log_of s.2 ∙ output_accepted bs copies threshold timeout s.1 fc ft fo
