-- A log that a host has written, the records of entries and then the trailer, is checked as it was written and read as the calls that the records
-- make. Assumes nothing.
use Rattle.std.specs.Prelude.{Option, Result}
use Rattle.call_types.specs.declared.Call.{Call}
use mathlib.Core.Path.{◌≡◌, ap}
use mathlib.Core.List.{List, [], ◌∷◌}
use Prim.Native.Nat.{ℕ, ◌≤◌, ◌<◌}
use lib.ListN.{length, get_or}
use Rattle.record_parts.specs.declared.Entry.{Entry}
use Rattle.record_parts.specs.declared.Entry.TheVariants as entry
use Rattle.record_parts.specs.Parts.{call_of}
use Rattle.record_parts.specs.Fits.{U16, U64}
use Rattle.log_whole.specs.declared.Fault.{Fault}
use Rattle.log_whole.specs.declared.Settings.{Settings}
use Rattle.log_whole.specs.Logs.{log_of}
use Rattle.log_whole.specs.Written.{AllFit, log_bytes}
use Rattle.log_whole.proofs.Back.{log_back, calls_back}
use Rattle.host_call_words.specs.Words.{call_words}
use Rattle.host_log_read.specs.Answers.{left, checked_by, check_to, first_by, first_bad_to, read_by, read_to}

-- `before`: whatever stands before the first record; `room`: what the 24 bytes of the trailer held; `ws`: what the lent words held
module _ (before : List ℕ) (es : List Entry) (room : List ℕ) (copies threshold timeout : ℕ) (sized : length room ≡ 24) (fits : AllFit es)
    (fc : U16 copies) (ft : U16 threshold) (fo : U64 timeout) (small : length (log_bytes before es room copies threshold timeout) ≤ 65536) (ws : List ℕ) where
  pub check-written : check_to (log_bytes before es room copies threshold timeout) ws ≡ left 0 (length es ∷ copies ∷ threshold ∷ timeout ∷ [])
  unfolding check_to
  check-written = ap (λ (l : Result Settings Fault). checked_by l ws) (log_back before es room copies threshold timeout sized fits fc ft fo small)

  pub first_bad-written : first_bad_to (log_bytes before es room copies threshold timeout) ws ≡ left 0 (length es ∷ [])
  unfolding first_bad_to
  first_bad-written = ap (λ (l : Result Settings Fault). first_by l ws) (log_back before es room copies threshold timeout sized fits fc ft fo small)

  pub read-written : (i : ℕ) → i < length es → read_to (log_bytes before es room copies threshold timeout) i ws ≡ left 0 (call_words (call_of (get_or es i entry.Idle)))
  unfolding read_to
  read-written i l =
      ap (λ (p : Option Call). read_by p (log_of (log_bytes before es room copies threshold timeout)) ws)
      (calls_back before es room copies threshold timeout sized fits fc ft fo small i l)
