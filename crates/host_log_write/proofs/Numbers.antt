-- A record's writer refuses a wrong size with 5, and nothing else: the scale of an estimate has six bits on the wire, so 1 is never answered.
-- Assumes nothing.
use mathlib.Core.Path.{◌≡◌, refl, ap, ◌∙◌}
use mathlib.Core.Bool.{Bool, true, false, ◌&&◌, cond}
use mathlib.Core.List.{List}
use Prim.Native.Nat.{ℕ, ◌/◌, ◌%◌, ◌≤◌}
use native.Mathlib.Omega.{arith}
use lib.Dec.{eqb}
use lib.ListN.{length}
use borrow.Author.Tests.{le-leb}
use Rattle.std.specs.Prelude.{Ok, Err}
use Rattle.limits.specs.declared.Refusal.TheVariants as refusal
use Rattle.limits.specs.Refusals.{wrong_room}
use Rattle.record_parts.specs.declared.Entry.{Entry}
use Rattle.record_parts.specs.Parts.{flag, estimates_by}
use Rattle.ranges.specs.Ranges.{estimates_fit}
use Rattle.log_record.specs.Records.{scales_fit, number_in, told_of, written_to}
use Rattle.host_observation.specs.Observation.{word, flags_at, observation_at}
use Rattle.host_log_write.specs.Told.{accept_told, observe_told, advance_told, idle_told}

-- the number of every writer of a record
abbrev pub number_by : List ℕ → ℕ
number_by bytes = cond (eqb (length bytes) 96) 0 wrong_room

by_size : (bytes : List ℕ) (c : Entry) → scales_fit c ≡ true → (told_of (written_to bytes c)).number ≡ number_by bytes
unfolding written_to
by_size bytes c e =
    ap (λ (fits : Bool). number_in (cond (eqb (length bytes) 96) (cond fits (Ok tt) (Err refusal.OutOfRange)) (Err refusal.WrongRoom))) e ∙ by (eqb (length bytes) 96)
  where
    by : (sized : Bool) → number_in (cond sized (Ok tt) (Err refusal.WrongRoom)) ≡ cond sized 0 wrong_room
    by true = refl
    by false = refl

wires_fit : (there : Bool) (s r : ℕ) → estimates_fit (estimates_by there s r) ≡ true
wires_fit false s r = refl
wires_fit true s r = λ i. le-leb (s / 256 % 64) 63 (six s) i && le-leb (r / 256 % 64) 63 (six r) i
  where
    six : (n : ℕ) → n / 256 % 64 ≤ 63
    six n = omega arith

pub accept-number : (bytes : List ℕ) (sender reflector t3 pending time tag : ℕ)
    → (told_of (written_to bytes (accept_told sender reflector t3 pending time tag))).number ≡ number_by bytes
accept-number bytes sender reflector t3 pending time tag = by_size bytes (accept_told sender reflector t3 pending time tag) refl

pub observe-number : (bytes words : List ℕ) → (told_of (written_to bytes (observe_told words))).number ≡ number_by bytes
unfolding observation_at
observe-number bytes words = by_size bytes (observe_told words) (wires_fit (flag 32 (flags_at words)) (word words 20 % 65536) (word words 20 / 65536))

pub advance-number : (bytes : List ℕ) (time : ℕ) → (told_of (written_to bytes (advance_told time))).number ≡ number_by bytes
advance-number bytes time = by_size bytes (advance_told time) refl

pub idle-number : (bytes : List ℕ) → (told_of (written_to bytes idle_told)).number ≡ number_by bytes
idle-number bytes = by_size bytes idle_told refl
