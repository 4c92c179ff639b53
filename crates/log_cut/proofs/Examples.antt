-- Worked examples: cut logs of records of the kind idle, and what is no whole log. Assumes nothing.
use Rattle.std.specs.Prelude.{Ok}
use mathlib.Core.Path.{◌≡◌, refl}
use mathlib.Core.Bool.{true}
use mathlib.Core.List.{List, [], ◌∷◌, ◌++◌}
use Prim.Native.Nat.{ℕ}
use lib.ListN.{take, drop, replicate}
use Rattle.log_record.specs.Records.{table_of, blank, record_of, entry_of, good}
use Rattle.record_parts.specs.Parts.{observe_flags}
use Rattle.log_whole.specs.Logs.{settings_of, trailer_good, log_of, trailer_over}
use Rattle.log_cut.specs.Cut.{kept_of, whole, dropped_of, trailer_of, output_of}

-- "4 idle": byte 0 is 4, byte 95 is 251
abbrev idle : List ℕ
idle = 4 ∷ (replicate 94 0 ++ (251 ∷ []))

-- a log of one record: copies 2, threshold 3, timeout 5
abbrev one : List ℕ
one = idle ++ (0 ∷ 0 ∷ 0 ∷ 120 ∷ 0 ∷ 0 ∷ 0 ∷ 1 ∷ 0 ∷ 2 ∷ 0 ∷ 3 ∷ 0 ∷ 0 ∷ 0 ∷ 0 ∷ 0 ∷ 0 ∷ 0 ∷ 5 ∷ 83 ∷ 84 ∷ 76 ∷ 71 ∷ [])

-- what is said and written of bytes, with copies 1, threshold 2, timeout 1,000
pub record Outcome : Type 0 where
  pub kept : ℕ
  pub dropped : ℕ
  pub written : List ℕ

abbrev outcome : List ℕ → Outcome
outcome bs = record { kept = kept_of bs; dropped = dropped_of bs; written = output_of bs 1 2 1000 }

-- the trailers that are written for no record, and for one
abbrev new_0 : List ℕ
new_0 = 0 ∷ 0 ∷ 0 ∷ 24 ∷ 0 ∷ 0 ∷ 0 ∷ 0 ∷ 0 ∷ 1 ∷ 0 ∷ 2 ∷ 0 ∷ 0 ∷ 0 ∷ 0 ∷ 0 ∷ 0 ∷ 3 ∷ 232 ∷ 83 ∷ 84 ∷ 76 ∷ 71 ∷ []

abbrev new_1 : List ℕ
new_1 = 0 ∷ 0 ∷ 0 ∷ 120 ∷ 0 ∷ 0 ∷ 0 ∷ 1 ∷ 0 ∷ 1 ∷ 0 ∷ 2 ∷ 0 ∷ 0 ∷ 0 ∷ 0 ∷ 0 ∷ 0 ∷ 3 ∷ 232 ∷ 83 ∷ 84 ∷ 76 ∷ 71 ∷ []

-- no bytes at all: a log of count 0
pub nothing : outcome [] ≡ record { kept = 0; dropped = 0; written = new_0 }
unfolding kept_of whole dropped_of trailer_of output_of log_of trailer_good settings_of trailer_over
nothing = refl

-- fewer than 24
pub few_bytes : outcome (take 23 one) ≡ record { kept = 0; dropped = 23; written = new_0 }
unfolding kept_of whole dropped_of trailer_of output_of log_of trailer_good settings_of trailer_over good record_of table_of blank entry_of observe_flags
few_bytes = refl

-- whole: given back as it is, its own settings too
pub untouched : outcome one ≡ record { kept = 1; dropped = 0; written = one }
unfolding kept_of whole dropped_of trailer_of output_of log_of trailer_good settings_of trailer_over good record_of table_of blank entry_of observe_flags
untouched = refl

-- cut exactly behind the record: nothing is dropped, and there is a new trailer
pub between : outcome (take 96 one) ≡ record { kept = 1; dropped = 0; written = idle ++ new_1 }
unfolding kept_of whole dropped_of trailer_of output_of log_of trailer_good settings_of trailer_over good record_of table_of blank entry_of observe_flags
between = refl

-- cut in the trailer
pub in_the_trailer : outcome (take 119 one) ≡ record { kept = 1; dropped = 23; written = idle ++ new_1 }
unfolding kept_of whole dropped_of trailer_of output_of log_of trailer_good settings_of trailer_over good record_of table_of blank entry_of observe_flags
in_the_trailer = refl

-- a trailer that is there but bad: `STLX`
pub bad_trailer : outcome (take 119 one ++ (88 ∷ [])) ≡ record { kept = 1; dropped = 24; written = idle ++ new_1 }
unfolding kept_of whole dropped_of trailer_of output_of log_of trailer_good settings_of trailer_over good record_of table_of blank entry_of observe_flags
bad_trailer = refl

-- a good trailer behind a bad record: byte 1 is 7
pub behind_a_bad_record : outcome (4 ∷ 7 ∷ drop 2 one) ≡ record { kept = 0; dropped = 120; written = new_0 }
unfolding kept_of whole dropped_of trailer_of output_of log_of trailer_good settings_of trailer_over good record_of table_of blank entry_of observe_flags
behind_a_bad_record = refl

-- leading matter is read as records too: one byte before the first
pub leading_matter : outcome (9 ∷ one) ≡ record { kept = 0; dropped = 121; written = new_0 }
unfolding kept_of whole dropped_of trailer_of output_of log_of trailer_good settings_of trailer_over good record_of table_of blank entry_of observe_flags
leading_matter = refl

-- leading matter that is a good record is kept as one, and the log behind it up to its trailer
pub leading-record : outcome (idle ++ one) ≡ record { kept = 2; dropped = 24; written = (idle ++ idle) ++ trailer_of 2 1 2 1000 }
unfolding kept_of whole dropped_of trailer_of output_of log_of trailer_good settings_of trailer_over good record_of table_of blank entry_of observe_flags
leading-record = refl

-- two logs one after the other: the records of the first
pub two_logs : outcome (one ++ one) ≡ record { kept = 1; dropped = 144; written = idle ++ new_1 }
unfolding kept_of whole dropped_of trailer_of output_of log_of trailer_good settings_of trailer_over good record_of table_of blank entry_of observe_flags
two_logs = refl

-- ---- `linkreport` itself can be misled, since anything may stand before a log's first record: an accept whose bytes 4 to 27 look like a trailer

abbrev unlucky : List ℕ
unlucky =
    1 ∷ 1 ∷ 0 ∷ 0 ∷ 0 ∷ 0 ∷ 0 ∷ 24 ∷ 0 ∷ 0 ∷ 0 ∷ 0 ∷ 0 ∷ 1 ∷ 0 ∷ 0 ∷ 0 ∷ 0 ∷ 0 ∷ 0 ∷ 0 ∷ 0 ∷ 0 ∷ 0 ∷ 83 ∷ 84 ∷ 76 ∷ 71
    ∷ (replicate 67 0 ++ (254 ∷ []))

pub unlucky_good : good unlucky ≡ true
unfolding good record_of table_of blank entry_of observe_flags
unlucky_good = refl

-- cut behind byte 27 it is accepted as a log of no records with four bytes before it
pub unlucky_accepted : log_of (take 28 unlucky) ≡ Ok (record { copies = 1; threshold = 0; timeout = 0; count = 0; start = 4 })
unfolding log_of trailer_good settings_of
unlucky_accepted = refl

-- and trimmed as what it is, an incomplete record
pub unlucky_trimmed : outcome (take 28 unlucky) ≡ record { kept = 0; dropped = 28; written = new_0 }
unfolding kept_of whole dropped_of trailer_of output_of log_of trailer_good settings_of trailer_over good record_of table_of blank entry_of observe_flags
unlucky_trimmed = refl
