-- What is carried from bit to bit: how many ones were passed, the run of ones that reaches up to here, and the longest run. Assumes nothing.
use Rattle.std.specs.Prelude.{List, ℕ, ◌+◌, ◌^◌, ◌≤◌, ◌<◌, max}
use Rattle.bit_runs.specs.declared.Tally.{Tally}
use Rattle.bit_runs.specs.Bits.{ones_of, longest_from, ending_run}

-- before the first bit
abbrev pub none : Tally
none = record { errors = 0; run = 0; longest = 0 }

-- behind some bits more
abbrev pub after : List ℕ → Tally → Tally
after bits t = record {
  errors = t.errors + ones_of bits;
  run = ending_run t.run bits;
  longest = max t.longest (longest_from t.run bits);
}

-- n bits more can be counted
pub record Room (n : ℕ) (t : Tally) : Type 0 where
  pub errors : t.errors + n < 2 ^ 32
  pub longest : t.longest + n < 2 ^ 32
  pub run : t.run ≤ t.longest
