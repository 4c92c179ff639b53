-- What a summary shows of the plain list of samples, the newest first. Assumes nothing.
use Rattle.std.specs.Prelude.{◌≡◌, ℕ, zero, suc, ◌+◌, max, List, [], ◌∷◌, length, Option, Some, None, Result, Ok, Err}
use Rattle.limits.specs.declared.Refusal.{Refusal}
use Rattle.bit_summary.specs.declared.Sample.{Sample}
use Rattle.bit_summary.specs.declared.Ratios.{Ratios}
use Rattle.bit_summary.specs.declared.DirectionSummary.{DirectionSummary}
use Rattle.bit_summary.specs.Summary.{fresh}
use Rattle.bit_summary.specs.Record.{record_to, state_after}
use Rattle.bit_summary.specs.Shown.{ratio_of, per_million}

-- all added up
unfoldable pub total : List ℕ → ℕ
total [] = 0
total (n ∷ ns) = n + total ns

-- the greatest, and none where there is none
unfoldable pub greatest : List ℕ → Option ℕ
greatest [] = None
greatest (n ∷ ns) = Some (largest n ns)
  where
    largest : ℕ → List ℕ → ℕ
    largest m [] = m
    largest m (n ∷ ns) = max m (largest n ns)

-- the bits of each sample
unfoldable pub bits_of : List Sample → List ℕ
bits_of [] = []
bits_of (s ∷ ss) = s.bits ∷ bits_of ss

-- the wrong bits of each
unfoldable pub errors_of : List Sample → List ℕ
errors_of [] = []
errors_of (s ∷ ss) = s.errors ∷ errors_of ss

-- a sample before these, where it has wrong bits
abbrev pub faulty_and : ℕ → Sample → List Sample → List Sample
faulty_and zero s ss = ss
faulty_and (suc n) s ss = s ∷ ss

-- those with wrong bits
unfoldable pub with_errors : List Sample → List Sample
with_errors [] = []
with_errors (s ∷ ss) = faulty_and s.errors s (with_errors ss)

-- a burst before these, where it is known
abbrev pub burst_and : Option ℕ → List ℕ → List ℕ
burst_and None ns = ns
burst_and (Some n) ns = n ∷ ns

-- the bursts, of those that have one
unfoldable pub bursts_of : List Sample → List ℕ
bursts_of [] = []
bursts_of (s ∷ ss) = burst_and s.burst (bursts_of ss)

-- each count and sum, from the samples alone
pub record Shows (ss : List Sample) (d : DirectionSummary) : Type 0 where
  pub received : d.received ≡ length ss
  pub faulty : d.faulty ≡ length (with_errors ss)
  pub bits : d.bits ≡ total (bits_of ss)
  pub errors : d.errors ≡ total (errors_of ss)
  pub bursts : d.bursts ≡ length (bursts_of ss)
  pub sum : d.sum ≡ total (bursts_of ss)
  pub longest : d.longest ≡ greatest (bursts_of ss)

-- and the ratios
unfoldable pub ratios_of : List Sample → Ratios
ratios_of ss = record {
  ratio = ratio_of (total (errors_of ss)) (total (bits_of ss));
  errors = per_million (ratio_of (total (errors_of ss)) (total (bits_of ss)));
  packets = per_million (ratio_of (length (with_errors ss)) (length ss));
  burst = ratio_of (total (bursts_of ss)) (length (bursts_of ss));
}

-- the summary that calls leave, one after the other from fresh, refused ones included
unfoldable pub played : List Sample → DirectionSummary
played [] = fresh
played (s ∷ ss) = state_after (played ss) (record_to (played ss) s)

-- a sample before these, where its call was served
abbrev pub and_served : Result DirectionSummary Refusal → Sample → List Sample → List Sample
and_served (Err e) s ss = ss
and_served (Ok next) s ss = s ∷ ss

-- the samples of the calls that were served
unfoldable pub served : List Sample → List Sample
served [] = []
served (s ∷ ss) = and_served (record_to (played ss) s) s (served ss)
