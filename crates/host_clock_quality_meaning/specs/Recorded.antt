-- A host's calls of a clock quality one after the other, the newest first, and the plain list of the samples that were served. Assumes nothing.
use Rattle.estimate.specs.declared.ErrorEstimate.{ErrorEstimate}
use Rattle.std.specs.Prelude.{cond, List, [], ◌∷◌, ℕ, ltb, length, Option}
use Rattle.limits.specs.Limits.{count_bound}
use Rattle.limits.specs.Refusals.{counts_full}
use Rattle.host_clock_quality.specs.Calls.{estimates_from, fresh_to, record_to}

-- what a host tells `record`: 0 for no estimates, and the two as on the wire
pub record Told : Type 0 where
  pub estimated : ℕ
  pub sender : ℕ
  pub reflector : ℕ

-- the sample that this says
abbrev pub sample_of : Told → Option (ErrorEstimate × ErrorEstimate)
sample_of t = estimates_from t.estimated t.sender t.reflector

-- the samples that are served: each while fewer than 2^63 were, and none after
unfoldable pub served : List Told → List (Option (ErrorEstimate × ErrorEstimate))
served [] = []
served (t ∷ ts) = cond (ltb (length (served ts)) count_bound) (sample_of t ∷ served ts) (served ts)

-- the number of a call that comes after others: 4 where 2^63 samples were served
abbrev pub number_after : List Told → ℕ
number_after ts = cond (ltb (length (served ts)) count_bound) 0 counts_full

-- the words that `fresh` and then these calls leave, whatever they held before
unfoldable pub words_after : List ℕ → List Told → List ℕ
words_after ws [] = (fresh_to ws).words
words_after ws (t ∷ ts) = (record_to (words_after ws ts) t.estimated t.sender t.reflector).words
