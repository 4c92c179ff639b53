-- A host's calls one after the other on four words and a room, and what the percentiles shown then mean. Assumes nothing.
use Rattle.std.specs.Prelude.{◌≡◌, Bool, List, [], ◌∷◌, ℕ, ◌*◌, ◌≤◌, ◌<◌, Float, length, get_or}
use Rattle.rank.specs.Rank.{rank_of}
use Rattle.exact_rank.specs.Rank.{sorted}
use Rattle.buckets.specs.Signed.{magnitude, order, gap}
use Rattle.host_quantiles.specs.Calls.{fresh_to, RecordLeft, record_to}

-- what a host has of a series: the four words, the room, and the word of the last answer
pub record Series : Type 0 where
  pub words : List ℕ
  pub room : List ℕ
  pub answer : List ℕ

-- after one call of `record`
abbrev pub after : RecordLeft → Series
after l = record { words = l.words; room = l.room; answer = l.recorded }

-- after a call of `record` for each of the values, in order, each given what the last one left
unfoldable pub record_each : Series → List ℕ → Series
record_each s [] = s
record_each s (v ∷ vs) = record_each (after (record_to s.words s.room v s.answer)) vs

-- the same from fresh: `fresh` for signed values or not, whatever the memory held
unfoldable pub grown : Series → ℕ → List ℕ → Series
grown s signed vs = record_each (record { words = (fresh_to s.words signed).words; room = s.room; answer = s.answer }) vs

-- each of the calls answers 0, and 1 in its word: counted
unfoldable pub AllCounted : Series → List ℕ → Type 0
AllCounted s [] = Unit {0}
AllCounted s (v ∷ vs) =
    ((record_to s.words s.room v s.answer).number ≡ 0) × (get_or (record_to s.words s.room v s.answer).recorded 0 0 ≡ 1)
    × AllCounted (after (record_to s.words s.room v s.answer)) vs

-- the sample that has a percentile's rank in sorted order
abbrev pub sample_of : Bool → List ℕ → Float → ℕ
sample_of s vs p = get_or (sorted (order s) vs) (rank_of p (length vs)) 0

-- a word shown of a percentile: up to 4,096 samples the one of its rank, beyond that within 1/128 of it
pub record Means (s : Bool) (vs : List ℕ) (p : Float) (shown : ℕ) : Type 0 where
  pub exact : length vs ≤ 4096 → shown ≡ sample_of s vs p
  pub near : 4096 < length vs → 128 * gap s (sample_of s vs p) shown ≤ magnitude s (sample_of s vs p)

-- each word shown, of the percentile at its place, and no word more
pub data AllMean (s : Bool) (vs : List ℕ) : List Float → List ℕ → Type 0 where
  none : AllMean s vs [] []
  more : {p : Float} {ps : List Float} {shown : ℕ} {rest : List ℕ} → Means s vs p shown → AllMean s vs ps rest → AllMean s vs (p ∷ ps) (shown ∷ rest)
