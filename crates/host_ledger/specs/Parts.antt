-- The parts of a ledger in words: what any words say, and the words of a value. What is absent is 0, a flag is 0 or 1 and read as set where it
-- is not 0, two u32 share a word, the first in its lower half. `..At at w` reads the words of w from place `at` on.
-- `..Kept` says that a value is read back from its words, as every value is that fits its type (proofs/Back.antt). Assumes nothing.
use Rattle.delays.specs.declared.Nanoseconds.{Nanoseconds}
use Rattle.std.specs.Prelude.{◌≡◌, Bool, true, false, cond, List, [], ◌∷◌, ◌++◌, ℕ, ◌+◌, ◌%◌, ◌^◌, eqb, get_or, Option, Some, None}
use Rattle.call_types.specs.declared.CounterPoint.{CounterPoint}
use Rattle.replies.specs.declared.Replies.{Replies}
use Rattle.delays.specs.declared.Delays.{Delays}
use Rattle.direct.specs.declared.Epoch.{Epoch}
use Rattle.direct.specs.declared.Direct.{Direct}
use Rattle.follow_ups.specs.declared.FollowCounts.{FollowCounts}
use Rattle.follow_ups.specs.declared.FollowUps.{FollowUps}
use Rattle.ledger_state.specs.declared.Secret.{Secret}
use Rattle.host_numbers.specs.Numbers.{lower, upper, joined, flag_word, is_set}
use Rattle.host_quality.specs.Words.{quality_at, quality_words}

-- ---- the words of the hash: eight numbers in four words

-- the eight numbers in the four words from `at` on, two a word: first and second, third and fourth, and so on
unfoldable pub secret_at : ℕ → List ℕ → Secret
secret_at at w = record {
  first = lower (get_or w at 0);
  second = upper (get_or w at 0);
  third = lower (get_or w (at + 1) 0);
  fourth = upper (get_or w (at + 1) 0);
  fifth = lower (get_or w (at + 2) 0);
  sixth = upper (get_or w (at + 2) 0);
  seventh = lower (get_or w (at + 3) 0);
  eighth = upper (get_or w (at + 3) 0);
}

-- their four words, in the same order
unfoldable pub secret_words : Secret → List ℕ
secret_words s = joined s.first s.second ∷ joined s.third s.fourth ∷ joined s.fifth s.sixth ∷ joined s.seventh s.eighth ∷ []

-- these eight numbers are read back from their words
abbrev pub SecretKept : Secret → Type 0
SecretKept s = secret_at 0 (secret_words s) ≡ s

-- ---- the counts of replies, fourteen words and one elsewhere; a reflector number has bit 32 set, so that number 0 is not none

-- a reflector number, last or highest, as its word says it: none where the word is 0, else the lower half
abbrev pub reflector_of : ℕ → Option ℕ
reflector_of word = cond (is_set word) (Some (lower word)) None

-- its word: 0 for none, else the number with bit 32 set
abbrev pub reflector_word : Option ℕ → ℕ
reflector_word None = 0
reflector_word (Some n) = n + 2 ^ 32

-- this number, or none, is read back from its word
abbrev pub ReflectorKept : Option ℕ → Type 0
ReflectorKept n = reflector_of (reflector_word n) ≡ n

-- from `at` on: four totals, four counts of answers, four words on reflector numbers, two of evictions; at `lost` the probes evicted unanswered
unfoldable pub replies_at : (at lost : ℕ) → List ℕ → Replies
replies_at at lost w = record {
  totals = record { requested = get_or w at 0; unique = get_or w (at + 1) 0; duplicate = get_or w (at + 2) 0; unknown = get_or w (at + 3) 0 };
  answers = record { answered = get_or w (at + 4) 0; additional = get_or w (at + 5) 0; late = get_or w (at + 6) 0; satisfied = get_or w (at + 7) 0 };
  numbers = record { last = reflector_of (get_or w (at + 8) 0); highest = reflector_of (get_or w (at + 9) 0); reordered = get_or w (at + 10) 0; independent = get_or w (at + 11) 0 };
  evicted = record { probes = get_or w (at + 12) 0; replies = get_or w (at + 13) 0; unanswered = get_or w lost 0 };
}

-- the fourteen words, in the same order
unfoldable pub replies_words : Replies → List ℕ
replies_words r =
    r.totals.requested ∷ r.totals.unique ∷ r.totals.duplicate ∷ r.totals.unknown
    ∷ r.answers.answered ∷ r.answers.additional ∷ r.answers.late ∷ r.answers.satisfied
    ∷ reflector_word r.numbers.last ∷ reflector_word r.numbers.highest ∷ r.numbers.reordered ∷ r.numbers.independent
    ∷ r.evicted.probes ∷ r.evicted.replies ∷ []

-- ---- delays, eight words: the count, the sum's sign and two words, the kind and the magnitude of the smallest and of the largest

-- kind 0: none; 2: a negative one; any other: one that is not
abbrev pub extreme_of : ℕ → ℕ → Option Nanoseconds
extreme_of kind magnitude = cond (is_set kind) (Some (record { negative = eqb kind 2; magnitude = magnitude })) None

-- the kind of a smallest or largest delay: 0 where there is none, 1 not negative, 2 negative
abbrev pub extreme_kind : Option Nanoseconds → ℕ
extreme_kind None = 0
extreme_kind (Some ns) = 1 + flag_word ns.negative

-- its magnitude in ns, 0 where there is none
abbrev pub extreme_magnitude : Option Nanoseconds → ℕ
extreme_magnitude None = 0
extreme_magnitude (Some ns) = ns.magnitude

-- of these eight numbers; the sum is a sign (negative where it is not 0), then the high word and the low one
unfoldable pub delays_of : ℕ → ℕ → ℕ → ℕ → ℕ → ℕ → ℕ → ℕ → Delays
delays_of count negative high low min_kind min max_kind max = record {
  count = count;
  sum = record { negative = is_set negative; high = high; low = low };
  min = extreme_of min_kind min;
  max = extreme_of max_kind max;
}

-- the same of the eight words from `at` on
abbrev pub delays_at : ℕ → List ℕ → Delays
delays_at at w =
    delays_of (get_or w at 0) (get_or w (at + 1) 0) (get_or w (at + 2) 0) (get_or w (at + 3) 0) (get_or w (at + 4) 0) (get_or w (at + 5) 0) (get_or w (at + 6) 0) (get_or w (at + 7) 0)

-- their eight words, in the same order
unfoldable pub delays_words : Delays → List ℕ
delays_words d =
    d.count ∷ flag_word d.sum.negative ∷ d.sum.high ∷ d.sum.low
    ∷ extreme_kind d.min ∷ extreme_magnitude d.min ∷ extreme_kind d.max ∷ extreme_magnitude d.max ∷ []

-- ---- direct loss, eleven words: four counts, a flag, then six words of the window

-- a point of the three counters: S_TxC, R_RxC, R_TxC
abbrev pub point_of : ℕ → ℕ → ℕ → CounterPoint
point_of sender received transmitted = record { sender = record { 0 = sender }; received = record { 0 = received }; transmitted = record { 0 = transmitted } }

-- the anchor's first two counters, both transmit counters, the latest's first two, the two maxima, how many offsets were seen
unfoldable pub epoch_of : ℕ → ℕ → ℕ → ℕ → ℕ → Epoch
epoch_of anchor transmitted latest maxima seen = record {
  anchor = point_of (lower anchor) (upper anchor) (lower transmitted);
  latest = point_of (lower latest) (upper latest) (upper transmitted);
  sender = lower maxima;
  received = upper maxima;
  seen = seen;
}

-- the five words of what is known since the anchor, in that order
unfoldable pub epoch_words : Epoch → List ℕ
epoch_words e =
    joined e.anchor.sender.0 e.anchor.received.0 ∷ joined e.anchor.transmitted.0 e.latest.transmitted.0
    ∷ joined e.latest.sender.0 e.latest.received.0 ∷ joined e.sender e.received ∷ e.seen ∷ []

-- these five are the words of an epoch, which is read back from them
pub record EpochSaid (e : Epoch) (anchor transmitted latest maxima seen : ℕ) : Type 0 where
  pub said : anchor ∷ transmitted ∷ latest ∷ maxima ∷ seen ∷ [] ≡ epoch_words e
  pub kept : epoch_of anchor transmitted latest maxima seen ≡ e

-- in six words from `at` on: 0 where there is no anchor, whatever follows; else what is known since the anchor
unfoldable pub window_at : ℕ → List ℕ → Option Epoch
window_at at w =
    cond (is_set (get_or w at 0)) (Some (epoch_of (get_or w (at + 1) 0) (get_or w (at + 2) 0) (get_or w (at + 3) 0) (get_or w (at + 4) 0) (get_or w (at + 5) 0))) None

-- its six words: 1 and the five of what is known since the anchor, or zeros without one
abbrev pub window_words : Option Epoch → List ℕ
window_words None = 0 ∷ 0 ∷ 0 ∷ 0 ∷ 0 ∷ 0 ∷ []
window_words (Some e) = 1 ∷ epoch_words e

-- what is known since the anchor, or that there is none, is read back from its words
abbrev pub WindowKept : Option Epoch → Type 0
WindowKept x = window_at 0 (window_words x) ≡ x

-- from `at` on: observations, unavailable, discontinuities, reordered, history exceeded, then the window
unfoldable pub direct_at : ℕ → List ℕ → Direct
direct_at at w = record {
  counts = record {
    observations = get_or w at 0;
    unavailable = get_or w (at + 1) 0;
    discontinuities = get_or w (at + 2) 0;
    reordered = get_or w (at + 3) 0;
    exceeded = is_set (get_or w (at + 4) 0);
  };
  window = window_at (at + 5) w;
}

-- its eleven words, in the same order
unfoldable pub direct_words : Direct → List ℕ
direct_words d =
    d.counts.observations ∷ d.counts.unavailable ∷ d.counts.discontinuities ∷ d.counts.reordered ∷ flag_word d.counts.exceeded ∷ window_words d.window

-- this direct loss is read back from its words
abbrev pub DirectKept : Direct → Type 0
DirectKept d = direct_at 0 (direct_words d) ≡ d

-- ---- follow-ups: six counts, the delays, the clock quality

-- from `at` on: observations, matched, repeated, unmatched, ambiguous, unavailable, then delays, clock quality
unfoldable pub follow_at : ℕ → List ℕ → FollowUps
follow_at at w = record {
  counts = record {
    observations = get_or w at 0;
    matched = get_or w (at + 1) 0;
    repeated = get_or w (at + 2) 0;
    unmatched = get_or w (at + 3) 0;
    ambiguous = get_or w (at + 4) 0;
    unavailable = get_or w (at + 5) 0;
  };
  delay = delays_at (at + 6) w;
  quality = quality_at (at + 14) w;
}

-- the words of the six counts
abbrev pub follow_counts_words : FollowCounts → List ℕ
follow_counts_words n = n.observations ∷ n.matched ∷ n.repeated ∷ n.unmatched ∷ n.ambiguous ∷ n.unavailable ∷ []

-- the words of all
unfoldable pub follow_words : FollowUps → List ℕ
follow_words f = follow_counts_words f.counts ++ (delays_words f.delay ++ quality_words f.quality)

-- these follow-ups are read back from their words
abbrev pub FollowKept : FollowUps → Type 0
FollowKept f = follow_at 0 (follow_words f) ≡ f
