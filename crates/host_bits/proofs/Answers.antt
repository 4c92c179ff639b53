-- What the proofs of the calls cite: each case of the answer below. Assumes nothing.
use Rattle.std.specs.Prelude.{Option, Some, None, Result, Ok, Err}
use Rattle.limits.specs.declared.Refusal.{Refusal}
use Rattle.limits.specs.Numbers.{number_of}
use mathlib.Core.Path.{◌≡◌, ap, ◌∙◌}
use mathlib.Core.Bool.{not}
use mathlib.Core.List.{List}
use Prim.Native.Nat.{ℕ}
use lib.Dec.{eqb}
use lib.ListN.{get_or, set}
use lib.Seq.{sets}
use borrow.Author.Tests.{eq-eqb, ne_eqb}
use Rattle.host_numbers.specs.Numbers.{lower}
use Rattle.bit_pattern.specs.Pattern as pattern-call
use Rattle.bit_errors.specs.declared.BitErrors.{BitErrors}
use Rattle.bit_errors.specs.Errors as errors-call
use Rattle.bit_observation.specs.declared.Sample as observation-sample
use Rattle.bit_observation.specs.declared.Observed.{Observed}
use Rattle.bit_observation.specs.declared.Observed.TheVariants as observed-as
use Rattle.bit_observation.specs.Observation.{observed}
use Rattle.bit_summary.specs.declared.Sample.{Sample}
use Rattle.bit_summary.specs.declared.Ratios.{Ratios}
use Rattle.bit_summary.specs.declared.DirectionSummary.{DirectionSummary}
use Rattle.bit_summary.specs.Summary.{fresh}
use Rattle.bit_summary.specs.Record as record-call
use Rattle.bit_summary.specs.Shown.{shown_of}
use Rattle.host_bits.specs.Words.{burst_from, known, word_of, ratio_word, summary_at, summary_words}
use Rattle.host_bits.specs.Calls.{parse_left, parse_by, parse_to, count_left, count_by, count_to, observed_words, observe_by, observe_to, fresh_to, record_by, record_to, show_to}

-- ---- small parts

pub no_burst : (told bits : ℕ) → told ≡ 0 → None ≡ burst_from told bits
no_burst told bits h = rw (eq-eqb told 0 h)

pub a_burst : (told bits : ℕ) → (told ≡ 0 → ⊥) → Some bits ≡ burst_from told bits
a_burst told bits h = rw (ne_eqb told 0 h)

pub load_said : (ws : List ℕ) (b : Option ℕ) (n : ℕ) → n ≡ lower (get_or ws 7 0) → b ≡ burst_from (get_or ws 6 0) n
    → ◌≡◌ {A = DirectionSummary} (record { received = get_or ws 0 0; faulty = get_or ws 1 0; bits = get_or ws 2 0; errors = get_or ws 3 0; bursts = get_or ws 4 0; sum = get_or ws 5 0; longest = b }) (summary_at ws)
load_said ws b n e h =
    let f = h ∙ ap (burst_from (get_or ws 6 0)) e in
    λ i. record { received = get_or ws 0 0; faulty = get_or ws 1 0; bits = get_or ws 2 0; errors = get_or ws 3 0; bursts = get_or ws 4 0; sum = get_or ws 5 0; longest = f i }

pub store_said : (ws : List ℕ) (d : DirectionSummary) (k n : ℕ) → k ≡ known d.longest → n ≡ word_of d.longest
    → set (set (set (set (set (set (set (set ws 0 d.received) 1 d.faulty) 2 d.bits) 3 d.errors) 4 d.bursts) 5 d.sum) 6 k) 7 n ≡ sets ws 0 (summary_words d)
store_said ws d k n a b = cc

-- ---- the pattern's text

module _ (text room after length : List ℕ) where
  parse_done : (a : Result ℕ Refusal) → pattern-call.outcome a after ≡ pattern-call.parsed text room → parse_by a after length ≡ parse_to text room length
  unfolding parse_to
  parse_done a left = ap (λ (o : pattern-call.Outcome). parse_by o.answer o.room length) left

  pub parse-refused : (e : Refusal) (n : ℕ) → pattern-call.outcome (Err e) after ≡ pattern-call.parsed text room → n ≡ number_of e → parse_left n after length ≡ parse_to text room length
  parse-refused e n left is = ap (λ (m : ℕ). parse_left m after length) is ∙ parse_done (Err e) left

  pub parse-served : (k : ℕ) → pattern-call.outcome (Ok k) after ≡ pattern-call.parsed text room → parse_left 0 after (set length 0 k) ≡ parse_to text room length
  parse-served k left = parse_done (Ok k) left

-- ---- the count

module _ (padding pattern words : List ℕ) where
  pub count-refused : (e : Refusal) (n : ℕ) → Err e ≡ errors-call.comparison padding pattern → n ≡ number_of e → count_left n words ≡ count_to padding pattern words
  unfolding count_to
  count-refused e n left is = ap (λ (m : ℕ). count_left m words) is ∙ ap (λ (a : Result BitErrors Refusal). count_by a words) left

  pub count-told : (e : BitErrors) → Ok e ≡ errors-call.comparison padding pattern → count_left 0 (set (set words 0 e.errors) 1 e.longest) ≡ count_to padding pattern words
  unfolding count_to
  count-told e left = ap (λ (a : Result BitErrors Refusal). count_by a words) left

-- ---- an observation

module _ (items bytes pattern : List ℕ) (size intact wanted : ℕ) (words : List ℕ) where
  abbrev Answers : Result Observed Refusal → Type 0
  Answers a = a ≡ observed items bytes pattern size (not (eqb intact 0)) (not (eqb wanted 0))

  done : (a : Result Observed Refusal) → Answers a → observe_by a words ≡ observe_to items bytes pattern size intact wanted words
  unfolding observe_to
  done a is = ap (λ (o : Result Observed Refusal). observe_by o words) is

  pub observe-refused : (e : Refusal) (n : ℕ) → Answers (Err e) → n ≡ number_of e → count_left n words ≡ observe_to items bytes pattern size intact wanted words
  observe-refused e n is told = ap (λ (m : ℕ). count_left m words) told ∙ done (Err e) is

  pub observe-told : (o : Observed) (after : List ℕ) → Answers (Ok o) → after ≡ observed_words o words → count_left 0 after ≡ observe_to items bytes pattern size intact wanted words
  observe-told o after is told = ap (count_left 0) told ∙ done (Ok o) is

-- the seven words of a sample, one after the other
pub sample-said : (ws : List ℕ) (o : Observed) (s : observation-sample.Sample) (k n : ℕ) → o ≡ observed-as.Sampled s → k ≡ known s.burst → n ≡ word_of s.burst
    → set (set (set (set (set (set (set ws 0 2) 1 s.bits) 2 s.forward) 3 k) 4 n) 5 s.reverse) 6 s.longest ≡ observed_words o ws
sample-said ws o s k n is ek en = rw (is, ek, en)

-- ---- a summary

pub fresh-said : (ws after : List ℕ) (d : DirectionSummary) → d ≡ fresh → after ≡ sets ws 0 (summary_words d) → count_left 0 after ≡ fresh_to ws
unfolding fresh_to
fresh-said ws after d e h = ap (count_left 0) (h ∙ ap (λ (x : DirectionSummary). sets ws 0 (summary_words x)) e)

module _ (ws : List ℕ) (bits errors told n : ℕ) (d : DirectionSummary) (run : Option ℕ) (is : d ≡ summary_at ws) (ran : run ≡ burst_from told n) where
  abbrev sample_of : Option ℕ → Sample
  sample_of b = record { bits = bits; errors = errors; burst = b }

  record_done : (a : Result DirectionSummary Refusal) → a ≡ record-call.record_to d (sample_of run) → record_by a ws ≡ record_to ws bits errors told n
  unfolding record_to
  record_done a left =
      ap (λ (x : Result DirectionSummary Refusal). record_by x ws)
      (left
      ∙ ap (λ (x : DirectionSummary). record-call.record_to x (sample_of run)) is
      ∙ ap (λ (b : Option ℕ). record-call.record_to (summary_at ws) (sample_of b)) ran)

  pub record-refused : (e : Refusal) (m : ℕ) → Err e ≡ record-call.record_to d (sample_of run) → m ≡ number_of e → count_left m ws ≡ record_to ws bits errors told n
  record-refused e m left is_m = ap (λ (k : ℕ). count_left k ws) is_m ∙ record_done (Err e) left

  pub record-counted : (next : DirectionSummary) (after : List ℕ) → Ok next ≡ record-call.record_to d (sample_of run) → after ≡ sets ws 0 (summary_words next) → count_left 0 after ≡ record_to ws bits errors told n
  record-counted next after left h = ap (count_left 0) h ∙ record_done (Ok next) left

pub show-said : (ws shown : List ℕ) (d : DirectionSummary) (r : Ratios) (k n a b e f g h i j : ℕ) → d ≡ summary_at ws → r ≡ shown_of d
    → k ≡ known d.longest → n ≡ word_of d.longest → a ≡ known r.ratio → b ≡ ratio_word r.ratio → e ≡ known r.errors → f ≡ ratio_word r.errors
    → g ≡ known r.packets → h ≡ ratio_word r.packets → i ≡ known r.burst → j ≡ ratio_word r.burst
    → count_left 0 (set (set (set (set (set (set (set (set (set (set (set (set (set (set (set shown 0 d.received) 1 d.faulty) 2 d.bits) 3 d.errors) 4 d.bursts) 5 k) 6 n) 7 a) 8 b) 9 e) 10 f) 11 g) 12 h) 13 i) 14 j)
    ≡ show_to ws shown
unfolding show_to
show-said ws shown d r k n a b e f g h i j p q ek en ea eb ee ef eg eh ei ej =
    cc (ap shown_of p)
