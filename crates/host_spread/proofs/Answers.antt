-- What the proofs of the calls cite: each case of the answer below. Assumes nothing.
use mathlib.Core.Path.{◌≡◌, refl, sym, ap, ◌∙◌}
use mathlib.Core.Bool.{false}
use mathlib.Core.List.{List}
use Prim.Native.Nat.{ℕ, zero, suc}
use lib.Ieee.{Float, binary64, of_bits, to_bits}
use lib.ListN.{get_or, set}
use lib.Seq.{sets, set_comm}
use native.Mathlib.Omega.{arith}
use Rattle.std.specs.Prelude.{Option, Some, None, Result, Ok, Err}
use Rattle.limits.specs.declared.Refusal.{Refusal}
use Rattle.limits.specs.Numbers.{number_of}
use Rattle.quantiles.proofs.Numbers.{some_number}
use Rattle.delays.specs.declared.DelaySummary.{DelaySummary}
use Rattle.delays.specs.Summary.{summary_of}
use Rattle.series.specs.Shown.{delays_of}
use Rattle.spread.specs.declared.RttCollector.{RttCollector}
use Rattle.spread.specs.Spread.{fresh}
use Rattle.spread.specs.Record as record-call
use Rattle.host_summary.specs.Words.{summary_words}
use Rattle.host_spread.specs.Words.{collector_at, collector_words}
use Rattle.host_spread.specs.Calls.{words_left, fresh_to, record_left, record_by, record_to, show_to}

-- a collector, but for its two floats
abbrev collector_of : List ℕ → Float → Float → RttCollector
collector_of ws mean m2 = record {
  quantiles = record { signed = false; count = get_or ws 0 0; min = get_or ws 1 0; max = get_or ws 2 0 };
  sum = record { negative = false; high = get_or ws 3 0; low = get_or ws 4 0 };
  welford = record { origin = get_or ws 5 0; mean = mean; m2 = m2 };
  jitter = record { sum = record { negative = false; high = get_or ws 8 0; low = get_or ws 9 0 }; count = get_or ws 10 0; last = get_or ws 11 0 };
}

pub load_said : (ws : List ℕ) (x y : Float) → x ≡ of_bits binary64 (get_or ws 6 0) → y ≡ of_bits binary64 (get_or ws 7 0) → collector_of ws x y ≡ collector_at ws
load_said ws x y e f = ap (λ (x : Float). collector_of ws x y) e ∙ ap (collector_of ws (of_bits binary64 (get_or ws 6 0))) f

pub store_said : (ws : List ℕ) (c : RttCollector) (x y : ℕ) → x ≡ to_bits binary64 c.welford.mean → y ≡ to_bits binary64 c.welford.m2
    → set (set (set (set (set (set (set (set (set (set (set (set ws 0 c.quantiles.count) 1 c.quantiles.min) 2 c.quantiles.max) 3 c.sum.high) 4 c.sum.low) 5 c.welford.origin) 6 x) 7 y) 8 c.jitter.sum.high) 9 c.jitter.sum.low) 10 c.jitter.count) 11 c.jitter.last
    ≡ sets ws 0 (collector_words c)
store_said ws c x y e f = cc

-- the first sample's word and those of the floats are others
origin_last : (ws : List ℕ) (o x y : ℕ) → set (set (set ws 6 x) 7 y) 5 o ≡ set (set (set ws 5 o) 6 x) 7 y
origin_last ws o x y =
    set_comm (set ws 6 x) 7 5 y o seven ∙ ap (λ (l : List ℕ). set l 7 y) (set_comm ws 6 5 x o six)
  where
    seven : ◌≡◌ {A = ℕ} 7 5 → ⊥
    seven e = omega arith

    six : ◌≡◌ {A = ℕ} 6 5 → ⊥
    six e = omega arith

pub store_any_said : (ws : List ℕ) (c : RttCollector) (x y : ℕ) → x ≡ to_bits binary64 c.welford.mean → y ≡ to_bits binary64 c.welford.m2
    → set (set (set (set (set (set (set (set (set (set (set (set ws 0 c.quantiles.count) 1 c.quantiles.min) 2 c.quantiles.max) 3 c.sum.high) 4 c.sum.low) 6 x) 7 y) 5 c.welford.origin) 8 c.jitter.sum.high) 9 c.jitter.sum.low) 10 c.jitter.count) 11 c.jitter.last
    ≡ sets ws 0 (collector_words c)
store_any_said ws c x y e f =
    ap (λ (l : List ℕ). set (set (set (set l 8 c.jitter.sum.high) 9 c.jitter.sum.low) 10 c.jitter.count) 11 c.jitter.last)
    (origin_last (set (set (set (set (set ws 0 c.quantiles.count) 1 c.quantiles.min) 2 c.quantiles.max) 3 c.sum.high) 4 c.sum.low) c.welford.origin x y)
    ∙ store_said ws c x y e f

pub fresh-said : (ws after : List ℕ) (c : RttCollector) → c ≡ fresh → after ≡ sets ws 0 (collector_words c) → words_left 0 after ≡ fresh_to ws
unfolding fresh_to
fresh-said ws after c e h = ap (words_left 0) (h ∙ ap (λ (x : RttCollector). sets ws 0 (collector_words x)) e)

pub show-said : (ws shown after : List ℕ) (c : RttCollector) (d : DelaySummary) → c ≡ collector_at ws → d ≡ summary_of (delays_of c.quantiles c.sum) → after ≡ sets shown 0 (summary_words d)
    → words_left 0 after ≡ show_to ws shown
unfolding show_to
show-said ws shown after c d e f g =
    ap (words_left 0) (g ∙ ap (λ (x : DelaySummary). sets shown 0 (summary_words x)) (f ∙ ap (λ (x : RttCollector). summary_of (delays_of x.quantiles x.sum)) e))

module _ (ws room after recorded : List ℕ) (v : ℕ) (c : RttCollector) (a : Result (Option RttCollector) Refusal) (is : c ≡ collector_at ws) (got : record-call.outcome c a after ≡ record-call.record_to c room v) where
  from_answer : (b : Result (Option RttCollector) Refusal) → a ≡ b → record-call.outcome (collector_at ws) b after ≡ record-call.record_to (collector_at ws) room v
  from_answer b told =
      ap (λ (x : Result (Option RttCollector) Refusal). record-call.outcome (collector_at ws) x after) (sym told)
      ∙ ap (λ (x : RttCollector). record-call.outcome x a after) (sym is)
      ∙ got
      ∙ ap (λ (x : RttCollector). record-call.record_to x room v) is

  pub record-refused : (r : Refusal) (n : ℕ) → a ≡ Err r → n ≡ number_of r → record_left n ws after recorded ≡ record_to ws room v recorded
  unfolding record_to record-call.outcome
  record-refused r n told number =
      ap (λ (m : ℕ). record_left m ws after recorded) number
      ∙ refused (number_of r) (record-call.left (number_of r) false (collector_at ws) after) (some_number r)
      ∙ ap (λ (o : record-call.Outcome). record_by o.number o ws recorded) (from_answer (Err r) told)
    where
      refused : (n : ℕ) (o : record-call.Outcome) → (n ≡ 0 → ⊥) → record_left n ws o.room recorded ≡ record_by n o ws recorded
      refused zero o some = absurd (some refl)
      refused (suc n) o some = refl

  pub record-full : a ≡ Ok None → record_left 0 ws after (set recorded 0 0) ≡ record_to ws room v recorded
  unfolding record_to record-call.outcome
  record-full told = ap (λ (o : record-call.Outcome). record_by o.number o ws recorded) (from_answer (Ok None) told)

  pub record-counted : (next : RttCollector) (words : List ℕ) → a ≡ Ok (Some next) → words ≡ sets ws 0 (collector_words next) → record_left 0 words after (set recorded 0 1) ≡ record_to ws room v recorded
  unfolding record_to record-call.outcome
  record-counted next words told h =
      ap (λ (l : List ℕ). record_left 0 l after (set recorded 0 1)) h ∙ ap (λ (o : record-call.Outcome). record_by o.number o ws recorded) (from_answer (Ok (Some next)) told)
