-- What `observe` is told of an area, in the words of an observation: they say the counters and the follow-up, and what they said else they still
-- say. Of any 24 words. Assumes nothing.
use Rattle.std.specs.Prelude.{Option, Some, None}
use Rattle.area_observation.specs.declared.Sighting.{Sighting}
use Rattle.call_types.specs.declared.CounterPoint.{CounterPoint}
use mathlib.Core.Path.{◌≡◌, refl, ap, ◌∙◌}
use mathlib.Core.Bool.{Bool, true, false}
use mathlib.Core.List.{List, [], ◌∷◌}
use Prim.Native.Nat.{ℕ, ◌+◌, ◌*◌, ◌/◌, ◌%◌, ◌≤◌, ◌<◌, ◌^◌}
use native.Mathlib.Omega.{arith}
use lib.Dec.{eqb}
use Rattle.host_numbers.specs.Numbers.{lower, upper, joined, flag_word}
use Rattle.host_observation.specs.Observation.{word, double, flags_at, counters_at, key_at}
use Rattle.record_parts.specs.Parts.{flag, counters_flag, counters_by, sender_count, received_count, transmitted_count}
use Rattle.area_observation.specs.declared.Told.{Told}
use Rattle.host_area.specs.Words.{sighted_flag, unknown_flag, sequence_of, timestamp_of, flags_with, told_words}

-- ---- the word of flags: bits 4, 8 and 128 are told, the others stay

module _ (x y z c f u : ℕ) (hx : x < 4) (hy : y < 8) (hc : c ≤ 1) (hf : f ≤ 1) (hu : u ≤ 1) where
  abbrev low : ℕ
  low = x + 4 * c + 8 * f + y * 16 + 128 * u

  cut : (low + z * 256) % 256 ≡ low
  cut = omega arith

  fourth : low / 4 ≡ c + 2 * f + 4 * y + 32 * u
  fourth = omega arith

  eighth : low / 8 ≡ f + 2 * y + 16 * u
  eighth = omega arith

  upmost : low / 128 ≡ u
  upmost = omega arith

  sixteenth : low / 16 ≡ y + 8 * u
  sixteenth = omega arith

  even_c : (c + 2 * f + 4 * y + 32 * u) % 2 ≡ c
  even_c = omega arith

  even_f : (f + 2 * y + 16 * u) % 2 ≡ f
  even_f = omega arith

  even_u : u % 2 ≡ u
  even_u = omega arith

  part_x : low % 4 ≡ x
  part_x = omega arith

  part_y : (y + 8 * u) % 8 ≡ y
  part_y = omega arith

  says_c : (low + z * 256) % 256 / 4 % 2 ≡ c
  says_c = ap (λ (n : ℕ). n / 4 % 2) cut ∙ ap (λ (n : ℕ). n % 2) fourth ∙ even_c

  says_f : (low + z * 256) % 256 / 8 % 2 ≡ f
  says_f = ap (λ (n : ℕ). n / 8 % 2) cut ∙ ap (λ (n : ℕ). n % 2) eighth ∙ even_f

  says_u : (low + z * 256) % 256 / 128 % 2 ≡ u
  says_u = ap (λ (n : ℕ). n / 128 % 2) cut ∙ ap (λ (n : ℕ). n % 2) upmost ∙ even_u

  keeps_x : (low + z * 256) % 256 % 4 ≡ x
  keeps_x = ap (λ (n : ℕ). n % 4) cut ∙ part_x

  keeps_y : (low + z * 256) % 256 / 16 % 8 ≡ y
  keeps_y = ap (λ (n : ℕ). n / 16 % 8) cut ∙ ap (λ (n : ℕ). n % 8) sixteenth ∙ part_y

module _ (old c f u : ℕ) (hc : c ≤ 1) (hf : f ≤ 1) (hu : u ≤ 1) where
  under_four : old % 4 < 4
  under_four = omega arith

  under_eight : old / 16 % 8 < 8
  under_eight = omega arith

  bit-counters : flags_with old c f u % 256 / 4 % 2 ≡ c
  bit-counters = says_c (old % 4) (old / 16 % 8) (old / 256) c f u under_four under_eight hc hf hu

  bit-follow : flags_with old c f u % 256 / 8 % 2 ≡ f
  bit-follow = says_f (old % 4) (old / 16 % 8) (old / 256) c f u under_four under_eight hc hf hu

  bit-unknown : flags_with old c f u % 256 / 128 % 2 ≡ u
  bit-unknown = says_u (old % 4) (old / 16 % 8) (old / 256) c f u under_four under_eight hc hf hu

  bit-others : (flags_with old c f u % 256 % 4 ≡ old % 4) × (flags_with old c f u % 256 / 16 % 8 ≡ old / 16 % 8)
  bit-others = (
    keeps_x (old % 4) (old / 16 % 8) (old / 256) c f u under_four under_eight hc hf hu,
    keeps_y (old % 4) (old / 16 % 8) (old / 256) c f u under_four under_eight hc hf hu,
  )

counters-small : (c : Option CounterPoint) → counters_flag c ≤ 1
counters-small None = omega arith
counters-small (Some p) = omega arith

sighted_small : (s : Option Sighting) → sighted_flag s ≤ 1
sighted_small None = omega arith
sighted_small (Some f) = omega arith

unknown-small : (s : Option Sighting) → unknown_flag s ≤ 1
unknown-small None = omega arith
unknown-small (Some f) = by f.unknown
  where
    by : (b : Bool) → flag_word b ≤ 1
    by true = omega arith
    by false = omega arith

module _ (t : Told) (a0 a1 a2 a3 a4 a5 a6 a7 a8 a9 a10 a11 a12 a13 a14 a15 a16 a17 a18 a19 a20 a21 a22 a23 : ℕ) where
  abbrev words : List ℕ
  words = a0 ∷ a1 ∷ a2 ∷ a3 ∷ a4 ∷ a5 ∷ a6 ∷ a7 ∷ a8 ∷ a9 ∷ a10 ∷ a11 ∷ a12 ∷ a13 ∷ a14 ∷ a15 ∷ a16 ∷ a17 ∷ a18 ∷ a19 ∷ a20 ∷ a21 ∷ a22 ∷ a23 ∷ []

  abbrev after : List ℕ
  after = told_words t words

  -- the counters that are told are those of the area
  pub counters-told : counters_at after ≡ t.counters
  counters-told =
      ap (λ (n : ℕ). counters_by (eqb n 1) (sender_count t.counters) (received_count t.counters) (transmitted_count t.counters))
      (bit-counters a21 (counters_flag t.counters) (sighted_flag t.follow) (unknown_flag t.follow) (counters-small t.counters) (sighted_small t.follow) (unknown-small t.follow))
      ∙ same t.counters
    where
      same : (c : Option CounterPoint) → counters_by (eqb (counters_flag c) 1) (sender_count c) (received_count c) (transmitted_count c) ≡ c
      same None = refl
      same (Some p) = refl

  -- so are the follow-up's flag, sequence, timestamp and whether its mode is unknown
  pub follow-told : timestamp_of t.follow < 2 ^ 64
      → (flag 8 (flags_at after) ≡ eqb (sighted_flag t.follow) 1) × (word after 18 ≡ sequence_of t.follow) × (double after 10 ≡ timestamp_of t.follow)
      × (flag 128 (flags_at after) ≡ eqb (unknown_flag t.follow) 1)
  follow-told h =
      let hc = counters-small t.counters in
      let hf = sighted_small t.follow in
      let hu = unknown-small t.follow in (
        ap (λ (n : ℕ). eqb n 1) (bit-follow a21 (counters_flag t.counters) (sighted_flag t.follow) (unknown_flag t.follow) hc hf hu),
        refl,
        halves (timestamp_of t.follow) h,
        ap (λ (n : ℕ). eqb n 1) (bit-unknown a21 (counters_flag t.counters) (sighted_flag t.follow) (unknown_flag t.follow) hc hf hu),
      )
    where
      halves : (n : ℕ) → n < 2 ^ 64 → joined (lower n) (upper n) ≡ n
      halves n l = omega arith

  -- key, every word beside them, and of the flags 1 and 2, and 16, 32 and 64, are as they were
  pub rest_stays : (key_at after ≡ key_at words) × (double after 2 ≡ double words 2) × (double after 4 ≡ double words 4) × (double after 6 ≡ double words 6)
      × (double after 8 ≡ double words 8) × (word after 14 ≡ word words 14) × (word after 19 ≡ word words 19) × (word after 20 ≡ word words 20)
      × (flags_at after % 4 ≡ word words 21 % 4) × (flags_at after / 16 % 8 ≡ word words 21 / 16 % 8)
  rest_stays =
      let b = bit-others a21 (counters_flag t.counters) (sighted_flag t.follow) (unknown_flag t.follow) (counters-small t.counters) (sighted_small t.follow) (unknown-small t.follow) in
      (refl, refl, refl, refl, refl, refl, refl, refl, b.0, b.1)
