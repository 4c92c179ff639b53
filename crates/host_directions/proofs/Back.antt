-- What a call leaves in the twelve words of both directions is what the next call reads, so calls one after the other on the words are those of
-- crate directions; and what holds of each direction holds of its words. Assumes nothing.
use mathlib.Core.Path.{◌≡◌, refl, sym, ap, ap₂, ◌∙◌, subst}
use mathlib.Core.Bool.{Bool, true, false, not, cond}
use mathlib.Core.List.{List, [], ◌∷◌}
use Prim.Native.Nat.{ℕ, zero, suc, ◌+◌, ◌-◌, ◌^◌}
use lib.Dec.{eqb, ltb}
use lib.ListN.{length}
use lib.Seq.{sets, length-sets}
use Rattle.limits.specs.Refusals.{wrong_room, counts_full}
use Rattle.host_numbers.specs.Numbers.{is_set}
use Rattle.host_numbers.proofs.Back.{flag_again}
use Rattle.quantiles.specs.Record.{still, taken, refuses, grown, stored, pick_outcome, recorded}
use Rattle.series.specs.Series.{sum_fits, recorded_beside}
use Rattle.directions.specs.declared.OwdDirection.{OwdDirection}
use Rattle.directions.specs.declared.Directions.{Directions}
use Rattle.directions.specs.Direction as direction
use Rattle.directions.specs.Directions as both
use Rattle.host_summary.proofs.Twelve.{twelve}
use Rattle.spread_meaning.specs.Ways.{Shows, Call, played, served}
use Rattle.spread_meaning.proofs.Ways.{played-shows}
use Rattle.host_directions.specs.Words.{directions_at, words_start, direction_words, directions_words}
use Rattle.host_directions.specs.Calls.{fresh_to, record_by, record_to}

-- a signed direction, as its six words give it back
again : (d : OwdDirection) → d.quantiles.signed ≡ true
    → ◌≡◌ {A = OwdDirection} (record { quantiles = record { signed = true; count = d.quantiles.count; min = d.quantiles.min; max = d.quantiles.max }; sum = record { negative = is_set (cond d.sum.negative 1 0); high = d.sum.high; low = d.sum.low } }) d
again d s = λ k. record { quantiles = record { signed = sym s k; count = d.quantiles.count; min = d.quantiles.min; max = d.quantiles.max }; sum = record { negative = flag_again d.sum.negative k; high = d.sum.high; low = d.sum.low } }

-- what is stored of a direction is read back, and the other direction is what it was
pub stored_is_read : (ws : List ℕ) (reverse : Bool) (d : OwdDirection) → length ws ≡ 12 → d.quantiles.signed ≡ true
    → directions_at (sets ws (words_start reverse) (direction_words d)) ≡ both.with_own (directions_at ws) reverse d
stored_is_read ws false d h s =
    twelve (λ (ws : List ℕ). directions_at (sets ws 0 (direction_words d)) ≡ both.with_own (directions_at ws) false d)
    (λ x0 x1 x2 x3 x4 x5 x6 x7 x8 x9 x10 x11. ap (λ (x : OwdDirection). both.with_own (directions_at (x0 ∷ x1 ∷ x2 ∷ x3 ∷ x4 ∷ x5 ∷ x6 ∷ x7 ∷ x8 ∷ x9 ∷ x10 ∷ x11 ∷ [])) false x) (again d s)) ws h
stored_is_read ws true d h s =
    twelve (λ (ws : List ℕ). directions_at (sets ws 6 (direction_words d)) ≡ both.with_own (directions_at ws) true d)
    (λ x0 x1 x2 x3 x4 x5 x6 x7 x8 x9 x10 x11. ap (λ (x : OwdDirection). both.with_own (directions_at (x0 ∷ x1 ∷ x2 ∷ x3 ∷ x4 ∷ x5 ∷ x6 ∷ x7 ∷ x8 ∷ x9 ∷ x10 ∷ x11 ∷ [])) true x) (again d s)) ws h

-- fresh directions are read as such
pub fresh_is_read : (ws : List ℕ) → length ws ≡ 12 → directions_at (fresh_to ws).words ≡ both.fresh_both
unfolding fresh_to
fresh_is_read ws h =
    twelve (λ (ws : List ℕ). directions_at (sets ws 0 (directions_words both.fresh_both)) ≡ both.fresh_both) (λ x0 x1 x2 x3 x4 x5 x6 x7 x8 x9 x10 x11. refl) ws h

-- after `record`, served or refused, the words say both directions as crate directions leaves them
module _ (ws slice : List ℕ) (v : ℕ) (rec : List ℕ) (h : length ws ≡ 12) where
  -- what becomes of a direction in its part, by the tests: the quantiles refuse, the sums have no room, the count is full
  abbrev part_by : (reverse : Bool) (r n f : Bool) → direction.Outcome
  part_by reverse r n f =
      let d = both.own (directions_at ws) reverse in
      let q = d.quantiles in
      let room = both.part_at (both.start_of reverse) slice in
      let o = pick_outcome r (still wrong_room q room) (pick_outcome n (still counts_full q room) (pick_outcome r (still wrong_room q room) (pick_outcome f (still 0 q room) (taken (grown q v) (stored q room v))))) in
      direction.left o.number o.answer (cond o.answer (direction.grown_of d o.state v) d) (both.put_at (both.start_of reverse) slice o.room)

  by : (reverse short r n f : Bool) →
      let o = both.pick_outcome short (both.left wrong_room false (directions_at ws) slice) (both.in_both (directions_at ws) reverse (part_by reverse r n f)) in
      directions_at (record_by reverse o.number o ws rec).words ≡ o.state
  unfolding still taken grown
  by false true r n f = refl
  by true true r n f = refl
  by false false true n f = refl
  by true false true n f = refl
  by false false false true f = refl
  by true false false true f = refl
  by false false false false true = refl
  by true false false false true = refl
  by false false false false false = stored_is_read ws false (direction.grown_of (directions_at ws).forward (grown (directions_at ws).forward.quantiles v) v) h refl
  by true false false false false = stored_is_read ws true (direction.grown_of (directions_at ws).reverse (grown (directions_at ws).reverse.quantiles v) v) h refl

  pub record_is_read : (reverse : ℕ) → directions_at (record_to ws slice reverse v rec).words ≡ (both.record_in (directions_at ws) slice (is_set reverse) v).state
  unfolding record_to both.record_in both.record_part direction.record_to recorded_beside recorded still taken grown
  record_is_read reverse =
      let d = both.own (directions_at ws) (is_set reverse) in
      by (is_set reverse) (ltb (length slice) (both.part_size + both.part_size)) (refuses d.quantiles (both.part_at (both.start_of (is_set reverse)) slice) v) (not (sum_fits d.sum)) (eqb d.quantiles.count (2 ^ 64 - 1))

-- and the slice is the one that it leaves
slice_by : (reverse : Bool) (n : ℕ) (o : both.Outcome) (ws rec : List ℕ) → (record_by reverse n o ws rec).slice ≡ o.slice
slice_by reverse zero o ws rec = refl
slice_by reverse (suc n) o ws rec = refl

length-by : (reverse : Bool) (n : ℕ) (o : both.Outcome) (ws rec : List ℕ) → length (record_by reverse n o ws rec).words ≡ length ws
length-by reverse zero o ws rec = by_answer o.answer
  where
    by_answer : (b : Bool) → length (cond b (sets ws (words_start reverse) (direction_words (both.own o.state reverse))) ws) ≡ length ws
    by_answer true = length-sets ws (words_start reverse) (direction_words (both.own o.state reverse))
    by_answer false = refl
length-by reverse (suc n) o ws rec = refl

-- ---- calls one after the other, the newest first

-- what a host tells: the reverse direction where `reverse` is other than 0, and the value
pub record Told : Type 0 where
  pub reverse : ℕ
  pub value : ℕ

-- the samples of these
unfoldable pub calls_of : List Told → List Call
calls_of [] = []
calls_of (t ∷ ts) = record { reverse = is_set t.reverse; value = t.value } ∷ calls_of ts

-- the twelve words and the slice
pub record Left : Type 0 where
  pub words : List ℕ
  pub slice : List ℕ

-- those that a fresh call and then these leave, each call given what the last one left; `rec` is what the word of the answer holds
unfoldable pub left_after : (rec ws slice : List ℕ) → List Told → Left
left_after rec ws slice [] = record { words = (fresh_to ws).words; slice = slice }
left_after rec ws slice (t ∷ ts) =
    let k = left_after rec ws slice ts in let r = record_to k.words k.slice t.reverse t.value rec in record { words = r.words; slice = r.slice }

module _ (rec ws slice : List ℕ) (h : length ws ≡ 12) where
  after-length : (ts : List Told) → length (left_after rec ws slice ts).words ≡ 12
  unfolding left_after fresh_to record_to
  after-length [] = length-sets ws 0 (directions_words both.fresh_both) ∙ h
  after-length (t ∷ ts) =
      let k = left_after rec ws slice ts in
      let o = both.record_in (directions_at k.words) k.slice (is_set t.reverse) t.value in
      length-by (is_set t.reverse) o.number o k.words rec ∙ after-length ts

  -- they say what the samples leave, and the slice is theirs
  left-played : (ts : List Told) → (directions_at (left_after rec ws slice ts).words ≡ (played slice (calls_of ts)).state) × ((left_after rec ws slice ts).slice ≡ (played slice (calls_of ts)).slice)
  unfolding left_after calls_of played record_to
  left-played [] = (fresh_is_read ws h, refl)
  left-played (t ∷ ts) =
      let k = left_after rec ws slice ts in
      let o = both.record_in (directions_at k.words) k.slice (is_set t.reverse) t.value in
      let e = left-played ts in (
        record_is_read k.words k.slice t.value rec (after-length ts) t.reverse ∙ ap₂ (λ (ds : Directions) (s : List ℕ). (both.record_in ds s (is_set t.reverse) t.value).state) e.0 e.1,
        slice_by (is_set t.reverse) o.number o k.words rec ∙ ap₂ (λ (ds : Directions) (s : List ℕ). (both.record_in ds s (is_set t.reverse) t.value).slice) e.0 e.1,
      )

  pub words-played : (ts : List Told) → directions_at (left_after rec ws slice ts).words ≡ (played slice (calls_of ts)).state
  words-played ts = (left-played ts).0

  -- so each number in a direction's words follows from its own samples that were taken
  pub words-show : (way : Bool) (ts : List Told) → Shows (served way slice (calls_of ts)) (both.own (directions_at (left_after rec ws slice ts).words) way)
  words-show way ts = subst (λ (ds : Directions). Shows (served way slice (calls_of ts)) (both.own ds way)) (sym (words-played ts)) (played-shows way slice (calls_of ts))
