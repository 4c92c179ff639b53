-- What a call leaves in a collector's twelve words is what the next call reads, so calls one after the other on the words are those of crate
-- spread; and what holds of their collector holds of the words. Assumes nothing.
use mathlib.Core.Path.{◌≡◌, refl, sym, ap₂, ◌∙◌, subst}
use mathlib.Core.Bool.{Bool, true, false, not, cond}
use mathlib.Core.List.{List, [], ◌∷◌}
use Prim.Native.Nat.{ℕ, zero, suc, ◌-◌, ◌^◌}
use lib.Dec.{T, eqb}
use lib.Ieee.{binary64, fits}
use lib.Ieee.Bits.{of_bits-to_bits}
use lib.Ieee.Fits.{add-fits, of_int-fits}
use lib.IntN.{pos}
use lib.ListN.{length, get_or}
use lib.Seq.{sets, length-sets}
use Rattle.limits.specs.Refusals.{wrong_room, counts_full}
use Rattle.quantiles.specs.declared.Quantiles.{Quantiles}
use Rattle.quantiles.specs.Record.{still, taken, refuses, grown, stored, pick_outcome, recorded}
use Rattle.series.specs.Series.{recorded_beside}
use Rattle.spread.specs.declared.RttCollector.{RttCollector}
use Rattle.spread.specs.Spread.{fresh, welford_from, mean_with, squares_with, jitter_of, fits as fits_of, grown_of}
use Rattle.spread.specs.Record as record-call
use Rattle.host_summary.proofs.Twelve.{twelve}
use Rattle.spread_meaning.specs.Samples.{Shows, played, served}
use Rattle.spread_meaning.proofs.Meaning.{played-shows}
use Rattle.host_spread.specs.Words.{collector_at, collector_words}
use Rattle.host_spread.specs.Calls.{fresh_to, record_by, record_to}

-- what twelve words can say: samples and sums are not negative, and the floats are f64
pub record Storable (c : RttCollector) : Type 0 where
  pub unsigned : c.quantiles.signed ≡ false
  pub sum : c.sum.negative ≡ false
  pub differences : c.jitter.sum.negative ≡ false
  pub mean : T (fits binary64 c.welford.mean)
  pub m2 : T (fits binary64 c.welford.m2)

-- such a collector that was stored is read back
pub stored_is_read : (ws : List ℕ) (c : RttCollector) → length ws ≡ 12 → Storable c → collector_at (sets ws 0 (collector_words c)) ≡ c
stored_is_read ws c h s =
    twelve (λ (ws : List ℕ). collector_at (sets ws 0 (collector_words c)) ≡ c)
    (λ x0 x1 x2 x3 x4 x5 x6 x7 x8 x9 x10 x11. λ k. record {
      quantiles = record { signed = sym s.unsigned k; count = c.quantiles.count; min = c.quantiles.min; max = c.quantiles.max };
      sum = record { negative = sym s.sum k; high = c.sum.high; low = c.sum.low };
      welford = record { origin = c.welford.origin; mean = of_bits-to_bits binary64 c.welford.mean s.mean k; m2 = of_bits-to_bits binary64 c.welford.m2 s.m2 k };
      jitter = record { sum = record { negative = sym s.differences k; high = c.jitter.sum.high; low = c.jitter.sum.low }; count = c.jitter.count; last = c.jitter.last };
    })
    ws h

-- what any words say can be stored, and so can what a sample leaves of it
module _ (ws : List ℕ) where
  abbrev said : RttCollector
  said = collector_at ws

  grown_storable : (next : Quantiles) (v : ℕ) → next.signed ≡ false → Storable (grown_of said next v)
  unfolding grown_of welford_from mean_with squares_with
  grown_storable next v e = record {
    unsigned = e;
    sum = refl;
    differences = by (eqb (get_or ws 0 0) 0);
    mean = add-fits binary64 _ _;
    m2 = add-fits binary64 _ _;
  }
    where
      by : (first : Bool) → (jitter_of said.jitter first v).sum.negative ≡ false
      by true = refl
      by false = refl

  fresh_storable : Storable fresh
  fresh_storable = record { unsigned = refl; sum = refl; differences = refl; mean = of_int-fits binary64 (pos 0); m2 = of_int-fits binary64 (pos 0) }

-- a fresh collector is read as one
pub fresh_is_read : (ws : List ℕ) → length ws ≡ 12 → collector_at (fresh_to ws).words ≡ fresh
unfolding fresh_to
fresh_is_read ws h = stored_is_read ws fresh h (fresh_storable ws)

-- after `record`, served or refused, the words say the collector that crate spread leaves
pub record_is_read : (ws room : List ℕ) (v : ℕ) (rec : List ℕ) → length ws ≡ 12 → collector_at (record_to ws room v rec).words ≡ (record-call.record_to (collector_at ws) room v).state
unfolding record_to record-call.record_to recorded_beside recorded still taken grown
record_is_read ws room v rec h = by (refuses (collector_at ws).quantiles room v) (not (fits_of (collector_at ws))) (eqb (get_or ws 0 0) (2 ^ 64 - 1))
  where
    by : (r n f : Bool) → let q = (collector_at ws).quantiles in
        let o = pick_outcome r (still wrong_room q room) (pick_outcome n (still counts_full q room) (pick_outcome r (still wrong_room q room) (pick_outcome f (still 0 q room) (taken (grown q v) (stored q room v))))) in
        let p = record-call.left o.number o.answer (cond o.answer (grown_of (collector_at ws) o.state v) (collector_at ws)) o.room in
        collector_at (record_by p.number p ws rec).words ≡ p.state
    by true n f = refl
    by false true f = refl
    by false false true = refl
    by false false false = stored_is_read ws (grown_of (collector_at ws) (grown (collector_at ws).quantiles v) v) h (grown_storable ws (grown (collector_at ws).quantiles v) v refl)

-- and the room is the one that it leaves
room_by : (n : ℕ) (o : record-call.Outcome) (ws rec : List ℕ) → (record_by n o ws rec).room ≡ o.room
room_by zero o ws rec = refl
room_by (suc n) o ws rec = refl

length-by : (n : ℕ) (o : record-call.Outcome) (ws rec : List ℕ) → length (record_by n o ws rec).words ≡ length ws
length-by zero o ws rec = by o.answer
  where
    by : (b : Bool) → length (cond b (sets ws 0 (collector_words o.state)) ws) ≡ length ws
    by true = length-sets ws 0 (collector_words o.state)
    by false = refl
length-by (suc n) o ws rec = refl

-- ---- calls one after the other, the newest first

-- the twelve words and the room
pub record Left : Type 0 where
  pub words : List ℕ
  pub room : List ℕ

-- those that a fresh call and then these samples leave, each call given what the last one left; `rec` is what the word of the answer holds
unfoldable pub left_after : (rec ws room : List ℕ) → List ℕ → Left
left_after rec ws room [] = record { words = (fresh_to ws).words; room = room }
left_after rec ws room (v ∷ vs) = let k = left_after rec ws room vs in let r = record_to k.words k.room v rec in record { words = r.words; room = r.room }

module _ (rec ws room : List ℕ) (h : length ws ≡ 12) where
  after-length : (vs : List ℕ) → length (left_after rec ws room vs).words ≡ 12
  unfolding left_after fresh_to record_to
  after-length [] = length-sets ws 0 (collector_words fresh) ∙ h
  after-length (v ∷ vs) =
      let k = left_after rec ws room vs in
      let o = record-call.record_to (collector_at k.words) k.room v in
      length-by o.number o k.words rec ∙ after-length vs

  -- they say what the samples leave, and the room is theirs
  left-played : (vs : List ℕ) → (collector_at (left_after rec ws room vs).words ≡ (played room vs).state) × ((left_after rec ws room vs).room ≡ (played room vs).room)
  unfolding left_after played record_to
  left-played [] = (fresh_is_read ws h, refl)
  left-played (v ∷ vs) =
      let k = left_after rec ws room vs in
      let o = record-call.record_to (collector_at k.words) k.room v in
      let e = left-played vs in (
        record_is_read k.words k.room v rec (after-length vs) ∙ ap₂ (λ (c : RttCollector) (r : List ℕ). (record-call.record_to c r v).state) e.0 e.1,
        room_by o.number o k.words rec ∙ ap₂ (λ (c : RttCollector) (r : List ℕ). (record-call.record_to c r v).room) e.0 e.1,
      )

  pub words-played : (vs : List ℕ) → collector_at (left_after rec ws room vs).words ≡ (played room vs).state
  words-played vs = (left-played vs).0

  -- so each number in a host's words follows from the samples that were taken
  pub words-show : (vs : List ℕ) → Shows (served room vs) (collector_at (left_after rec ws room vs).words)
  words-show vs = subst (Shows (served room vs)) (sym (words-played vs)) (played-shows room vs)
