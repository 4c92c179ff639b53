-- THE THEOREM for a host. Make four words fresh, and record the values vs in a room of the right size, each call given what the last one left, fewer
-- than 2^64 of them. Then every record was counted, percentiles are served, and each word shown means the percentile of vs. Assumes nothing.
use mathlib.Core.Path.{◌≡◌, refl, sym, ◌∙◌, ap, ap₂, subst}
use mathlib.Core.Bool.{Bool, true, false, not, ◌||◌}
use mathlib.Core.List.{List, [], ◌∷◌, ◌++◌, map}
use Prim.Native.Nat.{ℕ, zero, suc, ◌+◌, ◌^◌, ◌≤◌, ◌<◌}
use native.Mathlib.Omega.{arith}
use lib.Dec.{eqb}
use borrow.Author.Tests.{eq-eqb}
use lib.Ieee.{Float}
use lib.ListN.{length, get_or, set, length-append, length-set}
use lib.Seq.{sets, length-sets}
use Rattle.host_numbers.specs.Numbers.{is_set, flag_word}
use Rattle.quantiles.specs.declared.Quantiles.{Quantiles}
use Rattle.quantile_room.specs.Room.{room_size}
use Rattle.quantiles.specs.Record as record-call
use Rattle.percentiles.specs.Percentiles as percentiles-call
use Rattle.std.specs.Prelude.{Ok, Err}
use Rattle.limits.specs.declared.Refusal.TheVariants as why
use Rattle.quantile_meaning.specs.Words.{Words}
use Rattle.quantile_meaning.specs.Grown.{Kept, fresh, record_all}
use Rattle.quantile_meaning.specs.Walk.{walked}
use Rattle.quantile_meaning.proofs.Growth.{Holds, step}
use Rattle.quantile_meaning.proofs.Percentile.{fresh_holds, from_fresh, after-step}
use Rattle.quantile_meaning.proofs.Shown.{what_a_percentile_means}
use Rattle.quantile_meaning.proofs.Served.{same-percentile, a_grown_room_shows_the_walk}
use Rattle.host_quantiles.specs.Calls.{quantiles_at, words_with, fresh_to, record_by, record_to, PercentilesLeft, percentiles_left, percentiles_by, percentiles_to}
use Rattle.host_quantiles.proofs.Back.{fresh_is_read, record_is_read}
use Rattle.host_quantile_meaning.specs.Recorded.{Series, after, record_each, grown, AllCounted, Means, AllMean, none, more}

-- ---- one `record` in a series that holds the samples vs: it is counted, and the words and the room then hold one more

record-counts :
    (vs ws room : List ℕ) (v : ℕ) (answer : List ℕ) → length vs + 1 < 2 ^ 64 → Holds vs (quantiles_at ws) room
    → ((record_to ws room v answer).number ≡ 0) × ((record_to ws room v answer).recorded ≡ set answer 0 1)
    × ((record_to ws room v answer).words ≡ words_with ws (record-call.grown (quantiles_at ws) v)) × ((record_to ws room v answer).room ≡ (record-call.recorded (quantiles_at ws) room v).room)
unfolding record_to record-call.taken
record-counts vs ws room v answer l h =
    subst (λ (o : record-call.Outcome). ((record_by o.number o ws room answer).number ≡ 0) × ((record_by o.number o ws room answer).recorded ≡ set answer 0 1)
    × ((record_by o.number o ws room answer).words ≡ words_with ws (record-call.grown (quantiles_at ws) v)) × ((record_by o.number o ws room answer).room ≡ o.room))
    (step vs (quantiles_at ws) room v l h).1 (refl, refl, refl, refl)

-- of all of them: what the words say, what the room holds, and that each was counted
record All (ws : List ℕ) (s : Series) : Type 0 where
  state : quantiles_at (record_each s ws).words ≡ (record_all (quantiles_at s.words) s.room ws).state
  room : (record_each s ws).room ≡ (record_all (quantiles_at s.words) s.room ws).room
  counted : AllCounted s ws

-- the next call of the series
module _ (vs : List ℕ) (w : ℕ) (ws : List ℕ) (s : Series) (four : length s.words ≡ 4) (one : length s.answer ≡ 1) (l : length vs + suc (length ws) < 2 ^ 64) (h : Holds vs (quantiles_at s.words) s.room) where
  abbrev next : Series
  next = after (record_to s.words s.room w s.answer)

  one_more : length vs + 1 < 2 ^ 64
  one_more = omega (arith, l)

  counts : ((record_to s.words s.room w s.answer).number ≡ 0) × ((record_to s.words s.room w s.answer).recorded ≡ set s.answer 0 1)
      × ((record_to s.words s.room w s.answer).words ≡ words_with s.words (record-call.grown (quantiles_at s.words) w))
      × ((record_to s.words s.room w s.answer).room ≡ (record-call.recorded (quantiles_at s.words) s.room w).room)
  counts = record-counts vs s.words s.room w s.answer one_more h

  first : (x : List ℕ) → length x ≡ 1 → get_or (set x 0 1) 0 0 ≡ 1
  first [] e = absurd (omega (arith, e))
  first (x ∷ xs) e = refl

  state_said : quantiles_at next.words ≡ (record-call.recorded (quantiles_at s.words) s.room w).state
  state_said = record_is_read s.words s.room w s.answer four

  next-holds : Holds (vs ++ (w ∷ [])) (quantiles_at next.words) next.room
  next-holds =
      subst (λ (q : Quantiles). Holds (vs ++ (w ∷ [])) q next.room) (sym state_said)
      (subst (Holds (vs ++ (w ∷ [])) (record-call.recorded (quantiles_at s.words) s.room w).state) (sym counts.3) (after-step vs (quantiles_at s.words) s.room w one_more h))

  next_four : length next.words ≡ 4
  next_four = let q = record-call.grown (quantiles_at s.words) w in ap length counts.2 ∙ length-sets s.words 1 (q.count ∷ q.min ∷ q.max ∷ []) ∙ four

  next_one : length next.answer ≡ 1
  next_one = ap length counts.1 ∙ length-set s.answer 0 1 ∙ one

  next_few : length (vs ++ (w ∷ [])) + length ws < 2 ^ 64
  next_few = subst (λ (n : ℕ). n + length ws < 2 ^ 64) (sym (length-append vs (w ∷ []))) (omega (arith, l))

  with_one : All ws next → All (w ∷ ws) s
  unfolding record_each record_all AllCounted
  with_one rest = record {
    state = rest.state ∙ ap₂ (λ (q : Quantiles) (room : List ℕ). (record_all q room ws).state) state_said counts.3;
    room = rest.room ∙ ap₂ (λ (q : Quantiles) (room : List ℕ). (record_all q room ws).room) state_said counts.3;
    counted = (counts.0, ap (λ (x : List ℕ). get_or x 0 0) counts.1 ∙ first s.answer one, rest.counted);
  }

all-count :
    (ws vs : List ℕ) (s : Series) → length s.words ≡ 4 → length s.answer ≡ 1 → length vs + length ws < 2 ^ 64 → Holds vs (quantiles_at s.words) s.room → All ws s
unfolding record_each record_all AllCounted
all-count [] vs s four one l h = record { state = refl; room = refl; counted = tt }
all-count (w ∷ ws) vs s four one l h =
    with_one vs w ws s four one l h (all-count ws (vs ++ (w ∷ [])) (next vs w ws s four one l h) (next_four vs w ws s four one l h) (next_one vs w ws s four one l h) (next_few vs w ws s four one l h) (next-holds vs w ws s four one l h))

-- ---- from fresh

module _ (s : Series) (signed : ℕ) (vs : List ℕ) (four : length s.words ≡ 4) (one : length s.answer ≡ 1) (sized : length s.room ≡ room_size (is_set signed)) (few : length vs < 2 ^ 64) where
  abbrev begun : Series
  begun = record { words = (fresh_to s.words signed).words; room = s.room; answer = s.answer }

  four_fresh : length (fresh_to s.words signed).words ≡ 4
  unfolding fresh_to
  four_fresh = length-sets s.words 0 (flag_word (is_set signed) ∷ 0 ∷ 0 ∷ 0 ∷ []) ∙ four

  all : All vs begun
  all =
      all-count vs [] begun four_fresh one (omega (arith, few))
      (subst (λ (q : Quantiles). Holds [] q s.room) (sym (fresh_is_read s.words signed four)) (fresh_holds (is_set signed) s.room sized))

  -- every record was served, and answered true
  pub records-count : AllCounted begun vs
  records-count = all.counted

  abbrev state : Quantiles
  state = (record_all (fresh (is_set signed)) s.room vs).state

  abbrev room : List ℕ
  room = (record_all (fresh (is_set signed)) s.room vs).room

  said : quantiles_at (grown s signed vs).words ≡ state
  unfolding grown
  said = all.state ∙ ap (λ (q : Quantiles). (record_all q s.room vs).state) (fresh_is_read s.words signed four)

  kept : (grown s signed vs).room ≡ room
  unfolding grown
  kept = all.room ∙ ap (λ (q : Quantiles). (record_all q s.room vs).room) (fresh_is_read s.words signed four)

  module _ (typed : Words vs) (some : 0 < length vs) where
    means : (p : Float) → Means (is_set signed) vs p (walked state room p)
    means p =
        let m = what_a_percentile_means (is_set signed) s.room vs p sized typed few in
        subst (Means (is_set signed) vs p) (same-percentile vs state room (from_fresh (is_set signed) s.room vs sized few) typed some p)
        (record { exact = m.0; near = m.1 })

    all_mean : (ps : List Float) → AllMean (is_set signed) vs ps (map (walked state room) ps)
    all_mean [] = none
    all_mean (p ∷ ps) = more (means p) (all_mean ps)

    shows : (ps : List Float) (shown present : List ℕ) → length shown ≡ length ps
        → percentiles_to (grown s signed vs).words (grown s signed vs).room ps shown present ≡ percentiles_left 0 (map (walked state room) ps) (set present 0 1)
    unfolding percentiles_to percentiles-call.outcome
    shows ps shown present same =
        ap (λ (o : percentiles-call.Outcome). percentiles_by o.number o shown present)
        (ap₂ (λ (q : Quantiles) (x : List ℕ). percentiles-call.percentiles_of q x ps shown) said kept
        ∙ a_grown_room_shows_the_walk (is_set signed) s.room vs ps shown sized typed some few same)

    -- THE THEOREM
    pub percentiles_mean : (ps : List Float) (shown present : List ℕ) → length shown ≡ length ps →
        let left = percentiles_to (grown s signed vs).words (grown s signed vs).room ps shown present in
        (left.number ≡ 0) × (left.present ≡ set present 0 1) × AllMean (is_set signed) vs ps left.shown
    percentiles_mean ps shown present same =
        let e = shows ps shown present same in (
          ap (λ (l : PercentilesLeft). l.number) e,
          ap (λ (l : PercentilesLeft). l.present) e,
          subst (AllMean (is_set signed) vs ps) (sym (ap (λ (l : PercentilesLeft). l.shown) e)) (all_mean ps),
        )

-- no samples: served, no values, and no word shown changes
pub no_samples : (s : Series) (signed : ℕ) (ps : List Float) (shown present : List ℕ)
    → length s.words ≡ 4 → length s.room ≡ room_size (is_set signed) → length shown ≡ length ps
    → percentiles_to (grown s signed []).words (grown s signed []).room ps shown present ≡ percentiles_left 0 shown (set present 0 0)
unfolding grown record_each percentiles_to percentiles-call.percentiles_of percentiles-call.outcome percentiles-call.refuses
no_samples s signed ps shown present four sized same =
    ap (λ (q : Quantiles). let o = percentiles-call.percentiles_of q s.room ps shown in percentiles_by o.number o shown present) (fresh_is_read s.words signed four)
    ∙ ap₂ (λ (a b : Bool). let o = percentiles-call.pick_outcome (not a || (not b || false)) (percentiles-call.outcome (Err why.WrongRoom) shown) (percentiles-call.outcome (Ok false) shown) in percentiles_by o.number o shown present)
    (eq-eqb (length s.room) (room_size (is_set signed)) sized) (eq-eqb (length shown) (length ps) same)
