-- A room grown from fresh by `record`s: what it holds, and so what its percentiles show. Assumes nothing.
use mathlib.Core.Path.{◌≡◌, refl, sym, ◌∙◌, ap, subst}
use mathlib.Core.Bool.{Bool, true, false, ◌&&◌}
use mathlib.Core.List.{List, [], ◌∷◌, ◌++◌}
use mathlib.Core.Logic.{◌⊎◌, inl, inr, ⊎_elim}
use Prim.Native.Nat.{ℕ, suc, ◌+◌, ◌-◌, ◌^◌, ◌≤◌, ◌<◌}
use native.Mathlib.Nat.{le_refl, le_trans, le_of_eq, le_of_lt}
use native.Mathlib.Numerals.{add-one}
use native.Mathlib.Omega.{arith}
use borrow.Author.Tests.{le-ltb, eq-eqb, ne_eqb}
use lib.Dec.{ltb}
use lib.ListN.{length, get_or, set, take, drop, length-set, length-append}
use lib.Seq.{take-suc-set}
use Rattle.buckets.specs.Buckets.{pick}
use Rattle.buckets.specs.Signed.{bucket_count, order, index_of}
use Rattle.buckets.proofs.Facts.{lt_or_ge}
use Rattle.buckets.proofs.SignedFacts.{pick-below, pick-above}
use Rattle.histogram.specs.Histogram.{bumped}
use Rattle.quantiles.specs.declared.Quantiles.{Quantiles}
use Rattle.quantile_room.specs.Room.{block_count, room_size, samples, buckets, totals, block_of}
use Rattle.quantiles.specs.State.{crossed}
use Rattle.quantiles.specs.Record.{taken, filled, filled_buckets, filled_totals, counted, grown, recorded}
use Rattle.quantile_room.proofs.Parts.{three_buckets, three_totals, three_length, samples-length}
use Rattle.quantile_room.proofs.Places.{parts_in}
use Rattle.quantiles.proofs.Tally.{filled_snoc, filled-length, filled_le}
use Rattle.quantiles.proofs.Ways.{first_room, later_room, way_exact, way_first, way_later}

-- each sample lies between the minimum and the maximum
pub data Around (s : Bool) (low high : ℕ) : List ℕ → Type 0 where
  around-none : Around s low high []
  around_more : {v : ℕ} {vs : List ℕ} → order s low ≤ order s v → order s v ≤ order s high → Around s low high vs → Around s low high (v ∷ vs)

-- what a state and a room hold of the samples
pub record Holds (vs : List ℕ) (q : Quantiles) (room : List ℕ) : Type 0 where
  pub sized : length room ≡ room_size q.signed
  pub count : q.count ≡ length vs
  pub around : Around q.signed q.min q.max vs
  pub exact : length vs ≤ 4096 → take (length vs) room ≡ vs
  pub counted : 4096 < length vs → buckets q.signed room ≡ filled_buckets q.signed vs
  pub totalled : 4096 < length vs → totals q.signed room ≡ filled_totals q.signed vs

-- a wider range, and one sample more
widened : (s : Bool) (low high low' high' : ℕ) (vs : List ℕ) → order s low' ≤ order s low → order s high ≤ order s high' → Around s low high vs → Around s low' high' vs
widened s low high low' high' [] l h around-none = around-none
widened s low high low' high' (v ∷ vs) l h (around_more a b w) = around_more (le_trans l a) (le_trans b h) (widened s low high low' high' vs l h w)

around_snoc : (s : Bool) (low high v : ℕ) (vs : List ℕ) → Around s low high vs → order s low ≤ order s v → order s v ≤ order s high → Around s low high (vs ++ (v ∷ []))
around_snoc s low high v [] around-none l h = around_more l h around-none
around_snoc s low high v (x ∷ xs) (around_more a b w) l h = around_more a b (around_snoc s low high v xs w l h)

-- the two tests of `grown`
lower : (s : Bool) (v old : ℕ) → (order s (pick (ltb (order s v) (order s old)) v old) ≤ order s v) × (order s (pick (ltb (order s v) (order s old)) v old) ≤ order s old)
lower s v old = ⊎_elim under over (lt_or_ge (order s v) (order s old))
  where
    under : order s v < order s old → (order s (pick (ltb (order s v) (order s old)) v old) ≤ order s v) × (order s (pick (ltb (order s v) (order s old)) v old) ≤ order s old)
    under l = subst (λ (x : ℕ). (order s x ≤ order s v) × (order s x ≤ order s old)) (sym (pick-below (order s v) (order s old) v old l)) (le_refl (order s v), le_of_lt l)

    over : order s old ≤ order s v → (order s (pick (ltb (order s v) (order s old)) v old) ≤ order s v) × (order s (pick (ltb (order s v) (order s old)) v old) ≤ order s old)
    over l = subst (λ (x : ℕ). (order s x ≤ order s v) × (order s x ≤ order s old)) (sym (pick-above (order s v) (order s old) v old l)) (l, le_refl (order s old))

upper : (s : Bool) (v old : ℕ) → (order s v ≤ order s (pick (ltb (order s old) (order s v)) v old)) × (order s old ≤ order s (pick (ltb (order s old) (order s v)) v old))
upper s v old = ⊎_elim under over (lt_or_ge (order s old) (order s v))
  where
    under : order s old < order s v → (order s v ≤ order s (pick (ltb (order s old) (order s v)) v old)) × (order s old ≤ order s (pick (ltb (order s old) (order s v)) v old))
    under l = subst (λ (x : ℕ). (order s v ≤ order s x) × (order s old ≤ order s x)) (sym (pick-below (order s old) (order s v) v old l)) (le_refl (order s v), le_of_lt l)

    over : order s v ≤ order s old → (order s v ≤ order s (pick (ltb (order s old) (order s v)) v old)) × (order s old ≤ order s (pick (ltb (order s old) (order s v)) v old))
    over l = subst (λ (x : ℕ). (order s v ≤ order s x) × (order s old ≤ order s x)) (sym (pick-above (order s old) (order s v) v old l)) (l, le_refl (order s old))

grown-around : (q : Quantiles) (v : ℕ) (vs : List ℕ) → q.count ≡ length vs → Around q.signed q.min q.max vs → Around q.signed (grown q v).min (grown q v).max (vs ++ (v ∷ []))
unfolding grown
grown-around q v [] e w =
    subst (λ (t : Bool). Around q.signed (pick t v (pick (ltb (order q.signed v) (order q.signed q.min)) v q.min)) (pick t v (pick (ltb (order q.signed q.max) (order q.signed v)) v q.max)) (v ∷ []))
    (sym (eq-eqb q.count 0 e)) (around_more (le_refl (order q.signed v)) (le_refl (order q.signed v)) around-none)
grown-around q v (x ∷ xs) e w =
    subst (λ (t : Bool). Around q.signed (pick t v (pick (ltb (order q.signed v) (order q.signed q.min)) v q.min)) (pick t v (pick (ltb (order q.signed q.max) (order q.signed v)) v q.max)) ((x ∷ xs) ++ (v ∷ [])))
    (sym (ne_eqb q.count 0 (λ z. some (length xs) (sym e ∙ z))))
    (around_snoc q.signed (pick (ltb (order q.signed v) (order q.signed q.min)) v q.min) (pick (ltb (order q.signed q.max) (order q.signed v)) v q.max) v (x ∷ xs)
    (widened q.signed q.min q.max (pick (ltb (order q.signed v) (order q.signed q.min)) v q.min) (pick (ltb (order q.signed q.max) (order q.signed v)) v q.max) (x ∷ xs) (lower q.signed v q.min).1 (upper q.signed v q.max).1 w)
    (lower q.signed v q.min).0 (upper q.signed v q.max).0)
  where
    some : (n : ℕ) → suc n ≡ 0 → ⊥
    some n e = omega arith

-- a state that holds samples has no minimum above its maximum
pub not_crossed : (vs : List ℕ) (q : Quantiles) → q.count ≡ length vs → Around q.signed q.min q.max vs → crossed q ≡ false
not_crossed [] q e w = ap (λ (t : Bool). t && ltb (order q.signed q.max) (order q.signed q.min)) (le-ltb 0 q.count (le_of_eq e))
not_crossed (v ∷ vs) q e (around_more a b w) = ap (λ (t : Bool). ltb 0 q.count && t) (le-ltb (order q.signed q.max) (order q.signed q.min) (le_trans a b)) ∙ nothing (ltb 0 q.count)
  where
    nothing : (t : Bool) → t && false ≡ false
    nothing true = refl
    nothing false = refl

snoc_length : (vs : List ℕ) (v : ℕ) → length (vs ++ (v ∷ [])) ≡ length vs + 1
snoc_length vs v = length-append vs (v ∷ [])

-- one sample more
pub step : (vs : List ℕ) (q : Quantiles) (room : List ℕ) (v : ℕ) → length vs + 1 < 2 ^ 64 → Holds vs q room
    → (next : List ℕ) × (taken (grown q v) next ≡ recorded q room v) × Holds (vs ++ (v ∷ [])) (grown q v) next
unfolding grown
step vs q room v small h = ⊎_elim exactly (λ g. ⊎_elim first later (eq_or_above (length vs) g)) (lt_or_ge (length vs) 4096)
  where
    fine : crossed q ≡ false
    fine = not_crossed vs q h.count h.around

    eq_or_above : (n : ℕ) → 4096 ≤ n → (n ≡ 4096) ⊎ (4096 < n)
    eq_or_above n g = ⊎_elim (λ l. inl (omega arith)) (λ l. inr (omega arith)) (lt_or_ge n 4097)

    counts : q.count + 1 ≡ length (vs ++ (v ∷ []))
    counts = ap (λ (n : ℕ). n + 1) h.count ∙ sym (snoc_length vs v)

    within : 4096 ≤ length room
    within = omega (arith, h.sized)

    bumped-length : (b : List ℕ) (i : ℕ) → length (bumped b i) ≡ length b
    bumped-length b i = length-set b i (get_or b i 0 + 1)

    exactly : length vs < 4096 → (next : List ℕ) × (taken (grown q v) next ≡ recorded q room v) × Holds (vs ++ (v ∷ [])) (grown q v) next
    exactly l = (
      set room q.count v,
      way_exact q room v (grown q v) h.sized fine (subst (λ (n : ℕ). n < 4096) (sym h.count) l) refl,
      record {
        sized = length-set room q.count v ∙ h.sized;
        count = counts;
        around = grown-around q v vs h.count h.around;
        exact = λ m. kept;
        counted = λ m. absurd (never (length vs) (length (vs ++ (v ∷ []))) (snoc_length vs v) l m);
        totalled = λ m. absurd (never (length vs) (length (vs ++ (v ∷ []))) (snoc_length vs v) l m);
      },
    )
      where
        never : (n m : ℕ) → m ≡ n + 1 → n < 4096 → 4096 < m → ⊥
        never n m e a b = omega arith

        kept : take (length (vs ++ (v ∷ []))) (set room q.count v) ≡ vs ++ (v ∷ [])
        kept =
            ap (λ (n : ℕ). take n (set room q.count v)) (snoc_length vs v ∙ add-one (length vs))
            ∙ ap (λ (n : ℕ). take (suc (length vs)) (set room n v)) h.count
            ∙ take-suc-set room (length vs) v (omega (arith, within))
            ∙ ap (λ (x : List ℕ). x ++ (v ∷ [])) (h.exact (le_of_lt l))

    late : (next b t : List ℕ) → 4096 ≤ length vs → next ≡ counted q.signed (samples room) b t v → b ≡ filled_buckets q.signed vs → t ≡ filled_totals q.signed vs → Holds (vs ++ (v ∷ [])) (grown q v) next
    late next b t g e f d = record {
      sized =
          ap length e ∙ three_length 4096 (bucket_count q.signed) (take 4096 room) (bumped b (index_of q.signed v)) (bumped t (block_of q.signed v)) many wide
          ∙ ap (λ (n : ℕ). 4096 + bucket_count q.signed + n) (bumped-length t (block_of q.signed v) ∙ ap length d ∙ filled-length (block_of q.signed) (block_count q.signed) vs);
      count = counts;
      around = grown-around q v vs h.count h.around;
      exact = λ m. absurd (never (length vs) (length (vs ++ (v ∷ []))) (snoc_length vs v) g m);
      counted =
          λ m. ap (λ (l : List ℕ). take (bucket_count q.signed) (drop 4096 l)) e
          ∙ three_buckets 4096 (bucket_count q.signed) (take 4096 room) (bumped b (index_of q.signed v)) (bumped t (block_of q.signed v)) many wide
          ∙ ap (λ (x : List ℕ). bumped x (index_of q.signed v)) f ∙ sym (filled_snoc (index_of q.signed) (bucket_count q.signed) vs v);
      totalled =
          λ m. ap (drop (4096 + bucket_count q.signed)) e
          ∙ three_totals 4096 (bucket_count q.signed) (take 4096 room) (bumped b (index_of q.signed v)) (bumped t (block_of q.signed v)) many wide
          ∙ ap (λ (x : List ℕ). bumped x (block_of q.signed v)) d ∙ sym (filled_snoc (block_of q.signed) (block_count q.signed) vs v);
    }
      where
        never : (n m : ℕ) → m ≡ n + 1 → 4096 ≤ n → m ≤ 4096 → ⊥
        never n m e a b = omega arith

        many : length (take 4096 room) ≡ 4096
        many = samples-length 4096 (bucket_count q.signed) room (parts_in q.signed (length room) h.sized)

        wide : length (bumped b (index_of q.signed v)) ≡ bucket_count q.signed
        wide = bumped-length b (index_of q.signed v) ∙ ap length f ∙ filled-length (index_of q.signed) (bucket_count q.signed) vs

    first : length vs ≡ 4096 → (next : List ℕ) × (taken (grown q v) next ≡ recorded q room v) × Holds (vs ++ (v ∷ [])) (grown q v) next
    first l = (
      first_room q room v,
      way_first q room v (grown q v) h.sized fine (h.count ∙ l) refl,
      late (first_room q room v) (filled_buckets q.signed (take 4096 room)) (filled_totals q.signed (take 4096 room)) (le_of_eq (sym l)) refl (ap (filled_buckets q.signed) kept) (ap (filled_totals q.signed) kept),
    )
      where
        kept : take 4096 room ≡ vs
        kept = ap (λ (n : ℕ). take n room) (sym l) ∙ h.exact (le_of_eq l)

    later : 4096 < length vs → (next : List ℕ) × (taken (grown q v) next ≡ recorded q room v) × Holds (vs ++ (v ∷ [])) (grown q v) next
    later l = (
      later_room q room v,
      way_later q room v (grown q v) h.sized fine (subst (λ (n : ℕ). 4096 < n) (sym h.count) l)
          (not_full (index_of q.signed) (bucket_count q.signed) (buckets q.signed room) (index_of q.signed v) (h.counted l))
          (not_full (block_of q.signed) (block_count q.signed) (totals q.signed room) (block_of q.signed v) (h.totalled l)) (λ e. top q.count h.count e) refl,
      late (later_room q room v) (buckets q.signed room) (totals q.signed room) (le_of_lt l) refl (h.counted l) (h.totalled l),
    )
      where
        top : (n : ℕ) → n ≡ length vs → n ≡ 2 ^ 64 - 1 → ⊥
        top n e f = omega arith

        not_full : (place : ℕ → ℕ) (n : ℕ) (b : List ℕ) (k : ℕ) → b ≡ filled place n vs → get_or b k 0 ≡ 2 ^ 64 - 1 → ⊥
        not_full place n b k e f = full (get_or (filled place n vs) k 0) (sym (ap (λ (x : List ℕ). get_or x k 0) e) ∙ f) (filled_le place n vs k)
          where
            full : (x : ℕ) → x ≡ 2 ^ 64 - 1 → x ≤ length vs → ⊥
            full x e l = omega arith
