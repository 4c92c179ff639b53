-- The ways through `record`, each a law of the definition. Assumes nothing.
use mathlib.Core.Path.{◌≡◌, refl, sym, ◌∙◌, ap}
use mathlib.Core.Bool.{Bool, true, false, not, ◌&&◌, ◌||◌}
use mathlib.Core.List.{List}
use Prim.Native.Nat.{ℕ, ◌+◌, ◌-◌, ◌^◌, ◌≤◌, ◌<◌}
use native.Mathlib.Nat.{le_of_eq, le_of_lt}
use native.Mathlib.Omega.{arith}
use borrow.Author.Tests.{lt-ltb, le-ltb, eq-eqb, ne_eqb}
use lib.Dec.{ltb, eqb}
use lib.ListN.{length, get_or, set}
use Rattle.limits.specs.Refusals.{wrong_room}
use Rattle.buckets.specs.Buckets.{pick}
use Rattle.buckets.specs.Signed.{order, index_of}
use Rattle.quantiles.specs.declared.Quantiles.{Quantiles}
use Rattle.quantile_room.specs.Room.{room_size, samples, buckets, totals, block_of, sized, full_at}
use Rattle.quantiles.specs.State.{crossed}
use Rattle.quantiles.specs.Record.{Outcome, still, taken, passes, refuses, filled_buckets, filled_totals, pick_list, counted, stored, grown, pick_outcome, recorded}

-- the state that `grow` builds is the definition's, by the two tests for minimum and maximum
abbrev picked : Quantiles → ℕ → Bool → Bool → Bool → Quantiles
picked q v first below above =
    record {
      signed = q.signed;
      count = q.count + 1;
      min = pick first v (pick below v q.min);
      max = pick first v (pick above v q.max);
    }

grown-picked : (q : Quantiles) (v : ℕ) → grown q v ≡ picked q v (eqb q.count 0) (ltb (order q.signed v) (order q.signed q.min)) (ltb (order q.signed q.max) (order q.signed v))
unfolding grown
grown-picked q v = refl

abbrev made : Bool → ℕ → ℕ → ℕ → Quantiles
made s n a b = record { signed = s; count = n; min = a; max = b }

pub grown-first : (q : Quantiles) (v : ℕ) → q.count ≡ 0 → ◌≡◌ {A = Quantiles} (record { signed = q.signed; count = 1; min = v; max = v }) (grown q v)
grown-first q v e =
    sym
    (grown-picked q v ∙ ap (λ (t : Bool). picked q v t (ltb (order q.signed v) (order q.signed q.min)) (ltb (order q.signed q.max) (order q.signed v))) (eq-eqb q.count 0 e)
    ∙ ap (λ (n : ℕ). made q.signed (n + 1) v v) e)

pub grown_later : (q : Quantiles) (v low high : ℕ) → (q.count ≡ 0 → ⊥)
    → low ≡ pick (ltb (order q.signed v) (order q.signed q.min)) v q.min
    → high ≡ pick (ltb (order q.signed q.max) (order q.signed v)) v q.max
    → ◌≡◌ {A = Quantiles} (record { signed = q.signed; count = q.count + 1; min = low; max = high }) (grown q v)
grown_later q v low high n e f =
    ap (λ (x : ℕ). made q.signed (q.count + 1) x high) e ∙ ap (λ (x : ℕ). made q.signed (q.count + 1) (pick (ltb (order q.signed v) (order q.signed q.min)) v q.min) x) f
    ∙ sym
    (grown-picked q v ∙ ap (λ (t : Bool). picked q v t (ltb (order q.signed v) (order q.signed q.min)) (ltb (order q.signed q.max) (order q.signed v))) (ne_eqb q.count 0 n))

-- at a count above 0 the minimum is above the maximum where the words are; at count 0 never
pub crossed-by : (q : Quantiles) (t : Bool) → 0 < q.count → ltb (order q.signed q.max) (order q.signed q.min) ≡ t → crossed q ≡ t
crossed-by q t h e = ap (λ (u : Bool). u && ltb (order q.signed q.max) (order q.signed q.min)) (lt-ltb 0 q.count h) ∙ e

pub never_crossed : (q : Quantiles) → q.count ≡ 0 → crossed q ≡ false
never_crossed q e = ap (λ (u : Bool). u && ltb (order q.signed q.max) (order q.signed q.min)) (le-ltb 0 q.count (le_of_eq e))

-- ---- which way a call goes, by its tests

by_tests : Quantiles → List ℕ → ℕ → Bool → Bool → Outcome
unfolding still taken
by_tests q room v refusal full = pick_outcome refusal (still wrong_room q room) (pick_outcome full (still 0 q room) (taken (grown q v) (stored q room v)))

recorded-by : (q : Quantiles) (room : List ℕ) (v : ℕ) (refusal full : Bool) → refuses q room v ≡ refusal → eqb q.count (2 ^ 64 - 1) ≡ full → by_tests q room v refusal full ≡ recorded q room v
unfolding recorded by_tests
recorded-by q room v refusal full e f = sym (ap (λ (t : Bool). by_tests q room v t (eqb q.count (2 ^ 64 - 1))) e ∙ ap (by_tests q room v refusal) f)

either-refuses : Bool → Bool → Bool → Bool
either-refuses right cross pass = not right || (cross || pass)

refuses-by : (q : Quantiles) (room : List ℕ) (v : ℕ) (right cross pass : Bool) → sized q.signed room ≡ right → crossed q ≡ cross → passes q room v ≡ pass
    → refuses q room v ≡ either-refuses right cross pass
unfolding refuses either-refuses
refuses-by q room v right cross pass e f g =
    ap (λ (t : Bool). either-refuses t (crossed q) (passes q room v)) e ∙ ap (λ (t : Bool). either-refuses right t (passes q room v)) f ∙ ap (either-refuses right cross) g

refused-by : (q : Quantiles) (room : List ℕ) (v : ℕ) → refuses q room v ≡ true → still wrong_room q room ≡ recorded q room v
unfolding by_tests
refused-by q room v e = recorded-by q room v true (eqb q.count (2 ^ 64 - 1)) e refl

-- a room of the wrong size
pub way_size : (q : Quantiles) (room : List ℕ) (v : ℕ) → (length room ≡ room_size q.signed → ⊥) → still wrong_room q room ≡ recorded q room v
unfolding either-refuses
way_size q room v n =
    refused-by q room v (refuses-by q room v false (crossed q) (passes q room v) (ne_eqb (length room) (room_size q.signed) n) refl refl)

-- the minimum above the maximum
pub way_crossed : (q : Quantiles) (room : List ℕ) (v : ℕ) → length room ≡ room_size q.signed → crossed q ≡ true → still wrong_room q room ≡ recorded q room v
unfolding either-refuses
way_crossed q room v h e =
    refused-by q room v (refuses-by q room v true true (passes q room v) (eq-eqb (length room) (room_size q.signed) h) e refl)

-- the counts that a value has, in its bucket and in its block
abbrev pub in_bucket : Quantiles → List ℕ → ℕ → ℕ
in_bucket q room v = get_or (buckets q.signed room) (index_of q.signed v) 0

abbrev pub in_block : Quantiles → List ℕ → ℕ → ℕ
in_block q room v = get_or (totals q.signed room) (block_of q.signed v) 0

passes-by : (q : Quantiles) (room : List ℕ) (v : ℕ) (late top high : Bool) → ltb 4096 q.count ≡ late → eqb (in_bucket q room v) (2 ^ 64 - 1) ≡ top → eqb (in_block q room v) (2 ^ 64 - 1) ≡ high
    → passes q room v ≡ late && (top || high)
unfolding passes
passes-by q room v late top high e f g =
    ap (λ (t : Bool). t && (eqb (in_bucket q room v) (2 ^ 64 - 1) || eqb (in_block q room v) (2 ^ 64 - 1))) e ∙ ap (λ (t : Bool). late && (t || eqb (in_block q room v) (2 ^ 64 - 1))) f
    ∙ ap (λ (t : Bool). late && (top || t)) g

-- what is asked of the place that a value has, is asked of the value
pub of_value : (s : Bool) (room : List ℕ) (v place : ℕ) (full : Bool) → place ≡ index_of s v → full ≡ full_at s room place → full_at s room (index_of s v) ≡ full
of_value s room v place full e f = ap (λ (i : ℕ). full_at s room i) (sym e) ∙ sym f

-- a bucket or a block total that would pass u64
pub way_passes : (q : Quantiles) (room : List ℕ) (v : ℕ) → length room ≡ room_size q.signed → crossed q ≡ false → 4096 < q.count
    → full_at q.signed room (index_of q.signed v) ≡ true → still wrong_room q room ≡ recorded q room v
unfolding either-refuses
way_passes q room v h e l f =
    refused-by q room v
    (refuses-by q room v true false true (eq-eqb (length room) (room_size q.signed) h) e
    (passes-by q room v true (eqb (in_bucket q room v) (2 ^ 64 - 1)) (eqb (in_block q room v) (2 ^ 64 - 1)) (lt-ltb 4096 q.count l) refl refl ∙ f))

-- what is served: the bucket is not full, or not in use yet
served : (q : Quantiles) (room : List ℕ) (v : ℕ) → length room ≡ room_size q.signed → crossed q ≡ false → passes q room v ≡ false → refuses q room v ≡ false
unfolding either-refuses
served q room v h e f = refuses-by q room v true false false (eq-eqb (length room) (room_size q.signed) h) e f

early : (q : Quantiles) (room : List ℕ) (v : ℕ) → q.count ≤ 4096 → passes q room v ≡ false
early q room v l = passes-by q room v false (eqb (in_bucket q room v) (2 ^ 64 - 1)) (eqb (in_block q room v) (2 ^ 64 - 1)) (le-ltb 4096 q.count l) refl refl

late : (q : Quantiles) (room : List ℕ) (v : ℕ) → 4096 < q.count → (in_bucket q room v ≡ 2 ^ 64 - 1 → ⊥) → (in_block q room v ≡ 2 ^ 64 - 1 → ⊥) → passes q room v ≡ false
late q room v l n m = passes-by q room v true false false (lt-ltb 4096 q.count l) (ne_eqb (in_bucket q room v) (2 ^ 64 - 1) n) (ne_eqb (in_block q room v) (2 ^ 64 - 1) m)

-- a count of 2^64-1
pub way_full : (q : Quantiles) (room : List ℕ) (v : ℕ) → length room ≡ room_size q.signed → crossed q ≡ false → 4096 < q.count
    → (in_bucket q room v ≡ 2 ^ 64 - 1 → ⊥) → (in_block q room v ≡ 2 ^ 64 - 1 → ⊥) → q.count ≡ 2 ^ 64 - 1 → still 0 q room ≡ recorded q room v
unfolding by_tests
way_full q room v h e l n m f = recorded-by q room v false true (served q room v h e (late q room v l n m)) (eq-eqb q.count (2 ^ 64 - 1) f)

taken-by : (q : Quantiles) (room : List ℕ) (v : ℕ) (next : Quantiles) (after : List ℕ) → refuses q room v ≡ false → (q.count ≡ 2 ^ 64 - 1 → ⊥) → next ≡ grown q v → after ≡ stored q room v
    → taken next after ≡ recorded q room v
unfolding by_tests
taken-by q room v next after e n g s =
    ap (λ (x : Quantiles). taken x after) g ∙ ap (taken (grown q v)) s ∙ recorded-by q room v false false e (ne_eqb q.count (2 ^ 64 - 1) n)

-- what sample 4,097 leaves, and a later one
abbrev pub first_room : Quantiles → List ℕ → ℕ → List ℕ
first_room q room v = counted q.signed (samples room) (filled_buckets q.signed (samples room)) (filled_totals q.signed (samples room)) v

abbrev pub later_room : Quantiles → List ℕ → ℕ → List ℕ
later_room q room v = counted q.signed (samples room) (buckets q.signed room) (totals q.signed room) v

stored-by : Quantiles → List ℕ → ℕ → Bool → Bool → List ℕ
stored-by q room v exact first = pick_list exact (set room q.count v) (pick_list first (first_room q room v) (later_room q room v))

stored_is : (q : Quantiles) (room : List ℕ) (v : ℕ) (exact first : Bool) → ltb q.count 4096 ≡ exact → eqb q.count 4096 ≡ first → stored-by q room v exact first ≡ stored q room v
unfolding stored stored-by
stored_is q room v exact first e f = sym (ap (λ (t : Bool). stored-by q room v t (eqb q.count 4096)) e ∙ ap (stored-by q room v exact) f)

not_full : (n : ℕ) → n ≤ 4096 → n ≡ 2 ^ 64 - 1 → ⊥
not_full n l e = omega arith

-- a sample of the exact mode
pub way_exact : (q : Quantiles) (room : List ℕ) (v : ℕ) (next : Quantiles) → length room ≡ room_size q.signed → crossed q ≡ false → q.count < 4096 → next ≡ grown q v
    → taken next (set room q.count v) ≡ recorded q room v
unfolding stored-by
way_exact q room v next h e l g =
    taken-by q room v next (set room q.count v) (served q room v h e (early q room v (le_of_lt l))) (not_full q.count (le_of_lt l)) g
    (stored_is q room v true (eqb q.count 4096) (lt-ltb q.count 4096 l) refl)

-- sample 4,097
pub way_first : (q : Quantiles) (room : List ℕ) (v : ℕ) (next : Quantiles) → length room ≡ room_size q.signed → crossed q ≡ false → q.count ≡ 4096 → next ≡ grown q v
    → taken next (first_room q room v) ≡ recorded q room v
unfolding stored-by
way_first q room v next h e l g =
    taken-by q room v next (first_room q room v) (served q room v h e (early q room v (le_of_eq l)))
    (not_full q.count (le_of_eq l)) g (stored_is q room v false true (le-ltb q.count 4096 (le_of_eq (sym l))) (eq-eqb q.count 4096 l))

-- a later sample
pub way_later : (q : Quantiles) (room : List ℕ) (v : ℕ) (next : Quantiles) → length room ≡ room_size q.signed → crossed q ≡ false → 4096 < q.count
    → (in_bucket q room v ≡ 2 ^ 64 - 1 → ⊥) → (in_block q room v ≡ 2 ^ 64 - 1 → ⊥) → (q.count ≡ 2 ^ 64 - 1 → ⊥) → next ≡ grown q v
    → taken next (later_room q room v) ≡ recorded q room v
unfolding stored-by
way_later q room v next h e l n m f g =
    taken-by q room v next (later_room q room v) (served q room v h e (late q room v l n m)) f g
    (stored_is q room v false false (le-ltb q.count 4096 (le_of_lt l)) (ne_eqb q.count 4096 (above q.count l)))
  where
    above : (n : ℕ) → 4096 < n → n ≡ 4096 → ⊥
    above n l e = omega arith
