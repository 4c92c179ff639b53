-- A part of the ledger is read the same after stores into the words before it. Assumes nothing.
use Rattle.std.specs.Prelude.{Option, Some, None}
use Rattle.call_types.specs.declared.CounterPoint.{CounterPoint}
use Rattle.direct.specs.declared.Epoch.{Epoch}
use mathlib.Core.Path.{◌≡◌, refl, ◌∙◌}
use mathlib.Core.List.{List, [], ◌∷◌}
use Prim.Native.Nat.{ℕ, suc, ◌+◌, ◌≤◌, ◌<◌}
use native.Mathlib.Omega.{arith}
use lib.ListN.{length, get_or, set}
use lib.Seq.{sets, get_or-set_other}
use Rattle.direct.specs.declared.Direct.{Direct}
use Rattle.direct.specs.declared.Counts.{Counts}
use Rattle.delays.specs.declared.Delays.{Delays}
use Rattle.host_quality.specs.Words.{quality_at}
use Rattle.host_ledger.specs.Parts.{delays_at, delays_words, epoch_words, window_at, direct_at, direct_words, follow_at}
use Rattle.host_ledger.specs.Left.{direct_stored}

-- the words from place k on are the same
abbrev pub Beyond : ℕ → List ℕ → List ℕ → Type 0
Beyond k v w = (j : ℕ) → k ≤ j → get_or v j 0 ≡ get_or w j 0

pub beyond_set : (k : ℕ) (v w : List ℕ) (i x : ℕ) → i < k → Beyond k v w → Beyond k (set v i x) w
beyond_set k v w i x h b j l = get_or-set_other v i j x 0 (λ e. omega arith) ∙ b j l

pub beyond_sets : (xs : List ℕ) (k : ℕ) (v w : List ℕ) (i : ℕ) → i + length xs ≤ k → Beyond k v w → Beyond k (sets v i xs) w
beyond_sets [] k v w i h b = b
beyond_sets (x ∷ xs) k v w i h b =
    let long : suc i + length xs ≤ k = omega arith in
    beyond_sets xs k (set v i x) w (suc i) long (beyond_set k v w i x (omega arith) b)

-- ---- what is read there

pub delays_beyond : (v w : List ℕ) → Beyond 25 v w → delays_at 25 v ≡ delays_at 25 w
delays_beyond v w b = rw (b 25 (omega arith), b 26 (omega arith), b 27 (omega arith), b 28 (omega arith), b 29 (omega arith), b 30 (omega arith), b 31 (omega arith), b 32 (omega arith))

pub direct_beyond : (v w : List ℕ) → Beyond 33 v w → direct_at 33 v ≡ direct_at 33 w
unfolding direct_at window_at
direct_beyond v w b =
    rw (b 33 (omega arith), b 34 (omega arith), b 35 (omega arith), b 36 (omega arith), b 37 (omega arith), b 38 (omega arith), b 39 (omega arith), b 40 (omega arith), b 41 (omega arith), b 42 (omega arith), b 43 (omega arith))

pub follow_beyond : (v w : List ℕ) → Beyond 44 v w → follow_at 44 v ≡ follow_at 44 w
unfolding follow_at quality_at
follow_beyond v w b =
    rw (b 44 (omega arith), b 45 (omega arith), b 46 (omega arith), b 47 (omega arith), b 48 (omega arith), b 49 (omega arith), b 50 (omega arith), b 51 (omega arith), b 52 (omega arith), b 53 (omega arith), b 54 (omega arith), b 55 (omega arith), b 56 (omega arith), b 57 (omega arith), b 58 (omega arith), b 59 (omega arith), b 60 (omega arith), b 61 (omega arith), b 62 (omega arith), b 63 (omega arith), b 64 (omega arith), b 65 (omega arith), b 66 (omega arith), b 67 (omega arith), b 68 (omega arith), b 69 (omega arith), b 70 (omega arith), b 71 (omega arith))

-- ---- the stores of `observe`, in their order

-- calls, and that no key awaits
abbrev pub counted : List ℕ → List ℕ
counted w = set (set w 5 (get_or w 5 0 + 1)) 10 0

counted_beyond : (w : List ℕ) → Beyond 25 (counted w) w
counted_beyond w = beyond_set 25 (set w 5 (get_or w 5 0 + 1)) w 10 0 (omega arith) (beyond_set 25 w w 5 (get_or w 5 0 + 1) (omega arith) (λ j l. refl))

pub rtt_same : (w : List ℕ) → delays_at 25 (counted w) ≡ delays_at 25 w
rtt_same w = delays_beyond (counted w) w (counted_beyond w)

-- the round trips
abbrev pub timed : List ℕ → Delays → List ℕ
timed w d = sets (counted w) 25 (delays_words d)

timed_beyond : (w : List ℕ) (d : Delays) → Beyond 33 (timed w d) w
unfolding delays_words
timed_beyond w d = beyond_sets (delays_words d) 33 (counted w) w 25 (omega arith) (λ j l. counted_beyond w j (omega arith))

pub direct-same : (w : List ℕ) (d : Delays) → direct_at 33 (timed w d) ≡ direct_at 33 w
direct-same w d = direct_beyond (timed w d) w (timed_beyond w d)

-- direct loss
long-direct : (n : Counts) (x : Option Epoch) → length (direct_words (record { counts = n; window = x })) ≡ 11
unfolding direct_words epoch_words
long-direct n None = refl
long-direct n (Some e) = refl

stored_beyond : (told : Option CounterPoint) (w : List ℕ) (d : Delays) (x : Direct) → Beyond 44 (direct_stored told (timed w d) x) w
stored_beyond None w d x = λ j l. timed_beyond w d j (omega arith)
stored_beyond (Some c) w d x =
    let long = long-direct x.counts x.window in
    beyond_sets (direct_words x) 44 (timed w d) w 33 (omega (arith, long)) (λ j l. timed_beyond w d j (omega arith))

pub follow-same : (told : Option CounterPoint) (w : List ℕ) (d : Delays) (x : Direct) → follow_at 44 (direct_stored told (timed w d) x) ≡ follow_at 44 w
follow-same told w d x = follow_beyond (direct_stored told (timed w d) x) w (stored_beyond told w d x)
