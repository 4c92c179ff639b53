-- The order of the table: what `earlier` gives of two refusals. Assumes nothing.
use mathlib.Core.Path.{◌≡◌, refl, sym, ap, ◌∙◌}
use mathlib.Core.Bool.{Bool, true, false, ◌&&◌, cond}
use Prim.Native.Nat.{ℕ, ◌≤◌, ◌<◌}
use lib.Dec.{eqb, leb}
use native.Mathlib.Omega.{arith}
use borrow.Author.Tests.{le-leb, lt-leb, leb-false}
use Rattle.limits.specs.Refusals.{wrong_room, out_of_range, deadline_passes, counts_full, not_awaiting, queue_full}
use Rattle.ledger_state.specs.Refusal.{first_refusal}
use Rattle.ledger_steps.specs.Refusals.{line, earlier}

-- ---- by the lines of the two

pub earlier-first : (a b x y : ℕ) → x ≡ line a → y ≡ line b → x ≤ y → a ≡ earlier a b
unfolding earlier
earlier-first a b x y p q h = rw (sym p, sym q, le-leb x y h)

pub earlier-second : (a b x y : ℕ) → x ≡ line a → y ≡ line b → y < x → b ≡ earlier a b
unfolding earlier
earlier-second a b x y p q h = rw (sym p, sym q, lt-leb x y h)

-- ---- where neither is a refusal, the first is none

-- no line is after that of no refusal
line_in : (n : ℕ) → line n ≤ 6
line_in n = among (eqb n wrong_room) (eqb n out_of_range) (eqb n deadline_passes) (eqb n counts_full) (eqb n not_awaiting) (eqb n queue_full)
  where
    among : (a b c d e f : Bool) → cond a 0 (cond b 1 (cond c 2 (cond d 3 (cond e 4 (cond f 5 6))))) ≤ 6
    among true b c d e f = omega arith
    among false true c d e f = omega arith
    among false false true d e f = omega arith
    among false false false true e f = omega arith
    among false false false false true f = omega arith
    among false false false false false true = omega arith
    among false false false false false false = omega arith

-- of a refusal and none the refusal, of none and none none
pub earlier_alone : (a : ℕ) → a ≡ earlier a 0
earlier_alone a = earlier-first a 0 (line a) (line 0) refl refl (line_in a)

none-by : (a b : ℕ) (t : Bool) → leb (line a) (line b) ≡ t → cond t a b ≡ 0 → a ≡ 0
none-by a b true e h = h
none-by a b false e h = absurd (omega (arith, line_in a, leb-false (line a) (line b) e, ap line h))

pub earlier-none : (a b : ℕ) → earlier a b ≡ 0 → a ≡ 0
unfolding earlier
earlier-none a b h = none-by a b (leb (line a) (line b)) refl h

-- ---- the first in table order of both

same : (t : Bool) (n : ℕ) → cond t n n ≡ n
same true n = refl
same false n = refl

-- one line of the table: where the tests of both hold, what comes after it decides
row_both : (n : ℕ) (ok ok' : Bool) (x y : ℕ) → line n < line x → line n < line y → earlier (cond ok x n) (cond ok' y n) ≡ cond (ok && ok') (earlier x y) n
unfolding earlier
row_both n true true x y p q = refl
row_both n true false x y p q = sym (earlier-second x n (line x) (line n) refl refl p)
row_both n false true x y p q = sym (earlier-first n y (line n) (line y) refl refl (omega arith))
row_both n false false x y p q = same (leb (line n) (line n)) n

-- the table as its lines, one after the other
lines : (a b c d e f : Bool) → first_refusal a b c d e f ≡ cond a (cond b (cond c (cond d (cond e (cond f 0 3) 2) 4) 6) 1) 5
lines false b c d e f = refl
lines true false c d e f = refl
lines true true false d e f = refl
lines true true true false e f = refl
lines true true true true false f = refl
lines true true true true true false = refl
lines true true true true true true = refl

-- a line is before those that follow it, whichever of them is answered
past : (k : ℕ) (ok : Bool) (rest n : ℕ) → k < line rest → k < line n → k < line (cond ok rest n)
past k true rest n p q = p
past k false rest n p q = q

past_1 : (k : ℕ) (f : Bool) → k < 5 → k < line (cond f 0 3)
past_1 k f h = past k f 0 3 (omega arith) h

past_2 : (k : ℕ) (e f : Bool) → k < 4 → k < line (cond e (cond f 0 3) 2)
past_2 k e f h = past k e (cond f 0 3) 2 (past_1 k f (omega arith)) h

past_3 : (k : ℕ) (d e f : Bool) → k < 3 → k < line (cond d (cond e (cond f 0 3) 2) 4)
past_3 k d e f h = past k d (cond e (cond f 0 3) 2) 4 (past_2 k e f (omega arith)) h

past_4 : (k : ℕ) (c d e f : Bool) → k < 2 → k < line (cond c (cond d (cond e (cond f 0 3) 2) 4) 6)
past_4 k c d e f h = past k c (cond d (cond e (cond f 0 3) 2) 4) 6 (past_3 k d e f (omega arith)) h

past_5 : (k : ℕ) (b c d e f : Bool) → k < 1 → k < line (cond b (cond c (cond d (cond e (cond f 0 3) 2) 4) 6) 1)
past_5 k b c d e f h = past k b (cond c (cond d (cond e (cond f 0 3) 2) 4) 6) 1 (past_4 k c d e f (omega arith)) h

-- Of two refusals found by the table, `earlier` is the first in table order of both: the table over the tests that hold for both.
pub first-of-both :
    (a b c d e f a' b' c' d' e' f' : Bool) →
    earlier (first_refusal a b c d e f) (first_refusal a' b' c' d' e' f') ≡ first_refusal (a && a') (b && b') (c && c') (d && d') (e && e') (f && f')
unfolding earlier
first-of-both a b c d e f a' b' c' d' e' f' =
    (λ i. earlier (lines a b c d e f i) (lines a' b' c' d' e' f' i))
    ∙ row_both 5 a a' _ _ (past_5 0 b c d e f (omega arith)) (past_5 0 b' c' d' e' f' (omega arith))
    ∙ ap (λ (n : ℕ). cond (a && a') n 5) (row_both 1 b b' _ _ (past_4 1 c d e f (omega arith)) (past_4 1 c' d' e' f' (omega arith))
    ∙ ap (λ (n : ℕ). cond (b && b') n 1) (row_both 6 c c' _ _ (past_3 2 d e f (omega arith)) (past_3 2 d' e' f' (omega arith))
    ∙ ap (λ (n : ℕ). cond (c && c') n 6) (row_both 4 d d' _ _ (past_2 3 e f (omega arith)) (past_2 3 e' f' (omega arith))
    ∙ ap (λ (n : ℕ). cond (d && d') n 4) (row_both 2 e e' _ _ (past_1 4 f (omega arith)) (past_1 4 f' (omega arith))
    ∙ ap (λ (n : ℕ). cond (e && e') n 2) (row_both 3 f f' 0 0 (omega arith) (omega arith))))))
    ∙ sym (lines (a && a') (b && b') (c && c') (d && d') (e && e') (f && f'))
