-- A text written over bytes, byte by byte from its end, and one text behind another. Assumes nothing.
use mathlib.Core.Path.{◌≡◌, sym, ap, ap₂, ◌∙◌}
use mathlib.Core.List.{List, [], ◌∷◌, ◌++◌, append_assoc}
use Prim.Native.Nat.{ℕ, suc, ◌+◌, ◌-◌, ◌≤◌, ◌<◌}
use native.Mathlib.Omega.{arith}
use lib.ListN.{length, get_or, take, drop, set, length-append, length-drop, take-append-drop}
use lib.Seq.{length-take-le, take-suc, set_at, take_at, drop_at, drop-drop}
use Rattle.decimal.specs.Writing.{over, Stands}

-- nothing is written
pub over_none : (b : List ℕ) (at : ℕ) → over b at [] ≡ b
unfolding over
over_none b at = ap (λ (n : ℕ). take at b ++ drop n b) (plain at) ∙ take-append-drop at b
  where
    plain : (n : ℕ) → n + 0 ≡ n
    plain n = omega arith

-- where the text fits, the bytes stay as many
pub over-length : (b : List ℕ) (at : ℕ) (t : List ℕ) → at + length t ≤ length b → length (over b at t) ≡ length b
unfolding over
over-length b at t h =
    length-append (take at b) (t ++ drop (at + length t) b)
    ∙ ap₂ (λ (x y : ℕ). x + y) (length-take-le at b (omega arith)) (length-append t (drop (at + length t) b) ∙ ap (λ (n : ℕ). length t + n) (length-drop (at + length t) b))
    ∙ sum at (length t) (length b) h
  where
    sum : (a t b : ℕ) → a + t ≤ b → a + (t + (b - (a + t))) ≡ b
    sum a t b h = omega arith

-- one byte in front of a text that is written
pub over-front : (b : List ℕ) (at : ℕ) (d : ℕ) (t : List ℕ) → at < length b → set (over b (at + 1) t) at d ≡ over b at (d ∷ t)
unfolding over
over-front b at d t h =
    ap (λ (n : ℕ). set (take n b ++ (t ++ drop (at + 1 + length t) b)) at d) (next at)
    ∙ ap (λ (l : List ℕ). set (l ++ (t ++ drop (at + 1 + length t) b)) at d) (take-suc b at 0 h)
    ∙ ap (λ (l : List ℕ). set l at d) (append_assoc (take at b) (get_or b at 0 ∷ []) (t ++ drop (at + 1 + length t) b))
    ∙ set_at (take at b) (get_or b at 0) (t ++ drop (at + 1 + length t) b) d at (length-take-le at b (omega arith))
    ∙ ap (λ (n : ℕ). take at b ++ (d ∷ (t ++ drop n b))) (place at (length t))
  where
    next : (n : ℕ) → n + 1 ≡ suc n
    next n = omega arith

    place : (n m : ℕ) → n + 1 + m ≡ n + suc m
    place n m = omega arith

-- one text, then another behind it
pub over-over : (b : List ℕ) (at : ℕ) (t u : List ℕ) → at + length t ≤ length b → over (over b at t) (at + length t) u ≡ over b at (t ++ u)
unfolding over
over-over b at t u h =
    ap₂ (λ (x y : List ℕ). x ++ (u ++ y)) front behind
    ∙ append_assoc (take at b) t (u ++ drop (at + length (t ++ u)) b)
    ∙ ap (λ (l : List ℕ). take at b ++ l) (sym (append_assoc t u (drop (at + length (t ++ u)) b)))
  where
    head-length : length (take at b ++ t) ≡ at + length t
    head-length = length-append (take at b) t ∙ ap (λ (n : ℕ). n + length t) (length-take-le at b (omega arith))

    split : take at b ++ (t ++ drop (at + length t) b) ≡ (take at b ++ t) ++ drop (at + length t) b
    split = sym (append_assoc (take at b) t (drop (at + length t) b))

    front : take (at + length t) (take at b ++ (t ++ drop (at + length t) b)) ≡ take at b ++ t
    front = ap (take (at + length t)) split ∙ take_at (take at b ++ t) (drop (at + length t) b) (at + length t) head-length

    sum : (a x y z : ℕ) → z ≡ x + y → a + x + y ≡ a + z
    sum a x y z e = omega arith

    behind : drop (at + length t + length u) (take at b ++ (t ++ drop (at + length t) b)) ≡ drop (at + length (t ++ u)) b
    behind =
        ap (drop (at + length t + length u)) split
        ∙ sym (drop-drop (length u) (at + length t) ((take at b ++ t) ++ drop (at + length t) b))
        ∙ ap (drop (length u)) (drop_at (take at b ++ t) (drop (at + length t) b) (at + length t) head-length)
        ∙ drop-drop (length u) (at + length t) b
        ∙ ap (λ (n : ℕ). drop n b) (sum at (length t) (length u) (length (t ++ u)) (length-append t u))

-- a text of at most so many bytes is one of at most more
pub within : {m n at r : ℕ} {t before after : List ℕ} → m ≤ n → Stands m t before at after r → Stands n t before at after r
within h s = record { bytes = s.bytes; end = s.end; short = omega (arith, s.short) }

-- One text that stands, then another behind it, are the two together.
pub then : {m n at r r' : ℕ} {t u before between after : List ℕ} → at + m ≤ length before
    → Stands m t before at between r → Stands n u between r after r' → Stands (m + n) (t ++ u) before at after r'
then {m} {n} {at} {r} {r'} {t} {u} {before} {between} {after} room s s' =
    record {
      bytes = s'.bytes ∙ ap₂ (λ (b : List ℕ) (i : ℕ). over b i u) s.bytes s.end ∙ over-over before at t u (omega (arith, s.short));
      end = s'.end ∙ ap (λ (i : ℕ). i + length u) s.end ∙ sum at (length t) (length u) (length (t ++ u)) (length-append t u);
      short = omega (arith, s.short, s'.short, length-append t u);
    }
  where
    sum : (a x y z : ℕ) → z ≡ x + y → a + x + y ≡ a + z
    sum a x y z e = omega arith
