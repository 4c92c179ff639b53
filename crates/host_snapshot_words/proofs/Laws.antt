-- Words placed one after another: in two goes as in one, and over a whole room nothing else is left. Assumes nothing.
use mathlib.Core.Path.{◌≡◌, refl, sym, ap, ◌∙◌}
use mathlib.Core.List.{List, [], ◌∷◌, ◌++◌, append_assoc}
use Prim.Native.Nat.{ℕ, zero, suc, ◌+◌, ◌≤◌, ◌<◌}
use native.Mathlib.Omega.{arith}
use lib.ListN.{length, take, get_or, set, length-set, length-take}
use lib.Seq.{sets, length-sets, take-suc, take-suc-set, take_all}

-- a room with words from `at` on
abbrev pub placed : ℕ → List ℕ → List ℕ → List ℕ
placed at ws room = sets room at ws

-- in two goes
pub placed_more : (at : ℕ) (a b room : List ℕ) → placed at (a ++ b) room ≡ placed (at + length a) b (placed at a room)
placed_more at [] b room = ap (λ (n : ℕ). placed n b room) (bare at)
  where
    bare : (n : ℕ) → n ≡ n + 0
    bare n = omega arith
placed_more at (x ∷ a) b room =
    placed_more (suc at) a b (set room at x)
    ∙ ap (λ (n : ℕ). placed n b (placed (suc at) a (set room at x))) (over at (length a))
  where
    over : (n k : ℕ) → suc n + k ≡ n + suc k
    over n k = omega arith

-- the same, where the length of the first part is known
pub placed-next : (at n : ℕ) (a b room : List ℕ) → length a ≡ n → placed (at + n) b (placed at a room) ≡ placed at (a ++ b) room
placed-next at n a b room e = sym (placed_more at a b room ∙ ap (λ (k : ℕ). placed (at + k) b (placed at a room)) e)

-- one word more
pub placed_one : (at i : ℕ) (ws room : List ℕ) → i < length ws
    → set (placed at (take i ws) room) (at + i) (get_or ws i 0) ≡ placed at (take (suc i) ws) room
placed_one at i ws room h =
    ap (λ (k : ℕ). set (placed at (take i ws) room) (at + k) (get_or ws i 0)) (sym (taken i ws h))
    ∙ sym (placed_more at (take i ws) (get_or ws i 0 ∷ []) room)
    ∙ ap (λ (l : List ℕ). placed at l room) (sym (take-suc ws i 0 h))
  where
    taken : (i : ℕ) (ws : List ℕ) → i < length ws → length (take i ws) ≡ i
    taken i ws h = simp length-take (omega arith)

-- up to the end of the room
placed_end : (at : ℕ) (ws room : List ℕ) → at + length ws ≡ length room → placed at ws room ≡ take at room ++ ws
placed_end at [] room e = sym (append-nothing (take at room) ∙ take_all at room (omega arith))
  where
    append-nothing : (l : List ℕ) → l ++ [] ≡ l
    append-nothing [] = refl
    append-nothing (x ∷ l) = ap (λ (r : List ℕ). x ∷ r) (append-nothing l)
placed_end at (w ∷ ws) room e =
    placed_end (suc at) ws (set room at w) (over at (length ws) (length room) e ∙ sym (length-set room at w))
    ∙ ap (λ (l : List ℕ). l ++ ws) (take-suc-set room at w (below at (length ws) (length room) e))
    ∙ append_assoc (take at room) (w ∷ []) ws
  where
    over : (n k m : ℕ) → n + suc k ≡ m → suc n + k ≡ m
    over n k m h = omega arith

    below : (n k m : ℕ) → n + suc k ≡ m → n < m
    below n k m h = omega arith

-- the whole room
pub placed_all : (ws room : List ℕ) → length ws ≡ length room → placed 0 ws room ≡ ws
placed_all ws room e = placed_end 0 ws room (omega (arith, e))
