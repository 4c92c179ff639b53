-- What a mended link is, in places: one to a lower place stays, one to a higher place goes one down, one to the entry that went becomes that
-- entry's own link.
-- Assumes nothing.
use mathlib.Core.Path.{◌≡◌, refl, ◌∙◌}
use Prim.Native.Nat.{ℕ, suc, ◌+◌, ◌-◌, ◌%◌, ◌≤◌, ◌<◌}
use native.Mathlib.Omega.{arith}
use native.Mathlib.Nat.{mod-eq_of_lt, add-mod_right}
use Rattle.chains.specs.Rings.{wrap}
use Rattle.chains.proofs.Tests.{lt_true, lt_false, eq_true, eq_false}
use Rattle.chains.proofs.Places.{Wrapped, low, high, wrap_is, wrap-below}
use Rattle.probe_ring.specs.Rooms.{mended_link}

pub record Mends (N head p n own : ℕ) (mend : ℕ → ℕ) : Type 0 where
  pub lower : (to : ℕ) → to < p → mend (wrap N (head + to)) ≡ wrap N (head + to)
  pub higher : (to : ℕ) → p < suc to → suc to ≤ n → mend (wrap N (head + suc to)) ≡ wrap N (head + to)
  pub itself : mend (wrap N (head + p)) ≡ own

module _ (N head : ℕ) (head_in : head < N) where
  itself_modulo : (to : ℕ) → to < N → wrap N (head + to) % N ≡ wrap N (head + to)
  itself_modulo to l = mod-eq_of_lt (wrap-below N (head + to) (omega arith))

  -- a slot less the head, modulo N, is its place
  place_modulo : (to : ℕ) → to < N → (wrap N (head + to) % N + (N - head)) % N ≡ to
  place_modulo to l = rw (itself_modulo to l) (go (wrap_is N (head + to)))
    where
      go : Wrapped N (head + to) → (wrap N (head + to) + (N - head)) % N ≡ to
      go (low a b) =
          let sum : wrap N (head + to) + (N - head) ≡ to + N = omega arith in
          rw sum (add-mod_right to N ∙ mod-eq_of_lt l)
      go (high a b) =
          let sum : wrap N (head + to) + (N - head) ≡ to = omega arith in
          rw sum (mod-eq_of_lt l)

  -- one slot down
  slot_modulo : (to : ℕ) → suc to < N → (wrap N (head + suc to) % N + (N - 1)) % N ≡ wrap N (head + to)
  slot_modulo to l = rw (itself_modulo (suc to) l) (go (wrap_is N (head + suc to)) (wrap_is N (head + to)))
    where
      over : wrap N (head + suc to) + (N - 1) ≡ wrap N (head + to) + N → wrap N (head + to) < N → (wrap N (head + suc to) + (N - 1)) % N ≡ wrap N (head + to)
      over e m = rw e (add-mod_right (wrap N (head + to)) N ∙ mod-eq_of_lt m)

      go : Wrapped N (head + suc to) → Wrapped N (head + to) → (wrap N (head + suc to) + (N - 1)) % N ≡ wrap N (head + to)
      go (low a b) (low c d) = over (omega arith) (omega arith)
      go (low a b) (high c d) = absurd (omega arith)
      go (high a b) (low c d) =
          let sum : wrap N (head + suc to) + (N - 1) ≡ wrap N (head + to) = omega arith in
          let m : wrap N (head + to) < N = omega arith in
          rw sum (mod-eq_of_lt m)
      go (high a b) (high c d) = over (omega arith) (omega arith)

  pub mends : (p n own : ℕ) → p ≤ n → n < N → Mends N head p n own (mended_link N (N - head) p own)
  unfolding mended_link
  mends p n own pn l = record {
    lower = λ to m.
        rw (place_modulo to (omega (arith, m)), lt_false p to (omega (arith, m)), eq_false p to (λ q. omega (arith, m, q)));
    higher = λ to m k.
        rw (place_modulo (suc to) (omega (arith, k)), lt_true p (suc to) m) (slot_modulo to (omega (arith, k)));
    itself = rw (place_modulo p (omega arith), lt_false p p (omega arith), eq_true p p refl);
  }

-- ---- as the code works it out

module _ (N lift gone own link : ℕ) where
  pub mend_higher : gone < (link % N + lift) % N → (link % N + (N - 1)) % N ≡ mended_link N lift gone own link
  unfolding mended_link
  mend_higher l = rw (lt_true gone ((link % N + lift) % N) l)

  pub mend_itself : (link % N + lift) % N ≤ gone → gone ≡ (link % N + lift) % N → own ≡ mended_link N lift gone own link
  unfolding mended_link
  mend_itself l e = rw (lt_false gone ((link % N + lift) % N) l, eq_true gone ((link % N + lift) % N) e)

  pub mend_lower : (link % N + lift) % N ≤ gone → (gone ≡ (link % N + lift) % N → ⊥) → link ≡ mended_link N lift gone own link
  unfolding mended_link
  mend_lower l ne = rw (lt_false gone ((link % N + lift) % N) l, eq_false gone ((link % N + lift) % N) ne)
