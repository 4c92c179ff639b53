-- Whole chains stay whole: an empty ring has them whatever its rooms hold, and the leaving of the oldest and a push keep them. A chain that no entry is on may lead anywhere.
-- Assumes nothing.
use mathlib.Core.Path.{◌≡◌, refl, sym, ap, ◌∙◌}
use mathlib.Core.Logic.{◌≢◌}
use Prim.Native.Nat.{ℕ, zero, suc, ◌+◌, ◌-◌, ◌≤◌, ◌<◌}
use native.Mathlib.Nat.{add-zero}
use native.Mathlib.Omega.{arith}
use lib.Dec.{eqb}
use Rattle.chains.specs.declared.Ring.{Ring}
use Rattle.chains.specs.Rings.{wrap, push_slot, after_push, RingFits}
use Rattle.chains.specs.Whole.{Led, Leads, Indexed}
use Rattle.chains.proofs.Tests.{Test, holds, fails, eq_test}
use Rattle.chains.proofs.Places.{step-wrap, last-place, places_differ, slot_once, wrap-low, wrap-below, Pushed, room, full, push_is}

pub empty_indexed : (N : ℕ) (hash newest older : ℕ → ℕ) (head : ℕ) → Indexed N hash newest older head 0
empty_indexed N hash newest older head = record { first = λ h p l e. absurd (omega (arith, l)); next = λ q l. absurd (omega (arith, l)) }

module _ (N : ℕ) (hash newest older : ℕ → ℕ) (head : ℕ) where
  -- the oldest goes
  pub evict_indexed : (n : ℕ) → head < N → suc n ≤ N → Indexed N hash newest older head (suc n) → Indexed N hash newest older (wrap N (suc head)) n
  evict_indexed n h l x = record { first = λ k. on (newest k) n k (omega arith) (x.first k); next = λ q m. next' q m }
    where
      at : (p : ℕ) → p < n → wrap N (wrap N (suc head) + p) ≡ wrap N (head + suc p)
      at p m = step-wrap N head p h (omega arith)

      on : (v b k : ℕ) → b ≤ n → Leads N hash head v (suc b) k → Leads N hash (wrap N (suc head)) v b k
      on v b k m f p u e = go (f (suc p) (omega arith) (ap hash (sym (at p (omega arith))) ∙ e))
        where
          go : Led N hash head v (suc b) k (suc p) → Led N hash (wrap N (suc head)) v b k p
          go d =
              let back : suc (d.to - 1) ≡ d.to = omega (arith, d.above) in
              let same : wrap N (wrap N (suc head) + (d.to - 1)) ≡ wrap N (head + d.to) = rw back at (at (d.to - 1) (omega (arith, d.above, d.below))) in
              record { to = d.to - 1; leads = d.leads ∙ sym same; above = omega (arith, d.above); below = omega (arith, d.above, d.below); alike = ap hash same ∙ d.alike }

      next' : (q : ℕ) → q < n → Leads N hash (wrap N (suc head)) (older (wrap N (wrap N (suc head) + q))) q (hash (wrap N (wrap N (suc head) + q)))
      next' q m = rw (at q m) (on (older (wrap N (head + suc q))) q (hash (wrap N (head + suc q))) (omega arith) (x.next (suc q) (omega arith)))

  -- where the newest of a hash is the oldest of all, no other entry has that hash
  pub oldest_alone : (n k : ℕ) → head < N → suc n ≤ N → newest k ≡ head → Indexed N hash newest older head (suc n) → (p : ℕ) → p < n → hash (wrap N (wrap N (suc head) + p)) ≢ k
  oldest_alone n k h l e x p m q = go (x.first k (suc p) (omega arith) (ap hash (sym (step-wrap N head p h (omega arith))) ∙ q))
    where
      oldest : head ≡ wrap N (head + 0)
      oldest = sym (ap (wrap N) (add-zero head) ∙ wrap-low N head h)

      go : Led N hash head (newest k) (suc n) k (suc p) → ⊥
      go d =
          let same : 0 ≡ d.to = slot_once N head 0 d.to h (omega arith) (omega (arith, d.below)) (sym oldest ∙ sym e ∙ d.leads) in
          omega (arith, d.above, same)

  -- a hash that no entry has: where it leads does not matter
  pub free_indexed : (newest' : ℕ → ℕ) (len k : ℕ) → ((p : ℕ) → p < len → hash (wrap N (head + p)) ≢ k) → ((i : ℕ) → i ≢ k → newest' i ≡ newest i)
      → Indexed N hash newest older head len → Indexed N hash newest' older head len
  free_indexed newest' len k none nn x = record { first = λ i. first' i (eq_test i k); next = x.next }
    where
      first' : (i : ℕ) → Test (i ≡ k) (eqb i k) → Leads N hash head (newest' i) len i
      first' i (holds q t) = λ p l e. absurd (none p l (e ∙ q))
      first' i (fails q t) = rw (nn i q) (x.first i)

  -- hashes that agree below b
  alike_below : (hash' : ℕ → ℕ) (v b k : ℕ) → ((i : ℕ) → i < b → hash' (wrap N (head + i)) ≡ hash (wrap N (head + i))) → Leads N hash head v b k → Leads N hash' head v b k
  alike_below hash' v b k same f p l e = go (f p l (sym (same p l) ∙ e))
    where
      go : Led N hash head v b k p → Led N hash' head v b k p
      go d = record { to = d.to; leads = d.leads; above = d.above; below = d.below; alike = same d.to d.below ∙ d.alike }

  -- one more entry, where there is room
  pub push_indexed : (hash' newest' older' : ℕ → ℕ) (len h : ℕ) → head < N → len < N
      → hash' (wrap N (head + len)) ≡ h → ((i : ℕ) → i ≢ wrap N (head + len) → hash' i ≡ hash i)
      → newest' h ≡ wrap N (head + len) → ((i : ℕ) → i ≢ h → newest' i ≡ newest i)
      → older' (wrap N (head + len)) ≡ newest h → ((i : ℕ) → i ≢ wrap N (head + len) → older' i ≡ older i)
      → Indexed N hash newest older head len → Indexed N hash' newest' older' head (suc len)
  push_indexed hash' newest' older' len h hd l hh ho nh nn oh oo x = record { first = first'; next = next' }
    where
      kept : (i : ℕ) → i < len → hash' (wrap N (head + i)) ≡ hash (wrap N (head + i))
      kept i m = ho (wrap N (head + i)) (places_differ N head i len hd m l)

      first' : (k : ℕ) → Leads N hash' head (newest' k) (suc len) k
      first' k p m e = go (eq_test k h) (eq_test p len)
        where
          go : Test (k ≡ h) (eqb k h) → Test (p ≡ len) (eqb p len) → Led N hash' head (newest' k) (suc len) k p
          go (holds q t) u = record { to = len; leads = ap newest' q ∙ nh; above = omega arith; below = omega arith; alike = hh ∙ sym q }
          go (fails q t) (holds u w) = absurd (q (sym (sym hh ∙ ap (λ (i : ℕ). hash' (wrap N (head + i))) (sym u) ∙ e)))
          go (fails q t) (fails u w) = up (alike_below hash' (newest k) len k kept (x.first k) p (omega arith) e)
            where
              up : Led N hash' head (newest k) len k p → Led N hash' head (newest' k) (suc len) k p
              up d = record { to = d.to; leads = nn k q ∙ d.leads; above = d.above; below = omega (arith, d.below); alike = d.alike }

      next' : (q : ℕ) → q < suc len → Leads N hash' head (older' (wrap N (head + q))) q (hash' (wrap N (head + q)))
      next' q m = go (eq_test q len)
        where
          go : Test (q ≡ len) (eqb q len) → Leads N hash' head (older' (wrap N (head + q))) q (hash' (wrap N (head + q)))
          go (holds e t) = rw (e, oh, hh) (alike_below hash' (newest h) len h kept (x.first h))
          go (fails e t) =
              let m' : q < len = omega arith in
              rw (oo (wrap N (head + q)) (places_differ N head q len hd m' l), kept q m')
              (alike_below hash' (older (wrap N (head + q))) q (hash (wrap N (head + q))) (λ i u. kept i (omega arith)) (x.next q m'))

-- Whole but for the oldest of a full ring, which leaves: what a push starts from.
pub record Ready (N : ℕ) (hash newest older : ℕ → ℕ) (ring : Ring) : Type 0 where
  pub with_room : ring.len < N → Indexed N hash newest older ring.head ring.len
  pub without-oldest : N ≤ ring.len → Indexed N hash newest older (wrap N (suc ring.head)) (N - 1)

pub indexed_ready : (N : ℕ) (hash newest older : ℕ → ℕ) (ring : Ring) → RingFits N ring → Indexed N hash newest older ring.head ring.len → Ready N hash newest older ring
indexed_ready N hash newest older ring fits x = record { with_room = λ l. x; without-oldest = λ l. left l }
  where
    left : N ≤ ring.len → Indexed N hash newest older (wrap N (suc ring.head)) (N - 1)
    left l =
        let all : ring.len ≡ suc (N - 1) = omega (arith, fits.head_in, fits.len_in) in
        evict_indexed N hash newest older ring.head (N - 1) fits.head_in (omega (arith, fits.head_in)) (rw all at x)

-- A push, over the oldest where the ring is full: the new entry of hash h stands at the push slot, is the newest of its chain and leads to
-- what was the newest, and nothing else changes.
pub pushed_indexed : (N : ℕ) (hash newest older hash' newest' older' : ℕ → ℕ) (ring : Ring) (h : ℕ) → RingFits N ring
    → hash' (push_slot N ring) ≡ h → ((i : ℕ) → i ≢ push_slot N ring → hash' i ≡ hash i)
    → newest' h ≡ push_slot N ring → ((i : ℕ) → i ≢ h → newest' i ≡ newest i)
    → older' (push_slot N ring) ≡ newest h → ((i : ℕ) → i ≢ push_slot N ring → older' i ≡ older i)
    → Ready N hash newest older ring → Indexed N hash' newest' older' (after_push N ring).head (after_push N ring).len
pushed_indexed N hash newest older hash' newest' older' ring h fits hh ho nh nn oh oo x = go (push_is N ring)
  where
    go : Pushed N ring → Indexed N hash' newest' older' (after_push N ring).head (after_push N ring).len
    go (room l s a n) = rw (a, n) (push_indexed N hash newest older ring.head hash' newest' older' ring.len h fits.head_in l (rw s at hh) (rw s at ho) (rw s at nh) nn (rw s at oh) (rw s at oo) (x.with_room l))
    go (full l s a n) =
        let all : ring.len ≡ suc (N - 1) = omega (arith, fits.head_in, fits.len_in) in
        let at : push_slot N ring ≡ wrap N (wrap N (suc ring.head) + (N - 1)) = s ∙ sym (last-place N ring.head fits.head_in) in
        rw (a, n, all)
        (push_indexed N hash newest older (wrap N (suc ring.head)) hash' newest' older' (N - 1) h
        (wrap-below N (suc ring.head) (omega (arith, fits.head_in))) (omega (arith, fits.head_in)) (rw at at hh) (rw at at ho) (rw at at nh) nn (rw at at oh) (rw at at oo)
        (x.without-oldest l))
