-- An entry is taken out of the middle of a ring, and those above it move down by one place: the chains stay whole.
-- Assumes nothing.
use mathlib.Core.Path.{◌≡◌, refl, sym, ap, ◌∙◌, subst}
use mathlib.Core.Logic.{◌≢◌}
use Prim.Native.Nat.{ℕ, suc, ◌+◌, ◌-◌, ◌≤◌, ◌<◌}
use native.Mathlib.Omega.{arith}
use lib.Dec.{eqb, ltb}
use Rattle.chains.specs.Rings.{wrap}
use Rattle.chains.specs.Whole.{Led, Leads, Indexed}
use Rattle.chains.proofs.Tests.{Test, holds, fails, eq_test, lt_test}
use Rattle.probe_ring.proofs.Mends.{Mends}

-- p entries are below the one that goes, and n are left. The links from entries below it stay, all others are mended.
module _ (N : ℕ) (hash newest older : ℕ → ℕ) (head p n : ℕ) (mend : ℕ → ℕ) (a : Mends N head p n (older (wrap N (head + p))) mend) (p-in : p ≤ n)
    (x : Indexed N hash newest older head (suc n)) (hash' newest' older' : ℕ → ℕ)
    (hash-low : (i : ℕ) → i < p → hash' (wrap N (head + i)) ≡ hash (wrap N (head + i)))
    (hash-high : (i : ℕ) → p ≤ i → i < n → hash' (wrap N (head + i)) ≡ hash (wrap N (head + suc i)))
    (M : ℕ) (hash-in : (i : ℕ) → hash' i < M) (newest_is_lem : (h : ℕ) → h < M → newest' h ≡ mend (newest h))
    (older-low : (i : ℕ) → i < p → older' (wrap N (head + i)) ≡ older (wrap N (head + i)))
    (older-high : (i : ℕ) → p ≤ i → i < n → older' (wrap N (head + i)) ≡ mend (older (wrap N (head + suc i)))) where
  -- a link to an entry below the one that goes
  below-led : (v b h i : ℕ) → b ≤ p → Led N hash head v b h i → Led N hash' head v b h i
  below-led v b h i l d =
      record { to = d.to; leads = d.leads; above = d.above; below = d.below; alike = hash-low d.to (omega (arith, d.below)) ∙ d.alike }

  -- a mended link, for an entry of place i that stood at place j
  moved-led : (v b h i j : ℕ) → p ≤ b → b ≤ n → i < b → j ≢ p → (j < p → i ≡ j) → (p < j → suc i ≡ j) → hash (wrap N (head + j)) ≡ h
      → Leads N hash head v (suc b) h → j < suc b → Led N hash' head (mend v) b h i
  moved-led v b h i j pb bn ib ne lo hi e f jb = go (f j jb e)
    where
      go : Led N hash head v (suc b) h j → Led N hash' head (mend v) b h i
      go d = pick (lt_test d.to p) (eq_test d.to p)
        where
          up : (t : ℕ) → d.to ≡ suc t → p < suc t → Led N hash' head (mend v) b h i
          up t q l = record {
            to = t;
            leads = ap mend (d.leads ∙ ap (λ (k : ℕ). wrap N (head + k)) q) ∙ a.higher t l (omega (arith, d.below, q));
            above = rank (lt_test j p);
            below = omega (arith, d.below, q);
            alike = hash-high t (omega arith) (omega (arith, d.below, q)) ∙ ap (λ (k : ℕ). hash (wrap N (head + k))) (sym q) ∙ d.alike;
          }
            where
              rank : Test (j < p) (ltb j p) → i ≤ t
              rank (holds m w) = omega (arith, lo m)
              rank (fails m w) = omega (arith, hi (above_p (eq_test j p)), d.above, q)
                where
                  above_p : Test (j ≡ p) (eqb j p) → p < j
                  above_p (holds z y) = absurd (ne z)
                  above_p (fails z y) = omega arith

          pick : Test (d.to < p) (ltb d.to p) → Test (d.to ≡ p) (eqb d.to p) → Led N hash' head (mend v) b h i
          pick (holds m w) t =
              let same : i ≡ j = lo (omega (arith, d.above)) in
              record { to = d.to; leads = ap mend d.leads ∙ a.lower d.to m; above = omega (arith, d.above, same); below = omega arith; alike = hash-low d.to m ∙ d.alike }
          pick (fails m w) (holds q t) =
              let j_low : j < p = below_p (eq_test j p) in
              let own : hash (wrap N (head + p)) ≡ h = ap (λ (k : ℕ). hash (wrap N (head + k))) (sym q) ∙ d.alike in
              let link : mend v ≡ older (wrap N (head + p)) = ap mend (d.leads ∙ ap (λ (k : ℕ). wrap N (head + k)) q) ∙ a.itself in
              let under : Led N hash head (older (wrap N (head + p))) p h j = (rw own at (x.next p (omega arith))) j j_low e in
              relay link (lo j_low) under
            where
              below_p : Test (j ≡ p) (eqb j p) → j < p
              below_p (holds z y) = absurd (ne z)
              below_p (fails z y) = omega (arith, d.above, q)

              relay : mend v ≡ older (wrap N (head + p)) → i ≡ j → Led N hash head (older (wrap N (head + p))) p h j → Led N hash' head (mend v) b h i
              relay s r u = record { to = u.to; leads = s ∙ u.leads; above = omega (arith, u.above, r); below = omega (arith, u.below); alike = hash-low u.to u.below ∙ u.alike }
          pick (fails m w) (fails q t) = up (d.to - 1) (omega arith) (omega arith)

  mended_leads : (v b h : ℕ) → p ≤ b → b ≤ n → Leads N hash head v (suc b) h → Leads N hash' head (mend v) b h
  mended_leads v b h pb bn f i ib e = go (lt_test i p)
    where
      go : Test (i < p) (ltb i p) → Led N hash' head (mend v) b h i
      go (holds m w) = moved-led v b h i i pb bn ib (λ z. absurd (omega (arith, z))) (λ z. refl) (λ z. absurd (omega (arith, z))) (sym (hash-low i m) ∙ e) f (omega arith)
      go (fails m w) = moved-led v b h i (suc i) pb bn ib (λ z. absurd (omega (arith, z))) (λ z. absurd (omega (arith, z))) (λ z. refl) (sym (hash-high i (omega arith) (omega arith)) ∙ e) f (omega arith)

  pub removed_indexed : Indexed N hash' newest' older' head n
  removed_indexed = record { first = first'; next = λ q l. next' q l (lt_test q p) }
    where
      first' : (h : ℕ) → Leads N hash' head (newest' h) n h
      first' h i l e =
          let below : h < M = subst (λ (k : ℕ). k < M) e (hash-in (wrap N (head + i))) in
          rw (newest_is_lem h below) (mended_leads (newest h) n h p-in (omega arith) (x.first h) i l e)

      next' : (q : ℕ) → q < n → Test (q < p) (ltb q p) → Leads N hash' head (older' (wrap N (head + q))) q (hash' (wrap N (head + q)))
      next' q l (holds m w) = rw (older-low q m, hash-low q m) (λ i u e. below-led _ _ _ _ (omega arith) (x.next q (omega arith) i u (sym (hash-low i (omega (arith, u))) ∙ e)))
      next' q l (fails m w) =
          rw (older-high q (omega arith) l, hash-high q (omega arith) l)
          (mended_leads (older (wrap N (head + suc q))) q (hash (wrap N (head + suc q))) (omega arith) (omega arith) (x.next (suc q) (omega arith)))
