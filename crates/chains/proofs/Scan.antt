-- Where the chains are whole, a walk answers what a plain scan of the ring answers, newest first; and what that scan says of the ring's contents.
-- Assumes nothing.
use mathlib.Core.Path.{◌≡◌, refl, sym, ap, ap₂, ◌∙◌}
use mathlib.Core.List.{List, [], ◌∷◌}
use mathlib.Core.Bool.{Bool, true, false, cond}
use mathlib.Core.Logic.{◌≢◌}
use Prim.Native.Nat.{ℕ, zero, suc, ◌+◌, ◌-◌, ◌≤◌, ◌<◌}
use native.Mathlib.Omega.{arith}
use lib.Dec.{eqb, ltb}
use Rattle.chains.proofs.Tests.{Test, holds, fails, eq_test, lt_true, lt_false}
use Rattle.chains.specs.Rings.{wrap, contents}
use Rattle.chains.specs.Walk.{walk, newest_of, first_of, change_first}
use Rattle.chains.specs.Whole.{Led, Leads, Indexed}
use Rattle.chains.proofs.Places.{slot_once, wrap-below, places_differ}
use Rattle.chains.proofs.Contents.{contents-same}
use Rattle.chains.proofs.Walks.{walk_here, walk_on, walk-other, Walked, found, nothing, walked}

module _ (N : ℕ) (same : ℕ → Bool) (head : ℕ) where
  none_there : (n : ℕ) → ((p : ℕ) → p < n → same (wrap N (head + p)) ≡ true → ⊥) → newest_of N same head n ≡ N
  unfolding newest_of
  none_there zero ne = refl
  none_there (suc n) ne = go (same (wrap N (head + n))) refl (none_there n (λ p l. ne p (omega arith)))
    where
      go : (b : Bool) → same (wrap N (head + n)) ≡ b → newest_of N same head n ≡ N → cond b (wrap N (head + n)) (newest_of N same head n) ≡ N
      go true e ih = absurd (ne n (omega arith) e)
      go false e ih = ih

  none-walked : (older : ℕ → ℕ) (n v : ℕ) → ((p : ℕ) → p < n → same (wrap N (head + p)) ≡ true → ⊥) → walk N same older head n v ≡ N
  none-walked older n v ne = go (walked N same older head n v)
    where
      go : {r : ℕ} → Walked N same older head n r → r ≡ N
      go (found p l e s) = absurd (ne p l s)
      go (nothing e) = e

  here : (n : ℕ) → same (wrap N (head + n)) ≡ true → newest_of N same head (suc n) ≡ wrap N (head + n)
  unfolding newest_of
  here n e = rw e

  not_here : (n : ℕ) → same (wrap N (head + n)) ≡ false → newest_of N same head (suc n) ≡ newest_of N same head n
  unfolding newest_of
  not_here n e = rw e

  module _ (hash older : ℕ → ℕ) (h : ℕ) (head_in : head < N) (alike : (i : ℕ) → same i ≡ true → hash i ≡ h) where
    scans : (b v : ℕ) → b ≤ N → ((q : ℕ) → q < b → Leads N hash head (older (wrap N (head + q))) q (hash (wrap N (head + q))))
        → Leads N hash head v b h → walk N same older head b v ≡ newest_of N same head b
    unfolding walk newest_of
    scans zero v l ns f = refl
    scans (suc b) v l ns f = go (eq_test v (wrap N (head + b))) (same (wrap N (head + b))) refl (λ k n. scans b k (omega arith) (λ q m. ns q (omega arith)) n)
      where
        go : Test (v ≡ wrap N (head + b)) (eqb v (wrap N (head + b))) → (y : Bool) → same (wrap N (head + b)) ≡ y
            → ((k : ℕ) → Leads N hash head k b h → walk N same older head b k ≡ newest_of N same head b)
            → walk N same older head (suc b) v ≡ newest_of N same head (suc b)
        go (holds q t) true s ih = walk_here N same older head b v q (ap same q ∙ s) ∙ q ∙ sym (here b s)
        go (holds q t) false s ih = walk_on N same older head b v q (ap same q ∙ s) ∙ ap (λ (i : ℕ). walk N same older head b (older i)) q ∙ deeper (eq_test (hash (wrap N (head + b))) h) ∙ sym (not_here b s)
          where
            deeper : Test (hash (wrap N (head + b)) ≡ h) (eqb (hash (wrap N (head + b))) h) → walk N same older head b (older (wrap N (head + b))) ≡ newest_of N same head b
            deeper (holds k w) = let n : Leads N hash head (older (wrap N (head + b))) b h = rw k at (ns b (omega arith)) in ih (older (wrap N (head + b))) n
            deeper (fails k w) = none-walked older b (older (wrap N (head + b))) nobody ∙ sym (none_there b nobody)
              where
                nobody : (p : ℕ) → p < b → same (wrap N (head + p)) ≡ true → ⊥
                nobody p m e = clash (f p (omega arith) (alike (wrap N (head + p)) e))
                  where
                    clash : Led N hash head v (suc b) h p → ⊥
                    clash d =
                        let at : d.to ≡ b = slot_once N head d.to b head_in (omega (arith, d.below)) (omega arith) (sym d.leads ∙ q) in
                        k (ap (λ (i : ℕ). hash (wrap N (head + i))) (sym at) ∙ d.alike)
        go (fails q t) true s ih = absurd (clash (f b (omega arith) (alike (wrap N (head + b)) s)))
          where
            clash : Led N hash head v (suc b) h b → ⊥
            clash d =
                let at : d.to ≡ b = omega (arith, d.above, d.below) in
                q (d.leads ∙ ap (λ (i : ℕ). wrap N (head + i)) at)
        go (fails q t) false s ih = walk-other N same older head b v q ∙ ih v lower ∙ sym (not_here b s)
          where
            lower : Leads N hash head v b h
            lower i u k = lift (f i (omega arith) k)
              where
                lift : Led N hash head v (suc b) h i → Led N hash head v b h i
                lift d = record { to = d.to; leads = d.leads; above = d.above; below = st (eq_test d.to b); alike = d.alike }
                  where
                    st : Test (d.to ≡ b) (eqb d.to b) → d.to < b
                    st (holds x w) = absurd (q (d.leads ∙ ap (λ (i : ℕ). wrap N (head + i)) x))
                    st (fails x w) = omega (arith, d.below)

  -- The walk from the newest entry of hash h is the scan of the whole ring for what has that hash, newest first.
  pub walk_scans : (hash newest older : ℕ → ℕ) (h len : ℕ) → head < N → len ≤ N → ((i : ℕ) → same i ≡ true → hash i ≡ h)
      → Indexed N hash newest older head len → walk N same older head len (newest h) ≡ newest_of N same head len
  walk_scans hash newest older h len hd l alike x = scans hash older h hd alike len (newest h) l x.next (x.first h)

-- What the scan finds is the first of the contents, newest first, that is asked for: f of it, or d where there is none.
pub scan_first : {A B : Type 0} (N : ℕ) (at : ℕ → A) (test : A → Bool) (f : A → B) (d : B) (head n : ℕ) → head < N → n ≤ N
    → cond (ltb (newest_of N (λ i. test (at i)) head n) N) (f (at (newest_of N (λ i. test (at i)) head n))) d ≡ first_of test f d (contents N at head n)
unfolding contents newest_of first_of
scan_first N at test f d head zero h l = rw (lt_false N N (omega arith))
scan_first {A} {B} N at test f d head (suc n) h l = go (test (at (wrap N (head + n)))) (scan_first N at test f d head n h (omega arith))
  where
    here : ltb (wrap N (head + n)) N ≡ true
    here = lt_true (wrap N (head + n)) N (wrap-below N (head + n) (omega arith))

    go : (b : Bool) → cond (ltb (newest_of N (λ i. test (at i)) head n) N) (f (at (newest_of N (λ i. test (at i)) head n))) d ≡ first_of test f d (contents N at head n)
        → cond (ltb (cond b (wrap N (head + n)) (newest_of N (λ i. test (at i)) head n)) N) (f (at (cond b (wrap N (head + n)) (newest_of N (λ i. test (at i)) head n)))) d
        ≡ cond b (f (at (wrap N (head + n)))) (first_of test f d (contents N at head n))
    go true ih = rw here
    go false ih = ih

-- what the scan finds is the slot of a place, or N
pub data Scanned (N head n r : ℕ) : Type 0 where
  at_place : (p : ℕ) → p < n → r ≡ wrap N (head + p) → Scanned N head n r
  nowhere : r ≡ N → Scanned N head n r

pub scanned : (N : ℕ) (same : ℕ → Bool) (head n : ℕ) → Scanned N head n (newest_of N same head n)
unfolding newest_of
scanned N same head zero = nowhere refl
scanned N same head (suc n) = go (same (wrap N (head + n))) (scanned N same head n)
  where
    deeper : {r : ℕ} → Scanned N head n r → Scanned N head (suc n) r
    deeper (at_place p l e) = at_place p (omega arith) e
    deeper (nowhere e) = nowhere e

    go : (b : Bool) → Scanned N head n (newest_of N same head n) → Scanned N head (suc n) (cond b (wrap N (head + n)) (newest_of N same head n))
    go true ih = at_place n (omega arith) refl
    go false ih = deeper ih

-- Where the entry that the scan finds is changed, and no other, the first of the contents that is asked for is changed, and no other.
pub scan_change : {A : Type 0} (N : ℕ) (at at' : ℕ → A) (test : A → Bool) (f : A → A) (head n : ℕ) → head < N → n ≤ N
    → (newest_of N (λ i. test (at i)) head n < N → at' (newest_of N (λ i. test (at i)) head n) ≡ f (at (newest_of N (λ i. test (at i)) head n)))
    → ((i : ℕ) → i < N → i ≢ newest_of N (λ i. test (at i)) head n → at' i ≡ at i)
    → contents N at' head n ≡ change_first test f (contents N at head n)
unfolding contents newest_of change_first
scan_change N at at' test f head zero h l here there = refl
scan_change {A} N at at' test f head (suc n) h l here there = go (test (at (wrap N (head + n)))) refl here there (scan_change N at at' test f head n h (omega arith))
  where
    s_in : wrap N (head + n) < N
    s_in = wrap-below N (head + n) (omega arith)

    apart : {r : ℕ} → Scanned N head n r → wrap N (head + n) ≢ r
    apart (at_place p m e) q = places_differ N head p n h m (omega arith) (sym (q ∙ e))
    apart (nowhere e) q = omega (arith, q, e, s_in)

    go : (b : Bool) → test (at (wrap N (head + n))) ≡ b
        → (cond b (wrap N (head + n)) (newest_of N (λ i. test (at i)) head n) < N
        → at' (cond b (wrap N (head + n)) (newest_of N (λ i. test (at i)) head n)) ≡ f (at (cond b (wrap N (head + n)) (newest_of N (λ i. test (at i)) head n))))
        → ((i : ℕ) → i < N → i ≢ cond b (wrap N (head + n)) (newest_of N (λ i. test (at i)) head n) → at' i ≡ at i)
        → ((newest_of N (λ i. test (at i)) head n < N → at' (newest_of N (λ i. test (at i)) head n) ≡ f (at (newest_of N (λ i. test (at i)) head n)))
        → ((i : ℕ) → i < N → i ≢ newest_of N (λ i. test (at i)) head n → at' i ≡ at i)
        → contents N at' head n ≡ change_first test f (contents N at head n))
        → at' (wrap N (head + n)) ∷ contents N at' head n
        ≡ cond b (f (at (wrap N (head + n))) ∷ contents N at head n) (at (wrap N (head + n)) ∷ change_first test f (contents N at head n))
    go true e hr th ih =
        ap₂ (λ (x : A) (xs : List A). x ∷ xs) (hr s_in)
        (contents-same N at at' head n (λ i m. th (wrap N (head + i)) (wrap-below N (head + i) (omega arith)) (places_differ N head i n h m (omega arith))))
    go false e hr th ih =
        ap₂ (λ (x : A) (xs : List A). x ∷ xs) (th (wrap N (head + n)) s_in (apart (scanned N (λ i. test (at i)) head n))) (ih hr th)
