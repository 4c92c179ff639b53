-- Held probes as a list, newest first: no sequence stands twice, and they are the N most recently remembered distinct sequences.
-- Assumes nothing.
use mathlib.Core.Path.{◌≡◌, refl, sym, ap, subst}
use mathlib.Core.Bool.{Bool, true, false, not, ◌||◌, cond}
use mathlib.Core.List.{List, [], ◌∷◌}
use Prim.Native.Nat.{ℕ, zero, suc}
use native.Mathlib.Omega.{arith}
use lib.Dec.{eqb}
use lib.ListN.{take}
use lib.Seq.{take-take, take-nil}
use Rattle.chains.proofs.Tests.{Test, holds, fails, eq_test, true_not_false}
use Rattle.probe_ring.specs.declared.HeldProbe.{HeldProbe}
use Rattle.probe_ring.specs.Held as held
use Rattle.probe_ring.specs.Held.{others, once, remembering, remembering_all, Distinct}

or_false : (a b : Bool) → (a || b) ≡ false → (a ≡ false) × (b ≡ false)
or_false true b e = (e, absurd (true_not_false refl e))
or_false false b e = (refl, e)

pub others_here : (s : ℕ) (p : HeldProbe) (ps : List HeldProbe) → eqb s p.sequence ≡ true → others s (p ∷ ps) ≡ others s ps
unfolding others
others_here s p ps e = rw e

pub others_there : (s : ℕ) (p : HeldProbe) (ps : List HeldProbe) → eqb s p.sequence ≡ false → others s (p ∷ ps) ≡ p ∷ others s ps
unfolding others
others_there s p ps e = rw e

pub holds_tail : (p : HeldProbe) (ps : List HeldProbe) (s : ℕ) → held.holds (p ∷ ps) s ≡ false → (eqb s p.sequence ≡ false) × (held.holds ps s ≡ false)
unfolding held.holds
holds_tail p ps s e = or_false (eqb s p.sequence) (held.holds ps s) e

-- a sequence that is not held is not taken out
pub others-absent : (s : ℕ) (ps : List HeldProbe) → held.holds ps s ≡ false → others s ps ≡ ps
unfolding others
others-absent s [] e = refl
others-absent s (p ∷ ps) e = let t = holds_tail p ps s e in rw t.0 (ap (λ (l : List HeldProbe). p ∷ l) (others-absent s ps t.1))

holds-take : (n : ℕ) (ps : List HeldProbe) (s : ℕ) → held.holds ps s ≡ false → held.holds (take n ps) s ≡ false
unfolding held.holds
holds-take zero ps s e = refl
holds-take (suc n) [] s e = refl
holds-take (suc n) (p ∷ ps) s e = let t = or_false (eqb s p.sequence) (held.holds ps s) e in rw t.0 (holds-take n ps s t.1)

-- what is taken out is gone, and the rest stays
holds-others-same : (s : ℕ) (ps : List HeldProbe) → held.holds (others s ps) s ≡ false
unfolding held.holds others
holds-others-same s [] = refl
holds-others-same s (p ∷ ps) = go (eqb s p.sequence) refl (holds-others-same s ps)
  where
    go : (b : Bool) → eqb s p.sequence ≡ b → held.holds (others s ps) s ≡ false → held.holds (cond b (others s ps) (p ∷ others s ps)) s ≡ false
    go true e ih = ih
    go false e ih = rw e ih

holds-others-less : (s n : ℕ) (ps : List HeldProbe) → held.holds ps n ≡ false → held.holds (others s ps) n ≡ false
unfolding held.holds others
holds-others-less s n [] e = refl
holds-others-less s n (p ∷ ps) e =
    let t = or_false (eqb n p.sequence) (held.holds ps n) e in
    go (eqb s p.sequence) t.0 (holds-others-less s n ps t.1)
  where
    go : (b : Bool) → eqb n p.sequence ≡ false → held.holds (others s ps) n ≡ false → held.holds (cond b (others s ps) (p ∷ others s ps)) n ≡ false
    go true t ih = ih
    go false t ih = rw t ih

pub distinct-others : (s : ℕ) (ps : List HeldProbe) → Distinct ps → Distinct (others s ps)
unfolding Distinct others
distinct-others s [] d = tt
distinct-others s (p ∷ ps) d = go (eqb s p.sequence) (distinct-others s ps d.1)
  where
    go : (b : Bool) → Distinct (others s ps) → Distinct (cond b (others s ps) (p ∷ others s ps))
    go true ih = ih
    go false ih = (holds-others-less s p.sequence ps d.0, ih)

distinct-take : (n : ℕ) (ps : List HeldProbe) → Distinct ps → Distinct (take n ps)
unfolding Distinct
distinct-take zero ps d = tt
distinct-take (suc n) [] d = tt
distinct-take (suc n) (p ∷ ps) d = (holds-take n ps p.sequence d.0, distinct-take n ps d.1)

-- Remembering keeps the sequences distinct.
pub remembering-distinct : (N : ℕ) (p : HeldProbe) (ps : List HeldProbe) → Distinct ps → Distinct (remembering N p ps)
unfolding remembering Distinct
remembering-distinct N p ps d = distinct-take N (p ∷ others p.sequence ps) (holds-others-same p.sequence ps, distinct-others p.sequence ps d)

once-distinct : (ps : List HeldProbe) → Distinct (once ps)
unfolding Distinct once
once-distinct [] = tt
once-distinct (p ∷ ps) = (holds-others-same p.sequence (once ps), distinct-others p.sequence (once ps) (once-distinct ps))

-- of the first n others, it is enough to look at n + 1
take-others : (n s : ℕ) (ps : List HeldProbe) → Distinct ps → take n (others s (take (suc n) ps)) ≡ take n (others s ps)
unfolding Distinct
take-others n s [] d = refl
take-others n s (p ∷ ps) d = go n (eq_test s p.sequence) (λ m. take-others m s ps d.1)
  where
    go : (n : ℕ) → Test (s ≡ p.sequence) (eqb s p.sequence) → ((m : ℕ) → take m (others s (take (suc m) ps)) ≡ take m (others s ps))
        → take n (others s (p ∷ take n ps)) ≡ take n (others s (p ∷ ps))
    go n (holds q e) ih =
        let gone : held.holds ps s ≡ false = subst (λ (y : ℕ). held.holds ps y ≡ false) (sym q) d.0 in
        rw (others_here s p ps e, others_here s p (take n ps) e, others-absent s ps gone, others-absent s (take n ps) (holds-take n ps s gone))
        (take-take n n ps (omega arith))
    go zero (fails q e) ih = refl
    go (suc n) (fails q e) ih = rw (others_there s p ps e, others_there s p (take (suc n) ps) e) (ap (λ (l : List HeldProbe). p ∷ l) (ih n))

remembering-take : (N : ℕ) (p : HeldProbe) (ps : List HeldProbe) → Distinct ps → remembering N p (take N ps) ≡ take N (p ∷ others p.sequence ps)
unfolding remembering
remembering-take zero p ps d = refl
remembering-take (suc n) p ps d = ap (λ (l : List HeldProbe). p ∷ l) (take-others n p.sequence ps d)

-- HELD PROBES ARE THE N MOST RECENTLY REMEMBERED DISTINCT SEQUENCES: remembered one after the other, they are the first N of them all, each once.
pub held_are : (N : ℕ) (ps : List HeldProbe) → remembering_all N ps ≡ take N (once ps)
unfolding remembering_all once
held_are N [] = sym (take-nil N)
held_are N (p ∷ ps) = rw (held_are N ps) (remembering-take N p (once ps) (once-distinct ps))

pub held-distinct : (N : ℕ) (ps : List HeldProbe) → Distinct (remembering_all N ps)
held-distinct N ps = rw (held_are N ps) (distinct-take N (once ps) (once-distinct ps))

-- One that is not held is only put before the others.
pub remembering-new : (N : ℕ) (p : HeldProbe) (ps : List HeldProbe) → held.holds ps p.sequence ≡ false → remembering N p ps ≡ take N (p ∷ ps)
unfolding remembering
remembering-new N p ps e = rw (others-absent p.sequence ps e)

-- A sequence that was taken out is not held.
pub others_gone : (s : ℕ) (ps : List HeldProbe) → held.holds (others s ps) s ≡ false
others_gone s ps = holds-others-same s ps

pub others_twice : (s : ℕ) (ps : List HeldProbe) → others s (others s ps) ≡ others s ps
others_twice s ps = others-absent s (others s ps) (holds-others-same s ps)
