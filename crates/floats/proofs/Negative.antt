-- A negative integer's float is that of its magnitude, negated. Assumes nothing.
use Rattle.std.proofs.Common.{◌≡◌, ℕ, zero, suc, ◌+◌, ◌*◌, ◌^◌, Bool, true, false, cond, ltb, pos, negsuc, sym, refl, ap, ◌∙◌, arith}
use lib.Ieee.{Float, inf, binary64, Format, prec, low, emax, odd, units, neg, of_int, of_bits}
use lib.Ieee.Fits.{round_is}
use Rattle.floats.specs.Whole.{magnitude, signed}

neg_odd : (d q k l : ℕ) → neg (odd d false q k l) ≡ odd d true q k l
unfolding neg odd
neg_odd d zero k l = refl
neg_odd d (suc q) k l = refl

neg_units : (f : Format) (q k : ℕ) → neg (units f false q k) ≡ units f true q k
unfolding units neg
neg_units f q k = go (ltb (q * 2 ^ k) (2 ^ (low f + suc (emax f))))
  where
    go : (b : Bool) → neg (cond b (odd (suc (prec f)) false q k (low f)) (inf false)) ≡ cond b (odd (suc (prec f)) true q k (low f)) (inf true)
    go true = neg_odd (suc (prec f)) q k (low f)
    go false = refl

negated : (f : Format) (n : ℕ) → neg (of_int f (pos (suc n))) ≡ of_int f (negsuc n)
unfolding of_int
negated f n = ap neg (round_is f false (suc n) 1) ∙ neg_units f _ _ ∙ sym (round_is f true (suc n) 1)

pub below_zero : (s : Bool) (n : ℕ) (x : Float) → s ≡ true → (n ≡ 0 → ⊥) → x ≡ of_int binary64 (pos n) → neg x ≡ of_int binary64 (signed s n)
below_zero s n x h k e = ap neg e ∙ go n k ∙ ap (λ (b : Bool). of_int binary64 (signed b n)) (sym h)
  where
    go : (n : ℕ) → (n ≡ 0 → ⊥) → neg (of_int binary64 (pos n)) ≡ of_int binary64 (signed true n)
    go zero k = absurd (k refl)
    go (suc n) k = negated binary64 n

pub is_zero : (s : Bool) (n : ℕ) (x : Float) → n ≡ 0 → x ≡ of_int binary64 (pos n) → x ≡ of_int binary64 (signed s n)
is_zero s n x k e = e ∙ ap (λ (m : ℕ). of_int binary64 (pos m)) k ∙ go s ∙ ap (λ (m : ℕ). of_int binary64 (signed s m)) (sym k)
  where
    go : (s : Bool) → of_int binary64 (pos 0) ≡ of_int binary64 (signed s 0)
    go true = refl
    go false = refl

pub above_zero : (s : Bool) (n : ℕ) (x : Float) → s ≡ false → x ≡ of_int binary64 (pos n) → x ≡ of_int binary64 (signed s n)
above_zero s n x h e = e ∙ ap (λ (b : Bool). of_int binary64 (signed b n)) (sym h)

-- a million as MIR has it
pub million : of_bits binary64 0x412e_8480_0000_0000 ≡ of_int binary64 (pos 1000000)
unfolding of_bits of_int
million = refl

pub hi_not : (hi lo : ℕ) → (hi ≡ 0 → ⊥) → magnitude hi lo ≡ 0 → ⊥
hi_not hi lo h e = omega arith

pub lo_not : (hi lo : ℕ) → (lo ≡ 0 → ⊥) → magnitude hi lo ≡ 0 → ⊥
lo_not hi lo h e = omega arith

pub both_zero : (hi lo : ℕ) → hi ≡ 0 → lo ≡ 0 → magnitude hi lo ≡ 0
both_zero hi lo h k = omega arith
