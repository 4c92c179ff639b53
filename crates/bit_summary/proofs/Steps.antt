-- What the proofs of the functions cite: on each way, what is answered is what the definition says. Assumes nothing.
use Rattle.std.specs.Prelude.{Option, Some, None, Ok, Err}
use Rattle.limits.specs.declared.Refusal.TheVariants as refusal
use Rattle.std.proofs.Common.{◌≡◌, ℕ, zero, suc, ◌+◌, ◌<◌, ◌≤◌, true, false, ◌&&◌, T, ltb, pos, sym, refl, ap, ◌∙◌, subst, add-zero, arith, ltb→lt, le-ltb, lt-ltb}
use lib.Ieee.{Float, binary64, of_int, of_bits, mul, div}
use lib.Ieee.Fits.{and_l, and_r}
use Rattle.limits.specs.Limits.{count_bound}
use Rattle.request_limits.specs.Refusals.{most_bits}
use Rattle.floats.proofs.Negative.{million}
use Rattle.bit_summary.specs.declared.Sample.{Sample}
use Rattle.bit_summary.specs.declared.DirectionSummary.{DirectionSummary}
use Rattle.bit_summary.specs.Summary.{wrong_packet, greater_burst, recorded_of}
use Rattle.bit_summary.specs.Record.{Bounded, counts_fit, record_to}
use Rattle.bit_summary.specs.Shown.{ratio_of, per_million, shown_of}

-- ---- small parts

pub some_errors : (n : ℕ) → (n ≡ 0 → ⊥) → 1 ≡ wrong_packet n
some_errors zero h = absurd (h refl)
some_errors (suc n) h = refl

module _ (b : Option ℕ) (m n : ℕ) (is : b ≡ Some m) where
  pub longer : m < n → Some n ≡ greater_burst b n
  longer h = ap Some (omega arith) ∙ sym (ap (λ (x : Option ℕ). greater_burst x n) is)

  pub not_longer : n ≤ m → Some m ≡ greater_burst b n
  not_longer h = ap Some (omega arith) ∙ sym (ap (λ (x : Option ℕ). greater_burst x n) is)

pub first : (b : Option ℕ) (n : ℕ) → b ≡ None → Some n ≡ greater_burst b n
first b n is = sym (ap (λ (x : Option ℕ). greater_burst x n) is)

pub divided : (part whole : ℕ) (x y : Float) → (whole ≡ 0 → ⊥) → x ≡ of_int binary64 (pos part) → y ≡ of_int binary64 (pos whole)
    → Some (div binary64 x y) ≡ ratio_of part whole
divided part zero x y h p q = absurd (h refl)
divided part (suc n) x y h p q = rw (p, q)

pub times : (r : Option Float) (x : Float) → r ≡ Some x → Some (mul binary64 x (of_bits binary64 0x412e_8480_0000_0000)) ≡ per_million r
times r x is = ap (λ (m : Float). Some (mul binary64 x m)) million ∙ sym (ap per_million is)

-- ---- `record`

module _ (d : DirectionSummary) (s : Sample) where
  pub fit_bounded : counts_fit d ≡ true → s.bits ≤ most_bits → Bounded d s
  fit_bounded h l =
      let a = ltb d.received count_bound in
      let b = ltb d.faulty count_bound in
      let e = ltb d.bits count_bound in
      let f = ltb d.errors count_bound in
      let g = ltb d.bursts count_bound in
      let k = ltb d.sum count_bound in
      let t5 : T (((((a && b) && e) && f) && g) && k) = subst T (sym h) tt in
      let t4 = and_l ((((a && b) && e) && f) && g) k t5 in
      let t3 = and_l (((a && b) && e) && f) g t4 in
      let t2 = and_l ((a && b) && e) f t3 in
      let t1 = and_l (a && b) e t2 in
      record {
        received = ltb→lt d.received count_bound (and_l a b t1);
        faulty = ltb→lt d.faulty count_bound (and_r a b t1);
        bits = ltb→lt d.bits count_bound (and_r (a && b) e t2);
        errors = ltb→lt d.errors count_bound (and_r ((a && b) && e) f t3);
        bursts = ltb→lt d.bursts count_bound (and_r (((a && b) && e) && f) g t4);
        sum = ltb→lt d.sum count_bound (and_r ((((a && b) && e) && f) && g) k t5);
        sample = l;
      }

  pub too_many : most_bits < s.bits → Err refusal.TooMuchPadding ≡ record_to d s
  unfolding record_to
  too_many h = rw (lt-ltb most_bits s.bits h)

  pub full : s.bits ≤ most_bits → counts_fit d ≡ false → Err refusal.CountsFull ≡ record_to d s
  unfolding record_to
  full h f = rw (le-ltb most_bits s.bits h, f)

  pub counted : {next : DirectionSummary} → s.bits ≤ most_bits → counts_fit d ≡ true → next ≡ recorded_of d s → Ok next ≡ record_to d s
  unfolding record_to
  counted h f e = rw (le-ltb most_bits s.bits h, f) (ap Ok e)

-- ---- `recorded`

wrong-small : (n : ℕ) → wrong_packet n ≤ 1
wrong-small zero = omega arith
wrong-small (suc n) = omega arith

pub wrong-fits : {w : ℕ} (n : ℕ) → w ≡ wrong_packet n → w ≤ 1
wrong-fits n e = omega (arith, e, wrong-small n)

module _ (d : DirectionSummary) (s : Sample) (w : ℕ) (is : w ≡ wrong_packet s.errors) where
  pub with-burst : (n : ℕ) (g : Option ℕ) → s.burst ≡ Some n → g ≡ greater_burst d.longest n
      → record { received = d.received + 1; faulty = d.faulty + w; bits = d.bits + s.bits; errors = d.errors + s.errors; bursts = d.bursts + 1; sum = d.sum + n; longest = g } ≡ recorded_of d s
  with-burst n g b e = rw (is, b, e)

  pub without-burst : s.burst ≡ None
      → record { received = d.received + 1; faulty = d.faulty + w; bits = d.bits + s.bits; errors = d.errors + s.errors; bursts = d.bursts; sum = d.sum; longest = d.longest } ≡ recorded_of d s
  without-burst b = rw (is, b) (λ i. record { received = d.received + 1; faulty = d.faulty + wrong_packet s.errors; bits = d.bits + s.bits; errors = d.errors + s.errors; bursts = sym (add-zero d.bursts) i; sum = sym (add-zero d.sum) i; longest = d.longest })

-- ---- `ratios`
pub shown : (d : DirectionSummary) (r e p b : Option Float) → r ≡ ratio_of d.errors d.bits → e ≡ per_million r → (q : Option Float) → q ≡ ratio_of d.faulty d.received → p ≡ per_million q → b ≡ ratio_of d.sum d.bursts
    → record { ratio = r; errors = e; packets = p; burst = b } ≡ shown_of d
shown d r e p b ir ie q iq ip ib = λ i. record { ratio = ir i; errors = (ie ∙ ap per_million ir) i; packets = (ip ∙ ap per_million iq) i; burst = ib i }
