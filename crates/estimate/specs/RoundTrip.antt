-- Every u16 survives the round trip, and so does every estimate with a scale of six bits. Assumes nothing.
use Rattle.std.specs.Prelude.{◌≡◌, refl, Bool, true, false, ℕ, zero, suc, ◌+◌, ◌*◌, ◌/◌, ◌%◌, ◌≤◌, ◌<◌, eqb}
use Rattle.std.proofs.Common.{ap, ◌∙◌, arith, eq-eqb, ne_eqb}
use Rattle.estimate.specs.declared.ErrorEstimate.{ErrorEstimate}
use Rattle.estimate.specs.Wire.{bit, estimate_of, wire_of}

bit_of : (n : ℕ) → n < 2 → bit (eqb n 1) ≡ n
bit_of zero h = refl
bit_of (suc zero) h = refl
bit_of (suc (suc n)) h = absurd (big n h)
  where
    big : (n : ℕ) → suc (suc n) < 2 → ⊥
    big n h = omega arith

two : (n : ℕ) → n % 2 < 2
two n = omega arith

-- each field taken off in turn
parts : (w a b c : ℕ) → w ≡ a * 256 + w % 256 → a ≡ b * 64 + a % 64 → b ≡ c * 2 + b % 2 → c * 32768 + b % 2 * 16384 + a % 64 * 256 + w % 256 ≡ w
parts w a b c e f g = go (w % 256) (a % 64) (b % 2) e f g
  where
    go : (x y z : ℕ) → w ≡ a * 256 + x → a ≡ b * 64 + y → b ≡ c * 2 + z → c * 32768 + z * 16384 + y * 256 + x ≡ w
    go x y z e f g = omega arith

-- a word, read and written
pub wire_back : (w : ℕ) → w < 65536 → wire_of (estimate_of w) ≡ w
wire_back w h =
    ap (λ (n : ℕ). n * 32768 + bit (eqb (w / 16384 % 2) 1) * 16384 + w / 256 % 64 % 64 * 256 + w % 256) (bit_of (w / 32768 % 2) (two (w / 32768)) ∙ top w h)
    ∙ ap (λ (n : ℕ). w / 32768 * 32768 + n * 16384 + w / 256 % 64 % 64 * 256 + w % 256) (bit_of (w / 16384 % 2) (two (w / 16384)))
    ∙ ap (λ (n : ℕ). w / 32768 * 32768 + w / 16384 % 2 * 16384 + n * 256 + w % 256) (again (w / 256))
    ∙ parts w (w / 256) (w / 16384) (w / 32768) (one w) (six w) (next w)
  where
    top : (w : ℕ) → w < 65536 → w / 32768 % 2 ≡ w / 32768
    top w h = omega arith

    again : (n : ℕ) → n % 64 % 64 ≡ n % 64
    again n = omega arith

    one : (w : ℕ) → w ≡ w / 256 * 256 + w % 256
    one w = omega arith

    six : (w : ℕ) → w / 256 ≡ w / 16384 * 64 + w / 256 % 64
    six w = omega arith

    next : (w : ℕ) → w / 16384 ≡ w / 32768 * 2 + w / 16384 % 2
    next w = omega arith

is_bit : (b : Bool) (n : ℕ) → n ≡ bit b → eqb n 1 ≡ b
is_bit true n h = eq-eqb n 1 h
is_bit false n h = ne_eqb n 1 (apart n h)
  where
    apart : (n : ℕ) → n ≡ 0 → n ≡ 1 → ⊥
    apart n h k = omega arith

bit_lt : (b : Bool) → bit b < 2
bit_lt true = omega arith
bit_lt false = omega arith

-- an estimate, written and read
pub estimate_back : (e : ErrorEstimate) → e.scale ≤ 63 → e.multiplier < 256 → estimate_of (wire_of e) ≡ e
estimate_back e h k =
    let b15 = bit e.synchronized in
    let b14 = bit e.ptp in
    let l15 : b15 < 2 = bit_lt e.synchronized in
    let l14 : b14 < 2 = bit_lt e.ptp in
    λ i. record {
      synchronized = is_bit e.synchronized (wire_of e / 32768 % 2) (top b15 b14 e.scale e.multiplier l15 l14 h k) i;
      ptp = is_bit e.ptp (wire_of e / 16384 % 2) (next b15 b14 e.scale e.multiplier l15 l14 h k) i;
      scale = six b15 b14 e.scale e.multiplier l15 l14 h k i;
      multiplier = low b15 b14 e.scale e.multiplier l15 l14 h k i;
    }
  where
    top : (a b s m : ℕ) → a < 2 → b < 2 → s ≤ 63 → m < 256 → (a * 32768 + b * 16384 + s % 64 * 256 + m) / 32768 % 2 ≡ a
    top a b s m p q h k = omega arith

    next : (a b s m : ℕ) → a < 2 → b < 2 → s ≤ 63 → m < 256 → (a * 32768 + b * 16384 + s % 64 * 256 + m) / 16384 % 2 ≡ b
    next a b s m p q h k = omega arith

    six : (a b s m : ℕ) → a < 2 → b < 2 → s ≤ 63 → m < 256 → (a * 32768 + b * 16384 + s % 64 * 256 + m) / 256 % 64 ≡ s
    six a b s m p q h k = omega arith

    low : (a b s m : ℕ) → a < 2 → b < 2 → s ≤ 63 → m < 256 → (a * 32768 + b * 16384 + s % 64 * 256 + m) % 256 ≡ m
    low a b s m p q h k = omega arith
