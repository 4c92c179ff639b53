use Rattle.std.proofs.Common.{◌≡◌, ℕ, ◌+◌, ◌-◌, ◌^◌, ◌<◌, ◌≤◌, Bool, true, false, ltb, sym, ap, ◌∙◌, subst, ⊎_elim, arith}
use Rattle.buckets.proofs.Facts.{lt_or_ge}
use Rattle.buckets.specs.Buckets.{pick, index}
use Rattle.buckets.specs.Signed.{bucket_count, magnitude, index_of}
use Rattle.buckets.proofs.SignedFacts.{pick-below, pick-above, index_of-below, index-low, index-high, magnitude_index_le}
use Rattle.buckets.proofs.bucket_of.Goals as goal

settled : (s : Bool) (w r : ℕ) → w < 2 ^ 64 → r ≡ index_of s w → (r ≡ index_of s w) × (r < bucket_count s)
settled s w r h e = (e, subst (λ (x : ℕ). x < bucket_count s) (sym e) (index_of-below s w h))

module _ (w m i back : ℕ) (h : w < 2 ^ 64) (is : m ≡ magnitude true w) (a : i ≡ index m) (b : back ≡ pick (ltb w (2 ^ 63)) 0 (i + i)) where
  up : w < 2 ^ 63 → i ≡ index w
  up l = a ∙ ap index (is ∙ pick-below w (2 ^ 63) w (2 ^ 64 - w) l)

  down : 2 ^ 63 ≤ w → i ≡ index (2 ^ 64 - w)
  down g = a ∙ ap index (is ∙ pick-above w (2 ^ 63) w (2 ^ 64 - w) g)

  room : back ≤ 7296 + i
  room = ⊎_elim (λ l. none back i (b ∙ pick-below w (2 ^ 63) 0 (i + i) l)) (λ g. twice back i (index (2 ^ 64 - w)) (b ∙ pick-above w (2 ^ 63) 0 (i + i) g) (down g) (magnitude_index_le (2 ^ 64 - w) (rest g))) (lt_or_ge w (2 ^ 63))
    where
      none : (back i : ℕ) → back ≡ 0 → back ≤ 7296 + i
      none back i e = omega arith

      twice : (back i j : ℕ) → back ≡ i + i → i ≡ j → j ≤ 7296 → back ≤ 7296 + i
      twice back i j e f l = omega arith

      rest : 2 ^ 63 ≤ w → 2 ^ 64 - w ≤ 2 ^ 63
      rest g = omega arith

  place : 7296 + i - back ≡ index_of true w
  place = ⊎_elim (λ l. none back i (index w) (b ∙ pick-below w (2 ^ 63) 0 (i + i) l) (up l) ∙ sym (index-low w l)) (λ g. twice back i (index (2 ^ 64 - w)) (b ∙ pick-above w (2 ^ 63) 0 (i + i) g) (down g) ∙ sym (index-high w g)) (lt_or_ge w (2 ^ 63))
    where
      none : (back i j : ℕ) → back ≡ 0 → i ≡ j → 7296 + i - back ≡ 7296 + j
      none back i j e f = omega arith

      twice : (back i j : ℕ) → back ≡ i + i → i ≡ j → 7296 + i - back ≡ 7296 - j
      twice back i j e f = omega arith

-- the place of the magnitude goes up from that of zero, or twice itself back
signed-place : (s : Bool) (w r : ℕ) → s ≡ true → r ≡ index_of true w → r ≡ index_of s w
signed-place s w r e f = subst (λ (b : Bool). r ≡ index_of b w) (sym e) f

plain : (s : Bool) (w i : ℕ) → s ≡ false → i ≡ index w → i ≡ index_of s w
plain s w i e a = subst (λ (b : Bool). i ≡ index_of b w) (sym e) a

pub overflow_sub-result : goal.overflow_sub-result
overflow_sub-result c =
    let a = c.args in
    let z = c.from_zero in
    let k = c.magnitude_index-place in
    let t = c.twice_below_zero-back in
    room a.word z.result k.result t.result c.ranges.word.fits z.ensures k.ensures.0 t.ensures

pub returns-then-signed : goal.returns-then-signed
returns-then-signed c =
    let a = c.args in
    let f = c.ranges.word.fits in
    let z = c.from_zero in
    let k = c.magnitude_index-place in
    let t = c.twice_below_zero-back in
    settled a.signed a.word (7296 + k.result - t.result) f
    (signed-place a.signed a.word (7296 + k.result - t.result) c.if-signed.true
    (place a.word z.result k.result t.result f z.ensures k.ensures.0 t.ensures))

pub returns : goal.returns
returns c =
    let a = c.args in
    settled a.signed a.word c.magnitude_index.result c.ranges.word.fits
    (plain a.signed a.word c.magnitude_index.result c.if-signed.false c.magnitude_index.ensures.0)
