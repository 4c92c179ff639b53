-- A timestamp says a time exactly where one of three eras has it. Assumes nothing.
use Rattle.std.specs.Prelude.{Option, None, Some}
use mathlib.Core.Path.{◌≡◌, refl, sym, ap, subst, ◌∙◌}
use mathlib.Core.Bool.{Bool, true, false, ◌&&◌, ◌||◌}
use Prim.Native.Nat.{ℕ, zero, suc, ◌+◌, ◌*◌, ◌≤◌, ◌<◌}
use native.Mathlib.Omega.{arith}
use lib.Dec.{T, ltb}
use lib.IntN.{ℤ, pos, negsuc, nat_abs, ◌+ℤ◌, ◌-ℤ◌, ◌*ℤ◌}
use lib.Signed.{le_z, lt_z, le_z_yes, lt_z_yes}
use borrow.Author.Tests.{ltb-true, ltb-false}
use Rattle.estimate.specs.declared.ClockFormat.{ClockFormat}
use Rattle.ranges.specs.Ranges.{time_within}
use Rattle.timestamps.specs.Conversion.{era, half_era, billion, wire_second, wire_nanoseconds, IsSecond}
use Rattle.timestamps.specs.Converted.{second_near, time_if, time_by, converted}
use Rattle.timestamps.proofs.Parts.{up, down, sum_parts, less_parts, up_times, down_times, same_parts, abs_parts}
use Rattle.timestamps.proofs.Seconds.{second-near, second-unique}
use Rattle.timestamps.proofs.Outcome.{second-far}
use Rattle.history.specs.Counting.{present}
use Rattle.history.specs.Given.{time_of}
use Rattle.recount_time.specs.Eras.{says_time, fits, in_some_era}

clash : (b : Bool) → b ≡ true → b ≡ false → ⊥
clash b p q = let e : ◌≡◌ {A = ℕ} 0 1 = cc in omega arith

-- a test that holds is true
pub told : (b : Bool) → T b → b ≡ true
told true t = refl
told false t = absurd t

both_first : (a b : Bool) → (a && b) ≡ true → a ≡ true
both_first true b e = refl
both_first false b e = e

both-second : (a b : Bool) → (a && b) ≡ true → b ≡ true
both-second true b e = e
both-second false b e = absurd (clash false e refl)

-- the time of a second
abbrev time_after : ℤ → ℕ → ℤ
time_after second ns = second *ℤ pos billion +ℤ pos ns

-- ---- what fits is in the window, and its time in range

module _ (r y : ℤ) (ns : ℕ) where
  -- the three tests
  abbrev from? : Bool
  from? = le_z (r -ℤ pos half_era) y

  abbrev below? : Bool
  below? = lt_z y (r +ℤ pos half_era)

  abbrev time? : Bool
  time? = time_within (time_after y ns)

  fits-second : (x k : ℤ) → y ≡ x +ℤ k *ℤ pos era → fits r y ns ≡ true → IsSecond x r y
  unfolding fits
  fits-second x k e f = record {
    eras = k;
    moved = e;
    from = le_z_yes (subst T {y = from?} (sym (both_first from? (below? && time?) f)) tt);
    below = lt_z_yes (subst T {y = below?} (sym (both_first below? time? (both-second from? (below? && time?) f))) tt);
  }

  fits-time : fits r y ns ≡ true → time_within (time_after y ns) ≡ true
  unfolding fits
  fits-time f = both-second below? time? (both-second from? (below? && time?) f)

  second_fits : (x : ℤ) → IsSecond x r y → time_within (time_after y ns) ≡ true → fits r y ns ≡ true
  unfolding fits
  second_fits x p h = λ i. told from? p.from.le i && (told below? p.below.lt i && h i)

-- ---- the eras

-- a second that the wire can say: x from -2,208,988,800 up to but not including 2^32
module _ (x r : ℤ) (ns : ℕ) (short : ns < billion) (low : down x ≤ up x + 2208988800) (high : up x < down x + 4294967296) where
  -- the one second of the window
  abbrev s : ℤ
  s = second_near x r

  near : time_within (time_after s ns) ≡ true → nat_abs s ≤ 4000000000
  near h = go (ltb 4000000000 (nat_abs s)) refl
    where
      go : (b : Bool) → ltb 4000000000 (nat_abs s) ≡ b → nat_abs s ≤ 4000000000
      go true e = absurd (clash _ h (second-far s ns short (ltb-true _ _ e)))
      go false e = ltb-false _ _ e

  -- where its time is in range, it is that of one of the three
  found : time_within (time_after s ns) ≡ true → in_some_era r x ns ≡ true
  unfolding in_some_era
  found h = go (second-near x r).eras (second-near x r).moved
    where
      fit : (y : ℤ) → s ≡ y → fits r y ns ≡ true
      fit y e = subst (λ (z : ℤ). fits r z ns ≡ true) e (second_fits r s ns x (second-near x r) h)

      in_first : (a b c : Bool) → a ≡ true → ((a || b) || c) ≡ true
      in_first a b c e = rw e

      in_second : (a b c : Bool) → b ≡ true → ((a || b) || c) ≡ true
      in_second true b c e = refl
      in_second false b c e = rw e

      in_third : (a b c : Bool) → c ≡ true → ((a || b) || c) ≡ true
      in_third true b c e = refl
      in_third false true c e = refl
      in_third false false c e = e

      far : (k : ℤ) → s ≡ x +ℤ k *ℤ pos era → up s + (down x + down k * 4294967296) ≡ down s + (up x + up k * 4294967296)
      far k e = omega (arith, ap up e, ap down e, sum_parts x (k *ℤ pos era), up_times k era, down_times k era)

      go : (k : ℤ) → s ≡ x +ℤ k *ℤ pos era → ((fits r (x -ℤ pos era) ns || fits r x ns) || fits r (x +ℤ pos era) ns) ≡ true
      go (pos zero) e = in_second (fits r (x -ℤ pos era) ns) (fits r x ns) _ (fit x (same_parts s x (omega (arith, far (pos zero) e))))
      go (pos (suc zero)) e =
          in_third (fits r (x -ℤ pos era) ns) (fits r x ns) _ (fit (x +ℤ pos era) (same_parts s (x +ℤ pos era) (omega (arith, far (pos (suc zero)) e, sum_parts x (pos era)))))
      go (pos (suc (suc k))) e = absurd (omega (arith, far (pos (suc (suc k))) e, near h, abs_parts s))
      go (negsuc zero) e =
          in_first (fits r (x -ℤ pos era) ns) _ _ (fit (x -ℤ pos era) (same_parts s (x -ℤ pos era) (omega (arith, far (negsuc zero) e, less_parts x (pos era)))))
      go (negsuc (suc k)) e = absurd (omega (arith, far (negsuc (suc k)) e, near h, abs_parts s))

  -- where it is not, none of the three fits
  none-fits : time_within (time_after s ns) ≡ false → (y k : ℤ) → y ≡ x +ℤ k *ℤ pos era → fits r y ns ≡ false
  none-fits h y k e = go (fits r y ns) refl
    where
      go : (b : Bool) → fits r y ns ≡ b → b ≡ false
      go true f =
          let same : y ≡ s = second-unique x r y s (fits-second r y ns x k e f) (second-near x r) in
          absurd (clash _ (fits-time r y ns f) (ap (λ (z : ℤ). time_within (time_after z ns)) same ∙ h))
      go false f = refl

  lost : time_within (time_after s ns) ≡ false → in_some_era r x ns ≡ false
  unfolding in_some_era
  lost h =
      rw (
        none-fits h (x -ℤ pos era) (negsuc 0)
            (same_parts (x -ℤ pos era) (x +ℤ negsuc 0 *ℤ pos era)
            (omega (arith, less_parts x (pos era), sum_parts x (negsuc 0 *ℤ pos era), up_times (negsuc 0) era, down_times (negsuc 0) era))),
        none-fits h x (pos 0) (same_parts x (x +ℤ pos 0 *ℤ pos era) (omega (arith, sum_parts x (pos 0 *ℤ pos era), up_times (pos 0) era, down_times (pos 0) era))),
        none-fits h (x +ℤ pos era) (pos 1)
            (same_parts (x +ℤ pos era) (x +ℤ pos 1 *ℤ pos era)
            (omega (arith, sum_parts x (pos era), sum_parts x (pos 1 *ℤ pos era), up_times (pos 1) era, down_times (pos 1) era))),
      )

  some_era : in_some_era r x ns ≡ time_within (time_after s ns)
  some_era = go (time_within (time_after s ns)) refl
    where
      go : (b : Bool) → time_within (time_after s ns) ≡ b → in_some_era r x ns ≡ b
      go true h = found h
      go false h = lost h

  there : (b : Bool) (t : ℤ) → present (time_of (time_if b t)) ≡ b
  there true t = refl
  there false t = refl

  -- THE CONVERSION HAS AN OUTCOME where one of the three eras fits
  pub says_some_era : (f : ClockFormat) (w : ℕ) → wire_second f w ≡ x → wire_nanoseconds f w ≡ Some ns → in_some_era r x ns ≡ says_time f w r
  unfolding converted
  says_some_era f w e n =
      some_era
      ∙ sym (there (time_within (time_after s ns)) (time_after s ns))
      ∙ sym (λ i. present (time_of (time_by (n i) (second_near (e i) r))))

-- and none where the wire says no ns
pub says_none : (f : ClockFormat) (w : ℕ) (r : ℤ) → wire_nanoseconds f w ≡ None → false ≡ says_time f w r
unfolding converted
says_none f w r n = sym (ap (λ (o : Option ℕ). present (time_of (time_by o (second_near (wire_second f w) r)))) n)
