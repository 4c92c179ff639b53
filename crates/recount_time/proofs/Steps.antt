-- The numbers of the code, each read through its bits. Assumes nothing.
use Rattle.std.specs.Prelude.{Some}
use mathlib.Core.Path.{◌≡◌, refl, sym, ap, subst, ◌∙◌}
use mathlib.Core.Bool.{Bool, true, false, ◌&&◌, ◌||◌}
use Prim.Native.Nat.{ℕ, ◌+◌, ◌*◌, ◌/◌, ◌%◌, ◌^◌, ◌≤◌, ◌<◌}
use native.Mathlib.Omega.{arith}
use lib.Dec.{T}
use lib.IntN.{ℤ, pos, negsuc, nat_abs, ◌+ℤ◌, ◌-ℤ◌, ◌*ℤ◌}
use lib.Signed.{le_z, lt_z, le_z_yes, lt_z_yes, nat_abs-le, ◌≤ℤ◌, ◌<ℤ◌}
use borrow.Author.Tests.{lt-ltb}
use mir.Syntax.{w32, w64}
use mir.Val.{SFits, of_z, to_z}
use mir.ValLaws.{to_z-of_z, to_z_pos}
use Rattle.ranges.specs.Ranges.{time_within}
use Rattle.ranges.proofs.Both.{both_read}
use Rattle.estimate.specs.declared.ClockFormat.{ClockFormat}
use Rattle.estimate.specs.declared.ClockFormat.TheVariants as format
use Rattle.timestamps.specs.Conversion.{era, half_era, billion, ntp_epoch, wire_second, wire_nanoseconds}
use Rattle.timestamps.proofs.Parts.{up, down, sum_parts, less_parts, up_times, down_times, le_parts, parts_le, lt_parts, parts_lt, abs_parts, parts_abs}
use Rattle.timestamps.proofs.Steps.{again, under, wide_fits}
use Rattle.recount_time.specs.Eras.{says_time, fits, in_some_era}
use Rattle.recount_time.proofs.Eras.{told, says_some_era}

-- ---- a comparison moved by the same number on both sides

le_moved : (a b c d : ℤ) → up a + down b + (up d + down c) ≡ up b + down a + (up c + down d) → le_z a b ≡ le_z c d
le_moved a b c d e = go (le_z a b) (le_z c d) refl refl
  where
    go : (p q : Bool) → le_z a b ≡ p → le_z c d ≡ q → p ≡ q
    go true true f g = refl
    go false false f g = refl
    go true false f g =
        let h : c ≤ℤ d = parts_le (omega (arith, le_parts (le_z_yes {a = a} {b = b} (subst T (sym f) tt)))) in
        sym (told (le_z c d) h.le) ∙ g
    go false true f g =
        let h : a ≤ℤ b = parts_le (omega (arith, le_parts (le_z_yes {a = c} {b = d} (subst T (sym g) tt)))) in
        sym f ∙ told (le_z a b) h.le

lt_moved : (a b c d : ℤ) → up a + down b + (up d + down c) ≡ up b + down a + (up c + down d) → lt_z a b ≡ lt_z c d
lt_moved a b c d e = go (lt_z a b) (lt_z c d) refl refl
  where
    go : (p q : Bool) → lt_z a b ≡ p → lt_z c d ≡ q → p ≡ q
    go true true f g = refl
    go false false f g = refl
    go true false f g =
        let h : c <ℤ d = parts_lt (omega (arith, lt_parts (lt_z_yes {a = a} {b = b} (subst T (sym f) tt)))) in
        sym (told (lt_z c d) h.lt) ∙ g
    go false true f g =
        let h : a <ℤ b = parts_lt (omega (arith, lt_parts (lt_z_yes {a = c} {b = d} (subst T (sym g) tt)))) in
        sym f ∙ told (lt_z a b) h.lt

and_and : (a b c d : Bool) → (((a && b) && c) && d) ≡ (a && (b && (c && d)))
and_and true true c d = refl
and_and true false c d = refl
and_and false b c d = refl

-- ---- `fits`

module _ (z reference offset : ℤ) (ns : ℕ) (fz : SFits w64 z) (fr : SFits w64 reference) (fo : SFits w32 offset) (near : nat_abs z ≤ 8589934592) (short : ns < billion) where
  abbrev wide : ℤ
  wide = to_z w32 (of_z w32 offset)

  offset-small : nat_abs offset ≤ 2147483648
  offset-small = nat_abs-le offset fo.sfits

  pub wide_in : SFits w64 wide
  wide_in = wide_fits reference offset fr fo

  abbrev middle : ℤ
  middle = z -ℤ offset

  abbrev middle_read : ℤ
  middle_read = again z -ℤ again wide

  middle_is : middle_read ≡ middle
  middle_is = λ i. to_z-of_z w64 z fz i -ℤ (to_z-of_z w64 wide wide_in ∙ to_z-of_z w32 offset fo) i

  middle_small : nat_abs middle ≤ 10737418240
  middle_small =
      parts_abs middle 10737418240 (omega (arith, near, less_parts z offset, abs_parts z, abs_parts offset, offset-small))
      (omega (arith, near, less_parts z offset, abs_parts z, abs_parts offset, offset-small))

  pub middle_fits : SFits w64 middle_read
  middle_fits = subst (SFits w64) (sym middle_is) (under middle (omega (arith, middle_small)))

  middle_again : again middle_read ≡ middle
  middle_again = to_z-of_z w64 middle_read middle_fits ∙ middle_is

  abbrev last_read : ℤ
  last_read = again middle_read +ℤ pos 2147483648

  last_is : last_read ≡ middle +ℤ pos half_era
  last_is = ap (λ (y : ℤ). y +ℤ pos half_era) middle_again

  pub last_fits : SFits w64 last_read
  last_fits =
      subst (SFits w64) (sym last_is)
      (under (middle +ℤ pos half_era)
      (omega (arith, parts_abs (middle +ℤ pos half_era) 12884901888 (omega (arith, middle_small, sum_parts middle (pos half_era), abs_parts middle)) (omega (arith, middle_small, sum_parts middle (pos half_era), abs_parts middle)))))

  abbrev first_read : ℤ
  first_read = again middle_read -ℤ pos 2147483648

  first_is : first_read ≡ middle -ℤ pos half_era
  first_is = ap (λ (y : ℤ). y -ℤ pos half_era) middle_again

  pub first_fits : SFits w64 first_read
  first_fits =
      subst (SFits w64) (sym first_is)
      (under (middle -ℤ pos half_era)
      (omega (arith, parts_abs (middle -ℤ pos half_era) 12884901888 (omega (arith, middle_small, less_parts middle (pos half_era), abs_parts middle)) (omega (arith, middle_small, less_parts middle (pos half_era), abs_parts middle)))))

  abbrev scaled_read : ℤ
  scaled_read = again z *ℤ pos billion

  scaled_is : scaled_read ≡ z *ℤ pos billion
  scaled_is = ap (λ (y : ℤ). y *ℤ pos billion) (to_z-of_z w64 z fz)

  scaled_small : nat_abs (z *ℤ pos billion) ≤ 8589934592000000000
  scaled_small = omega (arith, near, abs_parts (z *ℤ pos billion), up_times z billion, down_times z billion, abs_parts z)

  pub scaled_fits : SFits w64 scaled_read
  scaled_fits = subst (SFits w64) (sym scaled_is) (under _ (omega (arith, scaled_small)))

  abbrev time : ℤ
  time = z *ℤ pos billion +ℤ pos ns

  abbrev time_read : ℤ
  time_read = again scaled_read +ℤ to_z w64 ns

  time_is : time_read ≡ time
  time_is = λ i. (to_z-of_z w64 scaled_read scaled_fits ∙ scaled_is) i +ℤ to_z_pos w64 ns (omega arith) i

  pub time-fits : SFits w64 time_read
  time-fits =
      subst (SFits w64) (sym time_is)
      (under time
      (omega (arith, parts_abs time 8589934593000000000 (omega (arith, scaled_small, sum_parts (z *ℤ pos billion) (pos ns), abs_parts (z *ℤ pos billion))) (omega (arith, scaled_small, sum_parts (z *ℤ pos billion) (pos ns), abs_parts (z *ℤ pos billion))))))

  abbrev r : ℤ
  r = reference +ℤ offset

  from_is : le_z (again reference) (again last_read) ≡ le_z (r -ℤ pos half_era) z
  from_is =
      (λ i. le_z (to_z-of_z w64 reference fr i) ((to_z-of_z w64 last_read last_fits ∙ last_is) i))
      ∙ le_moved reference (middle +ℤ pos half_era) (r -ℤ pos half_era) z
      (omega (arith, sum_parts middle (pos half_era), less_parts z offset, less_parts r (pos half_era), sum_parts reference offset))

  below_is : lt_z (again first_read) (again reference) ≡ lt_z z (r +ℤ pos half_era)
  below_is =
      (λ i. lt_z ((to_z-of_z w64 first_read first_fits ∙ first_is) i) (to_z-of_z w64 reference fr i))
      ∙ lt_moved (middle -ℤ pos half_era) reference z (r +ℤ pos half_era)
      (omega (arith, less_parts middle (pos half_era), less_parts z offset, sum_parts r (pos half_era), sum_parts reference offset))

  within_is : le_z (negsuc 3999999999999999999) (again time_read) && le_z (again time_read) (pos 4000000000000000000) ≡ time_within time
  within_is = both_read w64 3999999999999999999 time_read time-fits ∙ ap time_within time_is

  pub fits_is : (((le_z (again reference) (again last_read) && lt_z (again first_read) (again reference)) && le_z (negsuc 3999999999999999999) (again time_read)) && le_z (again time_read) (pos 4000000000000000000)) ≡ fits r z ns
  unfolding fits
  fits_is =
      and_and (le_z (again reference) (again last_read)) (lt_z (again first_read) (again reference)) (le_z (negsuc 3999999999999999999) (again time_read)) (le_z (again time_read) (pos 4000000000000000000))
      ∙ (λ i. from_is i && (below_is i && within_is i))

-- ---- `in_some_era`

-- the reference and the offset as the code hands them on
abbrev r_read : ℤ → ℤ → ℤ
r_read reference offset = again reference +ℤ to_z w32 (of_z w32 offset)

module _ (z : ℤ) (fz : SFits w64 z) (near : nat_abs z ≤ 4294967296) where
  z_is : again z ≡ z
  z_is = to_z-of_z w64 z fz

  abbrev before_read : ℤ
  before_read = again z -ℤ pos 4294967296

  before_is : before_read ≡ z -ℤ pos era
  before_is = ap (λ (y : ℤ). y -ℤ pos era) z_is

  before-near : nat_abs (z -ℤ pos era) ≤ 8589934592
  before-near = parts_abs (z -ℤ pos era) 8589934592 (omega (arith, near, less_parts z (pos era), abs_parts z)) (omega (arith, near, less_parts z (pos era), abs_parts z))

  pub before-fits : SFits w64 before_read
  before-fits = subst (SFits w64) (sym before_is) (under _ (omega (arith, before-near)))

  before_again : again before_read ≡ z -ℤ pos era
  before_again = to_z-of_z w64 before_read before-fits ∙ before_is

  pub before_small : nat_abs (again before_read) ≤ 8589934592
  before_small = subst (λ (y : ℤ). nat_abs y ≤ 8589934592) (sym before_again) before-near

  pub same-small : nat_abs (again z) ≤ 8589934592
  same-small = subst (λ (y : ℤ). nat_abs y ≤ 8589934592) (sym z_is) (omega arith)

  abbrev after_read : ℤ
  after_read = again z +ℤ pos 4294967296

  after_is : after_read ≡ z +ℤ pos era
  after_is = ap (λ (y : ℤ). y +ℤ pos era) z_is

  after-near : nat_abs (z +ℤ pos era) ≤ 8589934592
  after-near = parts_abs (z +ℤ pos era) 8589934592 (omega (arith, near, sum_parts z (pos era), abs_parts z)) (omega (arith, near, sum_parts z (pos era), abs_parts z))

  pub after-fits : SFits w64 after_read
  after-fits = subst (SFits w64) (sym after_is) (under _ (omega (arith, after-near)))

  after_again : again after_read ≡ z +ℤ pos era
  after_again = to_z-of_z w64 after_read after-fits ∙ after_is

  pub after_small : nat_abs (again after_read) ≤ 8589934592
  after_small = subst (λ (y : ℤ). nat_abs y ≤ 8589934592) (sym after_again) after-near

  module _ (reference offset : ℤ) (ns : ℕ) (fr : SFits w64 reference) (fo : SFits w32 offset) where
    r_is : r_read reference offset ≡ reference +ℤ offset
    r_is = λ i. to_z-of_z w64 reference fr i +ℤ to_z-of_z w32 offset fo i

    pub eras_are : (a b d : Bool) → a ≡ fits (r_read reference offset) (again before_read) ns → b ≡ fits (r_read reference offset) (again z) ns
        → d ≡ fits (r_read reference offset) (again after_read) ns → ((a || b) || d) ≡ in_some_era (reference +ℤ offset) z ns
    unfolding in_some_era
    eras_are a b d p q t =
        (λ i. (p i || q i) || t i) ∙ (λ i. (fits (r_is i) (before_again i) ns || fits (r_is i) (z_is i) ns) || fits (r_is i) (after_again i) ns)

-- ---- the two formats

module _ (reference offset : ℤ) (fr : SFits w64 reference) (fo : SFits w32 offset) (w ns : ℕ) (short : ns < billion) where
  -- the answer for a second as the code reads it
  says_is : (f : ClockFormat) (x read : ℤ) (b : Bool) → read ≡ x → wire_second f w ≡ x → wire_nanoseconds f w ≡ Some ns → down x ≤ up x + 2208988800 → up x < down x + 4294967296
      → b ≡ in_some_era (r_read reference offset) read ns → b ≡ says_time f w (reference +ℤ offset)
  says_is f x read b e p q low high h =
      h
      ∙ (λ i. in_some_era (r_read_is i) (e i) ns)
      ∙ says_some_era x (reference +ℤ offset) ns short low high f w p q
    where
      r_read_is : r_read reference offset ≡ reference +ℤ offset
      r_read_is = λ i. to_z-of_z w64 reference fr i +ℤ to_z-of_z w32 offset fo i

module _ (w : ℕ) (wf : w < 2 ^ 64) where
  small : w / 4294967296 < 4294967296
  small = omega arith

  seconds_is : to_z w64 (w / 4294967296) ≡ pos (w / 4294967296)
  seconds_is = to_z_pos w64 (w / 4294967296) (omega (arith, small))

  abbrev ntp_read : ℤ
  ntp_read = to_z w64 (w / 4294967296) -ℤ pos 2208988800

  abbrev ntp_second : ℤ
  ntp_second = pos (w / 4294967296) -ℤ pos ntp_epoch

  ntp_is : ntp_read ≡ ntp_second
  ntp_is = ap (λ (y : ℤ). y -ℤ pos ntp_epoch) seconds_is

  ntp_near : nat_abs ntp_second ≤ 4294967296
  ntp_near =
      parts_abs ntp_second 4294967296 (omega (arith, small, less_parts (pos (w / 4294967296)) (pos ntp_epoch)))
      (omega (arith, small, less_parts (pos (w / 4294967296)) (pos ntp_epoch)))

  pub ntp_fits : SFits w64 ntp_read
  ntp_fits = subst (SFits w64) (sym ntp_is) (under _ (omega (arith, ntp_near)))

  ntp_again : again ntp_read ≡ ntp_second
  ntp_again = to_z-of_z w64 ntp_read ntp_fits ∙ ntp_is

  pub ntp_small : nat_abs (again ntp_read) ≤ 4294967296
  ntp_small = subst (λ (y : ℤ). nat_abs y ≤ 4294967296) (sym ntp_again) ntp_near

  pub ptp_small : nat_abs (to_z w64 (w / 4294967296)) ≤ 4294967296
  ptp_small = subst (λ (y : ℤ). nat_abs y ≤ 4294967296) (sym seconds_is) (omega (arith, small))

  module _ (reference offset : ℤ) (fr : SFits w64 reference) (fo : SFits w32 offset) where
    pub ntp_says : (b : Bool) → b ≡ in_some_era (r_read reference offset) (again ntp_read) (w % 4294967296 * 1000000000 / 4294967296) → b ≡ says_time format.NTP w (reference +ℤ offset)
    ntp_says b h =
        says_is reference offset fr fo w (w % 4294967296 * 1000000000 / 4294967296) (omega arith) format.NTP ntp_second (again ntp_read) b ntp_again refl refl
        (omega (arith, less_parts (pos (w / 4294967296)) (pos ntp_epoch))) (omega (arith, small, less_parts (pos (w / 4294967296)) (pos ntp_epoch))) h

    pub ptp_says : (b : Bool) → w % 4294967296 < 1000000000 → b ≡ in_some_era (r_read reference offset) (to_z w64 (w / 4294967296)) (w % 4294967296) → b ≡ says_time format.PTP w (reference +ℤ offset)
    ptp_says b l h =
        says_is reference offset fr fo w (w % 4294967296) l format.PTP (pos (w / 4294967296)) (to_z w64 (w / 4294967296)) b seconds_is refl (rw (lt-ltb (w % 4294967296) billion l))
        (omega arith) (omega (arith, small)) h

-- ---- `says_time`

module _ (reference offset : ℤ) (fr : SFits w64 reference) (fo : SFits w32 offset) where
  pub reads_same : (f g : ClockFormat) (w : ℕ) (b : Bool) → f ≡ g → b ≡ says_time g w (r_read reference offset) → b ≡ says_time f w (reference +ℤ offset)
  reads_same f g w b e h = h ∙ (λ i. says_time (sym e i) w (to_z-of_z w64 reference fr i +ℤ to_z-of_z w32 offset fo i))
