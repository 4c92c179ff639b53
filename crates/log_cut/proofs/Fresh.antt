-- Records and a new trailer behind them are read as they were written, whatever the records are: 8 at the first bad one, and else the settings.
-- Assumes nothing.
use Rattle.std.specs.Prelude.{Err, Ok}
use mathlib.Core.Path.{◌≡◌, refl, sym, ap, ap₂, ◌∙◌, subst}
use mathlib.Core.Bool.{Bool, true, false, ◌&&◌, cond}
use mathlib.Core.List.{List, ◌++◌}
use Prim.Native.Nat.{ℕ, zero, suc, ◌+◌, ◌-◌, ◌*◌, ◌^◌, ◌≤◌, ◌<◌}
use native.Mathlib.Omega.{arith}
use lib.Dec.{lit<}
use lib.ListN.{length, take, drop, replicate, length-append}
use lib.Seq.{get_or-append-add, take-append-le, drop-append-le}
use lib.ListN.{length-drop}
use borrow.Author.Tests.{eq-eqb, le-leb, le-ltb}
use Rattle.big_endian.specs.Numbers.{base, number_at}
use Rattle.big_endian.specs.Fields.{Field}
use Rattle.big_endian.proofs.Laws.{In, first, later, field_back, written-length}
use Rattle.record_parts.specs.Fits.{U16, U64}
use Rattle.log_whole.specs.declared.Settings.{Settings}
use Rattle.log_whole.specs.declared.Fault.TheVariants as fault
use Rattle.log_whole.specs.Logs.{mark, trailer_at, distance_of, count_of, mark_of, settings_of, trailer_fits, trailer_good, record_at, first_bad, by_records, log_of, trailer_table, trailer_over}
use Rattle.log_whole.proofs.Laws.{by-good, by-bad, log_by_records}
use Rattle.log_cut.specs.Cut.{trailer_of}

-- ---- a number behind other bytes

number_behind : (k : ℕ) (xs ys : List ℕ) (at : ℕ) → number_at k (xs ++ ys) (length xs + at) ≡ number_at k ys at
number_behind zero xs ys at = get_or-append-add xs ys at 0
number_behind (suc k) xs ys at = ap₂ (λ (x y : ℕ). x * base k + y) (number_behind k xs ys at)
    (ap (number_at k (xs ++ ys)) (assoc (length xs) at (2 ^ k)) ∙ number_behind k xs ys (at + 2 ^ k))
  where
    assoc : (a b c : ℕ) → a + b + c ≡ a + (b + c)
    assoc a b c = omega arith

-- ---- the trailer

pub trailer_length : (count copies threshold timeout : ℕ) → length (trailer_of count copies threshold timeout) ≡ 24
unfolding trailer_of trailer_over
trailer_length count copies threshold timeout = written-length (trailer_table count copies threshold timeout) (replicate 24 0)

-- record j of a log is that of the bytes before its trailer
pub record-before : (xs ys : List ℕ) (j : ℕ) → 96 * j + 96 ≤ length xs → record_at (xs ++ ys) 0 j ≡ record_at xs 0 j
record-before xs ys j h =
    ap (take 96) (drop-append-le (0 + 96 * j) xs ys (omega arith))
    ∙ take-append-le 96 (drop (0 + 96 * j) xs) ys (subst (λ (n : ℕ). 96 ≤ n) (sym (length-drop (0 + 96 * j) xs)) (left (length xs) j h))
  where
    left : (n j : ℕ) → 96 * j + 96 ≤ n → 96 ≤ n - (0 + 96 * j)
    left n j h = omega arith

module _ (front : List ℕ) (count copies threshold timeout : ℕ) (sized : length front ≡ 96 * count) (few : count ≤ 682)
    (fc : U16 copies) (ft : U16 threshold) (fo : U64 timeout) where
  abbrev end : List ℕ
  end = trailer_of count copies threshold timeout

  abbrev bytes : List ℕ
  bytes = front ++ end

  back : (f : Field) → In f (trailer_table count copies threshold timeout) → f.value < base f.width → number_at f.width end f.at ≡ f.value
  unfolding trailer_of trailer_over
  back f i l = field_back 24 (trailer_table count copies threshold timeout) (replicate 24 0) f refl tt i l

  pub fresh-length : length bytes ≡ 96 * count + 24
  fresh-length = length-append front end ∙ ap₂ ◌+◌ sized (trailer_length count copies threshold timeout)

  small : length bytes ≤ 65536
  small = go count (length bytes) fresh-length few
    where
      go : (k n : ℕ) → n ≡ 96 * k + 24 → k ≤ 682 → n ≤ 65536
      go k n e h = omega arith

  trailer_there : trailer_at bytes ≡ length front
  trailer_there = ap (λ (n : ℕ). n - 24) (length-append front end ∙ ap (λ (n : ℕ). length front + n) (trailer_length count copies threshold timeout)) ∙ less (length front)
    where
      less : (n : ℕ) → n + 24 - 24 ≡ n
      less n = omega arith

  at : (k a : ℕ) → number_at k bytes (trailer_at bytes + a) ≡ number_at k end a
  at k a = ap (λ (n : ℕ). number_at k bytes (n + a)) trailer_there ∙ number_behind k front end a

  distance_is : distance_of bytes ≡ 24 + 96 * count
  distance_is = ap (number_at 2 bytes) (none (trailer_at bytes)) ∙ at 2 0 ∙ back _ (first refl) (omega arith)
    where
      none : (n : ℕ) → n ≡ n + 0
      none n = omega arith

  count-read : count_of bytes ≡ count
  count-read = at 2 4 ∙ back _ (later (first refl)) (omega arith)

  mark_is : mark_of bytes ≡ mark
  mark_is = at 2 20 ∙ back _ (later (later (later (later (later (first refl)))))) (lit< tt)

  abbrev said : Settings
  said = record { copies = copies; threshold = threshold; timeout = timeout; count = count; start = 0 }

  settings_is : settings_of bytes ≡ said
  unfolding settings_of
  settings_is = λ i. record {
    copies = (at 1 8 ∙ back _ (later (later (first refl))) fc) i;
    threshold = (at 1 10 ∙ back _ (later (later (later (first refl)))) ft) i;
    timeout = (at 3 12 ∙ back _ (later (later (later (later (first refl))))) fo) i;
    count = count-read i;
    start = (ap₂ ◌-◌ fresh-length distance_is ∙ nothing count) i;
  }
    where
      nothing : (k : ℕ) → 96 * k + 24 - (24 + 96 * k) ≡ 0
      nothing k = omega arith

  kept : trailer_good bytes ≡ true
  unfolding trailer_good
  kept =
      ap (λ (b : Bool). cond b false (trailer_fits bytes)) (le-ltb (length bytes) 24 (long count (length bytes) fresh-length))
      ∙ (λ i. eq-eqb (mark_of bytes) mark mark_is i && eq-eqb (distance_of bytes) (24 + 96 * count_of bytes) whole i && le-leb (distance_of bytes) (length bytes) (within (distance_of bytes) (length bytes) count distance_is fresh-length) i)
    where
      long : (k n : ℕ) → n ≡ 96 * k + 24 → 24 ≤ n
      long k n e = omega arith

      whole : distance_of bytes ≡ 24 + 96 * count_of bytes
      whole = distance_is ∙ ap (λ (n : ℕ). 24 + 96 * n) (sym count-read)

      within : (d n k : ℕ) → d ≡ 24 + 96 * k → n ≡ 96 * k + 24 → d ≤ n
      within d n k e f = omega arith

  by_first : (f : ℕ) → f ≡ first_bad bytes 0 0 count → by_records f said ≡ log_of bytes
  by_first f e = log_by_records bytes f said small kept (sym settings_is) e

  -- Where every record is good the log is accepted, with the settings that were written.
  pub fresh-accepted : first_bad bytes 0 0 count ≡ count → log_of bytes ≡ Ok said
  fresh-accepted h = sym (by-good count said refl ∙ by_first count (sym h))

  -- Where one is bad it is refused with 8, at the first that is.
  pub fresh-refused : (f : ℕ) → first_bad bytes 0 0 count ≡ f → (f ≡ count → ⊥) → log_of bytes ≡ Err (fault.BadRecord f)
  fresh-refused f h n = sym (by-bad f said n ∙ by_first f (sym h))
