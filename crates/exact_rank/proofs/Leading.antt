-- The search that `led` makes is the one in the digit that holds its rank.
-- Assumes nothing.
use Rattle.std.proofs.Common.{◌≡◌, ℕ, ◌+◌, ◌-◌, ◌*◌, ◌^◌, ◌<◌, ◌≤◌, List, get_or, sym, refl, ap, ◌∙◌, arith}
use Rattle.sample_passes.specs.Passes.{capped, edge, sum_to, Placed}
use Rattle.exact_rank.specs.Searches.{Leads, Led}
use Rattle.sample_place.specs.declared.Search.{Search}
use Rattle.sample_passes.proofs.DigitCounts.{next-digit, sum_more, sum_grows}

module _ (counts : List ℕ) (low high shift : ℕ) (s : Search) (leads : Leads counts low high shift s) (digit left : ℕ)
    (placed : Placed counts (s.rank - s.before) digit left) where
  -- the digit starts among the keys
  pub led-start : low + digit * 2 ^ shift ≤ high
  led-start = leads.within digit placed.small (omega (arith, placed.within))

  whole : sum_to counts (digit + 1) ≤ sum_to counts 256
  whole =
      omega (
        arith,
        sum_grows counts (digit + 1) (255 - digit),
        ap (sum_to counts) (let e : digit + 1 + (255 - digit) ≡ 256 = omega (arith, placed.small) in e),
      )

  -- the count through the digit is that of a word
  pub led-fits : s.rank - left + get_or counts digit 0 < 2 ^ 64
  led-fits = omega (arith, whole, sum_more counts digit, placed.split, leads.started, leads.fits)

  pub led_to : (t : Search) → t.low ≡ low + digit * 2 ^ shift → t.high + 1 ≡ capped (t.low + 2 ^ shift) (high + 1) → t.rank ≡ s.rank
      → t.before ≡ s.rank - left → t.through ≡ t.before + get_or counts digit 0 → Led counts low high shift s t
  led_to t l h r b u =
      record {
        digit = digit;
        small = placed.small;
        start = l;
        end = omega (arith, l, h, next-digit digit (2 ^ shift));
        same_rank = r;
        before_is = omega (arith, b, placed.split, leads.started);
        through_is = omega (arith, b, u, placed.split, leads.started, sum_more counts digit);
        few_below = omega (arith, b, r);
        enough_through = omega (arith, b, u, r, placed.within, placed.split, leads.started);
      }
