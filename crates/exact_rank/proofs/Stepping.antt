-- What one step keeps of a search: its rank, and that the rank's key is one of low to high.
-- Assumes nothing.
use Rattle.std.proofs.Common.{◌≡◌, ℕ, ◌+◌, ◌-◌, ◌*◌, ◌^◌, ◌<◌, ◌≤◌, ◌⊎◌, List, get_or, sym, refl, ap, ◌∙◌, inl, inr, ⊎_elim, arith, pow_pos}
use Rattle.exact_rank.specs.Counting.{KeyOfRank}
use Rattle.sample_passes.specs.Counting.{below}
use Rattle.sample_passes.specs.Passes.{Least, Most, capped, edge, Counted, sum_to}
use Rattle.exact_rank.specs.Searches.{Inside, AllInside, Follows, AllFollow, SameKeys, Leads, Led, LedWith, EndedWith, LeadsAll, AllLed, AllEnded, Stepped}
use Rattle.sample_place.specs.Places.{EndedAt}
use Rattle.sample_place.specs.declared.Search.{Search}
use Rattle.exact_rank.specs.declared.Four.{Four}
use Rattle.sample_passes.proofs.Counting.{lt_or_le}
use Rattle.sample_passes.proofs.DigitCounts.{next-digit, sum_more, sum_counted, sum_all}

module _ (key : ℕ → ℕ) (xs : List ℕ) where
  pub follows_self : (s : Search) → Inside key xs s → Follows key xs s s
  follows_self s h = record { inside = h; same_rank = refl; stays_ended = λ e. e }

  pub follows_on : (s t u : Search) → Follows key xs s t → Follows key xs t u → Follows key xs s u
  follows_on s t u h g =
      record { inside = g.inside; same_rank = g.same_rank ∙ h.same_rank; stays_ended = λ e. g.stays_ended (h.stays_ended e) }

  -- a search that ends at the key of its rank
  pub end_follows : (value : ℕ) (s t : Search) → KeyOfRank key xs s.rank value → EndedAt value s t → Follows key xs s t
  end_follows value s t k e =
      record {
        inside =
            record {
              ordered = omega (arith, e.low, e.high);
              few_below = rw (e.low, e.rank) k.few_below;
              enough_through = rw (e.high, e.rank) k.enough_through;
              before_is = λ l. absurd (omega (arith, l, e.low, e.high));
              through_is = λ l. absurd (omega (arith, l, e.low, e.high));
            };
        same_rank = e.rank;
        stays_ended = λ q. e.low ∙ sym e.high;
      }

  pub ended_follows : (value : ℕ) (node s t : Search) → KeyOfRank key xs node.rank value → Inside key xs s → EndedWith value node s t
      → Follows key xs s t
  ended_follows value node s t k h =
      ⊎_elim
      (λ w. end_follows value s t (rw w.1 k) w.2)
      (λ e. rw e (follows_self s h))

  -- the lowest key of the range, for the rank that comes first in it
  pub least-key : (s : Search) (v : ℕ) → Inside key xs s → s.low < s.high → s.rank ≡ s.before → Least key xs s.low s.high v
      → KeyOfRank key xs s.rank v
  least-key s v h l e m =
      record {
        few_below = omega (arith, m.none_before, h.few_below);
        enough_through =
            ⊎_elim
            (λ g. omega (arith, m.met g, m.none_before, h.before_is l, e))
            (λ g. let q : v ≡ s.high = omega (arith, g, m.to) in rw q h.enough_through)
            (lt_or_le v s.high);
      }

  -- the highest key of the range, for the rank that comes last in it
  pub most-key : (s : Search) (v : ℕ) → Inside key xs s → s.low < s.high → s.through ≡ s.rank + 1 → Most key xs s.low s.high v
      → KeyOfRank key xs s.rank v
  most-key s v h l e m =
      record {
        few_below =
            ⊎_elim
            (λ g. omega (arith, m.met g, m.none_after, h.through_is l, e))
            (λ g. let q : v ≡ s.low = omega (arith, g, m.from) in rw q h.few_below)
            (lt_or_le s.low v);
        enough_through = omega (arith, m.none_after, h.enough_through);
      }

  -- a search among keys that are cut into digits
  module _ (counts : List ℕ) (low high shift : ℕ) (s : Search) (h : Inside key xs s) (going : s.low < s.high)
      (begins : below key low xs ≡ below key s.low xs) (ends : below key (high + 1) xs ≡ below key (s.high + 1) xs) (ordered : low ≤ high)
      (counted : Counted key xs low high (2 ^ shift) counts) (span : high - low < 256 * 2 ^ shift) where
    all : sum_to counts 256 + s.before ≡ s.through
    all = omega (arith, sum_all key xs low high (2 ^ shift) counts counted ordered span, begins, ends, h.before_is going, h.through_is going)

    same-edge : (d : ℕ) → high < low + d * 2 ^ shift → edge low high (2 ^ shift) d ≡ edge low high (2 ^ shift) (d + 1)
    same-edge d l = omega (arith, l, next-digit d (2 ^ shift))

    within : (d : ℕ) → d < 256 → 0 < get_or counts d 0 → low + d * 2 ^ shift ≤ high
    within d l p =
        ⊎_elim
        (λ g. absurd (omega (arith, p, counted d l, ap (λ (k : ℕ). below key k xs) (same-edge d g))))
        (λ g. g)
        (lt_or_le high (low + d * 2 ^ shift))

    pub leads_from : s.through < 2 ^ 64 → Leads counts low high shift s
    leads_from word =
        record {
          started = omega (arith, h.few_below, h.before_is going);
          reached = omega (arith, h.enough_through, h.through_is going, all);
          fits = omega (arith, all, word);
          within = within;
        }

    module _ (t : Search) (led : Led counts low high shift s t) where
      start : t.low ≤ high
      start =
          rw led.start
          (within led.digit led.small
          (omega (arith, sum_more counts led.digit, led.before_is, led.through_is, led.few_below, led.enough_through)))

      at-start : edge low high (2 ^ shift) led.digit ≡ t.low
      at-start = omega (arith, start, led.start)

      before : t.before ≡ below key t.low xs
      before =
          omega (
            arith,
            led.before_is,
            h.before_is going,
            begins,
            ap (λ (k : ℕ). below key k xs) at-start,
            sum_counted key xs low high (2 ^ shift) counts counted ordered led.digit (omega (arith, led.small)),
          )

      through : t.through ≡ below key (t.high + 1) xs
      through =
          omega (
            arith,
            led.through_is,
            h.before_is going,
            begins,
            ap (λ (k : ℕ). below key k xs) led.end,
            sum_counted key xs low high (2 ^ shift) counts counted ordered (led.digit + 1) (omega (arith, led.small)),
          )

      pub led_follows : Follows key xs s t
      led_follows =
          record {
            inside =
                record {
                  ordered = omega (arith, start, led.start, led.end, next-digit led.digit (2 ^ shift), pow_pos shift);
                  few_below = omega (arith, before, led.few_below);
                  enough_through = omega (arith, through, led.enough_through);
                  before_is = λ l. before;
                  through_is = λ l. through;
                };
            same_rank = led.same_rank;
            stays_ended = λ e. absurd (omega (arith, e, going));
          }

      pub led_narrower : (shift ≡ 0) ⊎ (2 ^ shift ≤ high - low) → s.low ≤ low → high ≤ s.high → t.high - t.low < s.high - s.low
      led_narrower =
          ⊎_elim
          (λ z l m. let one : 2 ^ shift ≡ 1 = ap (λ (n : ℕ). 2 ^ n) z in
          omega (arith, one, going, led.start, led.end, next-digit led.digit (2 ^ shift)))
          (λ g l m. omega (arith, g, l, m, led.start, led.end, next-digit led.digit (2 ^ shift)))
