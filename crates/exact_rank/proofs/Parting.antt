-- A search that is parted at a value follows, and has fewer keys left.
-- Assumes nothing.
use Rattle.std.proofs.Common.{◌≡◌, ℕ, ◌+◌, ◌-◌, ◌^◌, ◌<◌, ◌≤◌, ◌⊎◌, List, take, sym, refl, ap, ◌∙◌, inl, inr, ⊎_elim, arith}
use Rattle.sample_passes.specs.Keys.{shifted}
use Rattle.sample_passes.specs.Passes.{Gathered}
use Rattle.exact_rank.specs.Counting.{KeyOfRank}
use Rattle.sample_passes.specs.Counting.{below}
use Rattle.exact_rank.specs.Searches.{Inside, AllInside, Follows, SameKeys, PartedWith, AllParted, Stepped}
use Rattle.sample_place.specs.Places.{EndedAt, lower_part, upper_part, Partable, Parted}
use Rattle.sample_place.specs.declared.Search.{Search}
use Rattle.exact_rank.specs.declared.Four.{Four}
use Rattle.sample_passes.proofs.Counting.{lt_or_le, below_grows, below_none}
use Rattle.exact_rank.proofs.Stepping.{follows_self, end_follows}

module _ (key : ℕ → ℕ) (xs : List ℕ) where
  -- fewer keys are below it, so it is lower
  lower_of : (a b n : ℕ) → below key a xs ≤ n → n < below key b xs → a < b
  lower_of a b n l m = ⊎_elim (λ g. g) (λ g. absurd (omega (arith, l, m, below_grows key b a g xs))) (lt_or_le a b)

  module _ (value under reach : ℕ) (under_is : under ≡ below key value xs) (reach_is : reach ≡ below key (value + 1) xs) where
    positive : (rank : ℕ) → rank < under → 0 < value
    positive rank l = lower_of 0 value rank (omega (arith, below_none key xs)) (omega (arith, l, under_is))

    -- no key is past the last word, so a search goes above a value only where that is not the last
    pub partable : value < 2 ^ 64 → ((k : ℕ) → below key k xs ≤ below key (2 ^ 64) xs) → (s : Search) → Inside key xs s → Partable value under reach s
    partable w all s h = (
      positive s.rank,
      λ l.
          ⊎_elim
          (λ g. g)
          (λ g. let last : value + 1 ≡ 2 ^ 64 = omega (arith, w, g) in
          absurd (omega (arith, l, reach_is, ap (λ (k : ℕ). below key k xs) last, all (s.high + 1), h.enough_through)))
          (lt_or_le value (2 ^ 64 - 1)),
    )

    module _ (s : Search) (h : Inside key xs s) (going : s.low < s.high) where
      lower_follows : s.rank < under → Follows key xs s (lower_part value under s)
      lower_follows l =
          let back : value - 1 + 1 ≡ value = omega (arith, positive s.rank l) in
          let same : below key (value - 1 + 1) xs ≡ below key value xs = ap (λ (k : ℕ). below key k xs) back in
          record {
            inside =
                record {
                  ordered = omega (arith, lower_of s.low value s.rank h.few_below (omega (arith, l, under_is)));
                  few_below = h.few_below;
                  enough_through = omega (arith, l, under_is, same);
                  before_is = λ g. h.before_is going;
                  through_is = λ g. omega (arith, under_is, same);
                };
            same_rank = refl;
            stays_ended = λ e. absurd (omega (arith, e, going));
          }

      upper_follows : reach ≤ s.rank → Follows key xs s (upper_part value reach s)
      upper_follows l =
          record {
            inside =
                record {
                  ordered = omega (arith, lower_of (value + 1) (s.high + 1) s.rank (omega (arith, l, reach_is)) h.enough_through);
                  few_below = omega (arith, l, reach_is);
                  enough_through = h.enough_through;
                  before_is = λ g. reach_is;
                  through_is = λ g. h.through_is going;
                };
            same_rank = refl;
            stays_ended = λ e. absurd (omega (arith, e, going));
          }

      pub parted_follows : (t : Search) → Parted value under reach s t → Follows key xs s t
      parted_follows t =
          ⊎_elim
          (λ w. rw w.1 (lower_follows w.0))
          (⊎_elim
          (λ w. end_follows key xs value s t (record { few_below = omega (arith, w.0, under_is); enough_through = omega (arith, w.1, reach_is) }) w.2)
          (λ w. rw w.1 (upper_follows w.0)))

      pub parted_narrower : (t : Search) → s.low ≤ value → value ≤ s.high → Parted value under reach s t → t.high - t.low < s.high - s.low
      parted_narrower t l m =
          ⊎_elim
          (λ w. rw w.1 (let p : 0 < value = positive s.rank w.0 in let q : value - 1 - s.low < s.high - s.low = omega (arith, p, m, going) in q))
          (⊎_elim
          (λ w. omega (arith, w.2.low, w.2.high, going))
          (λ w. rw w.1 (let q : s.high - (value + 1) < s.high - s.low = omega (arith, l, going) in q)))

    module _ (f : Four) (inside : AllInside key xs f) (going : f.first.low < f.first.high) where
      parted-with_follows : (s t : Search) → Inside key xs s → PartedWith value under reach f.first s t → Follows key xs s t
      parted-with_follows s t h =
          ⊎_elim (λ w. parted_follows s h (omega (arith, w.0.0, w.0.1, going)) t w.1) (λ e. rw e (follows_self key xs s h))

      pub all_parted-stepped : (g : Four) → f.first.low ≤ value → value ≤ f.first.high → AllParted value under reach f g → Stepped key xs f g
      all_parted-stepped g l m h =
          record {
            all =
                record {
                  first = parted_follows f.first inside.first going g.first h.first;
                  second = parted-with_follows f.second g.second inside.second h.second;
                  third = parted-with_follows f.third g.third inside.third h.third;
                  fourth = parted-with_follows f.fourth g.fourth inside.fourth h.fourth;
                };
            narrower = parted_narrower f.first inside.first going g.first l m h.first;
          }

  -- what is counted of the keys that a search has gathered is counted of all samples
  pub gathered_count : (s : Search) → Inside key xs s → s.low < s.high → (keys : List ℕ) → Gathered key xs s.low s.high keys
      → s.through - s.before ≤ 256 → (v : ℕ) → s.low ≤ v → v ≤ s.high + 1
      → s.before + below (shifted 0) v (take (s.through - s.before) keys) ≡ below key v xs
  gathered_count s h going keys g few v l m =
      omega (
        arith,
        h.before_is going,
        g (s.through - s.before) v (omega (arith, h.before_is going, h.through_is going, h.few_below, h.enough_through)) few l m,
      )
