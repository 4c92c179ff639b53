-- One step of four searches: each follows, and the first has fewer keys left.
-- Assumes nothing.
use Rattle.std.proofs.Common.{◌≡◌, ℕ, ◌+◌, ◌-◌, ◌*◌, ◌^◌, ◌<◌, ◌≤◌, ◌⊎◌, List, length, take, sym, refl, ap, ◌∙◌, inl, inr, ⊎_elim, arith}
use Rattle.sample_passes.specs.Keys.{shifted}
use Rattle.exact_rank.specs.Counting.{KeyOfRank}
use Rattle.sample_passes.specs.Counting.{below}
use Rattle.sample_passes.specs.Passes.{Least, Most, Counted}
use Rattle.exact_rank.specs.Searches.{Inside, AllInside, Follows, AllFollow, SameKeys, Leads, Led, LedWith, LeadsAll, AllLed, AllEnded, Stepped, AllAtEnd, whole, turned_once}
use Rattle.sample_place.specs.declared.Search.{Search}
use Rattle.exact_rank.specs.declared.Four.{Four}
use Rattle.sample_passes.proofs.Counting.{below_none, below-whole}
use Rattle.exact_rank.proofs.Stepping.{follows_self, follows_on, end_follows, ended_follows, leads_from, led_follows, led_narrower}

module _ (key : ℕ → ℕ) (xs : List ℕ) where
  pub all_follow_self : (f : Four) → AllInside key xs f → AllFollow key xs f f
  all_follow_self f h =
      record {
        first = follows_self key xs f.first h.first;
        second = follows_self key xs f.second h.second;
        third = follows_self key xs f.third h.third;
        fourth = follows_self key xs f.fourth h.fourth;
      }

  pub all_follow_on : (f g e : Four) → AllFollow key xs f g → AllFollow key xs g e → AllFollow key xs f e
  all_follow_on f g e h k =
      record {
        first = follows_on key xs f.first g.first e.first h.first k.first;
        second = follows_on key xs f.second g.second e.second h.second k.second;
        third = follows_on key xs f.third g.third e.third h.third k.third;
        fourth = follows_on key xs f.fourth g.fourth e.fourth h.fourth k.fourth;
      }

  pub all_inside : (f g : Four) → AllFollow key xs f g → AllInside key xs g
  all_inside f g h =
      record { first = h.first.inside; second = h.second.inside; third = h.third.inside; fourth = h.fourth.inside }

  module _ (f : Four) (inside : AllInside key xs f) (going : f.first.low < f.first.high) where
    pub all_ended-stepped : (value : ℕ) (g : Four) → KeyOfRank key xs f.first.rank value → AllEnded value f g → Stepped key xs f g
    all_ended-stepped value g k h =
        record {
          all =
              record {
                first = end_follows key xs value f.first g.first k h.first;
                second = ended_follows key xs value f.first f.second g.second k inside.second h.second;
                third = ended_follows key xs value f.first f.third g.third k inside.third h.third;
                fourth = ended_follows key xs value f.first f.fourth g.fourth k inside.fourth h.fourth;
              };
          narrower = omega (arith, h.first.low, h.first.high, going);
        }

    module _ (counts : List ℕ) (low high shift : ℕ) (begins : Least key xs f.first.low f.first.high low)
        (ends : Most key xs low f.first.high high) (counted : Counted key xs low high (2 ^ shift) counts) (span : high - low < 256 * 2 ^ shift)
        (few : (k : ℕ) → below key k xs < 2 ^ 64) where
      leads_with : (s : Search) → Inside key xs s → SameKeys s f.first → Leads counts low high shift s
      leads_with s h e =
          let open_too : s.low < s.high = omega (arith, e.0, e.1, going) in
          leads_from key xs counts low high shift s h open_too
          (begins.none_before ∙ ap (λ (k : ℕ). below key k xs) (sym e.0))
          (ends.none_after ∙ ap (λ (k : ℕ). below key (k + 1) xs) (sym e.1))
          ends.from counted span
          (omega (arith, h.through_is open_too, few (s.high + 1)))

      pub leads_all : LeadsAll counts low high shift f
      leads_all =
          record {
            first = leads_with f.first inside.first (refl, refl);
            second = leads_with f.second inside.second;
            third = leads_with f.third inside.third;
            fourth = leads_with f.fourth inside.fourth;
          }

      led_follows_with : (s t : Search) → Inside key xs s → SameKeys s f.first → Led counts low high shift s t → Follows key xs s t
      led_follows_with s t h e l =
          led_follows key xs counts low high shift s h (omega (arith, e.0, e.1, going))
          (begins.none_before ∙ ap (λ (k : ℕ). below key k xs) (sym e.0))
          (ends.none_after ∙ ap (λ (k : ℕ). below key (k + 1) xs) (sym e.1))
          ends.from counted span t l

      led_with_follows : (s t : Search) → Inside key xs s → LedWith counts low high shift f.first s t → Follows key xs s t
      led_with_follows s t h = ⊎_elim (λ w. led_follows_with s t h w.0 w.1) (λ e. rw e (follows_self key xs s h))

      pub all_led-stepped : (g : Four) → (shift ≡ 0) ⊎ (2 ^ shift ≤ high - low) → AllLed counts low high shift f g → Stepped key xs f g
      all_led-stepped g least h =
          record {
            all =
                record {
                  first = led_follows_with f.first g.first inside.first (refl, refl) h.first;
                  second = led_with_follows f.second g.second inside.second h.second;
                  third = led_with_follows f.third g.third inside.third h.third;
                  fourth = led_with_follows f.fourth g.fourth inside.fourth h.fourth;
                };
            narrower =
                led_narrower key xs counts low high shift f.first inside.first going begins.none_before ends.none_after ends.from
                counted span g.first h.first least begins.from ends.to;
          }

  pub turned_inside : (f : Four) → AllInside key xs f → AllInside key xs (turned_once f)
  turned_inside f h = record { first = h.second; second = h.third; third = h.fourth; fourth = h.first }

  -- each search is brought to its end in its turn, and stays there
  module _ (f g₁ g₂ g₃ g₄ : Four) (h₁ : AllFollow key xs f g₁) (h₂ : AllFollow key xs (turned_once g₁) g₂) (h₃ : AllFollow key xs (turned_once g₂) g₃)
      (h₄ : AllFollow key xs (turned_once g₃) g₄) where
    pub four_turns_follow : AllFollow key xs f (turned_once g₄)
    four_turns_follow =
        let on : (s t u : Search) → Follows key xs s t → Follows key xs t u → Follows key xs s u = follows_on key xs in
        record {
          first = on _ _ _ (on _ _ _ (on _ _ _ h₁.first h₂.fourth) h₃.third) h₄.second;
          second = on _ _ _ (on _ _ _ (on _ _ _ h₁.second h₂.first) h₃.fourth) h₄.third;
          third = on _ _ _ (on _ _ _ (on _ _ _ h₁.third h₂.second) h₃.first) h₄.fourth;
          fourth = on _ _ _ (on _ _ _ (on _ _ _ h₁.fourth h₂.third) h₃.second) h₄.first;
        }

    pub four_turns_end : g₁.first.low ≡ g₁.first.high → g₂.first.low ≡ g₂.first.high → g₃.first.low ≡ g₃.first.high
        → g₄.first.low ≡ g₄.first.high → AllAtEnd (turned_once g₄)
    four_turns_end e₁ e₂ e₃ e₄ =
        record {
          first = h₄.second.stays_ended (h₃.third.stays_ended (h₂.fourth.stays_ended e₁));
          second = h₄.third.stays_ended (h₃.fourth.stays_ended e₂);
          third = h₄.fourth.stays_ended e₃;
          fourth = e₄;
        }

  -- a search at its end has the key of its rank
  pub end_key : (s t : Search) (rank : ℕ) → Follows key xs s t → s.rank ≡ rank → t.low ≡ t.high → KeyOfRank key xs rank t.low
  end_key s t rank h e q =
      let same : t.rank ≡ rank = h.same_rank ∙ e in
      record { few_below = rw same at h.inside.few_below; enough_through = rw (← q, same) at h.inside.enough_through }

-- the search among all keys
pub whole_inside : (bias count rank : ℕ) (xs : List ℕ) → count ≤ length xs → rank < count
    → Inside (shifted bias) (take count xs) (whole count rank)
whole_inside bias count rank xs l m =
    record {
      ordered = omega arith;
      few_below = omega (arith, below_none (shifted bias) (take count xs));
      enough_through = omega (arith, m, below-whole bias count xs l);
      before_is = λ g. sym (below_none (shifted bias) (take count xs));
      through_is = λ g. sym (below-whole bias count xs l);
    }
