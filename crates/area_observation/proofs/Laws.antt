-- One item more, and the walk over all: what the proofs of the functions cite. Assumes nothing.
use Rattle.std.specs.Prelude.{Option, Some, None, Ok, Err}
use Rattle.limits.specs.declared.Refusal.{Refusal}
use Rattle.area_observation.specs.declared.Sighting.{Sighting}
use mathlib.Core.Path.{◌≡◌, refl, sym, ap, ◌∙◌}
use mathlib.Core.Bool.{Bool, true, false, ◌||◌, ◌&&◌, not, cond}
use mathlib.Core.List.{List, [], ◌∷◌}
use Prim.Native.Nat.{ℕ, zero, suc, ◌+◌, ◌/◌, ◌%◌, ◌≤◌, ◌<◌}
use native.Mathlib.Omega.{arith}
use lib.Dec.{eqb}
use lib.ListN.{length, get_or}
use borrow.Author.Tests.{eq-eqb, ne_eqb, eqb-true}
use Rattle.call_types.specs.declared.CounterPoint.{CounterPoint}
use Rattle.area_items.specs.Items.{Item, Reading, refused, items, before, kind_at, length_at, end_at, item_at, verdict_at, rest_of, area}
use Rattle.area_items.proofs.Laws.{good, rest_end, rest_bad, rest_good, five, seven}
use Rattle.area_fields.specs.declared.FollowUpItem.{FollowUpItem}
use Rattle.area_fields.specs.Fields.{counters_at, follow_up_at}
use Rattle.area_observation.specs.declared.Told.{Told}
use Rattle.area_observation.specs.declared.Found.{Found}
use Rattle.area_observation.specs.Told.{flagged, failed, usable, first_of, unknown_mode, counters_from, sighted_from, nothing, told_by, told_of, told}
use Rattle.area_observation.specs.Walk.{chosen_of, noted_of, malformed, pick, onward, fresh, walked, Inside, Safe}

-- ---- small parts

pub keeps_first : (first : ℕ) (taken : Bool) (place : ℕ) → (first ≡ 0 → ⊥) → first ≡ chosen_of first taken place
keeps_first zero taken place h = absurd (h refl)
keeps_first (suc n) taken place h = refl

pub takes_place : (first : ℕ) (taken : Bool) (place : ℕ) → first ≡ 0 → taken ≡ true → place ≡ chosen_of first taken place
takes_place first taken place h e = rw (h, e)

pub takes_none : (first : ℕ) (taken : Bool) (place : ℕ) → first ≡ 0 → taken ≡ false → 0 ≡ chosen_of first taken place
takes_none first taken place h e = rw (h, e)

pub noted-said : (f : Found) (flags kind place a b : ℕ) →
    let stopped = f.stopped || eqb (flags / 64 % 2) 1 in
    let passed = stopped || eqb (flags / 128 % 2) 1 in
    a ≡ chosen_of f.counters (not passed && eqb kind 5) place → b ≡ chosen_of f.follow (not passed && eqb kind 7) place
    → ◌≡◌ {A = Found} (record { failed = f.failed || eqb (flags / 32 % 2) 1; stopped = stopped; counters = a; follow = b }) (noted_of f flags kind place)
unfolding noted_of
noted-said f flags kind place a b e g = λ i. record { failed = f.failed || eqb (flags / 32 % 2) 1; stopped = f.stopped || eqb (flags / 64 % 2) 1; counters = e i; follow = g i }

module _ (bytes : List ℕ) (at : ℕ) where
  pub no_counters : at ≡ 0 → None ≡ counters_from bytes at
  unfolding counters_from
  no_counters h = rw (eq-eqb at 0 h)

  pub some_counters : (p : CounterPoint) → (at ≡ 0 → ⊥) → p ≡ counters_at bytes at → Some p ≡ counters_from bytes at
  unfolding counters_from
  some_counters p h e = rw (ne_eqb at 0 h) (ap Some e)

  pub no_follow_up : at ≡ 0 → None ≡ sighted_from bytes at
  unfolding sighted_from
  no_follow_up h = rw (eq-eqb at 0 h)

  pub some_follow_up : (f : FollowUpItem) (u : Bool) → (at ≡ 0 → ⊥) → f ≡ follow_up_at bytes at → u ≡ unknown_mode f.mode
      → Some (record { sequence = f.sequence; timestamp = f.timestamp; unknown = u }) ≡ sighted_from bytes at
  unfolding sighted_from
  some_follow_up f u h e k =
      rw (ne_eqb at 0 h)
      (ap (λ (b : Bool). Some (record { sequence = f.sequence; timestamp = f.timestamp; unknown = b })) k
      ∙ ap (λ (g : FollowUpItem). Some (record { sequence = g.sequence; timestamp = g.timestamp; unknown = unknown_mode g.mode })) e)

-- ---- one item more

or_again : (a x b : Bool) → a || (x || b) ≡ (a || x) || b
or_again true x b = refl
or_again false x b = refl

pick-none : (a : ℕ) → pick a 0 ≡ a
pick-none zero = refl
pick-none (suc a) = refl

nowhere : (s : Bool) → ◌≡◌ {A = ℕ} (cond s 0 0) 0
nowhere true = refl
nowhere false = refl

or_none : (a : Bool) → a || false ≡ a
or_none true = refl
or_none false = refl

-- the first place of a type, with one item more: it stops at a malformed one and skips one that was not recognized
place-step : (a : ℕ) (s m u q : Bool) (i : Item) (k : ℕ) (is : List Item) → eqb i.kind k ≡ q
    → pick a (cond s 0 (first_of k (cond m [] (cond u (usable is) (i ∷ usable is)))))
    ≡ pick (chosen_of a (not ((s || m) || u) && q) (i.start + 4)) (cond (s || m) 0 (first_of k (usable is)))
unfolding first_of
place-step (suc a) s m u q i k is e = refl
place-step zero true m u q i k is e = refl
place-step zero false true u q i k is e = refl
place-step zero false false true q i k is e = refl
place-step zero false false false true i k is e = ap (λ (b : Bool). cond b (i.start + 4) (first_of k (usable is))) e ∙ sym (place (i.start + 4) (first_of k (usable is)) (λ z. omega arith))
  where
    place : (n b : ℕ) → (n ≡ 0 → ⊥) → pick n b ≡ n
    place zero b h = absurd (h refl)
    place (suc n) b h = refl
place-step zero false false false false i k is e = ap (λ (b : Bool). cond b (i.start + 4) (first_of k (usable is))) e

pub onward_one : (f : Found) (i : Item) (is : List Item) → onward f (i ∷ is) ≡ onward (noted_of f i.flags i.kind (i.start + 4)) is
unfolding noted_of failed malformed usable
onward_one f i is =
    let a = or_again f.failed (flagged 32 i) (failed is) in
    let b = or_again f.stopped (flagged 64 i) (malformed is) in
    let c = place-step f.counters f.stopped (flagged 64 i) (flagged 128 i) (eqb i.kind 5) i 5 is refl in
    let d = place-step f.follow f.stopped (flagged 64 i) (flagged 128 i) (eqb i.kind 7) i 7 is refl in
    λ j. record { failed = a j; stopped = b j; counters = c j; follow = d j }

pub onward-none : (f : Found) → onward f [] ≡ f
unfolding failed malformed usable first_of
onward-none f =
    let a = or_none f.failed in
    let b = or_none f.stopped in
    let c = ap (pick f.counters) (nowhere f.stopped) ∙ pick-none f.counters in
    let d = ap (pick f.follow) (nowhere f.stopped) ∙ pick-none f.follow in
    λ j. record { failed = a j; stopped = b j; counters = c j; follow = d j }

-- ---- the walk

pub walk_from : (bytes : List ℕ) → walked fresh (area bytes) ≡ walked fresh (rest_of bytes 0)
unfolding area
walk_from bytes = refl

walk_one : (f : Found) (i : Item) (r : Reading) → walked f (before i r) ≡ walked (noted_of f i.flags i.kind (i.start + 4)) r
walk_one f i (refused e) = refl
walk_one f i (items is) = ap Ok (onward_one f i is)

module _ (bytes : List ℕ) (at : ℕ) (f : Found) (so_far : walked fresh (area bytes) ≡ walked f (rest_of bytes at)) (h : at < length bytes) where
  pub walk-bad : (e : Refusal) → Err e ≡ verdict_at bytes at → Err e ≡ walked fresh (area bytes)
  walk-bad e is = sym (so_far ∙ ap (walked f) (rest_bad bytes at h e is))

  pub walk_more : Ok tt ≡ verdict_at bytes at → (g : Found) (n : ℕ) → g ≡ noted_of f (get_or bytes at 0) (kind_at bytes at) (at + 4) → n ≡ end_at bytes at → walked fresh (area bytes) ≡ walked g (rest_of bytes n)
  walk_more right g n is end =
      so_far
      ∙ ap (walked f) (rest_good bytes at h right)
      ∙ walk_one f (item_at bytes at) (rest_of bytes (end_at bytes at))
      ∙ ap (λ (x : Found). walked x (rest_of bytes (end_at bytes at))) (sym is)
      ∙ ap (λ (m : ℕ). walked g (rest_of bytes m)) (sym end)

pub walk_all : (bytes : List ℕ) (at : ℕ) (f : Found) → walked fresh (area bytes) ≡ walked f (rest_of bytes at) → length bytes ≤ at → Ok f ≡ walked fresh (area bytes)
walk_all bytes at f so_far h = sym (so_far ∙ ap (walked f) (rest_end bytes at h) ∙ ap Ok (onward-none f))

-- ---- what was found lies within the bytes

inside_chosen : (n : ℕ) (bytes : List ℕ) (a : ℕ) (t : Bool) (p : ℕ) → Inside n bytes a → (t ≡ true → p + n ≤ length bytes) → Inside n bytes (chosen_of a t p)
inside_chosen n bytes zero true p ok new h = new refl
inside_chosen n bytes zero false p ok new h = absurd (h refl)
inside_chosen n bytes (suc a) t p ok new h = ok h

second : (a b : Bool) → a && b ≡ true → b ≡ true
second true b e = e
second false b e = let z : ◌≡◌ {A = ℕ} 0 1 = cc in absurd (omega arith)

module _ (bytes : List ℕ) (at : ℕ) (right : verdict_at bytes at ≡ Ok tt) where
  five_inside : eqb (kind_at bytes at) 5 ≡ true → at + 4 + 12 ≤ length bytes
  five_inside e =
      let g = good bytes at right in
      let l = eqb-true (length_at bytes at) 12 (five (kind_at bytes at) (length_at bytes at) (eqb-true (kind_at bytes at) 5 e) ∙ g.2) in
      omega (arith, g.1, l)

  seven_inside : eqb (kind_at bytes at) 7 ≡ true → at + 4 + 16 ≤ length bytes
  seven_inside e =
      let g = good bytes at right in
      let k = eqb-true (kind_at bytes at) 7 e in
      let l = eqb-true (length_at bytes at) 16 (seven (kind_at bytes at) (length_at bytes at) (λ z. omega (arith, k, z)) k ∙ g.2) in
      omega (arith, g.1, l)

  pub safe_more : (f g : Found) → Safe bytes f → g ≡ noted_of f (get_or bytes at 0) (kind_at bytes at) (at + 4) → Safe bytes g
  unfolding noted_of
  safe_more f g ok is =
      let stopped = f.stopped || eqb (get_or bytes at 0 / 64 % 2) 1 in
      let passed = stopped || eqb (get_or bytes at 0 / 128 % 2) 1 in
      let c : g.counters ≡ chosen_of f.counters (not passed && eqb (kind_at bytes at) 5) (at + 4) = ap (λ (x : Found). x.counters) is in
      let d : g.follow ≡ chosen_of f.follow (not passed && eqb (kind_at bytes at) 7) (at + 4) = ap (λ (x : Found). x.follow) is in (
        rw c (inside_chosen 12 bytes f.counters (not passed && eqb (kind_at bytes at) 5) (at + 4) ok.0 (λ t. five_inside (second (not passed) (eqb (kind_at bytes at) 5) t))),
        rw d (inside_chosen 16 bytes f.follow (not passed && eqb (kind_at bytes at) 7) (at + 4) ok.1 (λ t. seven_inside (second (not passed) (eqb (kind_at bytes at) 7) t))),
      )

-- ---- the answer

module _ (bytes : List ℕ) where
  pub told-bad : (e : Refusal) → Err e ≡ walked fresh (area bytes) → Err e ≡ told bytes
  unfolding told
  told-bad e is = by (area bytes) is
    where
      by : (r : Reading) → Err e ≡ walked fresh r → Err e ≡ told_of bytes r
      by (refused d) h = cc
      by (items is) h = absurd (cc)

  over_is : (f : Found) → Ok f ≡ walked fresh (area bytes) → (t : Told) → ((is : List Item) → f ≡ onward fresh is → t ≡ told_by bytes is) → Ok t ≡ told bytes
  unfolding told
  over_is f e t each = by (area bytes) e
    where
      by : (r : Reading) → Ok f ≡ walked fresh r → Ok t ≡ told_of bytes r
      by (refused d) h = absurd (cc)
      by (items is) h = ap Ok (each is (cc))

  pub told-nothing : (f : Found) → Ok f ≡ walked fresh (area bytes) → f.failed ≡ true → Ok nothing ≡ told bytes
  unfolding told_by
  told-nothing f e h = over_is f e nothing each
    where
      each : (is : List Item) → f ≡ onward fresh is → nothing ≡ told_by bytes is
      each is o = let b : failed is ≡ true = sym (ap (λ (x : Found). x.failed) o) ∙ h in rw b

  pub told_some : (f : Found) (c : Option CounterPoint) (s : Option Sighting) → Ok f ≡ walked fresh (area bytes) → f.failed ≡ false → c ≡ counters_from bytes f.counters → s ≡ sighted_from bytes f.follow
      → Ok (record { counters = c; follow = s }) ≡ told bytes
  unfolding told_by
  told_some f c s e h p q = over_is f e (record { counters = c; follow = s }) each
    where
      each : (is : List Item) → f ≡ onward fresh is → record { counters = c; follow = s } ≡ told_by bytes is
      each is o =
          let b : failed is ≡ false = sym (ap (λ (x : Found). x.failed) o) ∙ h in
          let x = p ∙ ap (λ (y : Found). counters_from bytes y.counters) o in
          let z = q ∙ ap (λ (y : Found). sighted_from bytes y.follow) o in
          rw b (λ i. record { counters = x i; follow = z i })
