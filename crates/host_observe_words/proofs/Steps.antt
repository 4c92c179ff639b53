-- What the library's `observe` leaves on the ledger that the words say, as the number, words and rooms that are left. Assumes nothing.
use mathlib.Core.Path.{◌≡◌, refl, sym, ap, ◌∙◌, subst}
use mathlib.Core.Bool.{true, ◌&&◌}
use mathlib.Core.List.{List}
use Prim.Native.Nat.{ℕ, zero, suc, ◌+◌, ◌≤◌}
use native.Mathlib.Omega.{arith}
use borrow.Author.Tests.{leb-true}
use mir.Syntax.{w64}
use mir.Val.{Fits}
use lib.IntN.{pos}
use lib.ListN.{length, get_or}
use lib.Seq.{sets}
use Rattle.limits.specs.Limits.{capacity}
use Rattle.call_types.specs.declared.ReplyKey.{ReplyKey}
use Rattle.call_types.specs.declared.ReplyObservation.{ReplyObservation}
use Rattle.chains.specs.declared.Ring.{Ring}
use Rattle.chains.specs.Hash.{number_hash}
use Rattle.ranges.specs.Ranges.{time_fits, reference_within, offset_within, estimates_fit, in_range}
use Rattle.correlation.specs.Class.{OffsetInRange}
use Rattle.key_ring.specs.Table.{hash_of}
use Rattle.replies.proofs.Tested.{both}
use Rattle.delays.specs.declared.Delays.{Delays}
use Rattle.delays.specs.Bounds as delays
use Rattle.delays.specs.Delays.{recorded_of}
use Rattle.delays.specs.Sums.{nanoseconds_of}
use Rattle.direct.specs.declared.Direct.{Direct}
use Rattle.direct.specs.Outcomes as direct
use Rattle.follow_ups.specs.declared.FollowUps.{FollowUps}
use Rattle.follow_ups.specs.Bounds as follow_ups
use Rattle.ledger_state.specs.State.{hash_words}
use Rattle.ledger_steps.specs.Refusals.{refusal_of_observe}
use Rattle.ledger_steps.specs.Observe.{direct_in, follow_in, own_in, ObserveOutcome, observe_in, observe_on}
use Rattle.ledger_steps.specs.Calls.{observe_by, observe_to}
use Rattle.ledger_checks.specs.Sound.{SoundObserve}
use Rattle.host_observation.specs.Observation.{observation_at}
use Rattle.host_ledger.specs.Parts.{delays_at, delays_words, direct_at, follow_at}
use Rattle.host_ledger.specs.Words.{tables_at, ledger_at}
use Rattle.host_ledger.specs.Left.{follow_stored, observed_words}
use Rattle.host_direct_loss.specs.Left.{DirectLeft, direct_left, direct_leaves}
use Rattle.host_observe_words.specs.Observe.{FollowLeft, follow_left, follow_leaves, Left, left, left_by, served_leaves, observe_leaves}
use Rattle.host_observe_words.proofs.Parts.{counted, timed, rtt_same, direct-same, follow-same}

-- ---- the parts in their order

module _ (N : ℕ) (by_number : ℕ → ℕ) (w offsets : List ℕ) (links : List (List ℕ)) (o : ReplyObservation) where
  abbrev pub rtt : Delays
  rtt = recorded_of (delays_at 25 w) (nanoseconds_of (pos o.rtt))

  -- the words after the round trip
  pub timed_as : (w₂ : List ℕ) → w₂ ≡ sets (counted w) 25 (delays_words (recorded_of (delays_at 25 (counted w)) (nanoseconds_of (pos o.rtt)))) → w₂ ≡ timed w rtt
  timed_as w₂ e = e ∙ ap (λ (d : Delays). sets (counted w) 25 (delays_words (recorded_of d (nanoseconds_of (pos o.rtt))))) (rtt_same w)

  -- direct loss is that of the words before
  pub direct_as : (w₂ w₃ offsets' : List ℕ) (links' : List (List ℕ)) → w₂ ≡ timed w rtt
      → direct_left w₃ offsets' links' ≡ direct_leaves o.counters w₂ (direct_in N by_number (direct_at 33 w₂) offsets links o)
      → direct_left w₃ offsets' links' ≡ direct_leaves o.counters (timed w rtt) (direct_in N by_number (direct_at 33 w) offsets links o)
  direct_as w₂ w₃ offsets' links' e₁ e₂ =
      e₂
      ∙ ap (λ (v : List ℕ). direct_leaves o.counters v (direct_in N by_number (direct_at 33 v) offsets links o)) e₁
      ∙ ap (λ (d : Direct). direct_leaves o.counters (timed w rtt) (direct_in N by_number d offsets links o)) (direct-same w rtt)

  module _ (w₃ offsets' : List ℕ) (links' : List (List ℕ)) (e₃ : direct_left w₃ offsets' links' ≡ direct_leaves o.counters (timed w rtt) (direct_in N by_number (direct_at 33 w) offsets links o)) where
    -- so are the follow-ups
    pub follow-before : follow_at 44 w₃ ≡ follow_at 44 w
    follow-before =
        ap (λ (x : DirectLeft). follow_at 44 x.ledger) e₃ ∙ follow-same o.counters w rtt (direct_in N by_number (direct_at 33 w) offsets links o).direct

    pub parts_as : (by_key : ReplyKey → ℕ) (keys slots : List (List ℕ)) (w₄ : List ℕ) (slots' slots'' : List (List ℕ))
        → follow_left w₄ slots' ≡ follow_leaves w₃ (follow_in N by_key by_number (follow_at 44 w₃) (ledger_at w).tables.keys keys slots links' o)
        → slots'' ≡ own_in N by_key by_number (ledger_at w).copies (ledger_at w).tables.keys keys slots' links' o
        → left 0 w₄ slots'' offsets' links' ≡ served_leaves o.counters w (observe_in N by_key by_number (ledger_at w) keys slots offsets links o)
    unfolding observe_in observed_words ledger_at tables_at
    parts_as by_key keys slots w₄ slots' slots'' e₄ e₅ =
        let ring = (ledger_at w).tables.keys in
        let copies = (ledger_at w).copies in
        let followed = e₄ ∙ ap (λ (f : FollowUps). follow_leaves w₃ (follow_in N by_key by_number f ring keys slots links' o)) follow-before in
        (λ i. left 0 w₄ (e₅ i) offsets' links')
        ∙ ap (λ (x : FollowLeft). left 0 x.ledger (own_in N by_key by_number copies ring keys x.slots links' o) offsets' links') followed
        ∙ ap
        (λ (x : DirectLeft).
        left 0 (follow_stored x.ledger (follow_in N by_key by_number (follow_at 44 w) ring keys slots x.links o).follow)
        (own_in N by_key by_number copies ring keys (follow_in N by_key by_number (follow_at 44 w) ring keys slots x.links o).slots x.links o)
        x.offsets x.links)
        e₃

-- the same with the words of the ledger's hash, its ring and its copies, as they were read
pub observed-as :
    (w : List ℕ) (keys slots : List (List ℕ)) (offsets : List ℕ) (links : List (List ℕ)) (o : ReplyObservation)
    (secret : List ℕ) (ring : Ring) (copies : ℕ) (w₂ w₃ w₄ offsets' : List ℕ) (links' slots' slots'' : List (List ℕ))
    → secret ≡ hash_words (ledger_at w) → ring ≡ (ledger_at w).tables.keys → copies ≡ (ledger_at w).copies
    → w₂ ≡ sets (counted w) 25 (delays_words (recorded_of (delays_at 25 (counted w)) (nanoseconds_of (pos o.rtt))))
    → direct_left w₃ offsets' links' ≡ direct_leaves o.counters w₂ (direct_in capacity (number_hash secret) (direct_at 33 w₂) offsets links o)
    → follow_left w₄ slots' ≡ follow_leaves w₃ (follow_in capacity (hash_of secret) (number_hash secret) (follow_at 44 w₃) ring keys slots links' o)
    → slots'' ≡ own_in capacity (hash_of secret) (number_hash secret) copies ring keys slots' links' o
    → left 0 w₄ slots'' offsets' links' ≡ served_leaves o.counters w (observe_on (ledger_at w) keys slots offsets links o)
observed-as w keys slots offsets links o secret ring copies w₂ w₃ w₄ offsets' links' slots' slots'' s r c e₂ e₃ e₄ e₅ =
    let by_key = hash_of secret in
    let by_number = number_hash secret in
    let timed' = timed_as capacity by_number w offsets links o w₂ e₂ in
    let direct' = direct_as capacity by_number w offsets links o w₂ w₃ offsets' links' timed' e₃ in
    parts_as capacity by_number w offsets links o w₃ offsets' links' direct' by_key keys slots w₄ slots' slots''
    (e₄ ∙ ap (λ (x : Ring). follow_leaves w₃ (follow_in capacity by_key by_number (follow_at 44 w₃) x keys slots links' o)) r)
    (e₅ ∙ (λ i. own_in capacity by_key by_number (c i) (r i) keys slots' links' o))
    ∙ ap (λ (h : List ℕ). served_leaves o.counters w (observe_in capacity (hash_of h) (number_hash h) (ledger_at w) keys slots offsets links o)) s

-- ---- what the tests show to each part

-- what the range tests show to the follow-up's part
pub follow_ranged : (o : ReplyObservation) → in_range o ≡ true → OffsetInRange o.offset
unfolding in_range
follow_ranged o h =
    let a = time_fits o.t4 in
    let b = reference_within o.reference in
    let c = offset_within o.offset in
    let x = both (a && b && c) (estimates_fit o.quality) h in
    leb-true _ _ (both (a && b) c x.0).1

module _ (w : List ℕ) (keys : List (List ℕ)) (slots offsets links : ℕ) (o : ReplyObservation) (sound : SoundObserve (ledger_at w) keys slots offsets links o) where
  -- one call more can be counted
  pub calls_fit : Fits w64 (get_or w 5 0 + 1)
  unfolding ledger_at
  calls_fit = record { fits = omega (arith, sound.counts.calls-below) }

  pub rtt_bounded : delays.Bounded (delays_at 25 (counted w))
  unfolding ledger_at
  rtt_bounded = subst delays.Bounded (sym (rtt_same w)) sound.counts.rtt_in

  pub direct_bounded : (w₂ : List ℕ) → w₂ ≡ sets (counted w) 25 (delays_words (recorded_of (delays_at 25 (counted w)) (nanoseconds_of (pos o.rtt))))
      → direct.InBounds (direct_at 33 w₂).counts × (direct.seen_in (direct_at 33 w₂).window ≤ 4096)
  unfolding ledger_at
  direct_bounded w₂ e =
      let same : direct_at 33 w₂ ≡ direct_at 33 w = ap (direct_at 33) e ∙ direct-same w (recorded_of (delays_at 25 (counted w)) (nanoseconds_of (pos o.rtt))) in
      subst (λ (d : Direct). direct.InBounds d.counts × (direct.seen_in d.window ≤ 4096)) (sym same) (sound.counts.direct_in, sound.rings.seen_in)

  pub follow-bounded :
      (by_number : ℕ → ℕ) (w₂ w₃ offsets₁ offsets' : List ℕ) (links₁ links' : List (List ℕ))
      → w₂ ≡ sets (counted w) 25 (delays_words (recorded_of (delays_at 25 (counted w)) (nanoseconds_of (pos o.rtt))))
      → direct_left w₃ offsets' links' ≡ direct_leaves o.counters w₂ (direct_in capacity by_number (direct_at 33 w₂) offsets₁ links₁ o)
      → follow_ups.InBounds (follow_at 44 w₃)
  unfolding ledger_at
  follow-bounded by_number w₂ w₃ offsets₁ offsets' links₁ links' e₂ e₃ =
      let timed' = timed_as capacity by_number w offsets₁ links₁ o w₂ e₂ in
      let direct' = direct_as capacity by_number w offsets₁ links₁ o w₂ w₃ offsets' links' timed' e₃ in
      subst follow_ups.InBounds (sym (follow-before capacity by_number w offsets₁ links₁ o w₃ offsets' links' direct')) sound.counts.follow_in

-- ---- the call

module _ (w : List ℕ) (keys slots : List (List ℕ)) (offsets : List ℕ) (links : List (List ℕ)) (told : List ℕ) (o : ReplyObservation) (e : o ≡ observation_at told) where
  -- what the definition says of an observation that the words say
  said : left_by (observe_to (ledger_at w) keys slots offsets links o) o.counters w ≡ observe_leaves w keys slots offsets links told
  unfolding observe_leaves
  said = ap (λ (x : ReplyObservation). left_by (observe_to (ledger_at w) keys slots offsets links x) x.counters w) e

  refused-by : (n : ℕ) (out : ObserveOutcome) → (n ≡ 0 → ⊥) → left n w slots offsets links ≡ left_by (observe_by n out slots offsets links) o.counters w
  refused-by zero out h = absurd (h refl)
  refused-by (suc n) out h = refl

  pub refused_as :
      (n : ℕ) → n ≡ refusal_of_observe (ledger_at w) keys (length slots) (length offsets) (length links) o → (n ≡ 0 → ⊥)
      → left n w slots offsets links ≡ observe_leaves w keys slots offsets links told
  unfolding observe_to
  refused_as n z h =
      refused-by n (observe_on (ledger_at w) keys slots offsets links o) h
      ∙ ap (λ (k : ℕ). left_by (observe_by k (observe_on (ledger_at w) keys slots offsets links o) slots offsets links) o.counters w) z
      ∙ said

  pub served-as :
      (out : Left) → refusal_of_observe (ledger_at w) keys (length slots) (length offsets) (length links) o ≡ 0
      → out ≡ served_leaves o.counters w (observe_on (ledger_at w) keys slots offsets links o)
      → out ≡ observe_leaves w keys slots offsets links told
  unfolding observe_to
  served-as out z h =
      h
      ∙ sym (ap (λ (k : ℕ). left_by (observe_by k (observe_on (ledger_at w) keys slots offsets links o) slots offsets links) o.counters w) z)
      ∙ said
