-- The ways through `sent`, put together from what its callees promise. Assumes nothing.
use mathlib.Core.Path.{◌≡◌, sym, ap, ◌∙◌}
use mathlib.Core.Bool.{true, ◌&&◌}
use mathlib.Core.List.{List}
use Prim.Native.Nat.{ℕ}
use lib.ListN.{length}
use Rattle.call_types.specs.declared.SentProbe.{SentProbe}
use Rattle.ledger_state.specs.declared.Ledger.{Ledger}
use Rattle.ledger_state.specs.Refusal.{first_refusal, sized, rings_fit, room_for_call}
use Rattle.ledger_steps.specs.Refusals.{earlier, refusal_of_sent}
use Rattle.ledger_steps.specs.Sent.{sent_on}
use Rattle.ledger_steps.specs.Calls.{sent_by, sent_to}
use Rattle.ledger_checks.specs.Sound.{SoundSent}
use Rattle.ledger_checks.proofs.Sound.{sent_sound}
use Rattle.ledger_sent.specs.Left.{left}
use Rattle.ledger_sent.proofs.Steps as sent
use Rattle.host_ledger.specs.Words.{ledger_at}
use Rattle.host_ledger.specs.Left.{sent_words}
use Rattle.host_sent_words.specs.Sent.{sent_left, sent_from, served_leaves}

-- ---- a served call: l the ledger that the code took out of the words w, next and w', probes', links' what it left

pub served-left :
    (w : List ℕ) (probes links : List (List ℕ)) (s : SentProbe) (l next : Ledger) (w' : List ℕ) (probes' links' : List (List ℕ)) → l ≡ ledger_at w →
    left next probes' links' ≡ sent_on l probes links s → w' ≡ sent_words w next →
    sent_left 0 w' probes' links' ≡ served_leaves w (sent_on (ledger_at w) probes links s)
served-left w probes links s l next w' probes' links' hl h hw =
    ap (λ (v : List ℕ). sent_left 0 v probes' links') hw
    ∙ ap (served_leaves w) (h ∙ ap (λ (x : Ledger). sent_on x probes links s) hl)

-- ---- the call: own what the ledger's tests gave, other the monitor's refusal, n the first of both

module _ (other : ℕ) (w : List ℕ) (probes links : List (List ℕ)) (own n : ℕ)
    (tested : own ≡ first_refusal (sized (length probes) && sized (length links) && rings_fit (ledger_at w)) true true (room_for_call (ledger_at w)) true true)
    (first : n ≡ earlier own other) where
  number_is : n ≡ refusal_of_sent other (ledger_at w) (length probes) (length links)
  unfolding refusal_of_sent
  number_is = first ∙ ap (λ (k : ℕ). earlier k other) tested

  pub sound : n ≡ 0 → SoundSent (ledger_at w) (length probes) (length links)
  sound z = sent_sound other (ledger_at w) (length probes) (length links) (sym number_is ∙ z)

  module _ (s : SentProbe) where
    pub refused_is : (n ≡ 0 → ⊥) → sent_left n w probes links ≡ sent_from w (sent_to other (ledger_at w) probes links s)
    refused_is h = ap (sent_from w) (sent.refused_is other (ledger_at w) probes links s n number_is h)

    -- p: the probe that the code made
    pub served_is :
        (p : SentProbe) (w' : List ℕ) (probes' links' : List (List ℕ)) → n ≡ 0 → p ≡ s →
        sent_left 0 w' probes' links' ≡ served_leaves w (sent_on (ledger_at w) probes links p) →
        sent_left n w' probes' links' ≡ sent_from w (sent_to other (ledger_at w) probes links s)
    unfolding sent_to
    served_is p w' probes' links' z e h =
        (λ i. sent_left (z i) w' probes' links')
        ∙ h
        ∙ ap (λ (x : SentProbe). served_leaves w (sent_on (ledger_at w) probes links x)) e
        ∙ ap (λ (k : ℕ). sent_from w (sent_by k (sent_on (ledger_at w) probes links s) probes links)) (sym z ∙ number_is)
