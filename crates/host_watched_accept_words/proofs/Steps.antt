-- The ways through the ledger's part, put together from what its callees promise. Assumes nothing.
use mathlib.Core.Path.{◌≡◌, sym, ap, ◌∙◌}
use mathlib.Core.Bool.{true, ◌&&◌}
use mathlib.Core.List.{List}
use Prim.Native.Nat.{ℕ}
use lib.ListN.{length}
use Rattle.call_types.specs.declared.Reply.{Reply}
use Rattle.ledger_state.specs.Refusal.{first_refusal, sized, rings_fit, room_for_call}
use Rattle.ledger_steps.specs.Refusals.{earlier, refusal_of_accept}
use Rattle.ledger_steps.specs.Accept.{accept_on}
use Rattle.ledger_steps.specs.Calls.{accept_to}
use Rattle.ledger_checks.specs.Sound.{SoundAccept}
use Rattle.ledger_checks.proofs.Sound.{accept_sound}
use Rattle.ledger_accept.proofs.Steps.{call_served, call_refused}
use Rattle.host_ledger.specs.Words.{ledger_at}
use Rattle.host_accept_words.specs.Accept.{accept_left, accept_from, served_leaves}
use Rattle.host_watched_accept_words.specs.Calls.{zeros}

-- own: what the ledger's tests gave; n: the first of both refusals
module _ (other : ℕ) (w : List ℕ) (keys slots probes links : List (List ℕ)) (own n : ℕ)
    (tested : own ≡ first_refusal (sized (length keys) && sized (length slots) && sized (length probes) && sized (length links) && rings_fit (ledger_at w)) true true (room_for_call (ledger_at w)) true true)
    (first : n ≡ earlier own other) where
  number_is : n ≡ refusal_of_accept other (ledger_at w) (length keys) (length slots) (length probes) (length links)
  unfolding refusal_of_accept
  number_is = first ∙ ap (λ (k : ℕ). earlier k other) tested

  pub sound : n ≡ 0 → SoundAccept (ledger_at w) (length keys) (length slots) (length probes) (length links)
  sound z = accept_sound other (ledger_at w) (length keys) (length slots) (length probes) (length links) (sym number_is ∙ z)

  module _ (a : Reply) where
    pub refused_is : (n ≡ 0 → ⊥) → accept_left n w keys slots probes links zeros ≡ accept_from w zeros (accept_to other (ledger_at w) keys slots probes links a)
    refused_is h = ap (accept_from w zeros) (call_refused other (ledger_at w) keys slots probes links a n number_is h)

    pub served_is : (w' : List ℕ) (keys' slots' probes' links' : List (List ℕ)) (words : List ℕ) → n ≡ 0
        → accept_left 0 w' keys' slots' probes' links' words ≡ served_leaves w (accept_on (ledger_at w) keys slots probes links a)
        → accept_left n w' keys' slots' probes' links' words ≡ accept_from w zeros (accept_to other (ledger_at w) keys slots probes links a)
    served_is w' keys' slots' probes' links' words z h =
        (λ i. accept_left (z i) w' keys' slots' probes' links' words)
        ∙ h
        ∙ ap (accept_from w zeros) (call_served other (ledger_at w) keys slots probes links a n number_is z)
