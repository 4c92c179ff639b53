-- The contract determines the number and the answer: two exits that meet it are equal; 5 is answered exactly where a ring is out of place, and changes nothing.
-- Assumes nothing.
use mathlib.Core.Path.{◌≡◌, refl, sym, ap, ◌∙◌}
use mathlib.Core.Bool.{Bool, true, false, cond}
use mathlib.Core.List.{List, [], ◌∷◌}
use Prim.Native.Nat.{ℕ}
use contract.Lifetimes.{Lfts}
use borrow.Fn.World as World
use borrow.Fn.Kinds as Kinds'
use denote.Triple.Clauses as Clauses
use Rattle.limits.specs.Refusals.{wrong_room}
use Rattle.ledger_state.specs.BurstWait.{burst_wait}
use Rattle.ledger_state.specs.Refusal.{rings_fit}
use Rattle.host_numbers.specs.Numbers.{flag_word}
use Rattle.host_ledger.specs.Words.{ledger_at}
use Rattle.host_burst_wait.specs.BurstWait.{Left, left, burst_wait_leaves}
use Rattle.host_burst_wait.specs.contracts.ambrulicciu_needs_burst_wait as burst-wait
use Rattle.host_burst_wait.proofs.ambrulicciu_needs_burst_wait.Kinds as burst-wait-kinds
use Rattle.host_burst_wait.proofs.ambrulicciu_needs_burst_wait.Reads as burst-wait-reads

pub burst-wait-unique :
    (κs : Lfts 2) (a : World.ArgsD burst-wait.signature κs) (r₁ r₂ : World.ResD burst-wait.signature κs)
    (s₁ s₂ : Clauses.AtExit (Kinds'.ended_of 2 burst-wait-kinds.ps burst-wait-kinds.r) κs)
    → burst-wait-reads.Post κs a r₁ s₁ → burst-wait-reads.Post κs a r₂ s₂
    → (r₁ ≡ r₂) × (s₁.1.0.now ≡ s₂.1.0.now)
burst-wait-unique κs a r₁ r₂ s₁ s₂ p q =
    let e = p ∙ sym q in
    (ap (λ (x : Left). x.number) e, ap (λ (x : Left). x.answer) e)

pub burst_wait-number : (ledger answer : List ℕ) → (burst_wait_leaves ledger answer).number ≡ cond (rings_fit (ledger_at ledger)) 0 wrong_room
unfolding burst_wait_leaves
burst_wait-number ledger answer = by (rings_fit (ledger_at ledger))
  where
    by : (b : Bool) → (cond b (left 0 (flag_word (burst_wait (ledger_at ledger)) ∷ [])) (left wrong_room answer)).number ≡ cond b 0 wrong_room
    by true = refl
    by false = refl

pub burst_wait-refused : (ledger answer : List ℕ) → rings_fit (ledger_at ledger) ≡ false → burst_wait_leaves ledger answer ≡ left wrong_room answer
unfolding burst_wait_leaves
burst_wait-refused ledger answer h = ap (λ (b : Bool). cond b (left 0 (flag_word (burst_wait (ledger_at ledger)) ∷ [])) (left wrong_room answer)) h
