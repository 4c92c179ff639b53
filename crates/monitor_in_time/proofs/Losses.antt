-- What `advance` does to the queue and to the losses: it pops the front probes that are due, and each is one loss, saturating.
-- Assumes nothing.
use mathlib.Core.Path.{◌≡◌, refl, ap, ◌∙◌}
use mathlib.Core.Bool.{Bool, true, false}
use mathlib.Core.List.{List, [], ◌∷◌}
use Prim.Native.Nat.{ℕ, suc, ◌+◌, ◌≤◌, ◌<◌}
use native.Mathlib.Omega.{arith}
use lib.Dec.{leb}
use lib.ListN.{length}
use borrow.Author.Tests.{leb-true, leb-false}
use Rattle.probe_queue.specs.Queue.{choose, leading}
use Rattle.monitor.specs.declared.Summary.{Summary}
use Rattle.monitor.specs.States.{most_losses, saturated, loses}
use Rattle.monitor_model.specs.Plain.{Sent, Marks, remove, lose, advancing}
use Rattle.monitor_model.proofs.Losses.{loses_one, counts}
use Rattle.monitor_in_time.specs.InTime.{AllDue}

-- ---- the queue

-- how many front probes are due
abbrev pub due : ℕ → List Sent → ℕ
due now probes = leading (λ (x : Sent). leb x.deadline now) probes

-- where all are due, as many as are queued
pub all_due : (now : ℕ) (probes : List Sent) → AllDue now probes → due now probes ≡ length probes
all_due now [] d = refl
all_due now (x ∷ xs) d = go (leb x.deadline now) refl (all_due now xs d.1)
  where
    go : (b : Bool) → leb x.deadline now ≡ b → due now xs ≡ length xs → choose b (suc (due now xs)) 0 ≡ suc (length xs)
    go true e i = ap suc i
    go false e i = absurd (omega (arith, leb-false x.deadline now e, d.0))

-- what is left and what is popped is what was queued
pub left_and_due : (tr : Bool) (now : ℕ) (s : Summary) (probes : List Sent) (marks : Marks) → length (advancing tr now s probes marks).probes + due now probes ≡ length probes
left_and_due tr now s [] marks = refl
left_and_due tr now s (x ∷ xs) marks = go (leb x.deadline now) (left_and_due tr now (lose tr s) xs (remove x.sequence marks))
  where
    go : (b : Bool) → length (advancing tr now (lose tr s) xs (remove x.sequence marks)).probes + due now xs ≡ length xs
        → length (choose b (advancing tr now (lose tr s) xs (remove x.sequence marks)) (record { summary = s; probes = x ∷ xs; received = marks })).probes + choose b (suc (due now xs)) 0
        ≡ suc (length xs)
    go true i = omega (arith, i)
    go false i = omega arith

-- one loss for each
due-lost : (tr : Bool) (now : ℕ) (s : Summary) (probes : List Sent) (marks : Marks) → (advancing tr now s probes marks).summary ≡ loses_one tr (due now probes) s
due-lost tr now s [] marks = refl
due-lost tr now s (x ∷ xs) marks = go (leb x.deadline now) (due-lost tr now (lose tr s) xs (remove x.sequence marks))
  where
    go : (b : Bool) → (advancing tr now (lose tr s) xs (remove x.sequence marks)).summary ≡ loses_one tr (due now xs) (lose tr s)
        → (choose b (advancing tr now (lose tr s) xs (remove x.sequence marks)) (record { summary = s; probes = x ∷ xs; received = marks })).summary
        ≡ loses_one tr (choose b (suc (due now xs)) 0) s
    go true i = i
    go false i = refl

-- while transmitting, all at once
pub all_lost : (now : ℕ) (s : Summary) (probes : List Sent) (marks : Marks) → s.consecutive_losses ≤ most_losses → (advancing true now s probes marks).summary ≡ loses (due now probes) s
all_lost now s probes marks few = due-lost true now s probes marks ∙ counts true (due now probes) s few

-- ---- the losses

-- as many as come together, and no more than the largest u32
saturated_is : (l n : ℕ) → (saturated l n ≤ most_losses) × (saturated l n ≤ l + n) × (l + n ≤ most_losses → l + n ≤ saturated l n) × (most_losses ≤ l + n → most_losses ≤ saturated l n)
saturated_is l n = go (leb (l + n) most_losses) refl
  where
    go : (b : Bool) → leb (l + n) most_losses ≡ b
        → (choose b (l + n) most_losses ≤ most_losses) × (choose b (l + n) most_losses ≤ l + n) × (l + n ≤ most_losses → l + n ≤ choose b (l + n) most_losses) × (most_losses ≤ l + n → most_losses ≤ choose b (l + n) most_losses)
    go true e = (leb-true (l + n) most_losses e, omega arith, λ h. omega arith, λ h. h)
    go false e = (omega arith, omega (arith, leb-false (l + n) most_losses e), λ h. absurd (omega (arith, leb-false (l + n) most_losses e, h)), λ h. omega arith)

-- they get to a threshold exactly if they would without an end to u32
pub reaches : (l n k : ℕ) → k ≤ most_losses → k ≤ l + n → k ≤ saturated l n
reaches l n k h g = go (leb (l + n) most_losses)
  where
    go : (b : Bool) → k ≤ choose b (l + n) most_losses
    go true = g
    go false = h

pub short : (l n k : ℕ) → l + n < k → saturated l n < k
short l n k g = omega (arith, (saturated_is l n).1)

-- none more
pub saturated-none : (l : ℕ) → l ≤ most_losses → saturated l 0 ≡ l
saturated-none l h = let f = saturated_is l 0 in omega (arith, f.1, f.2 (omega arith))

-- they fit a u32 and do not fall
pub saturated_few : (l n : ℕ) → saturated l n ≤ most_losses
saturated_few l n = (saturated_is l n).0

pub saturated_more : (l n : ℕ) → l ≤ most_losses → l ≤ saturated l n
saturated_more l n h = reaches l n l h (omega arith)

-- some, and then some more
pub saturated_twice : (l a b : ℕ) → saturated (saturated l a) b ≡ saturated l (a + b)
saturated_twice l a b = go (leb (l + a) most_losses) (leb (l + (a + b)) most_losses) refl refl
  where
    go : (x z : Bool) → leb (l + a) most_losses ≡ x → leb (l + (a + b)) most_losses ≡ z → saturated (choose x (l + a) most_losses) b ≡ choose z (l + (a + b)) most_losses
    go true true p r = let f = saturated_is (l + a) b in omega (arith, f.1, f.2 (omega (arith, leb-true (l + (a + b)) most_losses r)))
    go true false p r = let f = saturated_is (l + a) b in omega (arith, f.0, f.3 (omega (arith, leb-false (l + (a + b)) most_losses r)))
    go false true p r = absurd (omega (arith, leb-false (l + a) most_losses p, leb-true (l + (a + b)) most_losses r))
    go false false p r = let f = saturated_is most_losses b in omega (arith, f.0, f.3 (omega arith))
