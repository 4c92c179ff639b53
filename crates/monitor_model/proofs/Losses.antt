-- Losses one at a time, as the original counts them, and all at once.
-- Assumes nothing.
use mathlib.Core.Path.{◌≡◌, refl, sym, ap, subst, ◌∙◌}
use mathlib.Core.Bool.{Bool, true, false}
use Prim.Native.Nat.{ℕ, zero, suc, ◌+◌, ◌≤◌}
use native.Mathlib.Omega.{arith}
use lib.Dec.{leb, ltb}
use borrow.Author.Tests.{leb-true, leb-false, ltb-true, ltb-false}
use Rattle.probe_queue.specs.Queue.{choose}
use Rattle.monitor.specs.declared.State.TheVariants.{Failed}
use Rattle.monitor.specs.declared.Summary.{Summary}
use Rattle.monitor.specs.States.{most_losses, same, losing, enters, transition, failing, saturated, loses}
use Rattle.monitor_model.specs.Plain.{lose}

-- n losses one after another
abbrev pub loses_one : Bool → ℕ → Summary → Summary
loses_one tr zero s = s
loses_one tr (suc n) s = loses_one tr n (lose tr s)

-- one more of a number that saturates
abbrev one_more : ℕ → ℕ
one_more l = choose (ltb l most_losses) (l + 1) most_losses

one_is : (l : ℕ) (a b : Bool) → ltb l most_losses ≡ a → leb (l + 1) most_losses ≡ b → choose a (l + 1) most_losses ≡ choose b (l + 1) most_losses
one_is l true true ea eb = refl
one_is l true false ea eb = omega (arith, ltb-true l most_losses ea, leb-false (l + 1) most_losses eb)
one_is l false true ea eb = omega (arith, ltb-false l most_losses ea, leb-true (l + 1) most_losses eb)
one_is l false false ea eb = refl

more_is : (l k : ℕ) (a b d : Bool) → l ≤ most_losses → ltb l most_losses ≡ a → leb (choose a (l + 1) most_losses + suc k) most_losses ≡ b → leb (l + suc (suc k)) most_losses ≡ d
    → choose b (choose a (l + 1) most_losses + suc k) most_losses ≡ choose d (l + suc (suc k)) most_losses
more_is l k true true true h ea eb ed = omega arith
more_is l k true true false h ea eb ed = omega (arith, leb-true (l + 1 + suc k) most_losses eb, leb-false (l + suc (suc k)) most_losses ed)
more_is l k true false true h ea eb ed = omega (arith, leb-false (l + 1 + suc k) most_losses eb, leb-true (l + suc (suc k)) most_losses ed)
more_is l k true false false h ea eb ed = refl
more_is l k false true d h ea eb ed = let z : most_losses + suc k ≤ most_losses = leb-true (most_losses + suc k) most_losses eb in absurd (omega (arith, z))
more_is l k false false true h ea eb ed = omega (arith, ltb-false l most_losses ea, leb-true (l + suc (suc k)) most_losses ed)
more_is l k false false false h ea eb ed = refl

-- one and then more are as many at once
saturated_more : (l k : ℕ) → l ≤ most_losses → saturated (one_more l) (suc k) ≡ saturated l (suc (suc k))
saturated_more l k h = more_is l k (ltb l most_losses) (leb (one_more l + suc k) most_losses) (leb (l + suc (suc k)) most_losses) h refl refl refl

one_below : (l : ℕ) (a : Bool) → l ≤ most_losses → choose a (l + 1) most_losses ≤ most_losses → one_more l ≤ most_losses
one_below l a h e = by (ltb l most_losses) refl
  where
    by : (t : Bool) → ltb l most_losses ≡ t → choose t (l + 1) most_losses ≤ most_losses
    by true h2 = omega (arith, ltb-true l most_losses h2)
    by false h2 = omega arith

rises_by : (l k : ℕ) (a b : Bool) → ltb l most_losses ≡ a → leb (choose a (l + 1) most_losses + suc k) most_losses ≡ b → choose a (l + 1) most_losses ≤ choose b (choose a (l + 1) most_losses + suc k) most_losses
rises_by l k true true ea eb = omega arith
rises_by l k true false ea eb = omega (arith, ltb-true l most_losses ea)
rises_by l k false true ea eb = omega arith
rises_by l k false false ea eb = omega arith

losses_rise : (l k : ℕ) → one_more l ≤ saturated (one_more l) (suc k)
losses_rise l k = rises_by l k (ltb l most_losses) (leb (one_more l + suc k) most_losses) refl refl

-- failing keeps the losses
failing_losses : (s : Summary) → (failing s).consecutive_losses ≡ s.consecutive_losses
unfolding enters
failing_losses s = by (leb s.loss_threshold s.consecutive_losses) (same Failed s.state)
  where
    by : (a b : Bool) → (choose a (choose b s (enters Failed s)) s).consecutive_losses ≡ s.consecutive_losses
    by true true = refl
    by true false = refl
    by false b = refl

-- Failed at fewer losses, and then looked at again at more, is Failed once
again : (s : Summary) (l more : ℕ) (a b c : Bool) → l ≤ more → leb s.loss_threshold l ≡ a → same Failed s.state ≡ b → leb s.loss_threshold more ≡ c
    → failing (losing more (choose a (choose b (losing l s) (enters Failed (losing l s))) (losing l s))) ≡ choose c (choose b (losing more s) (enters Failed (losing more s))) (losing more s)
unfolding enters same
again s l more true true true h ea eb ec =
    ap (λ (t : Bool). choose t (transition Failed (losing more s)) (losing more s)) ec ∙ ap (λ (t : Bool). choose t (losing more s) (enters Failed (losing more s))) eb
again s l more true false true h ea eb ec = ap (λ (t : Bool). choose t (enters Failed (losing more s)) (enters Failed (losing more s))) ec
again s l more true b false h ea eb ec = absurd (omega (arith, leb-true s.loss_threshold l ea, leb-false s.loss_threshold more ec, h))
again s l more false b c h ea eb ec =
    ap (λ (t : Bool). choose t (transition Failed (losing more s)) (losing more s)) ec ∙ ap (λ (t : Bool). choose c (choose t (losing more s) (enters Failed (losing more s))) (losing more s)) eb

fails_once : (s : Summary) (l more : ℕ) → l ≤ more → failing (losing more (failing (losing l s))) ≡ failing (losing more s)
fails_once s l more h = again s l more (leb s.loss_threshold l) (same Failed s.state) (leb s.loss_threshold more) h refl refl refl

at_once : (n : ℕ) (s : Summary) → s.consecutive_losses ≤ most_losses → loses_one true n s ≡ loses n s
unfolding loses
at_once zero s h = refl
at_once (suc zero) s h =
    ap (λ (l : ℕ). failing (losing l s)) (one_is s.consecutive_losses (ltb s.consecutive_losses most_losses) (leb (s.consecutive_losses + 1) most_losses) refl refl)
at_once (suc (suc k)) s h =
    let l = s.consecutive_losses in
    at_once (suc k) (failing (losing (one_more l) s)) (subst (λ (n : ℕ). n ≤ most_losses) (sym (failing_losses (losing (one_more l) s))) (one_below l false h (one_le l h)))
    ∙ ap (λ (n : ℕ). failing (losing (saturated n (suc k)) (failing (losing (one_more l) s)))) (failing_losses (losing (one_more l) s))
    ∙ fails_once s (one_more l) (saturated (one_more l) (suc k)) (losses_rise l k)
    ∙ ap (λ (n : ℕ). failing (losing n s)) (saturated_more l k h)
  where
    one_le : (l : ℕ) → l ≤ most_losses → choose false (l + 1) most_losses ≤ most_losses
    one_le l h2 = omega arith

none-counted : (n : ℕ) (s : Summary) → loses_one false n s ≡ s
none-counted zero s = refl
none-counted (suc n) s = none-counted n s

pub counts : (tr : Bool) (n : ℕ) (s : Summary) → s.consecutive_losses ≤ most_losses → loses_one tr n s ≡ choose tr (loses n s) s
counts true n s h = at_once n s h
counts false n s h = none-counted n s

-- the losses stay in u32
pub still_few : (tr : Bool) (n : ℕ) (s : Summary) → s.consecutive_losses ≤ most_losses → (loses_one tr n s).consecutive_losses ≤ most_losses
still_few tr zero s h = h
still_few true (suc n) s h = still_few true n (lose true s) (subst (λ (k : ℕ). k ≤ most_losses) (sym (failing_losses (losing (one_more s.consecutive_losses) s))) (one_below s.consecutive_losses false h (omega arith)))
still_few false (suc n) s h = still_few false n s h
