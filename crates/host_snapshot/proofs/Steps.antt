-- The parts of the ledger, shown one after the other, are the snapshot of the whole. Assumes nothing.
use Rattle.std.specs.Prelude.{Option}
use mathlib.Core.Path.{◌≡◌, ap, ◌∙◌}
use mathlib.Core.List.{List, [], ◌∷◌}
use Prim.Native.Nat.{ℕ}
use lib.ListN.{length}
use lib.Seq.{sets}
use Rattle.delays.specs.Summary as delays
use Rattle.direct.specs.Shown as direct
use Rattle.follow_ups.specs.Shown as follow_ups
use Rattle.replies.specs.declared.Replies.{Replies}
use Rattle.replies.specs.Served.{unobserved}
use Rattle.thousandths.specs.Thousandths.{thousandths_of, known_of, value_of}
use Rattle.ledger_snapshot.specs.Snapshot.{snapshot_of}
use Rattle.host_quality.specs.Words.{quality_at}
use Rattle.host_ledger.specs.Parts.{replies_at, delays_at, direct_at, follow_at}
use Rattle.host_ledger.specs.Words.{ledger_at}
use Rattle.host_snapshot_words.specs.Words.{replies_words, evicted_words, loss_words, delay_words, direct_words, follow_count_words, quality_words, follow_words}
use Rattle.host_snapshot_words.proofs.Groups.{follow_as, shown_as}
use Rattle.host_snapshot.specs.Snapshot.{left, snapshot_leaves}

-- unobserved and its thousandths, of the replies that the code read
pub loss_is : (w room : List ℕ) (r : Replies) (n : ℕ) (t : Option ℕ) (room' : List ℕ) → r ≡ replies_at 11 72 w → n ≡ unobserved r → t ≡ thousandths_of n r.totals.requested
    → room' ≡ sets room 16 (n ∷ known_of t ∷ value_of t ∷ []) → room' ≡ sets room 16 (loss_words (snapshot_of (ledger_at w)))
unfolding snapshot_of ledger_at
loss_is w room r n t room' er en et h =
    h ∙ (λ i. sets room 16 (en i ∷ known_of (et i) ∷ value_of (et i) ∷ []))
    ∙ ap (λ (m : ℕ). sets room 16 (unobserved r ∷ known_of (thousandths_of m r.totals.requested) ∷ value_of (thousandths_of m r.totals.requested) ∷ [])) en
    ∙ ap (λ (x : Replies). sets room 16 (unobserved x ∷ known_of (thousandths_of (unobserved x) x.totals.requested) ∷ value_of (thousandths_of (unobserved x) x.totals.requested) ∷ [])) er

-- each with the numbers of its place
pub shown_is : (w room : List ℕ) → length room ≡ 91 → (r₁ r₂ r₃ r₄ r₅ r₆ r₇ r₈ : List ℕ)
    → r₁ ≡ sets room 0 (replies_words (replies_at 11 72 w))
    → r₂ ≡ sets r₁ 16 (loss_words (snapshot_of (ledger_at w)))
    → r₃ ≡ sets r₂ 19 (delay_words (delays.summary_of (delays_at 25 w)))
    → r₄ ≡ sets r₃ 26 (direct_words (direct.summary_of (direct_at 33 w)))
    → r₅ ≡ sets r₄ 51 (follow_count_words (follow_at 44 w).counts)
    → r₆ ≡ sets r₅ 57 (delay_words (delays.summary_of (delays_at 50 w)))
    → r₇ ≡ sets r₆ 64 (quality_words (quality_at 58 w))
    → r₈ ≡ sets r₇ 90 (evicted_words (replies_at 11 72 w))
    → left 0 r₈ ≡ snapshot_leaves w
unfolding snapshot_leaves snapshot_of ledger_at follow_at
shown_is w room e r₁ r₂ r₃ r₄ r₅ r₆ r₇ r₈ h₁ h₂ h₃ h₄ h₅ h₆ h₇ h₈ =
    let direct_is = h₄ ∙ ap (λ (r : List ℕ). sets r 26 (direct_words (direct.summary_of (direct_at 33 w)))) (h₃ ∙ ap (λ (r : List ℕ). sets r 19 (delay_words (delays.summary_of (delays_at 25 w)))) (h₂ ∙ ap (λ (r : List ℕ). sets r 16 (loss_words (snapshot_of (ledger_at w)))) h₁)) in
    let follow_is =
    h₇ ∙ ap (λ (r : List ℕ). sets r 64 (quality_words (quality_at 58 w))) (h₆ ∙ ap (λ (r : List ℕ). sets r 57 (delay_words (delays.summary_of (delays_at 50 w)))) h₅)
    ∙ follow_as (follow_ups.summary_of (follow_at 44 w)) r₄ in
    ap (left 0)
    (h₈ ∙ ap (λ (r : List ℕ). sets r 90 (evicted_words (replies_at 11 72 w)))
    (follow_is ∙ ap (λ (r : List ℕ). sets r 51 (follow_words (follow_ups.summary_of (follow_at 44 w)))) direct_is)
    ∙ shown_as (snapshot_of (ledger_at w)) room e)
