-- The groups of a snapshot's words, placed one after another, are placed as one; together they are the whole room. Assumes nothing.
use Rattle.std.specs.Prelude.{Option, Some, None}
use Rattle.call_types.specs.declared.CounterPoint.{CounterPoint}
use Rattle.clock_quality.specs.declared.ClockEstimate.{ClockEstimate}
use mathlib.Core.Path.{◌≡◌, refl, sym, ap, ◌∙◌}
use mathlib.Core.List.{List, [], ◌∷◌, ◌++◌}
use Prim.Native.Nat.{ℕ, ◌+◌}
use native.Mathlib.Omega.{arith}
use lib.ListN.{length, length-append}
use Rattle.clock_quality.specs.declared.ClockQuality.{ClockQuality}
use Rattle.direct.specs.declared.summary.DirectSummary.{DirectSummary}
use Rattle.follow_ups.specs.declared.summary.FollowUpSummary.{FollowUpSummary}
use Rattle.ledger_snapshot.specs.declared.Snapshot.{Snapshot}
use Rattle.host_snapshot_words.specs.Words.{point_words, replies_words, evicted_words, loss_words, delay_words, direct_count_words, span_words, direct_words}
use Rattle.host_snapshot_words.specs.Words.{follow_count_words, estimate_words, quality_count_words, largest_words, quality_words, follow_words, shown_words}
use Rattle.host_snapshot_words.proofs.Laws.{placed, placed-next, placed_all}

point-length : (c : Option CounterPoint) → length (point_words c) ≡ 4
unfolding point_words
point-length None = refl
point-length (Some p) = refl

estimate_length : (e : Option ClockEstimate) → length (estimate_words e) ≡ 8
unfolding estimate_words
estimate_length None = refl
estimate_length (Some e) = refl

-- ---- direct loss

pub direct_as : (d : DirectSummary) (room : List ℕ)
    → placed 39 (span_words d.spans) (placed 35 (point_words d.latest) (placed 31 (point_words d.anchor) (placed 26 (direct_count_words d.counts) room)))
    ≡ placed 26 (direct_words d) room
unfolding direct_words
direct_as d room =
    placed-next 35 4 (point_words d.latest) (span_words d.spans) (placed 31 (point_words d.anchor) (placed 26 (direct_count_words d.counts) room)) (point-length d.latest)
    ∙ placed-next 31 4 (point_words d.anchor) (point_words d.latest ++ span_words d.spans) (placed 26 (direct_count_words d.counts) room) (point-length d.anchor)
    ∙ placed-next 26 5 (direct_count_words d.counts) (point_words d.anchor ++ (point_words d.latest ++ span_words d.spans)) room refl

direct-length : (d : DirectSummary) → length (direct_words d) ≡ 25
unfolding direct_words
direct-length d = simp length-append (omega (arith, point-length d.anchor, point-length d.latest))

-- ---- clock quality

pub quality_as : (at : ℕ) (q : ClockQuality) (room : List ℕ)
    → placed (at + 24) (largest_words q.largest) (placed (at + 16) (estimate_words q.reflector) (placed (at + 8) (estimate_words q.sender) (placed at (quality_count_words q) room)))
    ≡ placed at (quality_words q) room
unfolding quality_words
quality_as at q room =
    ap (λ (n : ℕ). placed n (largest_words q.largest) (placed (at + 16) (estimate_words q.reflector) (placed (at + 8) (estimate_words q.sender) (placed at (quality_count_words q) room)))) (later at)
    ∙ placed-next (at + 16) 8 (estimate_words q.reflector) (largest_words q.largest) (placed (at + 8) (estimate_words q.sender) (placed at (quality_count_words q) room)) (estimate_length q.reflector)
    ∙ ap (λ (n : ℕ). placed n (estimate_words q.reflector ++ largest_words q.largest) (placed (at + 8) (estimate_words q.sender) (placed at (quality_count_words q) room))) (sooner at)
    ∙ placed-next (at + 8) 8 (estimate_words q.sender) (estimate_words q.reflector ++ largest_words q.largest) (placed at (quality_count_words q) room) (estimate_length q.sender)
    ∙ placed-next at 8 (quality_count_words q) (estimate_words q.sender ++ (estimate_words q.reflector ++ largest_words q.largest)) room refl
  where
    later : (n : ℕ) → n + 24 ≡ n + 16 + 8
    later n = omega arith

    sooner : (n : ℕ) → n + 16 ≡ n + 8 + 8
    sooner n = omega arith

quality-length : (q : ClockQuality) → length (quality_words q) ≡ 26
unfolding quality_words
quality-length q = simp length-append (omega (arith, estimate_length q.sender, estimate_length q.reflector))

-- ---- follow-ups

pub follow_as : (f : FollowUpSummary) (room : List ℕ)
    → placed 64 (quality_words f.quality) (placed 57 (delay_words f.delay) (placed 51 (follow_count_words f.counts) room))
    ≡ placed 51 (follow_words f) room
unfolding follow_words
follow_as f room =
    placed-next 57 7 (delay_words f.delay) (quality_words f.quality) (placed 51 (follow_count_words f.counts) room) refl
    ∙ placed-next 51 6 (follow_count_words f.counts) (delay_words f.delay ++ quality_words f.quality) room refl

follow-length : (f : FollowUpSummary) → length (follow_words f) ≡ 39
unfolding follow_words
follow-length f = simp length-append (omega (arith, quality-length f.quality))

-- ---- the whole

shown-length : (s : Snapshot) → length (shown_words s) ≡ 91
unfolding shown_words
shown-length s = simp length-append (omega (arith, direct-length s.direct, follow-length s.follow))

pub shown_as : (s : Snapshot) (room : List ℕ) → length room ≡ 91
    → placed 90 (evicted_words s.replies) (placed 51 (follow_words s.follow) (placed 26 (direct_words s.direct) (placed 19 (delay_words s.rtt) (placed 16 (loss_words s) (placed 0 (replies_words s.replies) room)))))
    ≡ shown_words s
unfolding shown_words
shown_as s room e =
    placed-next 51 39 (follow_words s.follow) (evicted_words s.replies) (placed 26 (direct_words s.direct) (placed 19 (delay_words s.rtt) (placed 16 (loss_words s) (placed 0 (replies_words s.replies) room)))) (follow-length s.follow)
    ∙ placed-next 26 25 (direct_words s.direct) (follow_words s.follow ++ evicted_words s.replies) (placed 19 (delay_words s.rtt) (placed 16 (loss_words s) (placed 0 (replies_words s.replies) room))) (direct-length s.direct)
    ∙ placed-next 19 7 (delay_words s.rtt) (direct_words s.direct ++ (follow_words s.follow ++ evicted_words s.replies)) (placed 16 (loss_words s) (placed 0 (replies_words s.replies) room)) refl
    ∙ placed-next 16 3 (loss_words s) (delay_words s.rtt ++ (direct_words s.direct ++ (follow_words s.follow ++ evicted_words s.replies))) (placed 0 (replies_words s.replies) room) refl
    ∙ placed-next 0 16 (replies_words s.replies) (loss_words s ++ (delay_words s.rtt ++ (direct_words s.direct ++ (follow_words s.follow ++ evicted_words s.replies)))) room refl
    ∙ placed_all (shown_words s) room (shown-length s ∙ sym e)
