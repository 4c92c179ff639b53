-- What is written of each part of a ledger is read back. Assumes nothing.
use Rattle.std.specs.Prelude.{Option, Some, None}
use Rattle.delays.specs.declared.Nanoseconds.{Nanoseconds}
use mathlib.Core.Path.{◌≡◌, refl, sym, ap, ◌∙◌}
use mathlib.Core.Bool.{Bool, true, false, not, cond}
use mathlib.Core.List.{List, [], ◌∷◌, ◌++◌}
use Prim.Native.Nat.{ℕ, ◌+◌, ◌^◌, ◌<◌}
use native.Mathlib.Omega.{arith}
use borrow.Author.Tests.{ne_eqb}
use Rattle.replies.specs.declared.Replies.{Replies}
use Rattle.delays.specs.declared.Delays.{Delays}
use Rattle.direct.specs.declared.Epoch.{Epoch}
use Rattle.direct.specs.declared.Direct.{Direct}
use Rattle.follow_ups.specs.declared.FollowUps.{FollowUps}
use Rattle.ledger_state.specs.declared.Secret.{Secret}
use Rattle.host_numbers.specs.Numbers.{lower, upper, joined, flag_word, is_set}
use Rattle.host_numbers.proofs.Back.{flag_again}
use Rattle.host_quality.specs.Words.{quality_at, quality_words, QualityKept}
use Rattle.host_ledger.specs.Parts.{secret_at, secret_words, SecretKept, reflector_of, reflector_word, ReflectorKept, extreme_of, extreme_kind, extreme_magnitude, delays_of, delays_at, delays_words, epoch_of, epoch_words, EpochSaid, window_at, window_words, WindowKept, direct_at, direct_words, DirectKept, follow_at, follow_words, FollowKept}

-- ---- two numbers in a word, as `host_numbers::both` promises them

pub record Both (word first second : ℕ) : Type 0 where
  pub is : word ≡ joined first second
  pub low_again : lower word ≡ first
  pub high_again : upper word ≡ second

both-low : {word first second : ℕ} → Both word first second → lower (joined first second) ≡ first
both-low b = ap lower (sym b.is) ∙ b.low_again

both_high : {word first second : ℕ} → Both word first second → upper (joined first second) ≡ second
both_high b = ap upper (sym b.is) ∙ b.high_again

pub secret-kept :
    (s : Secret) (a b c d : ℕ) → Both a s.first s.second → Both b s.third s.fourth → Both c s.fifth s.sixth → Both d s.seventh s.eighth →
    SecretKept s
unfolding secret_at secret_words
secret-kept s a b c d p q r t = λ i. record {
  first = both-low p i;
  second = both_high p i;
  third = both-low q i;
  fourth = both_high q i;
  fifth = both-low r i;
  sixth = both_high r i;
  seventh = both-low t i;
  eighth = both_high t i;
}

-- ---- the counts of replies

numbered : (n : ℕ) → is_set (n + 2 ^ 32) ≡ true
numbered n = ap not (ne_eqb (n + 2 ^ 32) 0 (never n))
  where
    never : (n : ℕ) → n + 2 ^ 32 ≡ 0 → ⊥
    never n h = omega arith

pub reflector_kept : (n : ℕ) → lower (n + 2 ^ 32) ≡ n → ReflectorKept (Some n)
reflector_kept n again =
    ap (λ (b : Bool). cond b (Some (lower (n + 2 ^ 32))) None) (numbered n) ∙ ap Some again

pub reflector_again : (n : ℕ) → n < 2 ^ 32 → ReflectorKept (Some n)
reflector_again n h = reflector_kept n (omega arith)

-- ---- delays: of every value, whatever its numbers

extreme_by : (negative : Bool) (magnitude : ℕ) → extreme_of (1 + flag_word negative) magnitude ≡ Some (record { negative = negative; magnitude = magnitude })
extreme_by true magnitude = refl
extreme_by false magnitude = refl

pub extreme_again : (e : Option Nanoseconds) → extreme_of (extreme_kind e) (extreme_magnitude e) ≡ e
extreme_again None = refl
extreme_again (Some ns) = extreme_by ns.negative ns.magnitude

pub delays_again : (d : Delays) → delays_at 0 (delays_words d) ≡ d
unfolding delays_of delays_words
delays_again d = λ i. record {
  count = d.count;
  sum = record { negative = flag_again d.sum.negative i; high = d.sum.high; low = d.sum.low };
  min = extreme_again d.min i;
  max = extreme_again d.max i;
}

-- ---- direct loss

pub closed_kept : WindowKept None
unfolding window_at
closed_kept = refl

pub open_kept : (e : Epoch) (anchor transmitted latest maxima seen : ℕ) → EpochSaid e anchor transmitted latest maxima seen → WindowKept (Some e)
unfolding window_at
open_kept e anchor transmitted latest maxima seen h = ap (λ (ws : List ℕ). window_at 0 (1 ∷ ws)) (sym h.said) ∙ ap Some h.kept

pub direct-kept : (d : Direct) → WindowKept d.window → DirectKept d
unfolding direct_at direct_words window_at
direct-kept d window = λ i. record {
  counts = record {
    observations = d.counts.observations;
    unavailable = d.counts.unavailable;
    discontinuities = d.counts.discontinuities;
    reordered = d.counts.reordered;
    exceeded = flag_again d.counts.exceeded i;
  };
  window = window i;
}

-- ---- follow-ups

pub follow-kept : (f : FollowUps) → QualityKept f.quality → FollowKept f
unfolding follow_at follow_words delays_of delays_words quality_at quality_words
follow-kept f quality = λ i. record { counts = f.counts; delay = delays_again f.delay i; quality = quality i }
