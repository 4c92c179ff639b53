use Rattle.std.specs.Prelude.{Ok, Err}
use Rattle.limits.specs.declared.Refusal.TheVariants as refusal
use mathlib.Core.Path.{◌≡◌, refl, sym, ap, ap₂, ◌∙◌}
use mathlib.Core.List.{List, [], ◌∷◌}
use Prim.Native.Nat.{ℕ, ◌≤◌, ◌<◌}
use native.Mathlib.Nat.{zero-add, zero-max}
use native.Mathlib.Omega.{arith}
use lib.ListN.{length}
use borrow.Author.Tests.{lt-ltb, le-ltb, eqb-true, eqb-false}
use Rattle.bit_errors.specs.declared.BitErrors.{BitErrors}
use Rattle.bit_runs.specs.declared.Tally.{Tally}
use Rattle.bit_runs.specs.Bits.{all_bits, ones_of, longest_from}
use Rattle.bit_runs.specs.Tally.{none, after}
use Rattle.bit_errors.specs.Errors.{wrong_from, wrong_bytes, errors_in, comparison}
use Rattle.bit_errors.proofs.xor_popcount_and_max_burst.Goals as goal

abbrev both : ℕ → ℕ → BitErrors
both m n = record { errors = m; longest = n }

module _ (padding pattern : List ℕ) where
  refused : 65535 < length padding → Err refusal.TooMuchPadding ≡ comparison padding pattern
  unfolding comparison
  refused h = rw (lt-ltb 65535 (length padding) h)

  served : {e : BitErrors} → e ≡ errors_in (wrong_bytes padding pattern) → length padding ≤ 65535 → Ok e ≡ comparison padding pattern
  unfolding comparison
  served e h = rw (le-ltb 65535 (length padding) h) (ap Ok e)

nothing : (padding pattern : List ℕ) → length pattern ≡ 0 → both 0 0 ≡ errors_in (wrong_bytes padding pattern)
unfolding errors_in wrong_bytes all_bits ones_of longest_from
nothing padding [] e = refl
nothing padding (q ∷ qs) e = absurd (omega arith)

against : (padding pattern : List ℕ) → (length pattern ≡ 0 → ⊥) → wrong_from pattern 0 padding ≡ wrong_bytes padding pattern
unfolding wrong_bytes
against padding [] n = absurd (n refl)
against padding (q ∷ qs) n = refl

shown : (t : Tally) (bytes : List ℕ) → t ≡ after (all_bits bytes) none → both t.errors t.longest ≡ errors_in bytes
unfolding errors_in
shown t bytes e =
    ap₂ both
    (ap (λ (u : Tally). u.errors) e ∙ zero-add (ones_of (all_bits bytes)))
    (ap (λ (u : Tally). u.longest) e ∙ zero-max (longest_from 0 (all_bits bytes)))

pub returns-then-padding-gt-MOST_PADDING : goal.returns-then-padding-gt-MOST_PADDING
returns-then-padding-gt-MOST_PADDING c = refused c.args.padding.now c.args.pattern.now c.if-padding-gt-MOST_PADDING.true

pub returns-then-is_empty : goal.returns-then-is_empty
returns-then-is_empty c =
    let a = c.args in
    served a.padding.now a.pattern.now (nothing a.padding.now a.pattern.now (eqb-true (length c.args.pattern.now) 0 (sym c.is_empty.ensures ∙ c.if-is_empty.true))) c.if-padding-gt-MOST_PADDING.false

pub returns : goal.returns
returns c =
    let a = c.args in
    served a.padding.now a.pattern.now
    (shown c.counted-t.result (wrong_from a.pattern.now 0 a.padding.now) c.counted-t.ensures
    ∙ ap errors_in (against a.padding.now a.pattern.now (eqb-false (length c.args.pattern.now) 0 (sym c.is_empty.ensures ∙ c.if-is_empty.false))))
    c.if-padding-gt-MOST_PADDING.false
