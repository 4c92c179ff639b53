use mathlib.Core.Path.{◌≡◌, refl, sym, ap, ◌∙◌, subst}
use mathlib.Core.List.{List, ◌++◌}
use Prim.Native.Nat.{ℕ, ◌≤◌, ◌-◌, ◌/◌, ◌%◌, ◌^◌}
use native.Mathlib.Nat.{zero-max, div-one}
use native.Mathlib.Omega.{arith}
use lib.Pow.{shr-shr}
use Rattle.bit_runs.specs.declared.Tally.{Tally}
use Rattle.bit_runs.specs.Bits.{bits_of, ones_of, ending_run, longest_from}
use Rattle.bit_runs.specs.Tally.{none, after, Room}
use Rattle.bit_runs.proofs.Digits.{bits_length, bits_split}
use Rattle.word_runs.proofs.Windows.{bits_fair}
use Rattle.bit_runs.proofs.Steps.{after-append, room_after}
use Rattle.word_runs.proofs.longest_in_word.Invariants.{above}
use Rattle.word_runs.proofs.longest_in_word.Goals as goal

-- one byte more
next : (word below : ℕ) → 8 ≤ below → below ≤ 64 → after (bits_of 8 (word / 2 ^ (below - 8) % 256)) (above word below) ≡ above word (below - 8)
next word below l h =
    sym (after-append (bits_of (64 - below) (word / 2 ^ below)) (bits_of 8 (word / 2 ^ (below - 8) % 256)) none)
    ∙ ap (λ (s : List ℕ). after s none)
    (ap (λ (n : ℕ). bits_of (64 - below) n ++ bits_of 8 (word / 2 ^ (below - 8) % 256)) shifted
    ∙ sym (bits_split (64 - below) 8 (word / 2 ^ (below - 8)))
    ∙ ap (λ (n : ℕ). bits_of n (word / 2 ^ (below - 8))) (omega arith))
  where
    shifted : word / 2 ^ below ≡ word / 2 ^ (below - 8) / 2 ^ 8
    shifted = sym (shr-shr word (below - 8) 8 ∙ ap (λ (n : ℕ). word / 2 ^ n) (omega arith))

roomy : (word below : ℕ) → below ≤ 64 → Room 8 (above word below)
roomy word below h =
    room_after (bits_of (64 - below) (word / 2 ^ below)) 8 none (bits_fair (64 - below) (word / 2 ^ below))
    (record { errors = omega (arith, bits_length (64 - below) (word / 2 ^ below)); longest = omega (arith, bits_length (64 - below) (word / 2 ^ below)); run = omega arith })

whole : (word below : ℕ) → below ≡ 0 → (above word below).longest ≡ longest_from 0 (bits_of 64 word)
whole word below e =
    ap (λ (n : ℕ). (above word n).longest) e ∙ zero-max (longest_from 0 (bits_of 64 (word / 1))) ∙ ap (λ (n : ℕ). longest_from 0 (bits_of 64 n)) (div-one word)

pub loop-below-init : goal.loop-below-init
unfolding bits_of ones_of ending_run longest_from
loop-below-init c = (omega arith, refl, refl)

pub overflow_sub-below : goal.overflow_sub-below
overflow_sub-below c = omega arith

pub overflow_cast-byte : goal.overflow_cast-byte
overflow_cast-byte c = record { fits = omega arith }

pub overflow_shr-byte : goal.overflow_shr-byte
overflow_shr-byte c = omega arith

pub overflow_cast-byte-in-loop-below : goal.overflow_cast-byte-in-loop-below
overflow_cast-byte-in-loop-below c = record { fits = omega arith }

pub after_byte-t-requires : goal.after_byte-t-requires
after_byte-t-requires c =
    subst (Room 8) (sym c.loop-below.invariant.2) (roomy c.args.word c.loop-below.below c.loop-below.invariant.0)

pub loop-below-smaller : goal.loop-below-smaller
loop-below-smaller c = omega arith

pub loop-below-preserved : goal.loop-below-preserved
loop-below-preserved c =
    let l = c.loop-below in
    let word = c.args.word in (
      omega arith,
      omega arith,
      c.after_byte-t.ensures
          ∙ ap (after (bits_of 8 (word / 2 ^ (l.below - 8) % 256))) l.invariant.2
          ∙ next word l.below (omega arith) l.invariant.0,
    )

pub returns : goal.returns
returns c = ap (λ (t : Tally). t.longest) c.loop-below.invariant.2 ∙ whole c.args.word c.loop-below.below (omega arith)
