-- A probe survives its row: what is written is read back.
-- Assumes nothing.
use Rattle.std.specs.Prelude.{Option, Some, None}
use mathlib.Core.Path.{◌≡◌, refl, ◌∙◌}
use Prim.Native.Nat.{ℕ, ◌+◌, ◌*◌, ◌/◌, ◌%◌, ◌^◌, ◌<◌}
use native.Mathlib.Omega.{arith}
use native.Mathlib.Nat.{mod-eq_of_lt, add-mul-mod_self_right, add-mul-div_right, div-eq_of_lt, zero-add}
use lib.ListN.{get_or}
use Rattle.probe_ring.specs.declared.HeldProbe.{HeldProbe}
use Rattle.probe_ring.specs.Row.{known_of, number_of, ordinal_of, words_of, sequence_of, replies_of, held_probe_of, OrdinalFits, ProbeFits}

ordinal-back : (o : Option ℕ) → ordinal_of (known_of o) (number_of o) ≡ o
unfolding ordinal_of
ordinal-back None = refl
ordinal-back (Some n) = refl

number_in : (o : Option ℕ) → OrdinalFits o → number_of o < 2 ^ 32
number_in None f = omega arith
number_in (Some n) f = f

-- two numbers in one word, the first below its size
lower-part : (a b z : ℕ) → a < z → (a + b * z) % z ≡ a
lower-part a b z l = add-mul-mod_self_right a b z ∙ mod-eq_of_lt l

upper-part : (a b z : ℕ) → a < z → (a + b * z) / z ≡ b
upper-part a b z l = rw (add-mul-div_right a b {z = z} (omega (arith, l)), div-eq_of_lt l, zero-add b)

module _ (p : HeldProbe) (f : ProbeFits p) where
  pub sequence_back : sequence_of (words_of p) ≡ p.sequence
  unfolding words_of
  sequence_back = lower-part p.sequence (p.replies + known_of p.ordinal * 65536) 4294967296 f.sequence_in

  above_sequence : get_or (words_of p) 0 0 / 2 ^ 32 ≡ p.replies + known_of p.ordinal * 65536
  unfolding words_of
  above_sequence = upper-part p.sequence (p.replies + known_of p.ordinal * 65536) 4294967296 f.sequence_in

  replies-back : replies_of (words_of p) ≡ p.replies
  replies-back = rw above_sequence (lower-part p.replies (known_of p.ordinal) 65536 f.replies_in)

  known_back : get_or (words_of p) 0 0 / 2 ^ 32 / 2 ^ 16 ≡ known_of p.ordinal
  known_back = rw above_sequence (upper-part p.replies (known_of p.ordinal) 65536 f.replies_in)

  number-back : get_or (words_of p) 1 0 % 2 ^ 32 ≡ number_of p.ordinal
  unfolding words_of
  number-back = lower-part (number_of p.ordinal) p.train 4294967296 (number_in p.ordinal f.ordinal_in)

  train-back : get_or (words_of p) 1 0 / 2 ^ 32 % 2 ^ 32 ≡ p.train
  unfolding words_of
  train-back = rw (upper-part (number_of p.ordinal) p.train 4294967296 (number_in p.ordinal f.ordinal_in)) (mod-eq_of_lt f.train_in)

  its_ordinal : ordinal_of (get_or (words_of p) 0 0 / 2 ^ 32 / 2 ^ 16) (get_or (words_of p) 1 0 % 2 ^ 32) ≡ p.ordinal
  its_ordinal = rw (known_back, number-back) (ordinal-back p.ordinal)

  -- EVERY PROBE SURVIVES ITS ROW.
  pub probe-back : held_probe_of (words_of p) ≡ p
  unfolding held_probe_of words_of
  probe-back = λ i. record { sequence = sequence_back i; replies = replies-back i; ordinal = its_ordinal i; train = train-back i; packet = p.packet }
