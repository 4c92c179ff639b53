-- Bytes that keep the rules are the record of what they say. Assumes nothing.
use mathlib.Core.Path.{◌≡◌, refl, sym, ap, ◌∙◌, subst}
use mathlib.Core.Bool.{Bool, true, false}
use mathlib.Core.List.{List}
use Prim.Native.Nat.{ℕ, zero, suc, ◌-◌, ◌+◌, ◌*◌, ◌/◌, ◌%◌, ◌^◌, ◌≤◌, ◌<◌}
use native.Mathlib.Omega.{arith}
use lib.Dec.{T, eqb}
use lib.ListN.{length, get_or, length-replicate}
use mir.Syntax.{w32, w64}
use mir.ValLaws.{of_z-to_z}
use borrow.Author.Tests.{eqb-false}
use Rattle.big_endian.specs.Numbers.{number_at}
use Rattle.estimate.specs.Wire.{bit}
use Rattle.estimate.specs.Make.{format_of}
use Rattle.estimate.specs.RoundTrip.{wire_back}
use Rattle.record_parts.specs.declared.Entry.{Entry}
use Rattle.record_parts.specs.declared.Entry.TheVariants as entry
use Rattle.record_parts.specs.Parts.{flag, observe_flags, pending_flag, pending_time, pending_tag, time_flag, time_word, ordinal_flag, ordinal_number, counters_flag}
use Rattle.record_parts.specs.Parts.{sender_count, received_count, transmitted_count, follow_flag, follow_sequence, follow_timestamp, follow_time, unknown_flag}
use Rattle.record_parts.specs.Parts.{estimates_flag, sender_wire, reflector_wire, format_flag, pending_by, time_by, ordinal_by, counters_by, follow_by, estimates_by}
use Rattle.log_record.specs.Records.{table_of, blank, record_of, entry_of, sent_at, accept_at, observe_at, converted_at}
use Rattle.log_record.proofs.Laws.{kind_0, kind_1, kind_2, kind_3, kind_other}
use Rattle.log_record.proofs.Back.{laid_out_lem}
use Rattle.log_rules.specs.Rules.{Bytes, unused, ObserveRules, Rules}
use Rattle.log_rules.proofs.Copied.{number_lt, covered, Says, copied}
use Rattle.log_rules.proofs.Kept.{all_below, each_below, either, exact, blank_zero}

-- ---- a part says its numbers, where they are 0 without its flag

never : true ≡ false → ⊥
never e = let z : ◌≡◌ {A = ℕ} 0 1 = cc in omega arith

time_says : (b : Bool) (w : ℕ) → w < 2 ^ 64 → (b ≡ false → w ≡ 0) → time_word (time_by b w) ≡ w
time_says true w l h = of_z-to_z w64 w (record { fits = l })
time_says false w l h = sym (h refl)

pending_time_says : (b : Bool) (t g : ℕ) → (b ≡ false → t ≡ 0) → pending_time (pending_by b t g) ≡ t
pending_time_says true t g h = refl
pending_time_says false t g h = sym (h refl)

pending_tag_says : (b : Bool) (t g : ℕ) → (b ≡ false → g ≡ 0) → pending_tag (pending_by b t g) ≡ g
pending_tag_says true t g h = refl
pending_tag_says false t g h = sym (h refl)

ordinal_says : (b : Bool) (n : ℕ) → (b ≡ false → n ≡ 0) → ordinal_number (ordinal_by b n) ≡ n
ordinal_says true n h = refl
ordinal_says false n h = sym (h refl)

sender_says : (b : Bool) (s r t : ℕ) → (b ≡ false → s ≡ 0) → sender_count (counters_by b s r t) ≡ s
sender_says true s r t h = refl
sender_says false s r t h = sym (h refl)

received_says : (b : Bool) (s r t : ℕ) → (b ≡ false → r ≡ 0) → received_count (counters_by b s r t) ≡ r
received_says true s r t h = refl
received_says false s r t h = sym (h refl)

transmitted_says : (b : Bool) (s r t : ℕ) → (b ≡ false → t ≡ 0) → transmitted_count (counters_by b s r t) ≡ t
transmitted_says true s r t h = refl
transmitted_says false s r t h = sym (h refl)

sequence_says : (b : Bool) (s t : ℕ) (u : Bool) → (b ≡ false → s ≡ 0) → follow_sequence (follow_by b s t u) ≡ s
sequence_says true s t u h = refl
sequence_says false s t u h = sym (h refl)

timestamp_says : (b : Bool) (s t : ℕ) (u : Bool) → (b ≡ false → t ≡ 0) → follow_timestamp (follow_by b s t u) ≡ t
timestamp_says true s t u h = refl
timestamp_says false s t u h = sym (h refl)

-- "16 and 128 need 8"
needed : (a b : Bool) → (a ≡ true → b ≡ true) → b ≡ false → a ≡ false
needed true b h e = absurd (never (sym (h refl) ∙ e))
needed false b h e = refl

converted_says : (b a : Bool) (s t : ℕ) (u : Bool) (w : ℕ) → w < 2 ^ 64 → (a ≡ true → b ≡ true) → (a ≡ false → w ≡ 0)
    → time_word (follow_time (follow_by b s t u) (time_by a w)) ≡ w
converted_says true a s t u w l n h = time_says a w l h
converted_says false a s t u w l n h = sym (h (needed a false n refl))

sender_wire_says : (b : Bool) (s r : ℕ) → s < 65536 → (b ≡ false → s ≡ 0) → sender_wire (estimates_by b s r) ≡ s
sender_wire_says true s r l h = wire_back s l
sender_wire_says false s r l h = sym (h refl)

reflector_wire_says : (b : Bool) (s r : ℕ) → r < 65536 → (b ≡ false → r ≡ 0) → reflector_wire (estimates_by b s r) ≡ r
reflector_wire_says true s r l h = wire_back r l
reflector_wire_says false s r l h = sym (h refl)

-- ---- and its flag

pending_flag_says : (b : Bool) (t g : ℕ) → pending_flag (pending_by b t g) ≡ bit b
pending_flag_says true t g = refl
pending_flag_says false t g = refl

time_flag_says : (b : Bool) (w : ℕ) → time_flag (time_by b w) ≡ bit b
time_flag_says true w = refl
time_flag_says false w = refl

ordinal_flag_says : (b : Bool) (n : ℕ) → ordinal_flag (ordinal_by b n) ≡ bit b
ordinal_flag_says true n = refl
ordinal_flag_says false n = refl

counters_flag_says : (b : Bool) (s r t : ℕ) → counters_flag (counters_by b s r t) ≡ bit b
counters_flag_says true s r t = refl
counters_flag_says false s r t = refl

follow_flag_says : (b : Bool) (s t : ℕ) (u : Bool) → follow_flag (follow_by b s t u) ≡ bit b
follow_flag_says true s t u = refl
follow_flag_says false s t u = refl

converted-flag_says : (b a : Bool) (s t : ℕ) (u : Bool) (w : ℕ) → (a ≡ true → b ≡ true) → time_flag (follow_time (follow_by b s t u) (time_by a w)) ≡ bit a
converted-flag_says true a s t u w n = time_flag_says a w
converted-flag_says false a s t u w n = sym (ap bit (needed a false n refl))

unknown_flag_says : (b : Bool) (s t : ℕ) (u : Bool) → (u ≡ true → b ≡ true) → unknown_flag (follow_by b s t u) ≡ bit u
unknown_flag_says true s t u n = refl
unknown_flag_says false s t u n = sym (ap bit (needed u false n refl))

estimates_flag_says : (b : Bool) (s r : ℕ) → estimates_flag (estimates_by b s r) ≡ bit b
estimates_flag_says true s r = refl
estimates_flag_says false s r = refl

format_flag_says : (b : Bool) → format_flag (format_of b) ≡ bit b
format_flag_says true = refl
format_flag_says false = refl

bit_of : (n : ℕ) → n < 2 → bit (eqb n 1) ≡ n
bit_of zero h = refl
bit_of (suc zero) h = refl
bit_of (suc (suc n)) h = absurd (big n h)
  where
    big : (n : ℕ) → suc (suc n) < 2 → ⊥
    big n h = omega arith

bit-flag : (k n : ℕ) → bit (flag k n) ≡ n / k % 2
bit-flag k n = bit_of (n / k % 2) (two (n / k))
  where
    two : (m : ℕ) → m % 2 < 2
    two m = omega arith

-- a byte is the sum of its eight bits
eight_bits : (n : ℕ) → n < 256
    → n / 1 % 2 + 2 * (n / 2 % 2) + 4 * (n / 4 % 2) + 8 * (n / 8 % 2) + 16 * (n / 16 % 2) + 32 * (n / 32 % 2) + 64 * (n / 64 % 2) + 128 * (n / 128 % 2) ≡ n
eight_bits n h =
    sum (n / 1) (n / 2) (n / 4) (n / 8) (n / 16) (n / 32) (n / 64) (n / 128) (n / 1 % 2) (n / 2 % 2) (n / 4 % 2) (n / 8 % 2) (n / 16 % 2) (n / 32 % 2) (n / 64 % 2) (n / 128 % 2)
    (at_1 n) (at_2 n) (at_4 n) (at_8 n) (at_16 n) (at_32 n) (at_64 n) (at_128 n h)
    ∙ by_one n
  where
    by_one : (n : ℕ) → n / 1 ≡ n
    by_one n = omega arith

    at_1 : (n : ℕ) → n / 1 ≡ n / 1 % 2 + 2 * (n / 2)
    at_1 n = omega arith

    at_2 : (n : ℕ) → n / 2 ≡ n / 2 % 2 + 2 * (n / 4)
    at_2 n = omega arith

    at_4 : (n : ℕ) → n / 4 ≡ n / 4 % 2 + 2 * (n / 8)
    at_4 n = omega arith

    at_8 : (n : ℕ) → n / 8 ≡ n / 8 % 2 + 2 * (n / 16)
    at_8 n = omega arith

    at_16 : (n : ℕ) → n / 16 ≡ n / 16 % 2 + 2 * (n / 32)
    at_16 n = omega arith

    at_32 : (n : ℕ) → n / 32 ≡ n / 32 % 2 + 2 * (n / 64)
    at_32 n = omega arith

    at_64 : (n : ℕ) → n / 64 ≡ n / 64 % 2 + 2 * (n / 128)
    at_64 n = omega arith

    at_128 : (n : ℕ) → n < 256 → n / 128 ≡ n / 128 % 2
    at_128 n h = omega arith

    sum : (a0 a1 a2 a3 a4 a5 a6 a7 b0 b1 b2 b3 b4 b5 b6 b7 : ℕ) → a0 ≡ b0 + 2 * a1 → a1 ≡ b1 + 2 * a2 → a2 ≡ b2 + 2 * a3 → a3 ≡ b3 + 2 * a4
        → a4 ≡ b4 + 2 * a5 → a5 ≡ b5 + 2 * a6 → a6 ≡ b6 + 2 * a7 → a7 ≡ b7 → b0 + 2 * b1 + 4 * b2 + 8 * b3 + 16 * b4 + 32 * b5 + 64 * b6 + 128 * b7 ≡ a0
    sum a0 a1 a2 a3 a4 a5 a6 a7 b0 b1 b2 b3 b4 b5 b6 b7 e0 e1 e2 e3 e4 e5 e6 e7 = omega arith

flags-say : (f : ℕ) (r : List ℕ) → f < 256 → ObserveRules f r → observe_flags (observe_at f r) (converted_at f r) ≡ f
unfolding observe_flags
flags-say f r l h =
    (λ i.
    time_flag_says (flag 1 f) (number_at 3 r 28) i + 2 * ordinal_flag_says (flag 2 f) (number_at 2 r 48) i
    + 4 * counters_flag_says (flag 4 f) (number_at 2 r 52) (number_at 2 r 56) (number_at 2 r 60) i
    + 8 * follow_flag_says (flag 8 f) (number_at 2 r 64) (number_at 3 r 68) (flag 128 f) i
    + 16 * converted-flag_says (flag 8 f) (flag 16 f) (number_at 2 r 64) (number_at 3 r 68) (flag 128 f) (number_at 3 r 76) h.converted_needs i
    + 32 * estimates_flag_says (flag 32 f) (number_at 1 r 84) (number_at 1 r 86) i + 64 * format_flag_says (flag 64 f) i
    + 128 * unknown_flag_says (flag 8 f) (number_at 2 r 64) (number_at 3 r 68) (flag 128 f) h.unknown_needs i)
    ∙ (λ i. bit-flag 1 f i + 2 * bit-flag 2 f i + 4 * bit-flag 4 f i + 8 * bit-flag 8 f i + 16 * bit-flag 16 f i + 32 * bit-flag 32 f i + 64 * bit-flag 64 f i + 128 * bit-flag 128 f i)
    ∙ eight_bits f l

-- ---- the record of what the bytes say

uncovered_zero : (u v : Bool) → T (either u v) → v ≡ false → T u
uncovered_zero true v t e = tt
uncovered_zero false true t e = absurd (never e)
uncovered_zero false false t e = absurd t

copied_of : (c : Entry) (kind : ℕ) (r : List ℕ) → T (all_below 96 (exact kind (table_of c))) → length r ≡ 96 → Bytes r → Says r (table_of c)
    → ((i : ℕ) → i < 96 → T (unused kind i) → get_or r i 0 ≡ 0) → record_of c ≡ r
unfolding record_of blank
copied_of c kind r t l b s h =
    copied 96 (table_of c) blank r (length-replicate {A = ℕ} 96 0) l (laid_out_lem c) b s
    (λ i m u. blank_zero i m ∙ sym (h i m (uncovered_zero (unused kind i) (covered (table_of c) i) (each_below 96 (exact kind (table_of c)) t i m) u)))

module _ (r : List ℕ) (b : Bytes r) (h : Rules r) where
  abbrev kind : ℕ
  kind = get_or r 0 0

  abbrev flags : ℕ
  flags = get_or r 1 0

  last_of : (k : ℕ) → kind ≡ k → 255 - k ≡ get_or r 95 0
  last_of k e = sym (h.last ∙ ap (λ (n : ℕ). 255 - n) e)

  empty-at : (k : ℕ) → kind ≡ k → (i : ℕ) → i < 96 → T (unused k i) → get_or r i 0 ≡ 0
  empty-at k e i l u = h.empty i l (subst (λ (n : ℕ). T (unused n i)) (sym e) u)

  no_flags : (k : ℕ) → kind ≡ k → (k ≡ 1 → ⊥) → (k ≡ 2 → ⊥) → 0 ≡ flags
  no_flags k e n1 n2 = sym (h.none (λ q. n1 (sym e ∙ q)) (λ q. n2 (sym e ∙ q)))

  of_sent : kind ≡ 0 → record_of (entry.Sent (sent_at r)) ≡ r
  unfolding table_of
  of_sent e = copied_of (entry.Sent (sent_at r)) 0 r tt h.size b
      (sym e, (no_flags 0 e (eqb-false 0 1 refl) (eqb-false 0 2 refl), (last_of 0 e, (refl, (refl, (refl, (refl, (refl, tt)))))))) (empty-at 0 e)

  of_accept : kind ≡ 1 → record_of (entry.Accept (accept_at flags r)) ≡ r
  unfolding table_of
  of_accept e =
      let a = h.accept e in
      copied_of (entry.Accept (accept_at flags r)) 1 r tt h.size b (
        sym e,
        (
          one_flag flags a.Only,
          (
            last_of 1 e,
            (
              refl,
              (
                refl,
                (
                  refl,
                  (
                    pending_time_says (flag 1 flags) (number_at 3 r 20) (number_at 3 r 28) a.time,
                    (pending_tag_says (flag 1 flags) (number_at 3 r 20) (number_at 3 r 28) a.tag, tt),
                  ),
                ),
              ),
            ),
          ),
        ),
      ) (empty-at 1 e)
    where
      one_flag : (f : ℕ) → f ≤ 1 → pending_flag (pending_by (flag 1 f) (number_at 3 r 20) (number_at 3 r 28)) ≡ f
      one_flag f l = pending_flag_says (flag 1 f) (number_at 3 r 20) (number_at 3 r 28) ∙ bit-flag 1 f ∙ small f l
        where
          small : (n : ℕ) → n ≤ 1 → n / 1 % 2 ≡ n
          small n l = omega arith

  of_observe : kind ≡ 2 → record_of (entry.Observe (observe_at flags r) (converted_at flags r)) ≡ r
  unfolding table_of
  of_observe e =
      let o = h.observe e in
      copied_of (entry.Observe (observe_at flags r) (converted_at flags r)) 2 r tt h.size b (
        sym e,
        (
          flags-say flags r (b 1) o,
          (
            last_of 2 e,
            (
              refl,
              (
                refl,
                (
                  refl,
                  (
                    refl,
                    (
                      time_says (flag 1 flags) (number_at 3 r 28) (number_lt 3 r 28 b) o.t4,
                      (
                        of_z-to_z w64 (number_at 3 r 36) (record { fits = number_lt 3 r 36 b }),
                        (
                          of_z-to_z w32 (number_at 2 r 44) (record { fits = number_lt 2 r 44 b }),
                          (
                            ordinal_says (flag 2 flags) (number_at 2 r 48) o.ordinal,
                            (
                              sender_says (flag 4 flags) (number_at 2 r 52) (number_at 2 r 56) (number_at 2 r 60) o.sender,
                              (
                                received_says (flag 4 flags) (number_at 2 r 52) (number_at 2 r 56) (number_at 2 r 60) o.received,
                                (
                                  transmitted_says (flag 4 flags) (number_at 2 r 52) (number_at 2 r 56) (number_at 2 r 60) o.transmitted,
                                  (
                                    sequence_says (flag 8 flags) (number_at 2 r 64) (number_at 3 r 68) (flag 128 flags) o.sequence,
                                    (
                                      timestamp_says (flag 8 flags) (number_at 2 r 64) (number_at 3 r 68) (flag 128 flags) o.timestamp,
                                      (
                                        converted_says (flag 8 flags) (flag 16 flags) (number_at 2 r 64) (number_at 3 r 68) (flag 128 flags) (number_at 3 r 76) (number_lt 3 r 76 b) o.converted_needs o.converted,
                                        (
                                          sender_wire_says (flag 32 flags) (number_at 1 r 84) (number_at 1 r 86) (number_lt 1 r 84 b) o.sender_estimate,
                                          (reflector_wire_says (flag 32 flags) (number_at 1 r 84) (number_at 1 r 86) (number_lt 1 r 86 b) o.reflector_estimate, tt),
                                        ),
                                      ),
                                    ),
                                  ),
                                ),
                              ),
                            ),
                          ),
                        ),
                      ),
                    ),
                  ),
                ),
              ),
            ),
          ),
        ),
      ) (empty-at 2 e)

  of_advance : kind ≡ 3 → record_of (entry.Advance (number_at 3 r 4)) ≡ r
  unfolding table_of
  of_advance e = copied_of (entry.Advance (number_at 3 r 4)) 3 r tt h.size b
      (sym e, (no_flags 3 e (eqb-false 3 1 refl) (eqb-false 3 2 refl), (last_of 3 e, (refl, tt)))) (empty-at 3 e)

  of_idle : kind ≡ 4 → record_of entry.Idle ≡ r
  unfolding table_of
  of_idle e = copied_of entry.Idle 4 r tt h.size b
      (sym e, (no_flags 4 e (eqb-false 4 1 refl) (eqb-false 4 2 refl), (last_of 4 e, tt))) (empty-at 4 e)

  by_kind : (k : ℕ) → kind ≡ k → k ≤ 4 → record_of (entry_of r) ≡ r
  by_kind zero e l = ap record_of (sym (kind_0 r e)) ∙ of_sent e
  by_kind (suc zero) e l = ap record_of (sym (kind_1 r e)) ∙ of_accept e
  by_kind (suc (suc zero)) e l = ap record_of (sym (kind_2 r e)) ∙ of_observe e
  by_kind (suc (suc (suc zero))) e l = ap record_of (sym (kind_3 r e)) ∙ of_advance e
  by_kind (suc (suc (suc (suc k)))) e l =
      let four : suc (suc (suc (suc k))) ≡ 4 = omega arith in
      ap record_of (sym (kind_other r 4 (sym (e ∙ four)) (eqb-false 4 0 refl) (eqb-false 4 1 refl) (eqb-false 4 2 refl) (eqb-false 4 3 refl))) ∙ of_idle (e ∙ four)

  pub said : record_of (entry_of r) ≡ r
  said = by_kind kind refl h.known
