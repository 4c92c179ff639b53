-- What the words that the code works out say of the observation that its words say. Assumes nothing.
use Rattle.std.specs.Prelude.{Option, Some}
use Rattle.correlation.specs.declared.ReplyRecord.{ReplyRecord}
use mathlib.Core.Path.{◌≡◌, refl, sym, ap, ◌∙◌}
use mathlib.Core.Bool.{Bool, true, false, ◌&&◌, cond}
use mathlib.Core.List.{List, [], ◌∷◌}
use Prim.Native.Nat.{ℕ, ◌+◌, ◌*◌, ◌/◌, ◌%◌, ◌^◌, ◌≤◌, ◌<◌}
use native.Mathlib.Omega.{arith}
use lib.Dec.{eqb, leb}
use lib.ListN.{get_or}
use lib.IntN.{ℤ}
use mir.Syntax.{Width, w32, w64}
use mir.Val.{Fits, SFits, of_z, to_z}
use mir.ValLaws.{of_z-to_z, to_z-of_z}
use borrow.Author.Tests.{eq-eqb, ne_eqb, le-leb}
use Rattle.call_types.specs.declared.ReplyKey.{ReplyKey}
use Rattle.chains.specs.declared.Ring.{Ring}
use Rattle.estimate.specs.Make.{is_ptp, format_of}
use Rattle.estimate.specs.Wire.{estimate_of, wire_of}
use Rattle.estimate.specs.RoundTrip.{wire_back}
use Rattle.ranges.specs.Ranges.{time_fits, reference_within, offset_within, estimates_fit, in_range}
use Rattle.record_parts.specs.Parts.{flag, time_by, estimates_by}
use Rattle.correlation.specs.Words as slots
use Rattle.correlation.specs.Words.{bit, timed, time_word, estimated, sender_wire, reflector_wire, record_flags, words_by, words_of, slot_of}
use Rattle.correlation.specs.Slots.{next, withheld, recorded, raise_by, raised}
use Rattle.follow_ups.specs.Followed.{wires_of}
use Rattle.key_ring.specs.Table.{words_at, stored_at, newest_slot}
use Rattle.ledger_steps.specs.Observe.{holder_of, record_from, unique_from, own_in}
use Rattle.host_numbers.specs.Numbers.{flag_word}
use Rattle.host_observation.specs.Observation.{word, double, flags_at, estimates_at, observation_at}

-- ---- T4

pub received_as : (b f : Bool) (r d : ℕ) → Fits w64 r → r ≡ d → b ≡ f → b ≡ true → r ≡ time_word (time_by f d)
received_as b f r d fits e same t =
    sym (of_z-to_z w64 r fits) ∙ ap (λ (n : ℕ). of_z w64 (to_z w64 n)) e ∙ ap (λ (x : Bool). time_word (time_by x d)) (sym t ∙ same)

pub absent_as : (b f : Bool) (d : ℕ) → b ≡ f → b ≡ false → 0 ≡ time_word (time_by f d)
absent_as b f d same t = ap (λ (x : Bool). time_word (time_by x d)) (sym t ∙ same)

-- ---- the estimates

-- both of them where a slot's first word has them
abbrev pub wires_in : Bool → ℕ → ℕ
wires_in f w = 2 ^ 32 * sender_wire (wires_of (estimates_by f (w % 65536) (w / 65536))) + 2 ^ 48 * reflector_wire (wires_of (estimates_by f (w % 65536) (w / 65536)))

halves : (w : ℕ) → w * 4294967296 ≡ 2 ^ 32 * (w % 65536) + 2 ^ 48 * (w / 65536)
halves w = omega arith

low_half : (w : ℕ) → w % 65536 < 65536
low_half w = omega arith

high_half : (w : ℕ) → w < 4294967296 → w / 65536 < 65536
high_half w h = omega (arith, h)

pub wires_as : (b f : Bool) (x w : ℕ) → x ≡ w → x < 4294967296 → b ≡ f → b ≡ true → x * 4294967296 ≡ wires_in f w
wires_as b f x w e h same t =
    halves x
    ∙ sym (λ i. 2 ^ 32 * wire_back (x % 65536) (low_half x) i + 2 ^ 48 * wire_back (x / 65536) (high_half x h) i)
    ∙ ap (wires_in true) e
    ∙ ap (λ (y : Bool). wires_in y w) (sym t ∙ same)

pub no_wires_as : (b f : Bool) (w : ℕ) → b ≡ f → b ≡ false → 0 ≡ wires_in f w
no_wires_as b f w same t = ap (λ (y : Bool). wires_in y w) (sym t ∙ same)

pub shifted-below : (x : ℕ) → x < 4294967296 → x * 4294967296 + 2 ^ 32 ≤ 2 ^ 64
shifted-below x h = omega (arith, h)

-- ---- the flags of a record

timed-flag : (f : Bool) (d : ℕ) → flag_word f ≡ bit (timed (time_by f d))
timed-flag true d = refl
timed-flag false d = refl

ptp_flag : (f : Bool) → flag_word f ≡ bit (is_ptp (format_of f))
ptp_flag true = refl
ptp_flag false = refl

estimated-flag : (f : Bool) (s r : ℕ) → flag_word f ≡ bit (estimated (wires_of (estimates_by f s r)))
estimated-flag true s r = refl
estimated-flag false s r = refl

pub flags-as :
    (w : List ℕ) (a b d : ℕ) (x y z : Bool) → a ≡ flag_word x → x ≡ flag 1 (flags_at w) → b ≡ flag_word y → y ≡ flag 64 (flags_at w)
    → d ≡ flag_word z → z ≡ flag 32 (flags_at w) → 1 + 2 * a + 4 * b + 8 * d ≡ record_flags (record_from (observation_at w))
unfolding observation_at
flags-as w a b d x y z ea ex eb ey ed ez = λ i.
    1 + 2 * (ea ∙ ap flag_word ex ∙ timed-flag (flag 1 (flags_at w)) (double w 4)) i
    + 4 * (eb ∙ ap flag_word ey ∙ ptp_flag (flag 64 (flags_at w))) i
    + 8 * (ed ∙ ap flag_word ez ∙ estimated-flag (flag 32 (flags_at w)) (word w 20 % 65536) (word w 20 / 65536)) i

pub flags-below : (a b d : ℕ) → a < 2 → b < 2 → d < 2 → 1 + 2 * a + 4 * b + 8 * d < 16
flags-below a b d ha hb hd = omega (arith, ha, hb, hd)

-- ---- the words of a slot

first_word : (k e s r : ℕ) → e ≡ 2 ^ 32 * s + 2 ^ 48 * r → 65537 + 262144 * k + e ≡ slots.joined 1 1 k s r
first_word k e s r h = omega (arith, h)

pub record_as :
    (w : List ℕ) (kept wires t z : ℕ) → kept ≡ record_flags (record_from (observation_at w)) → wires ≡ wires_in (flag 32 (flags_at w)) (word w 20)
    → t ≡ time_word (time_by (flag 1 (flags_at w)) (double w 4)) → Fits w64 z → z ≡ double w 6
    → (65537 + 262144 * kept + wires) ∷ t ∷ z ∷ [] ≡ words_by 1 1 (Some (record_from (observation_at w)))
unfolding observation_at
record_as w kept wires t z e₁ e₂ e₃ fits e₄ = λ i. first i ∷ e₃ i ∷ third i ∷ []
  where
    first : 65537 + 262144 * kept + wires ≡ slots.joined 1 1 (record_flags (record_from (observation_at w))) (sender_wire (wires_of (estimates_at w))) (reflector_wire (wires_of (estimates_at w)))
    first =
        first_word kept wires (sender_wire (wires_of (estimates_at w))) (reflector_wire (wires_of (estimates_at w))) e₂
        ∙ ap (λ (n : ℕ). slots.joined 1 1 n (sender_wire (wires_of (estimates_at w))) (reflector_wire (wires_of (estimates_at w)))) e₁

    third : z ≡ of_z w64 (to_z w64 (double w 6))
    third = sym (of_z-to_z w64 z fits) ∙ ap (λ (n : ℕ). of_z w64 (to_z w64 n)) e₄

module _ (before : List ℕ) where
  -- a free slot is made anew
  pub free_as : (u : Option ReplyRecord) → get_or before 0 0 % 65536 ≡ 0 → words_by 1 1 u ≡ words_of (raised (slot_of before) u)
  unfolding words_of raised slot_of
  free_as u e = sym (ap (λ (b : Bool). words_of (raise_by b (slot_of before) u)) (eq-eqb (get_or before 0 0 % 65536) 0 e))

  -- another is raised, and its record is dropped
  pub more-as :
      (u : Option ReplyRecord) (n c : ℕ) → (get_or before 0 0 % 65536 ≡ 0 → ⊥) → n ≡ next (get_or before 0 0 % 65536) → c ≡ flag_word (slots.flag 17 (get_or before 0 0))
      → (n + 65536 + 131072 * c) ∷ 0 ∷ 0 ∷ [] ≡ words_of (raised (slot_of before) u)
  unfolding words_of raised slot_of
  more-as u n c e en ec =
      ap (λ (k : ℕ). k ∷ 0 ∷ 0 ∷ []) (shape n c (next (get_or before 0 0 % 65536)) (slots.flag 17 (get_or before 0 0)) en ec)
      ∙ sym (ap (λ (b : Bool). words_of (raise_by b (slot_of before) u)) (ne_eqb (get_or before 0 0 % 65536) 0 e))
    where
      number : (b : Bool) → flag_word b ≡ bit b
      number true = refl
      number false = refl

      sum : (n c m d : ℕ) → n ≡ m → c ≡ d → n + 65536 + 131072 * c ≡ slots.joined m (1 + 2 * d) 0 0 0
      sum n c m d e f = omega (arith, e, f)

      shape : (n c m : ℕ) (b : Bool) → n ≡ m → c ≡ flag_word b → n + 65536 + 131072 * c ≡ slots.joined m (1 + 2 * bit b) 0 0 0
      shape n c m b e f = sum n c m (bit b) e (f ∙ number b)

-- ---- withheld or not

module _ (copies : ℕ) (w : List ℕ) (b : Bool) (same : b ≡ withheld copies (word w 12) (word w 13)) where
  pub unique_as : (x : Bool) → b ≡ x → recorded x (record_from (observation_at w)) ≡ unique_from copies (observation_at w)
  unfolding observation_at
  unique_as x t = ap (λ (y : Bool). recorded y (record_from (observation_at w))) (sym t ∙ same)

-- ---- the own slot

module _ (N : ℕ) (by_key : ReplyKey → ℕ) (by_number : ℕ → ℕ) where
  pub own-as :
      (copies : ℕ) (ring : Ring) (keys rows links : List (List ℕ)) (w : List ℕ) (at place : ℕ) (before words : List ℕ) (rows' : List (List ℕ))
      → at ≡ holder_of N by_key by_number ring keys rows links (word w 13)
      → before ≡ words_at N rows at
      → place ≡ newest_slot N ring
      → words ≡ words_of (raised (slot_of before) (unique_from copies (observation_at w)))
      → rows' ≡ stored_at N rows place words
      → rows' ≡ own_in N by_key by_number copies ring keys rows links (observation_at w)
  unfolding own_in observation_at
  own-as copies ring keys rows links w at place before words rows' e₁ e₂ e₃ e₄ e₅ = rw (e₅, e₄, e₃, e₂, e₁)

-- ---- refusal 1

-- estimates from the wire are in range
estimates_in : (f : Bool) (s r : ℕ) → estimates_fit (estimates_by f s r) ≡ true
estimates_in false s r = refl
estimates_in true s r = λ i. six (s / 256) i && six (r / 256) i
  where
    below : (n : ℕ) → n % 64 ≤ 63
    below n = omega arith

    six : (n : ℕ) → leb (n % 64) 63 ≡ true
    six n = le-leb (n % 64) 63 (below n)

and_true : (b : Bool) → b ≡ (b && true)
and_true true = refl
and_true false = refl

-- a signed number that goes through its bits
through : (w : Width) (z : ℤ) (n m : ℕ) → SFits w z → z ≡ to_z w n → n ≡ m → to_z w (of_z w z) ≡ to_z w m
through w z n m f e h = to_z-of_z w z f ∙ e ∙ ap (to_z w) h

pub range-as :
    (w : List ℕ) (a b c there : Bool) (t : Option ℤ) (n m : ℕ) (z y : ℤ) → a ≡ time_fits t → t ≡ time_by there n → there ≡ flag 1 (flags_at w) → n ≡ double w 4
    → b ≡ reference_within (to_z w64 (of_z w64 z)) → z ≡ to_z w64 m → SFits w64 z → m ≡ double w 6
    → c ≡ offset_within (to_z w32 (of_z w32 y)) → y ≡ to_z w32 (word w 19) → SFits w32 y → (a && b && c) ≡ in_range (observation_at w)
unfolding observation_at in_range
range-as w a b c there t n m z y ea et ef en eb ez fz em ec ey fy =
    and_true (a && b && c)
    ∙ (λ i. time i && reference i && offset i && sym (estimates_in (flag 32 (flags_at w)) (word w 20 % 65536) (word w 20 / 65536)) i)
  where
    time : a ≡ time_fits (time_by (flag 1 (flags_at w)) (double w 4))
    time = ea ∙ ap time_fits (et ∙ (λ i. time_by (ef i) (en i)))

    reference : b ≡ reference_within (to_z w64 (double w 6))
    reference = eb ∙ ap reference_within (through w64 z m (double w 6) fz ez em)

    offset : c ≡ offset_within (to_z w32 (word w 19))
    offset = ec ∙ ap offset_within (through w32 y (word w 19) (word w 19) fy ey refl)
