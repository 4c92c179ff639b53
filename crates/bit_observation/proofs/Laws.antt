-- Choices, parts of the bytes, and the walk over the items: what the proofs of the functions cite. Assumes nothing.
use Rattle.std.specs.Prelude.{Option, Some, None, Ok, Err}
use Rattle.limits.specs.declared.Refusal.{Refusal}
use mathlib.Core.Path.{◌≡◌, refl, sym, ap, ap₂, ◌∙◌}
use mathlib.Core.Bool.{Bool, true, false, not, ◌&&◌, ◌||◌}
use mathlib.Core.List.{List, [], ◌∷◌}
use Prim.Native.Nat.{ℕ, zero, suc, ◌+◌, ◌-◌, ◌*◌, ◌≤◌, ◌<◌, min}
use native.Mathlib.Numerals.{add-one}
use native.Mathlib.Omega.{arith}
use lib.Dec.{ltb, eqb}
use lib.Pointwise.{pointwise}
use lib.ListN.{length, get_or, take, drop, length-take, length-drop}
use lib.Seq.{take-nil, drop-nil, drop-cons}
use borrow.Author.Tests.{lt-ltb, le-ltb, eq-eqb, ne_eqb, ltb-true, ltb-false}
use Rattle.big_endian.specs.Numbers.{number_at}
use Rattle.request_limits.specs.Refusals.{most_padding}
use Rattle.bit_errors.specs.declared.BitErrors.{BitErrors}
use Rattle.bit_errors.specs.Errors.{comparison, counts_of}
use Rattle.bit_observation.specs.declared.Part.{Part}
use Rattle.bit_observation.specs.declared.Seen.{Seen}
use Rattle.bit_observation.specs.declared.Reading.{Reading}
use Rattle.bit_observation.specs.declared.Reading.TheVariants.{On, Ended, Unsupported, Unusable}
use Rattle.bit_observation.specs.declared.Observed.{Observed}
use Rattle.bit_observation.specs.declared.Observed.TheVariants as observed-as
use Rattle.bit_observation.specs.Items.{flag_of, kind_of, value_of, same_bytes, is_ber, is_ours, PartOf}
use Rattle.bit_observation.specs.Reading.{is_absent, with_pattern, with_padding, with_count, with_burst, noted, step_of, turned, read_all}
use Rattle.bit_observation.specs.Observation.{failed, burst_fits, sampled, count_judged, judged}

-- ---- parts of the bytes

take-least : (n : ℕ) (l : List ℕ) → take (min n (length l)) l ≡ take n l
take-least n [] = take-nil (min n 0) ∙ sym (take-nil n)
take-least zero (x ∷ l) = ap (λ (k : ℕ). take k (x ∷ l)) {x = min 0 (suc (length l))} {y = 0} (omega arith)
take-least (suc n) (x ∷ l) =
    ap (λ (k : ℕ). take k (x ∷ l)) {x = min (suc n) (suc (length l))} {y = suc (min n (length l))} (omega arith)
    ∙ ap (λ (m : List ℕ). x ∷ m) (take-least n l)

pub drop_beyond : (n : ℕ) (l : List ℕ) → length l ≤ n → drop n l ≡ []
drop_beyond n [] h = drop-nil n
drop_beyond zero (x ∷ l) h = absurd (omega arith)
drop_beyond (suc n) (x ∷ l) h = drop_beyond n l (omega arith)

pub part-value : (bytes : List ℕ) (start n m k : ℕ) → m ≡ min start (length bytes) → k ≡ min n (length bytes - m)
    → take (m + k - m) (drop m bytes) ≡ take n (drop start bytes)
part-value bytes start n m k em ek = by (ltb (length bytes) start) refl
  where
    by : (b : Bool) → ltb (length bytes) start ≡ b → take (m + k - m) (drop m bytes) ≡ take n (drop start bytes)
    by true e =
        let h = ltb-true (length bytes) start e in
        ap (take (m + k - m)) (drop_beyond m bytes (omega arith)) ∙ take-nil (m + k - m) ∙ sym (ap (take n) (drop_beyond start bytes (omega arith)) ∙ take-nil n)
    by false e =
        let h = ltb-false (length bytes) start e in
        let same : m ≡ start = omega arith in
        ap (λ (j : ℕ). take j (drop m bytes)) {x = m + k - m} {y = k} (omega arith)
        ∙ ap (λ (j : ℕ). take k (drop j bytes)) same
        ∙ ap (λ (j : ℕ). take j (drop start bytes)) {x = k} {y = min n (length (drop start bytes))} (omega (arith, length-drop start bytes))
        ∙ take-least n (drop start bytes)

pub part_length : (bytes : List ℕ) (from end : ℕ) → from ≤ end → end ≤ length bytes → length (take (end - from) (drop from bytes)) ≡ end - from
part_length bytes from end h k = omega (arith, length-take (end - from) (drop from bytes), length-drop from bytes)

pub value-length : (bytes : List ℕ) (word : ℕ) (p : Part) → PartOf bytes word p → length (value_of bytes word) ≡ p.end - p.from
value-length bytes word p h = sym (ap length h.value) ∙ part_length bytes p.from p.end h.order h.inside

-- ---- bytes that are the same

pub same_all : (a b : List ℕ) → pointwise eqb a b ≡ same_bytes a b
unfolding same_bytes
same_all [] [] = refl
same_all [] (y ∷ m) = refl
same_all (x ∷ l) [] = refl
same_all (x ∷ l) (y ∷ m) = ap (λ (t : Bool). eqb x y && t) (same_all l m)

-- ---- an item that failed

module _ (items : List ℕ) (at : ℕ) (h : at < length items) where
  pub failed_here : flag_of 61 (get_or items at 0) ≡ true → failed (drop at items) ≡ true
  unfolding failed
  failed_here e = ap failed (drop-cons items at 0 h) ∙ ap (λ (t : Bool). t || failed (drop (suc at) items)) e

  pub failed_later : flag_of 61 (get_or items at 0) ≡ false → failed (drop at items) ≡ failed (drop (at + 1) items)
  unfolding failed
  failed_later e =
      ap failed (drop-cons items at 0 h) ∙ ap (λ (t : Bool). t || failed (drop (suc at) items)) e ∙ ap (λ (n : ℕ). failed (drop n items)) (sym (add-one at))

pub failed-none : (items : List ℕ) (at : ℕ) → length items ≤ at → failed (drop at items) ≡ false
unfolding failed
failed-none items at h = ap failed (drop_beyond at items h)

-- ---- what an item leaves

module _ (s : Seen) (value : List ℕ) where
  pub count-once : (n : ℕ) → length value ≡ 4 → is_absent s.count ≡ true → n ≡ number_at 2 value 0
      → On (record { pattern = s.pattern; padding = s.padding; count = Some n; burst = s.burst }) ≡ with_count s value
  count-once n h a e =
      rw (eq-eqb (length value) 4 h, a) (ap (λ (m : ℕ). On (record { pattern = s.pattern; padding = s.padding; count = Some m; burst = s.burst })) e)

  pub count_again : length value ≡ 4 → is_absent s.count ≡ false → Unusable ≡ with_count s value
  count_again h a = rw (eq-eqb (length value) 4 h, a)

  pub count-wrong : (length value ≡ 4 → ⊥) → Unusable ≡ with_count s value
  count-wrong h = rw (ne_eqb (length value) 4 h)

  pub burst-once : (n : ℕ) → length value ≡ 4 → is_absent s.burst ≡ true → n ≡ number_at 2 value 0
      → On (record { pattern = s.pattern; padding = s.padding; count = s.count; burst = Some n }) ≡ with_burst s value
  burst-once n h a e =
      rw (eq-eqb (length value) 4 h, a) (ap (λ (m : ℕ). On (record { pattern = s.pattern; padding = s.padding; count = s.count; burst = Some m })) e)

  pub burst_again : length value ≡ 4 → is_absent s.burst ≡ false → Unusable ≡ with_burst s value
  burst_again h a = rw (eq-eqb (length value) 4 h, a)

  pub burst-wrong : (length value ≡ 4 → ⊥) → Unusable ≡ with_burst s value
  burst-wrong h = rw (ne_eqb (length value) 4 h)

module _ (bytes pattern : List ℕ) (s : Seen) (word kind : ℕ) (is : kind ≡ kind_of word) where
  kind_is : (n : ℕ) → kind ≡ n → eqb (kind_of word) n ≡ true
  kind_is n e = eq-eqb (kind_of word) n (sym is ∙ e)

  kind_not : (n : ℕ) → (kind ≡ n → ⊥) → eqb (kind_of word) n ≡ false
  kind_not n e = ne_eqb (kind_of word) n (λ z. e (is ∙ z))

  pub note_pattern : {v : List ℕ} {r : Reading} → kind ≡ 240 → v ≡ value_of bytes word → r ≡ with_pattern s v pattern → r ≡ noted bytes pattern s word
  unfolding noted
  note_pattern k e h = rw (kind_is 240 k) (h ∙ ap (λ (v : List ℕ). with_pattern s v pattern) e)

  pub note-count : {v : List ℕ} {r : Reading} → (kind ≡ 240 → ⊥) → kind ≡ 241 → v ≡ value_of bytes word → r ≡ with_count s v → r ≡ noted bytes pattern s word
  unfolding noted
  note-count n k e h = rw (kind_not 240 n, kind_is 241 k) (h ∙ ap (with_count s) e)

  pub note-burst : {v : List ℕ} {r : Reading} → (kind ≡ 240 → ⊥) → (kind ≡ 241 → ⊥) → kind ≡ 242 → v ≡ value_of bytes word → r ≡ with_burst s v → r ≡ noted bytes pattern s word
  unfolding noted
  note-burst n m k e h = rw (kind_not 240 n, kind_not 241 m, kind_is 242 k) (h ∙ ap (with_burst s) e)

  pub note_padding : {r : Reading} → (kind ≡ 240 → ⊥) → (kind ≡ 241 → ⊥) → (kind ≡ 242 → ⊥) → r ≡ with_padding s word → r ≡ noted bytes pattern s word
  unfolding noted
  note_padding n m k h = rw (kind_not 240 n, kind_not 241 m, kind_not 242 k) h

  pub step_hmac : kind ≡ 8 → On s ≡ step_of bytes pattern s word
  unfolding step_of
  step_hmac k = rw (kind_is 8 k)

  module _ (k : kind ≡ 8 → ⊥) (m : Bool) (is_m : m ≡ flag_of 62 word) where
    pub step_ends : m ≡ true → Ended s ≡ step_of bytes pattern s word
    unfolding step_of
    step_ends t = rw (kind_not 8 k, sym is_m ∙ t)

    module _ (l : m ≡ false) (u b : Bool) (is-u : u ≡ flag_of 63 word) (is_b : b ≡ is_ber kind) where
      both_known : b && u ≡ is_ber (kind_of word) && flag_of 63 word
      both_known = ap₂ ◌&&◌ (is_b ∙ ap is_ber is) is-u

      ours_known : b || eqb kind 1 ≡ is_ours (kind_of word)
      ours_known = ap₂ ◌||◌ (is_b ∙ ap is_ber is) (ap (λ (n : ℕ). eqb n 1) is)

      pub step_unsupported : b && u ≡ true → Unsupported ≡ step_of bytes pattern s word
      unfolding step_of
      step_unsupported t = rw (kind_not 8 k, sym is_m ∙ l, sym both_known ∙ t)

      pub step_other : b && u ≡ false → b || eqb kind 1 ≡ false → On s ≡ step_of bytes pattern s word
      unfolding step_of
      step_other t o = rw (kind_not 8 k, sym is_m ∙ l, sym both_known ∙ t, sym ours_known ∙ o)

      module _ (t : b && u ≡ false) (o : b || eqb kind 1 ≡ true) (c : Bool) (is_c : c ≡ flag_of 60 word) where
        pub step_unusable : u || c ≡ true → Unusable ≡ step_of bytes pattern s word
        unfolding step_of
        step_unusable f = rw (kind_not 8 k, sym is_m ∙ l, sym both_known ∙ t, sym ours_known ∙ o, sym (ap₂ ◌||◌ is-u is_c) ∙ f)

        pub step-noted : {r : Reading} → u || c ≡ false → r ≡ noted bytes pattern s word → r ≡ step_of bytes pattern s word
        unfolding step_of
        step-noted f e = rw (kind_not 8 k, sym is_m ∙ l, sym both_known ∙ t, sym ours_known ∙ o, sym (ap₂ ◌||◌ is-u is_c) ∙ f) e

-- ---- one item after the other

module _ (bytes pattern : List ℕ) (r : Reading) (items : List ℕ) (at : ℕ) where
  pub read_more : {next : Reading} → at < length items → next ≡ turned bytes pattern r (get_or items at 0)
      → read_all bytes pattern r (drop at items) ≡ read_all bytes pattern next (drop (at + 1) items)
  unfolding read_all
  read_more {next} h e =
      ap (read_all bytes pattern r) (drop-cons items at 0 h)
      ∙ ap (λ (n : Reading). read_all bytes pattern n (drop (suc at) items)) (sym e)
      ∙ ap (λ (n : ℕ). read_all bytes pattern next (drop n items)) (sym (add-one at))

  pub read_none : length items ≤ at → read_all bytes pattern r (drop at items) ≡ r
  unfolding read_all
  read_none h = ap (read_all bytes pattern r) (drop_beyond at items h)

-- ---- the end

module _ (wanted : Bool) (count n : ℕ) (burst : Option ℕ) (is : burst ≡ Some n) where
  pub burst_more : count < n → false ≡ burst_fits wanted count burst
  unfolding burst_fits
  burst_more h = rw (is, lt-ltb count n h)

  pub burst-none : n ≤ count → n ≡ 0 → eqb count 0 ≡ burst_fits wanted count burst
  unfolding burst_fits
  burst-none h z = rw (is, le-ltb count n h, eq-eqb n 0 z)

  pub burst_some : n ≤ count → (n ≡ 0 → ⊥) → not (eqb count 0) ≡ burst_fits wanted count burst
  unfolding burst_fits
  burst_some h z = rw (is, le-ltb count n h, ne_eqb n 0 z)

pub burst-absent : (wanted : Bool) (count : ℕ) (burst : Option ℕ) → burst ≡ None → not wanted ≡ burst_fits wanted count burst
unfolding burst_fits
burst-absent wanted count burst is = rw is

module _ (value pattern : List ℕ) where
  pub not_refused : (e : Refusal) → Err e ≡ comparison value pattern → length value ≤ 65535 → ⊥
  unfolding comparison
  not_refused e is h = no (rw (le-ltb most_padding (length value) h) at is)
    where
      no : {c : BitErrors} → Err e ≡ Ok c → ⊥
      no z = cc

  pub counted_is : (n : ℕ) (burst : Option ℕ) (found : BitErrors) → Ok found ≡ comparison value pattern
      → observed-as.Sampled (record { bits = length value * 8; forward = n; burst = burst; reverse = found.errors; longest = found.longest }) ≡ sampled value pattern n burst
  counted_is n burst found e = let f = ap counts_of e in λ i. observed-as.Sampled (record { bits = length value * 8; forward = n; burst = burst; reverse = (f i).errors; longest = (f i).longest })

  module _ (wanted : Bool) (count burst : Option ℕ) where
    pub no_count : count ≡ None → observed-as.Unusable ≡ count_judged value pattern wanted count burst
    no_count is = rw is

    module _ (n : ℕ) (is : count ≡ Some n) where
      pub too_many : length value * 8 < n → observed-as.Unusable ≡ count_judged value pattern wanted count burst
      too_many h = rw (is, lt-ltb (length value * 8) n h)

      pub bad-burst : n ≤ length value * 8 → burst_fits wanted n burst ≡ false → observed-as.Unusable ≡ count_judged value pattern wanted count burst
      bad-burst h b = rw (is, le-ltb (length value * 8) n h, b)

      pub good : {r : Observed} → n ≤ length value * 8 → burst_fits wanted n burst ≡ true → r ≡ sampled value pattern n burst → r ≡ count_judged value pattern wanted count burst
      good h b e = rw (is, le-ltb (length value * 8) n h, b) e

module _ (bytes pattern : List ℕ) (size : ℕ) (wanted : Bool) (s : Seen) where
  pub no_padding : s.padding ≡ None → observed-as.Unusable ≡ judged bytes pattern size wanted s
  unfolding judged
  no_padding is = rw is

  module _ (w : ℕ) (is : s.padding ≡ Some w) (p : Part) (at : PartOf bytes w p) where
    pub other_size : (p.end - p.from ≡ size → ⊥) → observed-as.Unusable ≡ judged bytes pattern size wanted s
    unfolding judged
    other_size h = rw (is, ne_eqb (length (value_of bytes w)) size (λ e. h (sym (value-length bytes w p at) ∙ e)))

    pub no_pattern : p.end - p.from ≡ size → length pattern ≡ 0 → observed-as.Unusable ≡ judged bytes pattern size wanted s
    unfolding judged
    no_pattern h k = rw (is, eq-eqb (length (value_of bytes w)) size (value-length bytes w p at ∙ h), eq-eqb (length pattern) 0 k)

    pub right_size : {r : Observed} → p.end - p.from ≡ size → (length pattern ≡ 0 → ⊥)
        → r ≡ count_judged (take (p.end - p.from) (drop p.from bytes)) pattern wanted s.count s.burst → r ≡ judged bytes pattern size wanted s
    unfolding judged
    right_size h k e =
        rw (is, eq-eqb (length (value_of bytes w)) size (value-length bytes w p at ∙ h), ne_eqb (length pattern) 0 k) (e ∙ ap (λ (v : List ℕ). count_judged v pattern wanted s.count s.burst) at.value)
