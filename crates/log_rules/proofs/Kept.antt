-- The record of every entry keeps the rules. Assumes nothing.
use Rattle.std.specs.Prelude.{Option, Some, None, ℤ}
use Rattle.call_types.specs.declared.CounterPoint.{CounterPoint}
use Rattle.call_types.specs.declared.FollowUpTelemetry.{FollowUpTelemetry}
use Rattle.call_types.specs.declared.PendingPacket.{PendingPacket}
use Rattle.estimate.specs.declared.ErrorEstimate.{ErrorEstimate}
use mathlib.Core.Path.{◌≡◌, refl, sym, ◌∙◌, subst}
use mathlib.Core.Bool.{Bool, true, false, ◌&&◌, ◌||◌, not}
use mathlib.Core.List.{List, [], ◌∷◌}
use Prim.Native.Nat.{ℕ, zero, suc, ◌-◌, ◌≤◌, ◌<◌}
use native.Mathlib.Omega.{arith}
use native.Mathlib.Nat.{not-suc-le-zero, eq-or-lt_of_le, le_of_suc-le-suc}
use mathlib.Core.Logic.{◌⊎◌, inl, inr}
use lib.Dec.{T, eqb, lit<}
use lib.ListN.{get_or, get_or-replicate}
use borrow.Author.Tests.{eqb-false}
use Rattle.big_endian.specs.Numbers.{base, number_at}
use Rattle.big_endian.specs.Fields.{Field, written}
use Rattle.call_types.specs.declared.Reply.{Reply}
use Rattle.call_types.specs.declared.ReplyObservation.{ReplyObservation}
use Rattle.record_parts.specs.declared.Entry.{Entry}
use Rattle.record_parts.specs.declared.Entry.TheVariants as entry
use Rattle.record_parts.specs.Parts.{observe_flags, pending_flag, pending_time, pending_tag, time_flag, time_word, ordinal_flag, ordinal_number, counters_flag}
use Rattle.record_parts.specs.Parts.{sender_count, received_count, transmitted_count, follow_flag, follow_sequence, follow_timestamp, follow_time, unknown_flag}
use Rattle.record_parts.specs.Parts.{estimates_flag, sender_wire, reflector_wire}
use Rattle.record_parts.proofs.Back.{pending_flag-back, FlagsBack, flags-back}
use Rattle.log_record.specs.Records.{table_of, blank, record_of}
use Rattle.log_record.proofs.Back.{record-length, field_at, within, field}
use Rattle.log_rules.specs.Rules.{unused, ObserveRules, RulesAt, Rules}
use Rattle.log_rules.proofs.Copied.{covers, covered, uncovered}

-- ---- a test of every number below n, computed

abbrev pub all_below : ℕ → (ℕ → Bool) → Bool
all_below zero p = true
all_below (suc n) p = p n && all_below n p

pub both : (a b : Bool) → T (a && b) → T a × T b
both true true t = (tt, tt)
both true false t = absurd t
both false b t = absurd t

below_at : (n : ℕ) (p : ℕ → Bool) (i : ℕ) → (i ≡ n) ⊎ (i < n) → T (p n) → (i < n → T (p i)) → T (p i)
below_at n p i (inl e) t rest = subst (λ (k : ℕ). T (p k)) (sym e) t
below_at n p i (inr l) t rest = rest l

pub each_below : (n : ℕ) (p : ℕ → Bool) → T (all_below n p) → (i : ℕ) → i < n → T (p i)
each_below zero p t i l = absurd (not-suc-le-zero l)
each_below (suc n) p t i l =
    let u = both (p n) (all_below n p) t in
    below_at n p i (eq-or-lt_of_le (le_of_suc-le-suc l)) u.0 (λ m. each_below n p u.1 i m)

-- the fields of an entry cover just the bytes that its kind uses
abbrev pub either : Bool → Bool → Bool
either true b = not b
either false b = b

abbrev pub exact : ℕ → List Field → ℕ → Bool
exact kind fs i = either (unused kind i) (covered fs i)

-- ---- bytes that no field covers

neither : (a b : Bool) → a || b ≡ false → (a ≡ false) × (b ≡ false)
neither false false e = (refl, refl)
neither false true e = absurd (let z : ◌≡◌ {A = ℕ} 0 1 = cc in omega arith)
neither true b e = absurd (let z : ◌≡◌ {A = ℕ} 0 1 = cc in omega arith)

pub uncovered_all : (fs : List Field) (bs : List ℕ) (i : ℕ) → covered fs i ≡ false → get_or (written fs bs) i 0 ≡ get_or bs i 0
uncovered_all [] bs i e = refl
uncovered_all (f ∷ fs) bs i e =
    let n = neither (covers f i) (covered fs i) e in
    uncovered_all fs _ i n.1 ∙ uncovered f bs i n.0

pub blank_zero : (i : ℕ) → i < 96 → get_or blank i 0 ≡ 0
unfolding blank
blank_zero i l = get_or-replicate 96 i 0 0 l

uncovered_by : (u v : Bool) → T (either u v) → T u → v ≡ false
uncovered_by true false t s = refl
uncovered_by true true t s = absurd t
uncovered_by false v t s = absurd s

empty_of : (c : Entry) (kind : ℕ) → T (all_below 96 (exact kind (table_of c))) → (i : ℕ) → i < 96 → T (unused kind i) → get_or (record_of c) i 0 ≡ 0
unfolding record_of
empty_of c kind t i l u =
    uncovered_all (table_of c) blank i (uncovered_by (unused kind i) (covered (table_of c) i) (each_below 96 (exact kind (table_of c)) t i l) u) ∙ blank_zero i l

-- ---- fields that are absent

zero_field : (c : Entry) (k : ℕ) → T (within (table_of c) k) → 0 < base (field_at (table_of c) k).width → (field_at (table_of c) k).value ≡ 0
    → number_at (field_at (table_of c) k).width (record_of c) (field_at (table_of c) k).at ≡ 0
zero_field c k t p e = field c k t (subst (λ (n : ℕ). n < base (field_at (table_of c) k).width) (sym e) p) ∙ e

never : true ≡ false → ⊥
never e = let z : ◌≡◌ {A = ℕ} 0 1 = cc in omega arith

pending_time-none : (p : Option PendingPacket) → eqb (pending_flag p) 1 ≡ false → pending_time p ≡ 0
pending_time-none None e = refl
pending_time-none (Some p) e = absurd (never e)

pending_tag-none : (p : Option PendingPacket) → eqb (pending_flag p) 1 ≡ false → pending_tag p ≡ 0
pending_tag-none None e = refl
pending_tag-none (Some p) e = absurd (never e)

time-none : (t : Option ℤ) → eqb (time_flag t) 1 ≡ false → time_word t ≡ 0
time-none None e = refl
time-none (Some z) e = absurd (never e)

ordinal-none : (o : Option ℕ) → eqb (ordinal_flag o) 1 ≡ false → ordinal_number o ≡ 0
ordinal-none None e = refl
ordinal-none (Some n) e = absurd (never e)

sender_none : (k : Option CounterPoint) → eqb (counters_flag k) 1 ≡ false → sender_count k ≡ 0
sender_none None e = refl
sender_none (Some p) e = absurd (never e)

received_none : (k : Option CounterPoint) → eqb (counters_flag k) 1 ≡ false → received_count k ≡ 0
received_none None e = refl
received_none (Some p) e = absurd (never e)

transmitted-none : (k : Option CounterPoint) → eqb (counters_flag k) 1 ≡ false → transmitted_count k ≡ 0
transmitted-none None e = refl
transmitted-none (Some p) e = absurd (never e)

sequence_none : (f : Option FollowUpTelemetry) → eqb (follow_flag f) 1 ≡ false → follow_sequence f ≡ 0
sequence_none None e = refl
sequence_none (Some f) e = absurd (never e)

timestamp_none : (f : Option FollowUpTelemetry) → eqb (follow_flag f) 1 ≡ false → follow_timestamp f ≡ 0
timestamp_none None e = refl
timestamp_none (Some f) e = absurd (never e)

sender_wire-none : (q : Option (ErrorEstimate × ErrorEstimate)) → eqb (estimates_flag q) 1 ≡ false → sender_wire q ≡ 0
sender_wire-none None e = refl
sender_wire-none (Some (s, r)) e = absurd (never e)

reflector_wire-none : (q : Option (ErrorEstimate × ErrorEstimate)) → eqb (estimates_flag q) 1 ≡ false → reflector_wire q ≡ 0
reflector_wire-none None e = refl
reflector_wire-none (Some (s, r)) e = absurd (never e)

-- ---- each kind

rules_by : (kind flags : ℕ) (r : List ℕ) → get_or r 0 0 ≡ kind → get_or r 1 0 ≡ flags → RulesAt kind flags r → Rules r
rules_by kind flags r e f h = subst (λ (k : ℕ). RulesAt k (get_or r 1 0) r) (sym e) (subst (λ (g : ℕ). RulesAt kind g r) (sym f) h)

plain : (c : Entry) (kind : ℕ) → get_or (record_of c) 0 0 ≡ kind → get_or (record_of c) 1 0 ≡ 0 → get_or (record_of c) 95 0 ≡ 255 - kind → kind ≤ 4
    → (kind ≡ 1 → ⊥) → (kind ≡ 2 → ⊥) → T (all_below 96 (exact kind (table_of c))) → Rules (record_of c)
plain c kind e f l k n1 n2 t = rules_by kind 0 (record_of c) e f
    (record {
      size = record-length c;
      known = k;
      last = l;
      none = λ p q. refl;
      accept = λ q. absurd (n1 q);
      observe = λ q. absurd (n2 q);
      empty = empty_of c kind t;
    })

accept_rules : (r : Reply) → Rules (record_of (entry.Accept r))
unfolding table_of
accept_rules r =
    let c = entry.Accept r in
    let p = r.pending in
    rules_by 1 (pending_flag p) (record_of c) (field c 0 tt (lit< tt)) (field c 1 tt (byte_lt p))
    (record {
      size = record-length c;
      known = omega arith;
      last = field c 2 tt (lit< tt);
      none = λ n m. absurd (n refl);
      accept = λ q. record {
        Only = one p;
        time = λ e. zero_field c 6 tt (lit< tt) (pending_time-none p (sym (pending_flag-back p) ∙ e));
        tag = λ e. zero_field c 7 tt (lit< tt) (pending_tag-none p (sym (pending_flag-back p) ∙ e));
      };
      observe = λ q. absurd (eqb-false 1 2 refl q);
      empty = empty_of c 1 tt;
    })
  where
    byte_lt : (p : Option PendingPacket) → pending_flag p < 256
    byte_lt None = lit< tt
    byte_lt (Some p) = lit< tt

    one : (p : Option PendingPacket) → pending_flag p ≤ 1
    one None = omega arith
    one (Some p) = omega arith

converted_need : (f : Option FollowUpTelemetry) (t : Option ℤ) → eqb (time_flag (follow_time f t)) 1 ≡ true → eqb (follow_flag f) 1 ≡ true
converted_need None t e = e
converted_need (Some f) t e = refl

unknown_need : (f : Option FollowUpTelemetry) → eqb (unknown_flag f) 1 ≡ true → eqb (follow_flag f) 1 ≡ true
unknown_need None e = e
unknown_need (Some f) e = refl

module _ (o : ReplyObservation) (t : Option ℤ) where
  abbrev c : Entry
  c = entry.Observe o t

  abbrev f : ℕ
  f = observe_flags o t

  back : FlagsBack o t
  back = flags-back o t

  observe_fields : ObserveRules f (record_of c)
  unfolding table_of
  observe_fields = record {
    t4 = λ e. zero_field c 7 tt (lit< tt) (time-none o.t4 (sym back.timed ∙ e));
    ordinal = λ e. zero_field c 10 tt (lit< tt) (ordinal-none o.ordinal (sym back.numbered ∙ e));
    sender = λ e. zero_field c 11 tt (lit< tt) (sender_none o.counters (sym back.counted ∙ e));
    received = λ e. zero_field c 12 tt (lit< tt) (received_none o.counters (sym back.counted ∙ e));
    transmitted = λ e. zero_field c 13 tt (lit< tt) (transmitted-none o.counters (sym back.counted ∙ e));
    sequence = λ e. zero_field c 14 tt (lit< tt) (sequence_none o.follow (sym back.followed ∙ e));
    timestamp = λ e. zero_field c 15 tt (lit< tt) (timestamp_none o.follow (sym back.followed ∙ e));
    converted = λ e. zero_field c 16 tt (lit< tt) (time-none (follow_time o.follow t) (sym back.converted ∙ e));
    sender_estimate = λ e. zero_field c 17 tt (lit< tt) (sender_wire-none o.quality (sym back.estimated ∙ e));
    reflector_estimate = λ e. zero_field c 18 tt (lit< tt) (reflector_wire-none o.quality (sym back.estimated ∙ e));
    converted_needs = λ e. back.followed ∙ converted_need o.follow t (sym back.converted ∙ e);
    unknown_needs = λ e. back.followed ∙ unknown_need o.follow (sym back.unknown ∙ e);
  }

  observe_rules : Rules (record_of (entry.Observe o t))
  unfolding table_of
  observe_rules =
      rules_by 2 f (record_of c) (field c 0 tt (lit< tt)) (field c 1 tt back.fits)
      (record {
        size = record-length c;
        known = omega arith;
        last = field c 2 tt (lit< tt);
        none = λ n m. absurd (m refl);
        accept = λ q. absurd (eqb-false 2 1 refl q);
        observe = λ q. observe_fields;
        empty = empty_of c 2 tt;
      })

-- The record of every entry keeps the rules.
pub record_rules : (c : Entry) → Rules (record_of c)
unfolding table_of
record_rules (entry.Sent p) =
    let c = entry.Sent p in
    plain c 0 (field c 0 tt (lit< tt)) (field c 1 tt (lit< tt)) (field c 2 tt (lit< tt)) (omega arith) (eqb-false 0 1 refl) (eqb-false 0 2 refl) tt
record_rules (entry.Accept r) = accept_rules r
record_rules (entry.Observe o t) = observe_rules o t
record_rules (entry.Advance n) =
    let c = entry.Advance n in
    plain c 3 (field c 0 tt (lit< tt)) (field c 1 tt (lit< tt)) (field c 2 tt (lit< tt)) (omega arith) (eqb-false 3 1 refl) (eqb-false 3 2 refl) tt
record_rules entry.Idle =
    let c = entry.Idle in
    plain c 4 (field c 0 tt (lit< tt)) (field c 1 tt (lit< tt)) (field c 2 tt (lit< tt)) (omega arith) (eqb-false 4 1 refl) (eqb-false 4 2 refl) tt
