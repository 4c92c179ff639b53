-- What is kept of a slot is enough for its class, and for what one record more makes of it. Assumes nothing.
use Rattle.std.specs.Prelude.{Some, None, Option}
use mathlib.Core.Path.{◌≡◌, refl, sym, ap, subst, ◌∙◌}
use mathlib.Core.Bool.{Bool, true, false, not, ◌||◌, ◌&&◌, cond}
use mathlib.Core.List.{List}
use Prim.Native.Nat.{ℕ, suc, ◌+◌, ◌≤◌, ◌<◌}
use native.Mathlib.Omega.{arith}
use lib.Dec.{T, eqb, ltb, eqb→eq}
use lib.IntN.{ℤ, ◌+ℤ◌}
use Rattle.estimate.specs.declared.ClockFormat.{ClockFormat}
use Rattle.call_types.specs.declared.FollowUpTelemetry.{FollowUpTelemetry}
use Rattle.call_types.specs.declared.ReplyObservation.{ReplyObservation}
use Rattle.history.specs.Counting.{present}
use Rattle.history.specs.Given.{time_of, follow_of, estimates_of}
use Rattle.history.specs.FollowUps.{Kept, Slot, free, taken, record_of, raise, correct, FollowClass, unavailable, ambiguous, repeated, matched, follow_number, same_follow, follow_class, following, observing}
use Rattle.history.specs.FollowUps as history
use Rattle.recount_seen.specs.Seen.{events_of}
use Rattle.recount_time.specs.Eras.{says_time}
use Rattle.recount_observed.specs.Observed.{observation_at}
use Rattle.recount_observed.proofs.Laws.{observed-turn}
use Rattle.recount_follow.specs.declared.Left.{Left}
use Rattle.recount_follow.specs.declared.Left.TheVariants.{Nothing, Timed}
use Rattle.recount_follow.specs.declared.Brief.{Brief}
use Rattle.recount_follow.specs.Slots.{slot_in}
use Rattle.recount_follow.specs.Brief.{left_of, left_in, brief_of, by_record, has_record, by_slot, class_of, followed_by, followed, left_time, left_by, raised, observed_by, slot_next}

-- ---- the class

pick-number : (b : Bool) (x y : FollowClass) → follow_number (cond b x y) ≡ cond b (follow_number x) (follow_number y)
pick-number true x y = refl
pick-number false x y = refl

pick_not : (b : Bool) (x y : ℕ) → cond b x y ≡ cond (not b) y x
pick_not true x y = refl
pick_not false x y = refl

module _ (timestamp : ℕ) (offset : ℤ) (format : ClockFormat) (reference : ℤ) where
  timed : (t4 : Option ℤ) (c : Bool)
      → follow_number (cond c repeated (cond (present t4 && says_time format timestamp (reference +ℤ offset)) matched unavailable))
      ≡ cond c 3 (by_record timestamp offset (left_of t4 format reference))
  timed t4 true = refl
  timed None false = refl
  timed (Some z) false = pick-number (says_time format timestamp (reference +ℤ offset)) matched unavailable

  some_record : (t4 : Option ℤ) (x y : ℕ) → cond (not (has_record (left_of t4 format reference))) x y ≡ y
  some_record None x y = refl
  some_record (Some z) x y = refl

by_slot_lem : (timestamp : ℕ) (offset : ℤ) (s : Slot) → follow_number (history.by_slot timestamp offset s) ≡ by_slot timestamp offset (brief_of s)
by_slot_lem timestamp offset free = refl
by_slot_lem timestamp offset (taken n None c) = refl
by_slot_lem timestamp offset (taken n (Some r) c) =
    pick-number (eqb n 1) (cond c repeated (cond (present r.t4 && says_time r.format timestamp (r.reference +ℤ offset)) matched unavailable)) ambiguous
    ∙ ap (λ (x : ℕ). cond (eqb n 1) x 1) (timed timestamp offset r.format r.reference r.t4 c)
    ∙ pick_not (eqb n 1) (cond c 3 (by_record timestamp offset (left_in (Some r)))) 1
    ∙ sym (some_record timestamp offset r.format r.reference r.t4 1 (cond (not (eqb n 1)) 1 (cond c 3 (by_record timestamp offset (left_in (Some r))))))

pub class_is : (f : FollowUpTelemetry) (own : ℕ) (offset : ℤ) (s : Slot) → follow_number (follow_class f own offset s) ≡ class_of f own offset (brief_of s)
unfolding follow_class
class_is f own offset s =
    pick-number (f.unknown || eqb f.timestamp 0) unavailable (cond (eqb f.sequence own) ambiguous (history.by_slot f.timestamp offset s))
    ∙ ap (cond (f.unknown || eqb f.timestamp 0) 0)
    (pick-number (eqb f.sequence own) ambiguous (history.by_slot f.timestamp offset s)
    ∙ ap (cond (eqb f.sequence own) 1) (by_slot_lem f.timestamp offset s))

-- ---- what a follow-up does

correct_is : (s : Slot) → brief_of (correct s) ≡ record { there = (brief_of s).there; count = (brief_of s).count; left = (brief_of s).left; corrected = (brief_of s).there }
correct_is free = refl
correct_is (taken n r c) = refl

pick_brief : (b : Bool) (x y : Slot) → brief_of (cond b x y) ≡ cond b (brief_of x) (brief_of y)
pick_brief true x y = refl
pick_brief false x y = refl

module _ (f : FollowUpTelemetry) (own : ℕ) (offset : ℤ) (r : ℕ) (slot : ℕ → Slot) where
  and_false : (b : Bool) → (b && false) ≡ false
  and_false true = refl
  and_false false = refl

  there_is : eqb r f.sequence ≡ true → same_follow matched (follow_class f own offset (slot f.sequence)) ≡ eqb 4 (class_of f own offset (brief_of (slot r)))
  there_is e =
      let same : r ≡ f.sequence = eqb→eq r f.sequence (subst T (sym e) tt) in
      ap (λ (q : ℕ). eqb 4 (follow_number (follow_class f own offset (slot q)))) (sym same) ∙ ap (eqb 4) (class_is f own offset (slot r))

  follow-by : (b : Bool) → eqb r f.sequence ≡ b
      → brief_of (cond (same_follow matched (follow_class f own offset (slot f.sequence)) && b) (correct (slot r)) (slot r))
      ≡ cond (eqb 4 (class_of f own offset (brief_of (slot r))) && b)
      (record { there = (brief_of (slot r)).there; count = (brief_of (slot r)).count; left = (brief_of (slot r)).left; corrected = (brief_of (slot r)).there })
      (brief_of (slot r))
  follow-by true e =
      rw (there_is e) (pick_brief (eqb 4 (class_of f own offset (brief_of (slot r))) && true) (correct (slot r)) (slot r)
      ∙ ap (λ (x : Brief). cond (eqb 4 (class_of f own offset (brief_of (slot r))) && true) x (brief_of (slot r))) (correct_is (slot r)))
  follow-by false e =
      rw (and_false (same_follow matched (follow_class f own offset (slot f.sequence))), and_false (eqb 4 (class_of f own offset (brief_of (slot r)))))

  follow_is : brief_of (following (Some f) own offset slot r) ≡ followed_by f own offset r (brief_of (slot r))
  follow_is = follow-by (eqb r f.sequence) refl

followed_is : (x : Option FollowUpTelemetry) (own : ℕ) (offset : ℤ) (r : ℕ) (slot : ℕ → Slot) → brief_of (following (follow_of x) own offset slot r) ≡ followed x own offset r (brief_of (slot r))
followed_is None own offset r slot = refl
followed_is (Some f) own offset r slot = follow_is f own offset r slot

-- ---- what an observation does

left_is : (copies : ℕ) (o : ReplyObservation) → left_in (record_of copies o) ≡ left_by copies o
left_is copies o = go (ltb 1 copies && eqb o.key.sender o.key.reflector) o.t4
  where
    go : (b : Bool) (x : Option ℤ)
        → left_in (cond b None (Some (record { t4 = time_of x; format = o.format; reference = o.reference; quality = estimates_of o.quality })))
        ≡ cond b Nothing (left_time x o.format o.reference)
    go true x = refl
    go false None = refl
    go false (Some z) = refl

raise_is : (k : Option Kept) (s : Slot) → brief_of (raise k s) ≡ raised (left_in k) (brief_of s)
raise_is k free = refl
raise_is k (taken n r c) = let e : suc n ≡ n + 1 = omega arith in λ i. record { there = true; count = e i; left = Nothing; corrected = c }

own_is : (copies : ℕ) (o : ReplyObservation) (s : Slot) (b : Bool) → brief_of (cond b (raise (record_of copies o) s) s) ≡ cond b (raised (left_by copies o) (brief_of s)) (brief_of s)
own_is copies o s true = raise_is (record_of copies o) s ∙ ap (λ (k : Left). raised k (brief_of s)) (left_is copies o)
own_is copies o s false = refl

observed_is : (copies r : ℕ) (o : ReplyObservation) (slot : ℕ → Slot)
    → brief_of (observing (record_of copies o) o.key.reflector r (following (follow_of o.follow) o.key.reflector o.offset slot r))
    ≡ observed_by o copies r (brief_of (slot r))
observed_is copies r o slot =
    own_is copies o (following (follow_of o.follow) o.key.reflector o.offset slot r) (eqb r o.key.reflector)
    ∙ ap (λ (b : Brief). cond (eqb r o.key.reflector) (raised (left_by copies o) b) b) (followed_is o.follow o.key.reflector o.offset r slot)

-- ---- the loop

pub slot_start : (log marks : List ℕ) (copies r : ℕ) → record { there = false; count = 0; left = Nothing; corrected = false } ≡ brief_of (slot_in copies (events_of log marks 0) r)
unfolding events_of slot_in
slot_start log marks copies r = refl

pub slot_turn : (log marks : List ℕ) (copies r n : ℕ) (x : Option ReplyObservation) (b b' : Brief) → x ≡ observation_at log marks n → b' ≡ slot_next x copies r b
    → b ≡ brief_of (slot_in copies (events_of log marks n) r) → b' ≡ brief_of (slot_in copies (events_of log marks (n + 1)) r)
unfolding slot_in
slot_turn log marks copies r =
    observed-turn (λ es. brief_of (slot_in copies es r)) (λ x b. slot_next x copies r b) (λ b. refl) (λ s o t p es. refl) (λ k p es. refl)
    (λ o es. observed_is copies r o (slot_in copies es)) log marks

-- ---- the count of a slot

followed-count : (x : Option FollowUpTelemetry) (own : ℕ) (offset : ℤ) (r : ℕ) (b : Brief) → (followed x own offset r b).count ≡ b.count
followed-count None own offset r b = refl
followed-count (Some f) own offset r b = go (eqb 4 (class_of f own offset b) && eqb r f.sequence)
  where
    go : (d : Bool) → (cond d (record { there = b.there; count = b.count; left = b.left; corrected = b.there }) b).count ≡ b.count
    go true = refl
    go false = refl

raised-count : (k : Left) (b : Brief) (m : ℕ) → b.count ≤ m → (raised k b).count ≤ m + 1
raised-count k b m l = go b.there
  where
    go : (d : Bool) → (cond {A = Brief} d (record { there = true; count = b.count + 1; left = Nothing; corrected = b.corrected }) (record { there = true; count = 1; left = k; corrected = false })).count ≤ m + 1
    go true = omega arith
    go false = omega arith

pub followed-less : (x : Option FollowUpTelemetry) (own : ℕ) (offset : ℤ) (r m : ℕ) (b b' : Brief) → b' ≡ followed x own offset r b → b.count + 1 < m → b'.count + 1 < m
followed-less x own offset r m b b' e l = omega (arith, ap (λ (y : Brief). y.count) e, followed-count x own offset r b)

observed-count : (o : ReplyObservation) (copies r m : ℕ) (b : Brief) → b.count ≤ m → (observed_by o copies r b).count ≤ m + 1
observed-count o copies r m b l = go (eqb r o.key.reflector)
  where
    within : (followed o.follow o.key.reflector o.offset r b).count ≤ m
    within = omega (arith, followed-count o.follow o.key.reflector o.offset r b, l)

    go : (d : Bool)
        → (cond d (raised (left_by copies o) (followed o.follow o.key.reflector o.offset r b)) (followed o.follow o.key.reflector o.offset r b)).count ≤ m + 1
    go true = raised-count (left_by copies o) (followed o.follow o.key.reflector o.offset r b) m within
    go false = omega (arith, within)

next-count : (x : Option ReplyObservation) (copies r m : ℕ) (b : Brief) → b.count ≤ m → (slot_next x copies r b).count ≤ m + 1
next-count None copies r m b l = omega arith
next-count (Some o) copies r m b l = observed-count o copies r m b l

pub next-most : (x : Option ReplyObservation) (copies r m : ℕ) (b b' : Brief) → b' ≡ slot_next x copies r b → b.count ≤ m → b'.count ≤ m + 1
next-most x copies r m b b' e l = omega (arith, ap (λ (y : Brief). y.count) e, next-count x copies r m b l)

-- ---- the class of a record with T4, by the conversion's answer

module _ (timestamp : ℕ) (offset : ℤ) (left : Left) (format : ClockFormat) (reference : ℤ) (is : left ≡ Timed format reference) (b : Bool) (says : b ≡ says_time format timestamp (reference +ℤ offset)) where
  pub timed_yes : b ≡ true → 4 ≡ by_record timestamp offset left
  timed_yes e = rw (is, ← says, e)

  pub timed_no : b ≡ false → 0 ≡ by_record timestamp offset left
  timed_no e = rw (is, ← says, e)
