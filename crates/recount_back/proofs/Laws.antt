-- Each function of crate history that a record's look-back answers, after one record more. Assumes nothing.
use Rattle.std.specs.Prelude.{Some, None, Option}
use Rattle.std.proofs.Common.{◌≡◌, ℕ, zero, suc, ◌+◌, ◌%◌, ◌^◌, ◌<◌, ◌≤◌, Bool, true, false, cond, ◌||◌, eqb, ltb, List, [], sym, refl, ap, ◌∙◌, arith}
use Rattle.call_types.specs.declared.ReplyKey.{ReplyKey}
use Rattle.history.specs.Counting.{tally, has, offset}
use Rattle.history.specs.Ledger.{Event, has_key, accepted, rememberings, awaiting, replies, new_highest, highest_reflector, behind}
use Rattle.recount_seen.specs.declared.Seen.{Seen}
use Rattle.recount_seen.specs.declared.Seen.TheVariants.{Nothing, Probe, Duplicate, Unknown, Known, First, Observed}
use Rattle.recount_seen.specs.Seen.{seen_at, grow, events_of, steps_to, Folded}
use Rattle.recount_back.specs.Back.{accepts, remembers, awaits, awaits_next, zero_if, replies_next, highest_of, raised, highest_next, is_behind, counts_to, Counted}

accepted_grows : (s : Seen) (es : List Event) (k : ReplyKey) → has_key (accepted (grow s es)) k ≡ (accepts s k || has_key (accepted es) k)
unfolding accepted has_key
accepted_grows Nothing es k = refl
accepted_grows (Probe s) es k = refl
accepted_grows Duplicate es k = refl
accepted_grows Unknown es k = refl
accepted_grows (Known a) es k = refl
accepted_grows (First a) es k = refl
accepted_grows (Observed o) es k = refl

remembered_grows : (s : Seen) (es : List Event) (q : ℕ) → has (rememberings (grow s es)) q ≡ (remembers s q || has (rememberings es) q)
unfolding rememberings has
remembered_grows Nothing es q = refl
remembered_grows (Probe s) es q = refl
remembered_grows Duplicate es q = refl
remembered_grows Unknown es q = refl
remembered_grows (Known a) es q = refl
remembered_grows (First a) es q = refl
remembered_grows (Observed o) es q = refl

awaiting_grows : (s : Seen) (es : List Event) (k : ReplyKey) → awaits (awaiting (grow s es)) k ≡ awaits_next s k (awaits (awaiting es) k)
unfolding awaiting
awaiting_grows Nothing es k = refl
awaiting_grows (Probe s) es k = refl
awaiting_grows Duplicate es k = refl
awaiting_grows Unknown es k = refl
awaiting_grows (Known a) es k = refl
awaiting_grows (First a) es k = refl
awaiting_grows (Observed o) es k = refl

replies-grow : (s : Seen) (es : List Event) (q : ℕ) → replies q (grow s es) ≡ replies_next s q (replies q es)
unfolding replies
replies-grow Nothing es q = refl
replies-grow (Probe s) es q = refl
replies-grow Duplicate es q = refl
replies-grow Unknown es q = refl
replies-grow (Known a) es q = refl
replies-grow (First a) es q = refl
replies-grow (Observed o) es q = refl

raised_is : (r : ℕ) (x : Option ℕ) → highest_of (new_highest r x) ≡ raised r (highest_of x)
raised_is r None = refl
raised_is r (Some h) = go (ltb (offset h r) (2 ^ 31))
  where
    go : (b : Bool) → highest_of (cond b (Some r) (Some h)) ≡ cond b (Some r) (Some h)
    go true = refl
    go false = refl

highest_grows : (s : Seen) (es : List Event) → highest_of (highest_reflector (accepted (grow s es))) ≡ highest_next s (highest_of (highest_reflector (accepted es)))
unfolding accepted highest_reflector
highest_grows Nothing es = refl
highest_grows (Probe s) es = refl
highest_grows Duplicate es = refl
highest_grows Unknown es = refl
highest_grows (Known a) es = raised_is a.key.reflector (highest_reflector (accepted es))
highest_grows (First a) es = raised_is a.key.reflector (highest_reflector (accepted es))
highest_grows (Observed o) es = refl

-- what looking back calls behind is what the history calls behind
pub behind_is : (r : ℕ) (x : Option ℕ) → is_behind r (highest_of x) ≡ behind r x
behind_is r None = refl
behind_is r (Some h) = refl

-- what `wrapping_sub_u32` ensures is the offset
pub wraps_is : (a b r : ℕ) → a < 2 ^ 32 → b < 2 ^ 32 → r < 2 ^ 32 → (r + a) % 2 ^ 32 ≡ b → r ≡ offset a b
unfolding offset
wraps_is a b r ha hb hr e = omega arith

-- ---- an answer that is kept over the first n records is what the history says of their events

module _ {A : Type 0} (step : Seen → A → A → Type 0) (f : List Event → A) (next : Seen → A → A) (law : (s : Seen) (es : List Event) → f (grow s es) ≡ next s (f es)) (steps : (s : Seen) (a r : A) → step s a r → r ≡ next s a) where
  ran_is : (log marks : List ℕ) (start : A) → start ≡ f [] → (n : ℕ) (r : A) → steps_to step log marks start n r → r ≡ f (events_of log marks n)
  unfolding events_of
  ran_is log marks start e zero r h = h ∙ e
  ran_is log marks start e (suc n) r (a, before, s) =
      steps (seen_at log marks n) a r s ∙ ap (next (seen_at log marks n)) (ran_is log marks start e n a before) ∙ sym (law (seen_at log marks n) (events_of log marks n))

  pub folded_is : (log marks : List ℕ) (start : A) → start ≡ f [] → (n : ℕ) (r : A) → Folded step log marks start n r → r ≡ f (events_of log marks n)
  folded_is log marks start e n r h = ran_is log marks start e n r h.ran

-- ---- the five

module _ {step : Seen → Bool → Bool → Type 0} {log marks : List ℕ} {n : ℕ} {r : Bool} (h : Folded step log marks false n r) where
  pub accepted_is : (k : ReplyKey) → ((s : Seen) (a b : Bool) → step s a b → b ≡ (accepts s k || a)) → r ≡ has_key (accepted (events_of log marks n)) k
  unfolding accepted has_key
  accepted_is k steps = folded_is step (λ es. has_key (accepted es) k) (λ s a. accepts s k || a) (λ s es. accepted_grows s es k) steps log marks false refl n r h

  pub remembered_is : (q : ℕ) → ((s : Seen) (a b : Bool) → step s a b → b ≡ (remembers s q || a)) → r ≡ has (rememberings (events_of log marks n)) q
  unfolding rememberings has
  remembered_is q steps = folded_is step (λ es. has (rememberings es) q) (λ s a. remembers s q || a) (λ s es. remembered_grows s es q) steps log marks false refl n r h

  pub awaits_is : (k : ReplyKey) → ((s : Seen) (a b : Bool) → step s a b → b ≡ awaits_next s k a) → r ≡ awaits (awaiting (events_of log marks n)) k
  unfolding awaiting
  awaits_is k steps = folded_is step (λ es. awaits (awaiting es) k) (λ s a. awaits_next s k a) (λ s es. awaiting_grows s es k) steps log marks false refl n r h

pub replies_are : {step : Seen → ℕ → ℕ → Type 0} {log marks : List ℕ} {n r : ℕ} (q : ℕ) → Folded step log marks 0 n r → ((s : Seen) (a b : ℕ) → step s a b → b ≡ replies_next s q a) → r ≡ replies q (events_of log marks n)
unfolding replies
replies_are {step} {log} {marks} {n} {r} q h steps = folded_is step (replies q) (λ s a. replies_next s q a) (λ s es. replies-grow s es q) steps log marks 0 refl n r h

pub highest_is : {step : Seen → Option ℕ → Option ℕ → Type 0} {log marks : List ℕ} {n : ℕ} {r : Option ℕ} → Folded step log marks None n r → ((s : Seen) (a b : Option ℕ) → step s a b → b ≡ highest_next s a)
    → r ≡ highest_of (highest_reflector (accepted (events_of log marks n)))
unfolding accepted highest_reflector
highest_is {step} {log} {marks} {n} {r} h steps = folded_is step (λ es. highest_of (highest_reflector (accepted es))) highest_next highest_grows steps log marks None refl n r h

tally-most : (b : Bool) (n m : ℕ) → n ≤ m → tally b n ≤ m + 1
tally-most true n m l = omega arith
tally-most false n m l = omega arith

-- a tally is at most one more
pub total-most : (b : Bool) (r n m : ℕ) → r ≡ tally b n → n ≤ m → r ≤ m + 1
total-most b r n m e l = omega (arith, e, tally-most b n m l)

zero_most : (b : Bool) (n m : ℕ) → n ≤ m → zero_if b n ≤ m
zero_most true n m l = omega arith
zero_most false n m l = l

pub replies-most : (s : Seen) (q n m : ℕ) → n ≤ m → replies_next s q n ≤ m + 1
replies-most Nothing q n m l = omega arith
replies-most (Probe s) q n m l = omega (arith, zero_most (eqb q s.sequence) n m l)
replies-most Duplicate q n m l = omega arith
replies-most Unknown q n m l = omega arith
replies-most (Known a) q n m l = tally-most (eqb q a.key.sender) n m l
replies-most (First a) q n m l = tally-most (eqb q a.key.sender) (zero_if (eqb q a.key.sender) n) m (zero_most (eqb q a.key.sender) n m l)
replies-most (Observed o) q n m l = omega arith

-- at most one for each record
ran_within : (step : Seen → ℕ → ℕ → Type 0) (log marks : List ℕ) (q : ℕ) → ((s : Seen) (a b : ℕ) → step s a b → b ≡ replies_next s q a) → (n r : ℕ) → steps_to step log marks 0 n r → r ≤ n
ran_within step log marks q steps zero r h = omega (arith, h)
ran_within step log marks q steps (suc n) r (a, before, s) =
    omega (arith, steps (seen_at log marks n) a r s, replies-most (seen_at log marks n) q a n (ran_within step log marks q steps n a before))

pub replies_within : {step : Seen → ℕ → ℕ → Type 0} {log marks : List ℕ} {n r : ℕ} (q : ℕ) → Folded step log marks 0 n r → ((s : Seen) (a b : ℕ) → step s a b → b ≡ replies_next s q a) → r ≤ n
replies_within {step} {log} {marks} {n} {r} q h steps = ran_within step log marks q steps n r h.ran

pub zero_less : (b : Bool) (r n m : ℕ) → r ≡ zero_if b n → n + 1 < m → r + 1 < m
zero_less true r n m e l = omega arith
zero_less false r n m e l = omega arith

-- ---- what is counted is what a function of the number of records says, one record more at a time

module _ (test : ℕ → Bool → Type 0) (f : ℕ → ℕ) (p : ℕ → Bool) (law : (j : ℕ) → f (suc j) ≡ tally (p j) (f j)) (tests : (j : ℕ) (b : Bool) → test j b → b ≡ p j) where
  counts-are : f 0 ≡ 0 → (n r : ℕ) → counts_to test n r → r ≡ f n
  counts-are e zero r h = h ∙ sym e
  counts-are e (suc n) r (b, m, before, t, last) = last ∙ ap (λ (x : Bool). tally x m) (tests n b t) ∙ ap (tally (p n)) (counts-are e n m before) ∙ sym (law n)

pub counted_is : {test : ℕ → Bool → Type 0} {n r : ℕ} (f : ℕ → ℕ) (p : ℕ → Bool) → f 0 ≡ 0 → ((j : ℕ) → f (suc j) ≡ tally (p j) (f j)) → Counted test n r → ((j : ℕ) (b : Bool) → test j b → b ≡ p j) → r ≡ f n
counted_is {test} {n} {r} f p none more h tests = counts-are test f p more tests none n r h.ran
