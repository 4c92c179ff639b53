-- Of few calls nothing is evicted: the last N accepted are all, and the N most recently remembered are all. Assumes nothing.
use Rattle.std.specs.Prelude.{Option, None}
use mathlib.Core.Path.{◌≡◌, refl, ap, ◌∙◌}
use mathlib.Core.Bool.{Bool, true, false, not, ◌&&◌, ◌||◌, cond}
use mathlib.Core.List.{List, [], ◌∷◌}
use Prim.Native.Nat.{ℕ, suc, ◌≤◌}
use native.Mathlib.Omega.{arith}
use lib.Dec.{eqb}
use lib.ListN.{length, length-take}
use borrow.Author.Tests.{ne_eqb}
use lib.Seq.{take_all}
use Rattle.chains.proofs.Tests.{Test, holds, fails, eq_test}
use Rattle.call_types.specs.declared.PendingPacket.{PendingPacket}
use Rattle.call_types.specs.declared.ReplyKey.{ReplyKey}
use Rattle.call_types.specs.declared.Call.{Call}
use Rattle.call_types.specs.declared.Call.TheVariants.{Sent, Accept, Observe, Advance, Idle}
use Rattle.history.specs.Counting.{tally, has, or_else}
use Rattle.history.specs.Given.{packet_of}
use Rattle.history.specs.Ledger.{Event, remembered, replied, observed, no_packet, rememberings, without, distinct, oldest, replies, evicted_unanswered, accepted, Class, duplicate, unknown, unique, last_accepted, held, reply_class, ready, after_reply, events}

-- ---- lists of numbers

has-without-other : (s q : ℕ) (xs : List ℕ) → eqb q s ≡ false → has (without s xs) q ≡ has xs q
unfolding has without
has-without-other s q [] e = refl
has-without-other s q (x ∷ xs) e = go (eq_test s x) (has-without-other s q xs e)
  where
    go : Test (s ≡ x) (eqb s x) → has (without s xs) q ≡ has xs q → has (cond (eqb s x) (without s xs) (x ∷ without s xs)) q ≡ (eqb q x || has xs q)
    go (holds p t) ih = rw (t, ← p, e) ih
    go (fails p t) ih = rw t (ap (λ (b : Bool). eqb q x || b) ih)

has-distinct : (xs : List ℕ) (q : ℕ) → has (distinct xs) q ≡ has xs q
unfolding has distinct
has-distinct [] q = refl
has-distinct (x ∷ xs) q = go (eqb q x) refl (has-distinct xs q)
  where
    go : (b : Bool) → eqb q x ≡ b → has (distinct xs) q ≡ has xs q → (b || has (without x (distinct xs)) q) ≡ (b || has xs q)
    go true e ih = refl
    go false e ih = has-without-other x q (distinct xs) e ∙ ih

length_without : (s : ℕ) (xs : List ℕ) → length (without s xs) ≤ length xs
unfolding without
length_without s [] = omega arith
length_without s (x ∷ xs) = go (eqb s x) (length_without s xs)
  where
    go : (b : Bool) → length (without s xs) ≤ length xs → length (cond b (without s xs) (x ∷ without s xs)) ≤ suc (length xs)
    go true l = omega arith
    go false l = omega arith

length-distinct : (xs : List ℕ) → length (distinct xs) ≤ length xs
unfolding distinct
length-distinct [] = omega arith
length-distinct (x ∷ xs) = omega (arith, length_without x (distinct xs), length-distinct xs)

-- ---- of few events all are held

module _ (N : ℕ) (es : List Event) where
  pub all_accepted : length (accepted es) ≤ N → last_accepted N es ≡ accepted es
  unfolding last_accepted
  all_accepted l = take_all N (accepted es) l

  pub all_held : length (rememberings es) ≤ N → (q : ℕ) → has (held N es) q ≡ has (rememberings es) q
  unfolding held
  all_held l q =
      ap (λ (xs : List ℕ). has xs q) (take_all N (distinct (rememberings es)) (omega (arith, length-distinct (rememberings es))))
      ∙ has-distinct (rememberings es) q

-- ---- so none is evicted

held_few : (N : ℕ) (es : List Event) → length (held N es) ≤ length (rememberings es)
unfolding held
held_few N es = omega (arith, length-take N (distinct (rememberings es)), length-distinct (rememberings es))

none-evicted : (full known answered : Bool) (n : ℕ) → full ≡ false → n ≡ 0 → tally (full && not known && answered) n ≡ 0
none-evicted full known answered n e z = rw e z

-- NO PROBE LEAVES THE HELD ONES where at most N are remembered
pub evicts-none : (N : ℕ) (es : List Event) → length (rememberings es) ≤ N → evicted_unanswered N es ≡ 0
unfolding evicted_unanswered rememberings
evicts-none N [] l = refl
evicts-none N (remembered s o t p ∷ es) l =
    none-evicted (eqb (length (held N es)) N) (has (held N es) s) (eqb (replies (oldest s (held N es)) es) 0) (evicted_unanswered N es)
    (ne_eqb (length (held N es)) N (λ e. omega (arith, e, l, held_few N es)))
    (evicts-none N es (omega arith))
evicts-none N (replied k p ∷ es) l = evicts-none N es l
evicts-none N (observed o ∷ es) l = evicts-none N es l

-- ---- of few calls there are few events

module _ (N : ℕ) where
  accepted-ready : (es : List Event) (k : ReplyKey) (p : Option PendingPacket) → accepted (ready N es k p) ≡ accepted es
  unfolding ready accepted
  accepted-ready es k p = go (has (held N es) k.sender)
    where
      go : (b : Bool) → accepted (cond b es (remembered k.sender None 0 (or_else p no_packet) ∷ es)) ≡ accepted es
      go true = refl
      go false = refl

  remembered-ready : (es : List Event) (k : ReplyKey) (p : Option PendingPacket) → length (rememberings (ready N es k p)) ≤ suc (length (rememberings es))
  unfolding ready rememberings
  remembered-ready es k p = go (has (held N es) k.sender)
    where
      go : (b : Bool) → length (rememberings (cond b es (remembered k.sender None 0 (or_else p no_packet) ∷ es))) ≤ suc (length (rememberings es))
      go true = omega arith
      go false = omega arith

  accepted-reply : (x : Class) (es : List Event) (k : ReplyKey) (p : Option PendingPacket) → length (accepted (after_reply N x es k p)) ≤ suc (length (accepted es))
  unfolding after_reply accepted
  accepted-reply duplicate es k p = omega arith
  accepted-reply unknown es k p = omega arith
  accepted-reply unique es k p = omega (arith, ap length (accepted-ready es k p))

  remembered-reply : (x : Class) (es : List Event) (k : ReplyKey) (p : Option PendingPacket) → length (rememberings (after_reply N x es k p)) ≤ suc (length (rememberings es))
  unfolding after_reply rememberings
  remembered-reply duplicate es k p = omega arith
  remembered-reply unknown es k p = omega arith
  remembered-reply unique es k p = remembered-ready es k p

  pub accepted_few : (h : List Call) → length (accepted (events N h)) ≤ length h
  unfolding events accepted
  accepted_few [] = omega arith
  accepted_few (Sent s ∷ h) = omega (arith, accepted_few h)
  accepted_few (Accept a ∷ h) =
      omega (arith, accepted_few h, accepted-reply (reply_class N (events N h) a.key (packet_of a.pending)) (events N h) a.key (packet_of a.pending))
  accepted_few (Observe o ∷ h) = omega (arith, accepted_few h)
  accepted_few (Advance t ∷ h) = omega (arith, accepted_few h)
  accepted_few (Idle ∷ h) = omega (arith, accepted_few h)

  pub remembered_few : (h : List Call) → length (rememberings (events N h)) ≤ length h
  unfolding events rememberings
  remembered_few [] = omega arith
  remembered_few (Sent s ∷ h) = omega (arith, remembered_few h)
  remembered_few (Accept a ∷ h) =
      omega (arith, remembered_few h, remembered-reply (reply_class N (events N h) a.key (packet_of a.pending)) (events N h) a.key (packet_of a.pending))
  remembered_few (Observe o ∷ h) = omega (arith, remembered_few h)
  remembered_few (Advance t ∷ h) = omega (arith, remembered_few h)
  remembered_few (Idle ∷ h) = omega (arith, remembered_few h)
