-- The held probes as the history has them: what remembering one and a reply to one do to the list.
-- Assumes nothing.
use Rattle.std.specs.Prelude.{Some, None, Option}
use mathlib.Core.Path.{◌≡◌, refl, sym, ap, ap₂, ◌∙◌}
use mathlib.Core.Bool.{Bool, true, false, not, ◌||◌, ◌&&◌, cond}
use mathlib.Core.List.{List, [], ◌∷◌, map}
use Prim.Native.Nat.{ℕ, zero, suc, ◌≤◌, ◌<◌}
use native.Mathlib.Omega.{arith}
use lib.Dec.{eqb, leb}
use borrow.Author.Tests.{lt-leb, le-leb}
use lib.ListN.{length, take}
use Rattle.chains.specs.Walk.{first_of}
use Rattle.chains.proofs.Tests.{Test, holds, fails, eq_test, eq_false, true_not_false}
use Rattle.call_types.specs.declared.PendingPacket.{PendingPacket}
use Rattle.call_types.specs.declared.ReplyKey.{ReplyKey}
use Rattle.probe_ring.specs.declared.HeldProbe.{HeldProbe}
use Rattle.probe_ring.specs.Row.{unanswered, packet_after, after_reply}
use Rattle.probe_ring.specs.Held as list
use Rattle.probe_ring.specs.Held.{others, remembering, replacing, evicts, loses}
use Rattle.history.specs.Counting.{has, or_else}
use Rattle.history.specs.Given.{packet_of}
use Rattle.history.specs.Ledger.{Event, remembered, replied, rememberings, without, distinct, replies, packet, held, oldest}
use Rattle.history.specs.Ledger as history
use Rattle.reply_history.specs.Follows.{as_ordinal, probe_in}
use Rattle.reply_history.proofs.Saturation.{one_more_lem, none_yet}
use Rattle.reply_history.proofs.Lists.{has_tail, eqb_same, eqb_flip, kept-without, take-map}

-- ---- any list of sequences

module _ (es : List Event) where
  pub rows_has : (ss : List ℕ) (s : ℕ) → list.holds (map (probe_in es) ss) s ≡ has ss s
  unfolding list.holds has
  rows_has [] s = refl
  rows_has (x ∷ ss) s = ap (λ (b : Bool). eqb s x || b) (rows_has ss s)

  rows_others : (s : ℕ) (ss : List ℕ) → others s (map (probe_in es) ss) ≡ map (probe_in es) (without s ss)
  unfolding others without
  rows_others s [] = refl
  rows_others s (x ∷ ss) = go (eqb s x) (rows_others s ss)
    where
      go : (b : Bool) → others s (map (probe_in es) ss) ≡ map (probe_in es) (without s ss)
          → cond b (others s (map (probe_in es) ss)) (probe_in es x ∷ others s (map (probe_in es) ss)) ≡ map (probe_in es) (cond b (without s ss) (x ∷ without s ss))
      go true ih = ih
      go false ih = ap (λ (q : List HeldProbe). probe_in es x ∷ q) ih

  -- the first of a sequence that is there is its probe
  pub rows_first : {B : Type 0} (f : HeldProbe → B) (d : B) (s : ℕ) (ss : List ℕ) → has ss s ≡ true → first_of (λ p. eqb s p.sequence) f d (map (probe_in es) ss) ≡ f (probe_in es s)
  unfolding first_of has
  rows_first f d s [] e = absurd (true_not_false e refl)
  rows_first {B} f d s (x ∷ ss) e = go (eq_test s x) (rows_first f d s ss)
    where
      go : Test (s ≡ x) (eqb s x) → (has ss s ≡ true → first_of (λ p. eqb s p.sequence) f d (map (probe_in es) ss) ≡ f (probe_in es s))
          → cond (eqb s x) (f (probe_in es x)) (first_of (λ p. eqb s p.sequence) f d (map (probe_in es) ss)) ≡ f (probe_in es s)
      go (holds p t) ih = rw t (ap (λ (y : ℕ). f (probe_in es y)) (sym p))
      go (fails p t) ih = rw t (ih (rw t at e))

  -- and d where it is not there
  pub rows_absent : {B : Type 0} (f : HeldProbe → B) (d : B) (s : ℕ) (ss : List ℕ) → has ss s ≡ false → first_of (λ p. eqb s p.sequence) f d (map (probe_in es) ss) ≡ d
  unfolding first_of
  rows_absent f d s [] e = refl
  rows_absent f d s (x ∷ ss) e = let t = has_tail x ss s e in rw t.0 (rows_absent f d s ss t.1)

  -- ---- one more event

  -- rows that the new event does not change
  rows_kept : (e : Event) (ss : List ℕ) (s : ℕ) → ((x : ℕ) → eqb s x ≡ false → probe_in (e ∷ es) x ≡ probe_in es x)
      → map (probe_in (e ∷ es)) (without s ss) ≡ map (probe_in es) (without s ss)
  unfolding without
  rows_kept e [] s k = refl
  rows_kept e (x ∷ ss) s k = go (eqb s x) refl (rows_kept e ss s k)
    where
      go : (b : Bool) → eqb s x ≡ b → map (probe_in (e ∷ es)) (without s ss) ≡ map (probe_in es) (without s ss)
          → map (probe_in (e ∷ es)) (cond b (without s ss) (x ∷ without s ss)) ≡ map (probe_in es) (cond b (without s ss) (x ∷ without s ss))
      go true t ih = ih
      go false t ih = ap₂ (λ (p : HeldProbe) (ps : List HeldProbe). p ∷ ps) (k x t) ih

  remembered_row : (s : ℕ) (o : Option ℕ) (t : ℕ) (p : PendingPacket) → probe_in (remembered s o t p ∷ es) s ≡ unanswered s p (as_ordinal o) t
  unfolding replies history.ordinal history.train packet
  remembered_row s o t p = rw (eqb_same s)

  other_row : (s : ℕ) (o : Option ℕ) (t : ℕ) (p : PendingPacket) (x : ℕ) → eqb s x ≡ false → probe_in (remembered s o t p ∷ es) x ≡ probe_in es x
  unfolding replies history.ordinal history.train packet
  other_row s o t p x e = rw (eqb_flip x s, e)

  -- REMEMBERED AMONG THE HELD ONES AS AMONG ALL.
  pub rows_remember : (N s : ℕ) (o : Option ℕ) (t : ℕ) (p : PendingPacket)
      → remembering N (unanswered s p (as_ordinal o) t) (map (probe_in es) (held N es)) ≡ map (probe_in (remembered s o t p ∷ es)) (held N (remembered s o t p ∷ es))
  unfolding remembering held rememberings distinct
  rows_remember zero s o t p = refl
  rows_remember (suc n) s o t p =
      ap₂ (λ (q : HeldProbe) (qs : List HeldProbe). q ∷ qs) (sym (remembered_row s o t p))
      (ap (take n) (rows_others s (take (suc n) (distinct (rememberings es))))
      ∙ take-map (probe_in es) n (without s (take (suc n) (distinct (rememberings es))))
      ∙ ap (map (probe_in es)) (kept-without n s (rememberings es))
      ∙ sym (take-map (probe_in es) n (without s (distinct (rememberings es))))
      ∙ ap (take n) (sym (rows_kept (remembered s o t p) (distinct (rememberings es)) s (other_row s o t p)))
      ∙ take-map (probe_in (remembered s o t p ∷ es)) n (without s (distinct (rememberings es))))

  pub packet-after : (p : Option PendingPacket) (q : PendingPacket) → packet_after p q ≡ or_else (packet_of p) q
  packet-after None q = refl
  packet-after (Some x) q = refl

  -- the row of its own sequence after a reply
  pub replied_row : (k : ReplyKey) (p : Option PendingPacket) → after_reply p (probe_in es k.sender) ≡ probe_in (replied k (packet_of p) ∷ es) k.sender
  unfolding after_reply replies history.ordinal history.train packet
  replied_row k p = rw (eqb_same k.sender, packet-after p (packet k.sender es), one_more_lem (replies k.sender es))

  unreplied_row : (k : ReplyKey) (p : Option PendingPacket) (x : ℕ) → eqb k.sender x ≡ false → probe_in es x ≡ probe_in (replied k p ∷ es) x
  unfolding replies history.ordinal history.train packet
  unreplied_row k p x e = rw (eqb_flip x k.sender, e)

  each_row : (k : ReplyKey) (p : Option PendingPacket) (x : ℕ) → cond (eqb k.sender x) (after_reply p (probe_in es k.sender)) (probe_in es x) ≡ probe_in (replied k (packet_of p) ∷ es) x
  each_row k p x = go (eq_test k.sender x)
    where
      go : Test (k.sender ≡ x) (eqb k.sender x) → cond (eqb k.sender x) (after_reply p (probe_in es k.sender)) (probe_in es x) ≡ probe_in (replied k (packet_of p) ∷ es) x
      go (holds q t) = rw t (replied_row k p ∙ ap (probe_in (replied k (packet_of p) ∷ es)) q)
      go (fails q t) = rw t (unreplied_row k (packet_of p) x t)

  -- A REPLY AMONG THE HELD ONES.
  pub rows_replied : (k : ReplyKey) (p : Option PendingPacket) (ss : List ℕ) → replacing (after_reply p (probe_in es k.sender)) (map (probe_in es) ss) ≡ map (probe_in (replied k (packet_of p) ∷ es)) ss
  unfolding replacing after_reply
  rows_replied k p [] = refl
  rows_replied k p (x ∷ ss) =
      ap₂ (λ (q : HeldProbe) (qs : List HeldProbe). q ∷ qs) (each_row k p x) (rows_replied k p ss)

  -- the probe just remembered is held
  pub held_new : (N s : ℕ) (o : Option ℕ) (t : ℕ) (p : PendingPacket) → 0 < N → has (held N (remembered s o t p ∷ es)) s ≡ true
  unfolding has held rememberings distinct
  held_new zero s o t p h = absurd (omega arith)
  held_new (suc n) s o t p h = rw (eqb_same s)

-- ---- evictions

length-map : {A B : Type 0} (f : A → B) (xs : List A) → length (map f xs) ≡ length xs
length-map f [] = refl
length-map f (x ∷ xs) = ap suc (length-map f xs)

length-take : {A : Type 0} (n : ℕ) (xs : List A) → length (take n xs) ≤ n
length-take zero xs = omega arith
length-take (suc n) [] = omega arith
length-take (suc n) (x ∷ xs) = let l = length-take n xs in omega arith

pub full_is : (N n : ℕ) → n ≤ N → leb N n ≡ eqb n N
full_is N n l = go (eq_test n N)
  where
    go : Test (n ≡ N) (eqb n N) → leb N n ≡ eqb n N
    go (holds p t) = rw (t, p) (le-leb N N (omega arith))
    go (fails p t) = rw t (lt-leb N n (omega arith))

and_flip : (a b : Bool) → (a && b) ≡ (b && a)
and_flip true true = refl
and_flip true false = refl
and_flip false true = refl
and_flip false false = refl

-- "nothing is evicted" where it is held, or where there is room
pub evicts_is : (N : ℕ) (es : List Event) (p : HeldProbe)
    → evicts N p (map (probe_in es) (held N es)) ≡ (eqb (length (held N es)) N && not (has (held N es) p.sequence))
unfolding evicts held
evicts_is N es p =
    rw (
      rows_has es (take N (distinct (rememberings es))) p.sequence,
      length-map (probe_in es) (take N (distinct (rememberings es))),
      full_is N (length (take N (distinct (rememberings es)))) (length-take N (distinct (rememberings es))),
    )
    (and_flip (not (has (take N (distinct (rememberings es))) p.sequence)) (eqb (length (take N (distinct (rememberings es)))) N))

-- the oldest of the rows is the row of the oldest
rows_oldest : (es : List Event) (x : ℕ) (xs : List ℕ) → list.oldest (probe_in es x) (map (probe_in es) xs) ≡ probe_in es (oldest x xs)
unfolding list.oldest oldest
rows_oldest es x [] = refl
rows_oldest es x (y ∷ ys) = rows_oldest es y ys

-- "evicted while unanswered": the oldest goes, and it has had no reply
pub loses_is : (N : ℕ) → 0 < N → (es : List Event) (p : HeldProbe)
    → loses N p (map (probe_in es) (held N es)) ≡ (eqb (length (held N es)) N && not (has (held N es) p.sequence) && eqb (replies (oldest p.sequence (held N es)) es) 0)
unfolding loses list.oldest oldest
loses_is N some-room es p = rw (evicts_is N es p) (go (not (has (held N es) p.sequence)) (held N es))
  where
    go : (b : Bool) (ss : List ℕ) → (eqb (length ss) N && b && eqb (list.oldest p (map (probe_in es) ss)).replies 0) ≡ (eqb (length ss) N && b && eqb (replies (oldest p.sequence ss) es) 0)
    go b [] = rw (eq_false 0 N (λ e. omega (arith, e, some-room)))
    go b (x ∷ xs) = ap (λ (t : Bool). eqb (length (x ∷ xs)) N && b && t) (ap (λ (q : HeldProbe). eqb q.replies 0) (rows_oldest es x xs) ∙ none_yet (replies (oldest x xs) es))
