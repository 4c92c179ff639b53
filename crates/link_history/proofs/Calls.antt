-- A call is served and leaves what the ledger's step leaves, or it is refused and leaves the whole link as it was.
-- Assumes nothing.
use mathlib.Core.Path.{◌≡◌, refl}
use mathlib.Core.List.{List, [], ◌∷◌}
use Prim.Native.Nat.{ℕ, zero, suc}
use lib.ListN.{length}
use Rattle.limits.specs.Limits.{capacity}
use Rattle.call_types.specs.declared.SentProbe.{SentProbe}
use Rattle.call_types.specs.declared.Reply.{Reply}
use Rattle.call_types.specs.declared.ReplyObservation.{ReplyObservation}
use Rattle.call_types.specs.declared.Call.{Call}
use Rattle.call_types.specs.declared.Call.TheVariants.{Sent, Accept, Observe, Advance, Idle}
use Rattle.chains.specs.Hash.{number_hash}
use Rattle.key_ring.specs.Table.{hash_of}
use Rattle.ledger_state.specs.State.{hash_words}
use Rattle.ledger_steps.specs.Rooms.{LedgerStand}
use Rattle.ledger_steps.specs.Refusals.{refusal_of_sent, refusal_of_accept, refusal_of_observe}
use Rattle.ledger_steps.specs.Calls.{sent_to, accept_to, observe_to}
use Rattle.reply_history.specs.Stands.{stepped}
use Rattle.observe_history.specs.Follows.{ServedAt}
use Rattle.observe_history.proofs.Served.{observe-served}
use Rattle.link_steps.specs.Steps.{LinkStand, watch_refuses_sent, watch_refuses, refuses, after, played, kept_if, served}
use Rattle.link_history.specs.Fresh.{stand_of, EstimatesFit, Fits, AllFits}

-- the ledger's step, at 4,096, with the hashes of the code
abbrev pub step_of : LedgerStand → Call → LedgerStand
step_of s c = stepped capacity (hash_of (hash_words s.ledger)) (number_hash (hash_words s.ledger)) s c

-- what a call does to the ledger: served, it steps; refused, it changes nothing
pub data After (k : LinkStand) (c : Call) : Type 0 where
  goes : refuses k c ≡ 0 → (EstimatesFit c → ServedAt capacity (stand_of k) c) → stand_of (after k c) ≡ step_of (stand_of k) c → After k c
  stays : (n : ℕ) → refuses k c ≡ suc n → stand_of (after k c) ≡ stand_of k → After k c

module _ (k : LinkStand) where
  after-sent : (p : SentProbe) → After k (Sent p)
  unfolding refuses after sent_to
  after-sent p = go (refusal_of_sent other k.link.ledger (length k.rooms.probes) (length k.rooms.links)) refl
    where
      other : ℕ
      other = watch_refuses_sent k.link.watch (length k.queue) p

      go : (n : ℕ) → refusal_of_sent other k.link.ledger (length k.rooms.probes) (length k.rooms.links) ≡ n → After k (Sent p)
      go zero e = goes (rw e) (λ q. tt) (rw e)
      go (suc n) e = stays n (rw e) (rw e)

  after-accept : (a : Reply) → After k (Accept a)
  unfolding refuses after accept_to
  after-accept a = go (refusal_of_accept other k.link.ledger (length k.rooms.keys) (length k.rooms.slots) (length k.rooms.probes) (length k.rooms.links)) refl
    where
      other : ℕ
      other = watch_refuses k.link.watch (length k.queue)

      go : (n : ℕ) → refusal_of_accept other k.link.ledger (length k.rooms.keys) (length k.rooms.slots) (length k.rooms.probes) (length k.rooms.links) ≡ n → After k (Accept a)
      go zero e = goes (rw e) (λ q. tt) (rw e)
      go (suc n) e = stays n (rw e) (rw e)

  after-observe : (o : ReplyObservation) → After k (Observe o)
  unfolding refuses after observe_to
  after-observe o = go (refusal_of_observe k.link.ledger k.rooms.keys (length k.rooms.slots) (length k.rooms.offsets) (length k.rooms.links) o) refl
    where
      go : (n : ℕ) → refusal_of_observe k.link.ledger k.rooms.keys (length k.rooms.slots) (length k.rooms.offsets) (length k.rooms.links) o ≡ n → After k (Observe o)
      go zero e = goes (rw e) (observe-served (stand_of k) o e) (rw e)
      go (suc n) e = stays n (rw e) (rw e)

  -- the ledger has no part in these, served or not
  after-advance : (t : ℕ) → After k (Advance t)
  unfolding refuses after
  after-advance t = go (watch_refuses k.link.watch (length k.queue)) refl
    where
      go : (n : ℕ) → watch_refuses k.link.watch (length k.queue) ≡ n → After k (Advance t)
      go zero e = goes e (λ q. tt) refl
      go (suc n) e = stays n e refl

  after-idle : After k Idle
  unfolding refuses after
  after-idle = go (watch_refuses k.link.watch capacity) refl
    where
      go : (n : ℕ) → watch_refuses k.link.watch capacity ≡ n → After k Idle
      go zero e = goes e (λ q. tt) refl
      go (suc n) e = stays n e refl

  pub after_is : (c : Call) → After k c
  after_is (Sent p) = after-sent p
  after_is (Accept a) = after-accept a
  after_is (Observe o) = after-observe o
  after_is (Advance t) = after-advance t
  after_is Idle = after-idle

-- a call that is served is one of those that were made
pub served_fit : (k : LinkStand) (cs : List Call) → AllFits cs → AllFits (served k cs)
unfolding AllFits served
served_fit k [] w = tt
served_fit k (c ∷ cs) w = go (refuses (played k cs) c) (served_fit k cs w.1)
  where
    go : (n : ℕ) → AllFits (served k cs) → AllFits (kept_if n c (served k cs))
    go zero ih = (w.0, ih)
    go (suc n) ih = ih

-- WHAT FRESH HAS AND EVERY SERVED CALL KEEPS, ANY CALLS LEAVE: each given what the last one left, the refused ones change nothing and are not counted.
pub played_keeps : (P : List Call → LedgerStand → Type 0) (k : LinkStand)
    → P [] (stand_of k)
    → ((h : List Call) (s : LedgerStand) (c : Call) → AllFits h → Fits c → ServedAt capacity s c → P h s → P (c ∷ h) (step_of s c))
    → (cs : List Call) → AllFits cs → P (served k cs) (stand_of (played k cs))
unfolding played served AllFits
played_keeps P k fresh keeps [] w = fresh
played_keeps P k fresh keeps (c ∷ cs) w = go (after_is (played k cs) c) (played_keeps P k fresh keeps cs w.1)
  where
    go : After (played k cs) c → P (served k cs) (stand_of (played k cs)) → P (kept_if (refuses (played k cs) c) c (served k cs)) (stand_of (after (played k cs) c))
    go (goes e ok q) ih = rw (e, q) (keeps (served k cs) (stand_of (played k cs)) c (served_fit k cs w.1) w.0 (ok w.0.1) ih)
    go (stays n e q) ih = rw (e, q) ih
