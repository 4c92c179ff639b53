-- From a link made fresh over any rooms of the right size, after any calls, refused ones included: all that the ledger and its rooms hold follows
-- from the served calls alone.
-- Assumes nothing.
use mathlib.Core.Path.{◌≡◌, refl, ap, ◌∙◌}
use mathlib.Core.Bool.{Bool, true, false, cond}
use mathlib.Core.List.{List, [], ◌∷◌}
use Prim.Native.Nat.{ℕ, suc, ◌+◌, ◌^◌, ◌<◌}
use native.Mathlib.Omega.{arith}
use native.Mathlib.Numerals.{add-one}
use lib.Dec.{eqb, ltb}
use Rattle.limits.specs.Limits.{capacity}
use Rattle.call_types.specs.declared.ReplyKey.{ReplyKey}
use Rattle.call_types.specs.declared.Reply.{Reply}
use Rattle.call_types.specs.declared.Call.{Call}
use Rattle.call_types.specs.declared.Call.TheVariants.{Sent, Accept, Observe, Advance, Idle}
use Rattle.chains.specs.Hash.{number_hash}
use Rattle.chains.proofs.Hashes.{key_hash-below, number_hash-below}
use Rattle.key_ring.specs.Keys.{numbers_of}
use Rattle.key_ring.specs.Table.{hash_of}
use Rattle.replies.specs.declared.ReplyClass.{ReplyClass}
use Rattle.replies.specs.declared.ReplyClass.TheVariants as class
use Rattle.replies.specs.Served.{class_by}
use Rattle.history.specs.Ledger.{copies_of, count}
use Rattle.ledger_state.specs.declared.Ledger.{Ledger}
use Rattle.ledger_state.specs.State.{words_of, hash_words}
use Rattle.ledger_steps.specs.Rooms.{LedgerStand}
use Rattle.ledger_steps.specs.Sent.{sent_in}
use Rattle.ledger_steps.specs.Accept.{is_pending, key_slot, probe_slot, accept_by, accept_in, unique_in}
use Rattle.ledger_steps.specs.Observe.{observe_in}
use Rattle.reply_history.specs.Fits.{AllFit}
use Rattle.reply_history.specs.Stands.{stepped}
use Rattle.reply_history.specs.Follows.{RepliesFollow}
use Rattle.reply_history.proofs.Steps.{copies-same, fresh_follows, stepped_follows}
use Rattle.reply_history.proofs.Secret.{secret-kept}
use Rattle.observe_history.specs.Follows.{ServedAt, ObservesFollow}
use Rattle.observe_history.proofs.Steps.{observes-fresh, observes-stepped}
use Rattle.link_steps.specs.Steps.{played, served}
use Rattle.link_history.specs.Fresh.{Making, MakingFits, fresh_link, words_in, stand_of, Fits, AllFits}
use Rattle.link_history.specs.Shows.{calls_in}
use Rattle.link_history.proofs.Calls.{step_of, played_keeps}

-- ---- the calls that were counted

module _ (N : ℕ) (by_key : ReplyKey → ℕ) (by_number : ℕ → ℕ) where
  accept-calls : (x : ReplyClass) (l : Ledger) (keys slots probes links : List (List ℕ)) (at : ℕ) (a : Reply) → (accept_by N by_key by_number x l keys slots probes links at a).ledger.calls ≡ l.calls + 1
  unfolding unique_in
  accept-calls class.Duplicate l keys slots probes links at a = refl
  accept-calls class.Unknown l keys slots probes links at a = refl
  accept-calls class.Unique l keys slots probes links at a = refl

  -- one more for each of the three
  pub calls-counted : (s : LedgerStand) (c : Call) (h : List Call) → s.ledger.calls ≡ calls_in h → (stepped N by_key by_number s c).ledger.calls ≡ calls_in (c ∷ h)
  unfolding sent_in accept_in observe_in count
  calls-counted s (Sent p) h e = add-one s.ledger.calls ∙ ap suc e
  calls-counted s (Accept a) h e =
      accept-calls (class_by (ltb (key_slot N by_key by_number s.ledger s.rooms.keys s.rooms.links a.key) N)
      (ltb (probe_slot N by_key by_number s.ledger s.rooms.probes s.rooms.links a.key) N) (is_pending a.pending))
      s.ledger s.rooms.keys s.rooms.slots s.rooms.probes s.rooms.links (probe_slot N by_key by_number s.ledger s.rooms.probes s.rooms.links a.key) a
      ∙ add-one s.ledger.calls ∙ ap suc e
  calls-counted s (Observe o) h e = add-one s.ledger.calls ∙ ap suc e
  calls-counted s (Advance t) h e = e
  calls-counted s Idle h e = e

-- ---- the whole

-- All that the ledger and its rooms hold, with the words of the hash and the calls counted.
pub record Follow (words : List ℕ) (copies : ℕ) (h : List Call) (s : LedgerStand) : Type 0 where
  pub words_are : hash_words s.ledger ≡ words
  pub calls_are : s.ledger.calls ≡ calls_in h
  pub replies : RepliesFollow capacity (hash_of words) (number_hash words) copies h s
  pub observes : ObservesFollow capacity (number_hash words) copies h s

-- the hash of a key is below 4,096
pub key_below : (words : List ℕ) (k : ReplyKey) → hash_of words k < capacity
key_below words k = key_hash-below words (numbers_of k) k.t3

-- copies that fit 16 bits still do where 0 counts as 1
pub copies_fit : (copies : ℕ) → copies < 2 ^ 16 → copies_of copies < 2 ^ 16
copies_fit copies l = rw (← copies-same copies) (go (eqb copies 0))
  where
    go : (b : Bool) → cond b 1 copies < 2 ^ 16
    go true = omega arith
    go false = l

-- the calls of a history that fit
pub calls_fit : (h : List Call) → AllFits h → AllFit h
unfolding AllFits AllFit
calls_fit [] w = tt
calls_fit (c ∷ h) w = (w.0.0, calls_fit h w.1)

module _ (words : List ℕ) (copies : ℕ) (copies_in : copies < 2 ^ 16) where
  -- ONE SERVED CALL MORE.
  pub served_follows : (h : List Call) (s : LedgerStand) (c : Call) → AllFits h → Fits c → ServedAt capacity s c → Follow words copies h s → Follow words copies (c ∷ h) (step_of s c)
  served_follows h s c w fits v f =
      rw f.words_are (record {
        words_are = ap words_of (secret-kept capacity (hash_of words) (number_hash words) s c) ∙ f.words_are;
        calls_are = calls-counted capacity (hash_of words) (number_hash words) s c h f.calls_are;
        replies = stepped_follows capacity (omega arith) (hash_of words) (number_hash words) (key_below words) (number_hash-below words) copies copies_in h s c (calls_fit h w) fits.0 f.replies;
        observes = observes-stepped capacity (omega arith) (omega arith) (hash_of words) (number_hash words) (key_below words) (number_hash-below words) copies h s f.replies f.observes c fits.0 v;
      })

module _ (m : Making) (ok : MakingFits m) where
  -- fresh, whatever its rooms held
  pub fresh-follow : Follow (words_in m) (copies_of m.copies) [] (stand_of (fresh_link m))
  unfolding count
  fresh-follow = record {
    words_are = refl;
    calls_are = refl;
    replies = fresh_follows capacity (omega arith) (hash_of (words_in m)) (number_hash (words_in m)) (number_hash-below (words_in m)) m.copies m.secret m.rooms ok.rooms_fit;
    observes = observes-fresh capacity (omega arith) (omega arith) (hash_of (words_in m)) (number_hash (words_in m)) (key_below (words_in m)) (number_hash-below (words_in m)) (copies_of m.copies)
        m.copies m.secret m.rooms ok.rooms_fit;
  }

  -- WHATEVER THE ROOMS HELD, WHATEVER WAS CALLED AND WHATEVER WAS REFUSED: all that the ledger and its rooms hold follows from the served calls.
  pub link_follows : (cs : List Call) → AllFits cs → Follow (words_in m) (copies_of m.copies) (served (fresh_link m) cs) (stand_of (played (fresh_link m) cs))
  link_follows cs w =
      played_keeps (Follow (words_in m) (copies_of m.copies)) (fresh_link m) fresh-follow
      (served_follows (words_in m) (copies_of m.copies) (copies_fit m.copies ok.copies_in)) cs w
