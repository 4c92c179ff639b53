-- From a fresh ledger over any rooms of the right size, after any served calls: what the ledger shows of replies follows from them.
-- Assumes nothing.
use mathlib.Core.Path.{◌≡◌, refl, sym, ap, ◌∙◌}
use mathlib.Core.Bool.{Bool, true, false, cond}
use mathlib.Core.List.{List, [], ◌∷◌, map}
use Prim.Native.Nat.{ℕ, zero, suc, ◌-◌, ◌^◌, ◌<◌}
use native.Mathlib.Nat.{mul-zero, max-eq_left}
use native.Mathlib.Omega.{arith}
use lib.Dec.{eqb}
use lib.Seq.{take-nil}
use Rattle.limits.specs.Limits.{capacity}
use Rattle.call_types.specs.declared.ReplyKey.{ReplyKey}
use Rattle.call_types.specs.declared.Call.{Call}
use Rattle.call_types.specs.declared.Call.TheVariants.{Sent, Accept, Observe, Advance, Idle}
use Rattle.chains.specs.Rings.{contents}
use Rattle.chains.specs.Hash.{number_hash}
use Rattle.chains.proofs.Tests.{eq_false}
use Rattle.chains.proofs.Hashes.{key_hash-below, number_hash-below}
use Rattle.key_ring.specs.Keys.{numbers_of}
use Rattle.key_ring.specs.Table.{keys_of, hash_of}
use Rattle.key_ring.proofs.Fresh.{fresh_sound}
use Rattle.probe_ring.specs.Rooms as probe_ring
use Rattle.probe_ring.proofs.Laws.{empty_sound, empty-held}
use Rattle.replies.specs.Served.{fresh_replies}
use Rattle.history.specs.Ledger.{rememberings, distinct, held, accepted, last_accepted, awaiting, events, count, highest_reflector, probes_evicted, evicted_unanswered, copies_of}
use Rattle.ledger_state.specs.State.{at_least_one}
use Rattle.ledger_steps.specs.Rooms.{Rooms, LedgerStand}
use Rattle.reply_history.specs.Fits.{CallFits, AllFit}
use Rattle.reply_history.specs.Stands.{RoomsFit, fresh_stand, stepped, stepped_all}
use Rattle.reply_history.specs.Follows.{probe_in, replies_in, keys_table, probe_rooms, RepliesFollow}
use Rattle.reply_history.proofs.Sent.{sent_follows}
use Rattle.reply_history.proofs.Accept.{accept_follows}
use Rattle.reply_history.proofs.Observe.{observe_keeps, advance_keeps, idle_keeps}

-- ---- fresh

-- "Copies 0 counts as 1."
pub copies-same : (copies : ℕ) → at_least_one copies ≡ copies_of copies
copies-same zero = refl
copies-same (suc n) = rw (eq_false (suc n) 0 (λ e. omega (arith, e))) (sym (max-eq_left (omega arith)))

module _ (N : ℕ) (some-room : 0 < N) (by_key : ReplyKey → ℕ) (by_number : ℕ → ℕ) (number-below : (r : ℕ) → by_number r < N)
    (copies : ℕ) (secret : List ℕ) (r : Rooms) (fit : RoomsFit N r) where
  no_keys : keys_of N (keys_table (fresh_stand copies secret r)) ≡ last_accepted N (events N [])
  unfolding keys_of contents last_accepted accepted events
  no_keys = sym (take-nil N)

  no_probes : probe_ring.held N (probe_rooms (fresh_stand copies secret r)) ≡ map (probe_in (events N [])) (held N (events N []))
  unfolding held rememberings distinct events
  no_probes = empty-held N by_number r.probes r.links 0 ∙ sym (ap (map (probe_in [])) (take-nil N))

  no_replies : fresh_replies ≡ replies_in N (copies_of copies) []
  unfolding count events accepted highest_reflector probes_evicted evicted_unanswered
  no_replies = let none : zero - N ≡ 0 = omega arith in rw (mul-zero (copies_of copies), none)

  pub fresh_follows : RepliesFollow N by_key by_number (copies_of copies) [] (fresh_stand copies secret r)
  unfolding events awaiting
  fresh_follows = record {
    keys_sound = fresh_sound N by_key by_number r.keys r.slots r.links 0 some-room fit.keys_fit fit.slots_fit fit.links_fit;
    keys_are = no_keys;
    probes_sound = empty_sound N by_number r.probes r.links 0 number-below fit.probes_fit.rows_are fit.links_fit some-room;
    probes_are = no_probes;
    awaits_is = refl;
    copies_are = copies-same copies;
    replies_are = no_replies;
  }

-- ---- one served call, and all

module _ (N : ℕ) (some-room : 0 < N) (by_key : ReplyKey → ℕ) (by_number : ℕ → ℕ) (key_below : (k : ReplyKey) → by_key k < N) (number-below : (r : ℕ) → by_number r < N)
    (copies : ℕ) (copies_in : copies < 2 ^ 16) where
  -- ONE SERVED CALL MORE.
  pub stepped_follows : (h : List Call) (s : LedgerStand) (c : Call) → AllFit h → CallFits c → RepliesFollow N by_key by_number copies h s
      → RepliesFollow N by_key by_number copies (c ∷ h) (stepped N by_key by_number s c)
  stepped_follows h s (Sent p) w fits f = sent_follows N some-room by_key by_number copies h s p fits f
  stepped_follows h s (Accept a) w fits f = (accept_follows N some-room by_key by_number key_below number-below copies copies_in h w s a fits f).follows
  stepped_follows h s (Observe o) w fits f = observe_keeps N by_key by_number number-below copies h s f o
  stepped_follows h s (Advance t) w fits f = advance_keeps N by_key by_number number-below copies h s f t
  stepped_follows h s Idle w fits f = idle_keeps N by_key by_number number-below copies h s f

  pub all_follow : (s : LedgerStand) → RepliesFollow N by_key by_number copies [] s → (h : List Call) → AllFit h
      → RepliesFollow N by_key by_number copies h (stepped_all N by_key by_number s h)
  unfolding stepped_all AllFit
  all_follow s f [] w = f
  all_follow s f (c ∷ h) w = stepped_follows h (stepped_all N by_key by_number s h) c w.1 w.0 (all_follow s f h w.1)

-- ---- at 4,096, with the hashes of the code

abbrev key_below : (secret : List ℕ) (k : ReplyKey) → hash_of secret k < capacity
key_below secret k = key_hash-below secret (numbers_of k) k.t3

-- WHATEVER THE ROOMS HELD AND WHATEVER WAS SERVED: what the ledger shows of replies follows from the served calls.
pub replies-follow : (copies : ℕ) (secret : List ℕ) (r : Rooms) (h : List Call) → copies < 2 ^ 16 → RoomsFit capacity r → AllFit h
    → RepliesFollow capacity (hash_of secret) (number_hash secret) (copies_of copies) h
    (stepped_all capacity (hash_of secret) (number_hash secret) (fresh_stand copies secret r) h)
replies-follow copies secret r h l fit w =
    all_follow capacity (omega arith) (hash_of secret) (number_hash secret) (key_below secret) (number_hash-below secret) (copies_of copies) (rw (← copies-same copies) (at-least_in copies l))
    (fresh_stand copies secret r)
    (fresh_follows capacity (omega arith) (hash_of secret) (number_hash secret) (number_hash-below secret) copies secret r fit) h w
  where
    at-least_in : (n : ℕ) → n < 2 ^ 16 → at_least_one n < 2 ^ 16
    at-least_in n l = go (eqb n 0)
      where
        go : (b : Bool) → cond b 1 n < 2 ^ 16
        go true = omega arith
        go false = l
