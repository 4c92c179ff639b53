-- Follow-ups follow from the served calls, continued: an accept, which may evict, keeps it so. Assumes nothing.
use Rattle.std.specs.Prelude.{Option, None, Some, slice_get}
use mathlib.Core.Path.{◌≡◌, refl, sym, ap, ap₂, ◌∙◌, subst}
use mathlib.Core.Bool.{Bool, true, false, cond}
use mathlib.Core.List.{List, [], ◌∷◌}
use Prim.Native.Nat.{ℕ, zero, suc, ◌-◌, ◌<◌}
use native.Mathlib.Omega.{arith}
use lib.Dec.{eqb, ltb}
use lib.ListN.{take, get_or}
use Rattle.call_types.specs.declared.PendingPacket.{PendingPacket}
use Rattle.call_types.specs.declared.ReplyKey.{ReplyKey}
use Rattle.correlation.specs.declared.Slot.{Slot}
use Rattle.correlation.specs.Words.{slot_of}
use Rattle.correlation.proofs.Back.{RecordFits}
use Rattle.key_ring.specs.Keys.{key_at}
use Rattle.key_ring.specs.Rows as rows
use Rattle.key_ring.specs.Rows.{is_observed, slot_in, Counted}
use Rattle.key_ring.specs.Table.{Table, newest_slot, keys_of, rows_of, accepted_key, Sound}
use Rattle.key_ring.proofs.Meaning.{slot_lowered}
use Rattle.key_ring.proofs.Accepts.{accepted_slot, accepted-counted, accepted-unobserved, oldest_is}
use Rattle.history.specs.Counting.{has, or_else}
use Rattle.history.specs.Ledger.{Event, remembered, replied, no_packet, accepted, last_accepted, held, ready}
use Rattle.history.specs.FollowUps.{Slot as HistorySlot, evicting, evicted, slot_at}
use Rattle.observe_history.specs.FollowUps.{slot_from, slot_held}
use Rattle.observe_history.proofs.SlotViews.{view_row_lowered}
use Rattle.observe_history.proofs.SlotSteps.{fits-taken}

-- ---- the history of a unique reply

module _ (N copies : ℕ) where
  ready_slots : (es : List Event) (k : ReplyKey) (p : Option PendingPacket) (r : ℕ) → slot_at N copies (ready N es k p) r ≡ slot_at N copies es r
  unfolding ready slot_at
  ready_slots es k p r = go (has (held N es) k.sender)
    where
      go : (b : Bool) → slot_at N copies (cond b es (remembered k.sender None 0 (or_else p no_packet) ∷ es)) r ≡ slot_at N copies es r
      go true = refl
      go false = refl

  ready-accepted : (es : List Event) (k : ReplyKey) (p : Option PendingPacket) → accepted (ready N es k p) ≡ accepted es
  unfolding ready accepted
  ready-accepted es k p = go (has (held N es) k.sender)
    where
      go : (b : Bool) → accepted (cond b es (remembered k.sender None 0 (or_else p no_packet) ∷ es)) ≡ accepted es
      go true = refl
      go false = refl

  replied_slots : (es : List Event) (k : ReplyKey) (p : Option PendingPacket) (r : ℕ)
      → slot_at N copies (replied k p ∷ ready N es k p) r ≡ evicting (evicted N copies (accepted es)) r (slot_at N copies es r)
  unfolding slot_at
  replied_slots es k p r =
      ap₂ (λ (ks : List ReplyKey) (s : HistorySlot). evicting (evicted N copies ks) r s) (ready-accepted es k p) (ready_slots es k p r)

  -- the oldest of the last N is the one before N
  oldest-taken : (xs : List ReplyKey) → 0 < N → slice_get (take N xs) (N - 1) ≡ slice_get xs (N - 1)
  oldest-taken xs l = go N (N - 1) xs (omega arith)
    where
      go : (n i : ℕ) (ys : List ReplyKey) → i < n → slice_get (take n ys) i ≡ slice_get ys i
      go zero i ys m = absurd (omega arith)
      go (suc n) i [] m = refl
      go (suc n) zero (y ∷ ys) m = refl
      go (suc n) (suc i) (y ∷ ys) m = go n i ys (omega arith)

-- ---- the rooms

module _ (N copies : ℕ) (by_key : ReplyKey → ℕ) (by_number : ℕ → ℕ) (key_below : (k : ReplyKey) → by_key k < N) (number-below : (r : ℕ) → by_number r < N)
    (es : List Event) (t : Table) (sound : Sound N by_key by_number t) (keys : keys_of N t ≡ last_accepted N es)
    (slots : (r : ℕ) → slot_from (slot_held N t r) ≡ slot_at N copies es r) (fit : (r : ℕ) → RecordFits (slot_held N t r).unique) (counted : Counted (rows_of N t))
    (k : ReplyKey) (p : Option PendingPacket) (k-fits : k.reflector < 4294967296) where
  abbrev pub after : Table
  after = accepted_key N by_key by_number t k

  -- the key that goes is the history's
  gone : cond (ltb t.ring.len N) None (Some (key_at t.keys t.ring.head)) ≡ evicted N copies (accepted es)
  unfolding last_accepted
  gone =
      oldest_is N by_key by_number t sound ∙ ap (λ (ks : List ReplyKey). slice_get ks (N - 1)) keys
      ∙ oldest-taken N copies (accepted es) (omega (arith, sound.ring_fits.head_in))

  slot_now : (r : ℕ) → slot_in (rows_of N after) r
      ≡ cond (ltb t.ring.len N) (slot_in (rows_of N t) r) (cond (eqb r (key_at t.keys t.ring.head).reflector) (rows.taken (rows.lowered (slot_in (rows_of N t) r))) (slot_in (rows_of N t) r))
  slot_now r = accepted_slot N by_key by_number key_below number-below t sound k k-fits counted r

  pub slots_accepted : (r : ℕ) → slot_from (slot_held N after r) ≡ slot_at N copies (replied k p ∷ ready N es k p) r
  slots_accepted r =
      ap (λ (w : List ℕ). slot_from (slot_of w)) (slot_now r) ∙ go (ltb t.ring.len N) (eqb r (key_at t.keys t.ring.head).reflector) refl
      ∙ ap₂ (λ (x : Option ReplyKey) (s : HistorySlot). evicting x r s) gone (slots r) ∙ sym (replied_slots N copies es k p r)
    where
      go : (a b : Bool) → eqb r (key_at t.keys t.ring.head).reflector ≡ b
          → slot_from (slot_of (cond a (slot_in (rows_of N t) r) (cond b (rows.taken (rows.lowered (slot_in (rows_of N t) r))) (slot_in (rows_of N t) r))))
          ≡ evicting (cond a None (Some (key_at t.keys t.ring.head))) r (slot_from (slot_held N t r))
      go true b e = refl
      go false true e = rw e (view_row_lowered (slot_in (rows_of N t) r))
      go false false e = rw e

  pub fit_accepted : (r : ℕ) → RecordFits (slot_held N after r).unique
  fit_accepted r = subst (λ (w : List ℕ). RecordFits (slot_of w).unique) (sym (slot_now r)) (go (ltb t.ring.len N) (eqb r (key_at t.keys t.ring.head).reflector))
    where
      go : (a b : Bool) → RecordFits (slot_of (cond a (slot_in (rows_of N t) r) (cond b (rows.taken (rows.lowered (slot_in (rows_of N t) r))) (slot_in (rows_of N t) r)))).unique
      go true b = fit r
      go false true =
          fits-taken (rows.lowered (slot_in (rows_of N t) r))
          (subst (λ (s : Slot). RecordFits s.unique) (sym (slot_lowered (slot_in (rows_of N t) r))) (fit r))
      go false false = fit r

  pub counted-accepted : Counted (rows_of N after)
  counted-accepted = accepted-counted N by_key by_number key_below number-below t sound k k-fits counted

  pub unobserved-accepted : is_observed (get_or after.slots (newest_slot N after.ring) []) ≡ false
  unobserved-accepted = ap is_observed (accepted-unobserved N by_key by_number key_below number-below t sound k k-fits)
