-- Follow-ups follow from the served calls: an observe of the awaiting key keeps it so. Assumes nothing.
use Rattle.std.specs.Prelude.{Option, Some, None}
use Rattle.call_types.specs.declared.FollowUpTelemetry.{FollowUpTelemetry}
use mathlib.Core.Path.{◌≡◌, refl, sym, ap}
use mathlib.Core.Bool.{Bool, true, false, ◌&&◌}
use mathlib.Core.List.{List, ◌∷◌}
use Prim.Native.Nat.{ℕ, ◌<◌}
use native.Mathlib.Omega.{arith}
use borrow.Author.Tests.{ltb-true}
use lib.Dec.{ltb}
use Rattle.call_types.specs.declared.ReplyKey.{ReplyKey}
use Rattle.call_types.specs.declared.ReplyObservation.{ReplyObservation}
use Rattle.call_types.specs.declared.Call.{Call}
use Rattle.call_types.specs.declared.Call.TheVariants.{Observe}
use Rattle.chains.specs.declared.Ring.{Ring}
use Rattle.chains.proofs.Tests.{true_not_false}
use Rattle.ranges.specs.Ranges.{in_range}
use Rattle.correlation.specs.Words.{slot_of}
use Rattle.key_ring.specs.Keys.{key_at, same_key}
use Rattle.key_ring.specs.Table.{Table, table_of, words_at, newest_slot, newest_is, rows_of, Sound}
use Rattle.key_ring.proofs.Packing.{same_key_lem}
use Rattle.history.specs.Given.{follow_of}
use Rattle.history.specs.Ledger.{events}
use Rattle.history.specs.FollowUps.{Slot as HistorySlot, slot_at, following}
use Rattle.ledger_state.specs.declared.Ledger.{Ledger}
use Rattle.ledger_steps.specs.Observe.{direct_in, holder_of, follow_by, follow_in, own_in, observe_in}
use Rattle.observe_history.specs.FollowUps.{FiguresFollow, SlotsFollow, QualityFits}
use Rattle.reply_history.proofs.Lanes.{keys_stay, OffsetLane, direct-lane}
use Rattle.observe_history.proofs.SlotSteps.{Held, slot_at_lem}
use Rattle.observe_history.proofs.OwnSlots.{held-followed, slots_observed, fit_observed, counted-observed}
use Rattle.observe_history.proofs.FollowFigures.{figures_without, figures_with}

-- ---- the newest key

newest-both : (N : ℕ) (keys : List (List ℕ)) (ring : Ring) (k : ReplyKey) → newest_is N keys ring k ≡ true
    → (0 < ring.len) × ((key_at keys (newest_slot N ring)).reflector ≡ k.reflector)
newest-both N keys ring k e = go (ltb 0 ring.len) refl e
  where
    go : (b : Bool) → ltb 0 ring.len ≡ b → (b && same_key k (key_at keys (newest_slot N ring))) ≡ true → (0 < ring.len) × ((key_at keys (newest_slot N ring)).reflector ≡ k.reflector)
    go true p q = (ltb-true 0 ring.len p, ap (λ (x : ReplyKey). x.reflector) (sym (same_key_lem k (key_at keys (newest_slot N ring)) q)))
    go false p q = absurd (true_not_false q refl)

-- ---- the law

module _ (N : ℕ) (few : N < 65535) (by_key : ReplyKey → ℕ) (by_number : ℕ → ℕ) (number-below : (n : ℕ) → by_number n < N) (copies : ℕ) (h : List Call) (l : Ledger) (keys slots : List (List ℕ)) (offsets : List ℕ) (links : List (List ℕ))
    (o : ReplyObservation) (same-copies : l.copies ≡ copies) (sound : Sound N by_key by_number (table_of keys slots links l.tables.keys))
    (awaits : l.tables.awaits ≡ true) (newest : newest_is N keys l.tables.keys o.key ≡ true) (ranged : in_range o ≡ true) (fits : QualityFits o.quality)
    (figures : FiguresFollow N copies h l.counts.follow) (held : SlotsFollow N copies h (table_of keys slots links l.tables.keys) l.tables.awaits) where
  abbrev ring : Ring
  ring = l.tables.keys

  -- the links that the direct counters leave
  abbrev after : List (List ℕ)
  after = (direct_in N by_number l.counts.direct offsets links o).links

  abbrev t : Table
  t = table_of keys slots after ring

  abbrev slot : ℕ → HistorySlot
  slot = slot_at N copies (events N h)

  lane : OffsetLane N links after
  lane = direct-lane N by_number number-below l.counts.direct offsets links o sound.links_fit

  start : Held N by_key by_number slot t
  unfolding rows_of
  start = record {
    sound = keys_stay N by_key by_number keys slots links after ring lane.links_fit (λ i j m. lane.elsewhere i j (omega arith)) sound;
    slots = held.slots;
    fit = held.fit;
    counted = held.counted;
    some_key = (newest-both N keys ring o.key newest).0;
    newest = held.unobserved awaits;
  }

  abbrev middle : List (List ℕ)
  middle = (follow_in N by_key by_number l.counts.follow ring keys slots after o).slots

  followed : Held N by_key by_number (following (follow_of o.follow) o.key.reflector o.offset slot) (table_of keys middle after ring)
  unfolding follow_in
  followed = held-followed N by_key by_number slot t start o.follow l.counts.follow o

  own_key : (key_at keys (newest_slot N ring)).reflector ≡ o.key.reflector
  own_key = (newest-both N keys ring o.key newest).1

  pub slots_follow : SlotsFollow N copies (Observe o ∷ h)
      (table_of keys (observe_in N by_key by_number l keys slots offsets links o).slots (observe_in N by_key by_number l keys slots offsets links o).links (observe_in N by_key by_number l keys slots offsets links o).ledger.tables.keys)
      (observe_in N by_key by_number l keys slots offsets links o).ledger.tables.awaits
  unfolding observe_in own_in events slot_at
  slots_follow = rw same-copies (record {
    slots = slots_observed N by_key by_number (following (follow_of o.follow) o.key.reflector o.offset slot) (table_of keys middle after ring) followed few copies o ranged fits own_key;
    fit = fit_observed N by_key by_number (following (follow_of o.follow) o.key.reflector o.offset slot) (table_of keys middle after ring) followed few copies o ranged fits own_key;
    counted = counted-observed N by_key by_number (following (follow_of o.follow) o.key.reflector o.offset slot) (table_of keys middle after ring) followed few copies o ranged fits own_key;
    unobserved = λ e. absurd (true_not_false e refl);
  })

  figures_by : (k : Option FollowUpTelemetry) → o.follow ≡ k → FiguresFollow N copies (Observe o ∷ h) (follow_by N by_key by_number k l.counts.follow ring keys slots after o).follow
  figures_by None e = figures_without N copies h l.counts.follow figures o (ap follow_of e)
  figures_by (Some f) e =
      figures_with N copies h l.counts.follow figures o f (ap follow_of e) (slot_of (words_at N slots (holder_of N by_key by_number ring keys slots after f.sequence)))
      (slot_at_lem N by_key by_number slot t start f.sequence)

  pub figures_follow : FiguresFollow N copies (Observe o ∷ h) (observe_in N by_key by_number l keys slots offsets links o).ledger.counts.follow
  unfolding observe_in follow_in
  figures_follow = figures_by o.follow refl
