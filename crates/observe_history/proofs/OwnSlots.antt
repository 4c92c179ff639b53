-- What the follow-up of an observation and then its own slot leave in the rooms, as in the history. Assumes nothing.
use Rattle.correlation.specs.Class.{Class}
use Rattle.std.specs.Prelude.{Some, None, Option, Ok, Err}
use Rattle.correlation.specs.declared.ReplyRecord.{ReplyRecord}
use mathlib.Core.Path.{◌≡◌, refl, sym, ap, ap₂, ◌∙◌, subst}
use mathlib.Core.Bool.{Bool, true, false, ◌&&◌, cond}
use mathlib.Core.List.{List, [], ◌∷◌}
use Prim.Native.Nat.{ℕ, suc, ◌≤◌, ◌<◌}
use native.Mathlib.Omega.{arith}
use lib.Dec.{eqb, ltb}
use lib.IntN.{ℤ}
use lib.ListN.{length, get_or, set}
use Rattle.call_types.specs.declared.ReplyKey.{ReplyKey}
use Rattle.call_types.specs.declared.FollowUpTelemetry.{FollowUpTelemetry}
use Rattle.call_types.specs.declared.ReplyObservation.{ReplyObservation}
use Rattle.chains.proofs.Contents.{length-contents}
use Rattle.chains.proofs.Tests.{Test, holds, fails, eq_test}
use Rattle.ranges.specs.Ranges.{in_range}
use Rattle.correlation.specs.declared.Slot.{Slot}
use Rattle.correlation.specs.declared.follow.Miss.TheVariants as miss
use Rattle.correlation.specs.Words.{slot_of, words_of as slot_words}
use Rattle.correlation.specs.Slots.{raise_by, raised, corrected_slot}
use Rattle.correlation.proofs.Back.{RecordFits, words_back}
use Rattle.key_ring.specs.Keys.{key_at}
use Rattle.key_ring.specs.Rows.{count_of, is_observed, words_of, taken, slot_in, Counted}
use Rattle.key_ring.specs.Table.{Table, table_of, row_at, words_at, stored_at, newest_slot, rows_of, holder_in, change_at}
use Rattle.key_ring.proofs.Meaning.{slot_count, slot_observed}
use Rattle.key_ring.proofs.Holders.{observed-at-most}
use Rattle.key_ring.proofs.Accepts.{observed_slot, observed-counted}
use Rattle.history.specs.Given.{follow_of}
use Rattle.history.specs.FollowUps.{Slot as HistorySlot, Kept, correct, raise, record_of, FollowClass, matched, same_follow, follow_class, following, observing}
use Rattle.ledger_steps.specs.Observe.{corrected_at, unique_from, own_words, follow_by}
use Rattle.follow_ups.specs.declared.FollowUps.{FollowUps}
use Rattle.observe_history.specs.FollowUps.{slot_from, slot_held, QualityFits}
use Rattle.observe_history.proofs.SlotViews.{view_taken, view_raised, count-raised, observed-raised}
use Rattle.observe_history.proofs.SlotWords.{correct_words}
use Rattle.observe_history.proofs.Records.{record-fits, record_is}
use Rattle.observe_history.proofs.FollowClasses.{class_from, class_in, class_same}
use Rattle.observe_history.proofs.SlotSteps.{fits-taken, matched_some, Held, words-at, slot_at_lem, held_corrected}

module _ (N : ℕ) (by_key : ReplyKey → ℕ) (by_number : ℕ → ℕ) (slot : ℕ → HistorySlot) (t : Table) (h : Held N by_key by_number slot t) where
  abbrev holder : ℕ → ℕ
  holder r = holder_in N by_key by_number t.keys t.slots t.links t.ring r

  -- these rooms with other words
  abbrev with : List (List ℕ) → Table
  with slots = table_of t.keys slots t.links t.ring

  -- ---- the follow-up

  module _ (f : FollowUpTelemetry) (own : ℕ) (offset : ℤ) where
    abbrev found : Class
    found = class_in f own offset (slot_of (words_at N t.slots (holder f.sequence)))

    -- its class is the history's
    pub class_is : class_from found ≡ follow_class f own offset (slot f.sequence)
    class_is =
        class_same f own offset (slot_of (words_at N t.slots (holder f.sequence)))
        ∙ ap (follow_class f own offset) (slot_at_lem N by_key by_number slot t h f.sequence)

    abbrev HeldBy : FollowClass → Table → Type 0
    HeldBy x t' = Held N by_key by_number (λ r. cond (same_follow matched x && eqb r f.sequence) (correct (slot r)) (slot r)) t'

    corrects : (p : ℕ) → stored_at N t.slots p (slot_words (corrected_slot (slot_of (words_at N t.slots p)))) ≡ change_at N by_key by_number correct_words t.slots p
    corrects p = go (ltb p N)
      where
        go : (b : Bool) → cond b (set t.slots p (slot_words (corrected_slot (slot_of (cond b (get_or t.slots p []) (0 ∷ 0 ∷ 0 ∷ [])))))) t.slots
            ≡ cond b (set t.slots p (correct_words (get_or t.slots p []))) t.slots
        go true = refl
        go false = refl

    by_class : (k : Class) → found ≡ k → HeldBy (class_from k) (with (corrected_at k N t.slots (holder f.sequence)))
    by_class (Err miss.Unavailable) e = h
    by_class (Err miss.Ambiguous) e = h
    by_class (Err miss.Unmatched) e = h
    by_class (Err miss.Repeated) e = h
    by_class (Ok m) e =
        subst (λ (slots : List (List ℕ)). HeldBy matched (with slots)) (sym (corrects (holder f.sequence)))
        (held_corrected N by_key by_number slot t h f.sequence (matched_some f own offset (slot_of (words_at N t.slots (holder f.sequence))) m e))

    followed-held : Held N by_key by_number (following (Some f) own offset slot) (with (corrected_at found N t.slots (holder f.sequence)))
    followed-held = subst (λ (x : FollowClass). HeldBy x (with (corrected_at found N t.slots (holder f.sequence)))) class_is (by_class found refl)

  pub held-followed : (k : Option FollowUpTelemetry) (fs : FollowUps) (o : ReplyObservation)
      → Held N by_key by_number (following (follow_of k) o.key.reflector o.offset slot) (with (follow_by N by_key by_number k fs t.ring t.keys t.slots t.links o).slots)
  held-followed None fs o = h
  held-followed (Some f) fs o = followed-held f o.key.reflector o.offset

  -- ---- the own slot

  module _ (few : N < 65535) (copies : ℕ) (o : ReplyObservation) (ranged : in_range o ≡ true) (fits : QualityFits o.quality)
      (own_key : (key_at t.keys (newest_slot N t.ring)).reflector ≡ o.key.reflector) where
    abbrev own : ℕ
    own = o.key.reflector

    abbrev before : Slot
    before = slot_of (words_at N t.slots (holder own))

    abbrev u : Option ReplyRecord
    u = unique_from copies o

    abbrev words : List ℕ
    words = own_words N copies t.slots (holder own) o

    count_is : before.count ≡ count_of (words_of (rows_of N t) own)
    count_is = slot_count (words_at N t.slots (holder own)) ∙ ap count_of (words-at N by_key by_number slot t h own)

    before_few : before.count < 65535
    unfolding rows_of
    before_few =
        let size : length (rows_of N t) ≡ t.ring.len = length-contents N (row_at t.keys t.slots) t.ring.head t.ring.len in
        omega (arith, count_is, h.counted own, observed-at-most (rows_of N t) own, size, h.sound.ring_fits.len_in)

    raised-fits : (b : Slot) → RecordFits u → RecordFits (raised b u).unique
    unfolding raised
    raised-fits b f = go (eqb b.count 0)
      where
        go : (z : Bool) → RecordFits (raise_by z b u).unique
        go true = f
        go false = tt

    -- the words say the slot
    says : slot_of words ≡ raised before u
    says = words_back (raised before u) (count-raised before u before_few).0 (raised-fits before (record-fits copies o ranged fits))

    is_observed_lem : is_observed words ≡ true
    is_observed_lem = sym (slot_observed words) ∙ ap (λ (s : Slot). s.observed) says ∙ observed-raised before u

    abbrev pub observed : Table
    observed = with (stored_at N t.slots (newest_slot N t.ring) words)

    slot_now : (r : ℕ) → slot_in (rows_of N observed) r ≡ cond (eqb r own) (taken words) (slot_in (rows_of N t) r)
    slot_now r =
        observed_slot N by_key by_number t h.sound words h.some_key h.newest is_observed_lem r
        ∙ ap (λ (n : ℕ). cond (eqb r n) (taken words) (slot_in (rows_of N t) r)) own_key

    pub slots_observed : (r : ℕ) → slot_from (slot_held N observed r) ≡ observing (record_of copies o) own r (slot r)
    slots_observed r = ap (λ (w : List ℕ). slot_from (slot_of w)) (slot_now r) ∙ go (eq_test r own)
      where
        here : slot_from (slot_of (taken words)) ≡ raise (record_of copies o) (slot own)
        here =
            view_taken words ∙ ap slot_from says ∙ view_raised before u before_few
            ∙ ap₂ (λ (k : Option Kept) (s : HistorySlot). raise k s) (record_is copies o ranged fits) (slot_at_lem N by_key by_number slot t h own)

        go : Test (r ≡ own) (eqb r own) → slot_from (slot_of (cond (eqb r own) (taken words) (slot_in (rows_of N t) r))) ≡ observing (record_of copies o) own r (slot r)
        go (holds p e) = rw (e, p) here
        go (fails p e) = rw e (h.slots r)

    pub fit_observed : (r : ℕ) → RecordFits (slot_held N observed r).unique
    fit_observed r = subst (λ (w : List ℕ). RecordFits (slot_of w).unique) (sym (slot_now r)) (go (eqb r own))
      where
        here : RecordFits (slot_of (taken words)).unique
        here = fits-taken words (subst (λ (s : Slot). RecordFits s.unique) (sym says) (raised-fits before (record-fits copies o ranged fits)))

        go : (b : Bool) → RecordFits (slot_of (cond b (taken words) (slot_in (rows_of N t) r))).unique
        go true = here
        go false = h.fit r

    pub counted-observed : Counted (rows_of N observed)
    counted-observed =
        let rises : count_of words ≤ suc (count_of (words_of (rows_of N t) own)) =
        omega (arith, sym (slot_count words) ∙ ap (λ (s : Slot). s.count) says, (count-raised before u before_few).1, count_is) in
        observed-counted N by_key by_number t h.sound words h.some_key h.newest is_observed_lem
        (subst (λ (n : ℕ). count_of words ≤ suc (count_of (words_of (rows_of N t) n))) (sym own_key) rises) h.counted
