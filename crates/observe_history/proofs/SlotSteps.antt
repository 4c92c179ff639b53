-- What a follow-up and then the own slot do to the slot of each reflector number, over the rooms as in the history. Assumes nothing.
use Rattle.std.specs.Prelude.{Ok}
use mathlib.Core.Path.{◌≡◌, refl, sym, ap, ◌∙◌, subst}
use mathlib.Core.Bool.{Bool, true, false, ◌&&◌, cond}
use mathlib.Core.List.{List, [], ◌∷◌}
use Prim.Native.Nat.{ℕ, ◌<◌}
use native.Mathlib.Omega.{arith}
use lib.Dec.{eqb}
use lib.IntN.{ℤ}
use lib.ListN.{get_or}
use Rattle.call_types.specs.declared.ReplyKey.{ReplyKey}
use Rattle.call_types.specs.declared.FollowUpTelemetry.{FollowUpTelemetry}
use Rattle.chains.proofs.Tests.{Test, holds, fails, eq_test, true_not_false}
use Rattle.correlation.specs.declared.Slot.{Slot}
use Rattle.correlation.specs.declared.follow.Match.{Match}
use Rattle.correlation.specs.Words.{slot_of}
use Rattle.correlation.specs.Slots.{corrected_slot}
use Rattle.correlation.specs.Class.{Found, by_record, first, found_by, class_of}
use Rattle.correlation.proofs.Back.{RecordFits}
use Rattle.key_ring.specs.Rows.{no_slot, count_of, is_observed, Row, words_of, taken, change, Counted}
use Rattle.key_ring.specs.Table.{Table, table_of, row_at, words_at, newest_slot, rows_of, holder_in, change_at, Sound}
use Rattle.key_ring.proofs.Meaning.{slot_count}
use Rattle.key_ring.proofs.Holders.{unobserved-none, change-words, change-counted, change_on}
use Rattle.key_ring.proofs.Tables.{holder-words, change_rows, change_sound}
use Rattle.key_ring.proofs.Accepts.{rows_newest}
use Rattle.history.specs.FollowUps.{Slot as HistorySlot, correct}
use Rattle.observe_history.specs.FollowUps.{slot_from, slot_held}
use Rattle.observe_history.proofs.SlotViews.{view_taken, view_corrected}
use Rattle.observe_history.proofs.SlotWords.{correct_words, three, correct-observed, correct-count, correct_says}
use Rattle.observe_history.proofs.FollowClasses.{class_in}

-- ---- words that stand for no slot

taken_some : (words : List ℕ) → eqb (count_of words) 0 ≡ false → taken words ≡ words
taken_some words e = rw e

pub fits-taken : (words : List ℕ) → RecordFits (slot_of words).unique → RecordFits (slot_of (taken words)).unique
unfolding slot_of
fits-taken words f = go (eqb (count_of words) 0)
  where
    go : (b : Bool) → RecordFits (slot_of (cond b no_slot words)).unique
    go true = tt
    go false = f

-- what is matched has a count
matched-counts : (a b d z o : Bool) (k : Found) (w : ℕ) (offset : ℤ) (m : Match) → class_of (first a b d z o k) w offset ≡ Ok m → z ≡ false
matched-counts true b d z o k w offset m e = cc
matched-counts false true d z o k w offset m e = cc
matched-counts false false true z o k w offset m e = cc
matched-counts false false false true o k w offset m e = cc
matched-counts false false false false o k w offset m e = refl

pub matched_some : (f : FollowUpTelemetry) (own : ℕ) (offset : ℤ) (s : Slot) (m : Match) → class_in f own offset s ≡ Ok m → eqb s.count 0 ≡ false
unfolding found_by
matched_some f own offset s m e =
    matched-counts f.unknown (eqb f.timestamp 0) (eqb f.sequence own) (eqb s.count 0) (eqb s.count 1) (by_record s.corrected s.unique) f.timestamp offset m e

abbrev head_words : List Row → List ℕ
head_words [] = []
head_words (x ∷ xs) = x.words

module _ (N : ℕ) (by_key : ReplyKey → ℕ) (by_number : ℕ → ℕ) where
  -- the rooms hold these slots, and their newest key is not observed
  pub record Held (slot : ℕ → HistorySlot) (t : Table) : Type 0 where
    pub sound : Sound N by_key by_number t
    pub slots : (r : ℕ) → slot_from (slot_held N t r) ≡ slot r
    pub fit : (r : ℕ) → RecordFits (slot_held N t r).unique
    pub counted : Counted (rows_of N t)
    pub some_key : 0 < t.ring.len
    pub newest : is_observed (get_or t.slots (newest_slot N t.ring) []) ≡ false

  module _ (slot : ℕ → HistorySlot) (t : Table) (h : Held slot t) where
    -- where the slot of r stands, and its words
    abbrev holder : ℕ → ℕ
    holder r = holder_in N by_key by_number t.keys t.slots t.links t.ring r

    pub words-at : (r : ℕ) → words_at N t.slots (holder r) ≡ words_of (rows_of N t) r
    words-at r = holder-words N by_key by_number t h.sound r

    -- the slot at the holder of r is the history's
    pub slot_at_lem : (r : ℕ) → slot_from (slot_of (words_at N t.slots (holder r))) ≡ slot r
    slot_at_lem r = ap (λ (w : List ℕ). slot_from (slot_of w)) (words-at r) ∙ sym (view_taken (words_of (rows_of N t) r)) ∙ h.slots r

    -- ---- a follow-up

    module _ (q : ℕ) (some-slot : eqb (slot_of (words_at N t.slots (holder q))).count 0 ≡ false) where
      abbrev words : List ℕ
      words = words_of (rows_of N t) q

      counts : eqb (count_of words) 0 ≡ false
      counts = ap (λ (n : ℕ). eqb n 0) (sym (slot_count words)) ∙ ap (λ (w : List ℕ). eqb (slot_of w).count 0) (sym (words-at q)) ∙ some-slot

      is_observed_lem : is_observed words ≡ true
      is_observed_lem = go (is_observed words) refl
        where
          none-counts : words ≡ no_slot → eqb (count_of words) 0 ≡ true
          none-counts e = ap (λ (w : List ℕ). eqb (count_of w) 0) e

          go : (b : Bool) → is_observed words ≡ b → is_observed words ≡ true
          go true e = e
          go false e = absurd (true_not_false (none-counts (unobserved-none (rows_of N t) q e)) counts)

      -- the rooms with the slot of q corrected
      abbrev pub corrected : Table
      corrected = table_of t.keys (change_at N by_key by_number correct_words t.slots (holder q)) t.links t.ring

      rows_corrected : rows_of N corrected ≡ change correct_words q (rows_of N t)
      rows_corrected = change_rows N by_key by_number t h.sound correct_words q

      corrected_sound : Sound N by_key by_number corrected
      corrected_sound = change_sound N by_key by_number t h.sound correct_words (λ w e. three (corrected_slot (slot_of w))) (holder q)

      abbrev now : ℕ → List ℕ
      now r = cond (eqb r q) (correct_words (words_of (rows_of N t) r)) (words_of (rows_of N t) r)

      words_corrected : (r : ℕ) → words_of (rows_of N corrected) r ≡ now r
      words_corrected r =
          ap (λ (l : List Row). words_of l r) rows_corrected ∙ change-words correct_words correct-observed q (rows_of N t) r
          ∙ ap (λ (b : Bool). cond (eqb r q && b) (correct_words (words_of (rows_of N t) r)) (words_of (rows_of N t) r)) is_observed_lem
          ∙ go (eqb r q)
        where
          go : (b : Bool) → cond (b && true) (correct_words (words_of (rows_of N t) r)) (words_of (rows_of N t) r) ≡ cond b (correct_words (words_of (rows_of N t) r)) (words_of (rows_of N t) r)
          go true = refl
          go false = refl

      fit_words : RecordFits (slot_of words).unique
      fit_words = rw (taken_some words counts) at (h.fit q)

      slots_corrected : (r : ℕ) → slot_from (slot_held N corrected r) ≡ cond (eqb r q) (correct (slot r)) (slot r)
      slots_corrected r = view_taken (words_of (rows_of N corrected) r) ∙ ap (λ (w : List ℕ). slot_from (slot_of w)) (words_corrected r) ∙ go (eq_test r q)
        where
          same : (i : ℕ) → slot_from (slot_of (words_of (rows_of N t) i)) ≡ slot i
          same i = sym (view_taken (words_of (rows_of N t) i)) ∙ h.slots i

          here : slot_from (slot_of (correct_words words)) ≡ correct (slot q)
          here = ap slot_from (correct_says words fit_words) ∙ view_corrected (slot_of words) ∙ ap correct (same q)

          go : Test (r ≡ q) (eqb r q) → slot_from (slot_of (now r)) ≡ cond (eqb r q) (correct (slot r)) (slot r)
          go (holds p e) = rw (e, p) here
          go (fails p e) = rw e (same r)

      fit_corrected : (r : ℕ) → RecordFits (slot_held N corrected r).unique
      fit_corrected r = subst (λ (w : List ℕ). RecordFits (slot_of (taken w)).unique) (sym (words_corrected r)) (go (eq_test r q))
        where
          here : RecordFits (slot_of (taken (correct_words words))).unique
          here = fits-taken (correct_words words) (subst (λ (s : Slot). RecordFits s.unique) (sym (correct_says words fit_words)) fit_words)

          go : Test (r ≡ q) (eqb r q) → RecordFits (slot_of (taken (now r))).unique
          go (holds p e) = rw (e, p) here
          go (fails p e) = rw e (h.fit r)

      newest_corrected : is_observed (get_or corrected.slots (newest_slot N t.ring) []) ≡ false
      newest_corrected =
          ap is_observed
          (ap head_words (sym (rows_newest N by_key by_number corrected corrected_sound [] h.some_key) ∙ rows_corrected
          ∙ ap (change correct_words q) (rows_newest N by_key by_number t h.sound [] h.some_key)
          ∙ change_on correct_words q (row_at t.keys t.slots (newest_slot N t.ring)) _ h.newest))
          ∙ h.newest

      pub held_corrected : Held (λ r. cond (eqb r q) (correct (slot r)) (slot r)) corrected
      held_corrected = record {
        sound = corrected_sound;
        slots = slots_corrected;
        fit = fit_corrected;
        counted = rw rows_corrected (change-counted correct_words correct-observed (λ w. omega (arith, correct-count w)) q (rows_of N t) h.counted);
        some_key = h.some_key;
        newest = newest_corrected;
      }
