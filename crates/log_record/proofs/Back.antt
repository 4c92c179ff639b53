-- Nothing is lost in a record: what it says is what was written. Assumes nothing.
use Rattle.std.specs.Prelude.{Option, ℤ}
use mathlib.Core.Path.{◌≡◌, refl, sym, ap, ◌∙◌}
use mathlib.Core.Bool.{Bool, true, false}
use mathlib.Core.List.{List, [], ◌∷◌}
use Prim.Native.Nat.{ℕ, zero, suc, ◌<◌}
use native.Mathlib.Omega.{arith}
use borrow.Author.Tests.{eqb-false}
use lib.Dec.{T, lit<}
use lib.ListN.{length}
use mir.Syntax.{w32, w64}
use mir.Val.{to_z}
use mir.ValLaws.{to_z-of_z, of_z_fits}
use Rattle.big_endian.specs.Numbers.{base, number_at}
use Rattle.big_endian.specs.Fields.{Field, byte, laid_out}
use Rattle.big_endian.proofs.Laws.{In, first, later, field_back, written-length}
use Rattle.estimate.specs.Make.{format_of}
use Rattle.record_parts.specs.declared.Entry.{Entry}
use Rattle.record_parts.specs.declared.Entry.TheVariants as entry
use Rattle.call_types.specs.declared.Reply.{Reply}
use Rattle.call_types.specs.declared.ReplyObservation.{ReplyObservation}
use Rattle.call_types.specs.declared.SentProbe.{SentProbe}
use Rattle.record_parts.specs.Parts.{flag, follow_time, observe_flags, pending_by, time_by, ordinal_by, counters_by, follow_by, estimates_by}
use Rattle.record_parts.specs.Fits.{U64, SentFits, ReplyFits, ObservationFits, ConvertedFits, EntryFits}
use Rattle.record_parts.proofs.Back.{pending_back, time-back, ordinal-back, counters-back, follow-back, converted-back, estimates-back, format_back}
use Rattle.record_parts.proofs.Back.{pending_time-fits, pending_tag-fits, time_word-fits, ordinal_number-fits, sender_count-fits, received_count-fits}
use Rattle.record_parts.proofs.Back.{transmitted_count-fits, follow_sequence-fits, follow_timestamp-fits, follow_time-fits, sender_wire-fits, reflector_wire-fits}
use Rattle.record_parts.proofs.Back.{flag_of_lt, pending_flag-back, FlagsBack, flags-back}
use Rattle.log_record.specs.Records.{table_of, blank, record_of, entry_of}
use Rattle.log_record.proofs.Laws.{kind_0, kind_1, kind_2, kind_3, kind_other}

-- ---- a field of the record, by its place in the table

blank-length : length blank ≡ 96
unfolding blank
blank-length = refl

pub record-length : (c : Entry) → length (record_of c) ≡ 96
unfolding record_of
record-length c = written-length (table_of c) blank ∙ blank-length

-- no two fields share a byte
pub laid_out_lem : (c : Entry) → T (laid_out 96 (table_of c))
unfolding table_of
laid_out_lem (entry.Sent p) = tt
laid_out_lem (entry.Accept r) = tt
laid_out_lem (entry.Observe o t) = tt
laid_out_lem (entry.Advance n) = tt
laid_out_lem entry.Idle = tt

abbrev pub field_at : List Field → ℕ → Field
field_at [] k = byte 0 0
field_at (f ∷ fs) zero = f
field_at (f ∷ fs) (suc k) = field_at fs k

abbrev pub within : List Field → ℕ → Bool
within [] k = false
within (f ∷ fs) zero = true
within (f ∷ fs) (suc k) = within fs k

in_place : (fs : List Field) (k : ℕ) → T (within fs k) → In (field_at fs k) fs
in_place [] k t = absurd t
in_place (f ∷ fs) zero t = first refl
in_place (f ∷ fs) (suc k) t = later (in_place fs k t)

pub field : (c : Entry) (k : ℕ) → T (within (table_of c) k) → (field_at (table_of c) k).value < base (field_at (table_of c) k).width
    → number_at (field_at (table_of c) k).width (record_of c) (field_at (table_of c) k).at ≡ (field_at (table_of c) k).value
unfolding record_of
field c k t l = field_back 96 (table_of c) blank (field_at (table_of c) k) blank-length (laid_out_lem c) (in_place (table_of c) k t) l

-- ---- each kind

sent_back : (p : SentProbe) → SentFits p → entry_of (record_of (entry.Sent p)) ≡ entry.Sent p
unfolding table_of
sent_back p h =
    let c = entry.Sent p in
    sym (kind_0 (record_of c) (field c 0 tt (lit< tt)))
    ∙ (λ i. entry.Sent (record {
      sequence = field c 3 tt h.sequence i;
      ordinal = field c 4 tt h.ordinal i;
      train = field c 7 tt h.train i;
      packet = record { time = field c 5 tt h.packet.time i; tag = field c 6 tt h.packet.tag i };
    }))

accept-back : (r : Reply) → ReplyFits r → entry_of (record_of (entry.Accept r)) ≡ entry.Accept r
unfolding table_of
accept-back r h =
    let c = entry.Accept r in
    let flags = field c 1 tt (below (flag_of_lt r.pending)) in
    sym (kind_1 (record_of c) (field c 0 tt (lit< tt)))
    ∙ (λ i. entry.Accept (record {
      key = record { sender = field c 3 tt h.key.sender i; reflector = field c 4 tt h.key.reflector i; t3 = field c 5 tt h.key.t3 i };
      pending = ((λ j.
          pending_by ((ap (flag 1) flags ∙ pending_flag-back r.pending) j) (field c 6 tt (pending_time-fits r.pending h.pending) j)
          (field c 7 tt (pending_tag-fits r.pending h.pending) j))
          ∙ pending_back r.pending) i;
    }))
  where
    below : {n : ℕ} → n < 2 → n < 256
    below h = omega arith

-- the observation with each field's number, then with each part
module _ (o : ReplyObservation) (t : Option ℤ) (h : ObservationFits o) (z : ConvertedFits o.follow t) where
  abbrev c : Entry
  c = entry.Observe o t

  back : FlagsBack o t
  back = flags-back o t

  flags : number_at 0 (record_of c) 1 ≡ observe_flags o t
  unfolding table_of
  flags = field c 1 tt back.fits

  set : (k : ℕ) {b : Bool} → flag k (observe_flags o t) ≡ b → flag k (number_at 0 (record_of c) 1) ≡ b
  set k e = ap (flag k) flags ∙ e

  observe-back : entry_of (record_of (entry.Observe o t)) ≡ entry.Observe o t
  unfolding table_of
  observe-back =
      sym (kind_2 (record_of c) (field c 0 tt (lit< tt)))
      ∙ (λ i. entry.Observe (record {
        key = record { sender = field c 3 tt h.key.sender i; reflector = field c 4 tt h.key.reflector i; t3 = field c 5 tt h.key.t3 i };
        rtt = field c 6 tt h.rtt i;
        t4 = ((λ j. time_by (set 1 back.timed j) (field c 7 tt (time_word-fits o.t4 h.t4) j)) ∙ time-back o.t4 h.t4) i;
        format = (ap format_of (set 64 back.ptp) ∙ format_back o.format) i;
        reference = (ap (to_z w64) (field c 8 tt (of_z_fits w64 o.reference h.reference).fits) ∙ to_z-of_z w64 o.reference h.reference) i;
        offset = (ap (to_z w32) (field c 9 tt (of_z_fits w32 o.offset h.offset).fits) ∙ to_z-of_z w32 o.offset h.offset) i;
        ordinal = ((λ j. ordinal_by (set 2 back.numbered j) (field c 10 tt (ordinal_number-fits o.ordinal h.ordinal) j)) ∙ ordinal-back o.ordinal) i;
        counters = ((λ j.
            counters_by (set 4 back.counted j) (field c 11 tt (sender_count-fits o.counters h.counters) j)
            (field c 12 tt (received_count-fits o.counters h.counters) j) (field c 13 tt (transmitted_count-fits o.counters h.counters) j))
            ∙ counters-back o.counters) i;
        follow = ((λ j.
            follow_by (set 8 back.followed j) (field c 14 tt (follow_sequence-fits o.follow h.follow) j)
            (field c 15 tt (follow_timestamp-fits o.follow h.follow) j) (set 128 back.unknown j))
            ∙ follow-back o.follow) i;
        quality = ((λ j.
            estimates_by (set 32 back.estimated j) (field c 17 tt (sender_wire-fits o.quality h.quality) j)
            (field c 18 tt (reflector_wire-fits o.quality h.quality) j))
            ∙ estimates-back o.quality h.quality) i;
      })
      (((λ j. time_by (set 16 back.converted j) (field c 16 tt (time_word-fits (follow_time o.follow t) (follow_time-fits o.follow t z)) j)) ∙ converted-back o.follow t z) i))

advance-back : (n : ℕ) → U64 n → entry_of (record_of (entry.Advance n)) ≡ entry.Advance n
unfolding table_of
advance-back n h =
    let c = entry.Advance n in
    sym (kind_3 (record_of c) (field c 0 tt (lit< tt))) ∙ ap entry.Advance (field c 3 tt h)

idle-back : entry_of (record_of entry.Idle) ≡ entry.Idle
unfolding table_of
idle-back = sym (kind_other (record_of entry.Idle) 4 (sym (field entry.Idle 0 tt (lit< tt))) (eqb-false 4 0 refl) (eqb-false 4 1 refl) (eqb-false 4 2 refl) (eqb-false 4 3 refl))

-- The record of an entry that fits says that entry.
pub record-back : (c : Entry) → EntryFits c → entry_of (record_of c) ≡ c
record-back (entry.Sent p) h = sent_back p h
record-back (entry.Accept r) h = accept-back r h
record-back (entry.Observe o t) h = observe-back o t h.0 h.1
record-back (entry.Advance n) h = advance-back n h
record-back entry.Idle h = idle-back
