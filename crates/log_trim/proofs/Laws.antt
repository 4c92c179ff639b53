-- What the proofs of this crate's functions need of the definitions. Assumes nothing.
use Rattle.std.specs.Prelude.{Result, Ok, Err}
use mathlib.Core.Path.{◌≡◌, refl, sym, ap, ap₂, ◌∙◌, subst}
use mathlib.Core.Bool.{Bool, true, false, cond}
use mathlib.Core.List.{List, ◌++◌, append_assoc}
use Prim.Native.Nat.{ℕ, ◌+◌, ◌-◌, ◌*◌, ◌/◌, ◌≤◌, ◌<◌}
use native.Mathlib.Omega.{arith}
use lib.Dec.{ltb}
use lib.ListN.{length, take, drop, replicate, length-take, length-drop, length-append}
use lib.Seq.{take_all, take_at, drop_at, drop-drop, length-take-le}
use borrow.Author.Tests.{lt-ltb, le-ltb}
use borrow.Rule.Slice.PartMut.{put_mid}
use Rattle.limits.specs.declared.Refusal.{Refusal}
use Rattle.limits.specs.declared.Refusal.TheVariants as refusal
use Rattle.log_record.specs.Records.{Wrote, wrote}
use Rattle.log_whole.specs.Logs.{count_of, first_bad, trailer_over, trailer_to}
use Rattle.log_whole.proofs.Laws.{write_done}
use Rattle.log_whole.proofs.Whole.{trailer_whole}
use Rattle.log_cut.specs.Cut.{kept_of, stop_of, whole, dropped_of, trailer_of, output_of}
use Rattle.log_cut.proofs.Kept.{keeps, whole_is, whole_keeps}
use Rattle.log_cut.proofs.Output.{output_whole, output_cut, output_length, dropped_whole, dropped_cut}
use Rattle.log_trim.specs.declared.Cut.{Cut}
use Rattle.log_trim.specs.Trimmed.{left, cut_of, answer_of, room_after, trim_to}

-- ---- what is kept

pub kept_all : (bs : List ℕ) → whole bs ≡ true → length bs / 96 ≡ kept_of bs
kept_all bs w = count (length bs) (count_of bs) (whole_is bs w).sized ∙ sym (whole_keeps bs w)
  where
    count : (n k : ℕ) → n ≡ 96 * k + 24 → n / 96 ≡ k
    count n k e = omega arith

pub kept-first : (bs : List ℕ) → first_bad bs 0 0 (length bs / 96) ≡ kept_of bs
unfolding kept_of
kept-first bs = refl

-- ---- the trailer behind what was copied

part_size : (xs : List ℕ) (at end : ℕ) → end ≡ at + 24 → end ≤ length xs → length (take (end - at) (drop at xs)) ≡ 24
part_size xs at end e h = simp (length-take, length-drop) (omega arith)

trailer_new : (bs : List ℕ) (count copies threshold timeout : ℕ) → length bs ≡ 24
    → trailer_over bs count copies threshold timeout ≡ trailer_of count copies threshold timeout
unfolding trailer_of
trailer_new bs count copies threshold timeout l = trailer_whole count copies threshold timeout bs (replicate 24 0) l refl

pub put_is : (log room first last : List ℕ) (count copies threshold timeout stop end : ℕ) (r : Result Unit Refusal)
    → count ≤ 682 → 96 * count ≤ length log → 96 * count + 24 ≤ length room → stop ≡ 96 * count → end ≡ stop + 24
    → first ≡ take stop log ++ drop stop room
    → wrote r last ≡ trailer_to (take (end - stop) (drop stop first)) count copies threshold timeout
    → put_mid stop (end - stop) first last ≡ (take (96 * count) log ++ trailer_of count copies threshold timeout) ++ drop (96 * count + 24) room
put_is log room first last count copies threshold timeout stop end r few there fits s n c w =
    (λ i. before i ++ (trailer_is i ++ behind i))
    ∙ sym (append_assoc (take stop log) (trailer_of count copies threshold timeout) (drop (stop + 24) room))
    ∙ (λ i. (take (s i) log ++ trailer_of count copies threshold timeout) ++ drop (at_end i) room)
  where
    at_end : stop + 24 ≡ 96 * count + 24
    at_end = omega arith

    front : length (take stop log) ≡ stop
    front = length-take-le stop log (omega arith)

    whole_length : length first ≡ length room
    whole_length = ap length c ∙ length-append (take stop log) (drop stop room) ∙ ap₂ ◌+◌ front (length-drop stop room) ∙ all stop (length room) (omega arith)
      where
        all : (s n : ℕ) → s ≤ n → s + (n - s) ≡ n
        all s n h = omega arith

    size : length (take (end - stop) (drop stop first)) ≡ 24
    size = part_size first stop end n (subst (λ (m : ℕ). end ≤ m) (sym whole_length) (omega arith))

    before : take stop first ≡ take stop log
    before = ap (take stop) c ∙ take_at (take stop log) (drop stop room) stop front

    trailer_is : last ≡ trailer_of count copies threshold timeout
    trailer_is =
        ap (λ (x : Wrote). x.bytes) (w ∙ sym (write_done (take (end - stop) (drop stop first)) count copies threshold timeout
        (trailer_over (take (end - stop) (drop stop first)) count copies threshold timeout) size few refl))
        ∙ trailer_new (take (end - stop) (drop stop first)) count copies threshold timeout size

    behind : drop (end - stop) (drop stop first) ≡ drop (stop + 24) room
    behind =
        ap (λ (x : List ℕ). drop (end - stop) (drop stop x)) c
        ∙ ap (drop (end - stop)) (drop_at (take stop log) (drop stop room) stop front)
        ∙ drop-drop (end - stop) stop room
        ∙ ap (λ (m : ℕ). drop m room) (on stop end n)
      where
        on : (s e : ℕ) → e ≡ s + 24 → s + (e - s) ≡ s + 24
        on s e h = omega arith

-- ---- the answers

by_answer : (bs room : List ℕ) (copies threshold timeout : ℕ) (a : Result Cut Refusal) → answer_of bs room ≡ a
    → left a (room_after a (output_of bs copies threshold timeout) room) ≡ trim_to bs copies threshold timeout room
unfolding trim_to
by_answer bs room copies threshold timeout a e =
    sym (ap (λ (b : Result Cut Refusal). left b (room_after b (output_of bs copies threshold timeout) room)) e)

abbrev pub answer_by : List ℕ → (long short : Bool) → Result Cut Refusal
answer_by bs long short = cond long (Err refusal.TooLong) (cond short (Err refusal.ShortRoom) (Ok (cut_of bs)))

answer-long : (bs room : List ℕ) → 65536 < length bs → answer_of bs room ≡ Err refusal.TooLong
unfolding answer_of
answer-long bs room h = ap (λ (b : Bool). answer_by bs b (ltb (length room) (stop_of bs + 24))) (lt-ltb 65536 (length bs) h)

answer-short : (bs room : List ℕ) → length bs ≤ 65536 → length room < stop_of bs + 24 → answer_of bs room ≡ Err refusal.ShortRoom
unfolding answer_of
answer-short bs room l h = ap₂ (answer_by bs) (le-ltb 65536 (length bs) l) (lt-ltb (length room) (stop_of bs + 24) h)

answer-served : (bs room : List ℕ) → length bs ≤ 65536 → stop_of bs + 24 ≤ length room → answer_of bs room ≡ Ok (cut_of bs)
unfolding answer_of
answer-served bs room l h = ap₂ (answer_by bs) (le-ltb 65536 (length bs) l) (le-ltb (length room) (stop_of bs + 24) h)

module _ (bs room : List ℕ) (copies threshold timeout : ℕ) where
  pub trim-long : 65536 < length bs → left (Err refusal.TooLong) room ≡ trim_to bs copies threshold timeout room
  trim-long h = by_answer bs room copies threshold timeout (Err refusal.TooLong) (answer-long bs room h)

  module _ (kept : ℕ) (small : length bs ≤ 65536) (e : kept ≡ kept_of bs) where
    pub trim_short : length room < 96 * kept + 24 → left (Err refusal.ShortRoom) room ≡ trim_to bs copies threshold timeout room
    trim_short h = by_answer bs room copies threshold timeout (Err refusal.ShortRoom) (answer-short bs room small (subst (λ (k : ℕ). length room < 96 * k + 24) e h))

    served : (dropped : ℕ) (after : List ℕ) → 96 * kept + 24 ≤ length room → dropped ≡ dropped_of bs
        → after ≡ output_of bs copies threshold timeout ++ drop (96 * kept + 24) room
        → left (Ok (record { kept = kept; stop = 96 * kept; dropped = dropped })) after ≡ trim_to bs copies threshold timeout room
    served dropped after h d a =
        (λ i. left (Ok (record { kept = e i; stop = 96 * e i; dropped = d i })) (behind i))
        ∙ by_answer bs room copies threshold timeout (Ok (cut_of bs)) (answer-served bs room small (subst (λ (k : ℕ). 96 * k + 24 ≤ length room) e h))
      where
        behind : after ≡ output_of bs copies threshold timeout ++ drop (length (output_of bs copies threshold timeout)) room
        behind =
            a ∙ ap (λ (n : ℕ). output_of bs copies threshold timeout ++ drop n room)
            (ap (λ (k : ℕ). 96 * k + 24) e ∙ sym (output_length bs copies threshold timeout))

    pub trim-whole : (after : List ℕ) → whole bs ≡ true → 96 * kept + 24 ≤ length room → after ≡ take (length bs) bs ++ drop (length bs) room
        → left (Ok (record { kept = kept; stop = 96 * kept; dropped = 0 })) after ≡ trim_to bs copies threshold timeout room
    trim-whole after w h a =
        served 0 after h (sym (dropped_whole bs w))
        (a ∙ (λ i. (take_all (length bs) bs (omega arith) ∙ sym (output_whole bs copies threshold timeout w)) i ++ drop (size i) room))
      where
        size : length bs ≡ 96 * kept + 24
        size = (whole_is bs w).sized ∙ ap (λ (k : ℕ). 96 * k + 24) (sym (e ∙ whole_keeps bs w))

    pub trim_cut : (after : List ℕ) → whole bs ≡ false → 96 * kept + 24 ≤ length room
        → after ≡ (take (96 * kept) bs ++ trailer_of kept copies threshold timeout) ++ drop (96 * kept + 24) room
        → left (Ok (record { kept = kept; stop = 96 * kept; dropped = length bs - 96 * kept })) after ≡ trim_to bs copies threshold timeout room
    trim_cut after w h a =
        served (length bs - 96 * kept) after h (ap (λ (k : ℕ). length bs - 96 * k) e ∙ sym (dropped_cut bs w))
        (a ∙ ap (λ (x : List ℕ). x ++ drop (96 * kept + 24) room)
        (ap (λ (k : ℕ). take (96 * k) bs ++ trailer_of k copies threshold timeout) e ∙ sym (output_cut bs copies threshold timeout w)))

pub whole-fits : (bs : List ℕ) (kept : ℕ) → kept ≡ kept_of bs → whole bs ≡ true → length bs ≡ 96 * kept + 24
whole-fits bs kept e w = (whole_is bs w).sized ∙ ap (λ (k : ℕ). 96 * k + 24) (sym (e ∙ whole_keeps bs w))

pub kept-within : (bs : List ℕ) (kept : ℕ) → kept ≡ kept_of bs → 96 * kept ≤ length bs
kept-within bs kept e = subst (λ (k : ℕ). 96 * k ≤ length bs) (sym e) (keeps bs).there
