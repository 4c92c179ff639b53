-- A mark that is stored changes nothing of what the records before it say. Assumes nothing.
use mathlib.Core.Path.{◌≡◌, refl, sym, ap, subst, ◌∙◌}
use mathlib.Core.Bool.{Bool}
use mathlib.Core.List.{List}
use Prim.Native.Nat.{ℕ, zero, suc, ◌+◌, ◌≤◌, ◌<◌}
use native.Mathlib.Omega.{arith}
use lib.Dec.{eqb}
use lib.ListN.{length, get_or, set, length-set}
use lib.Seq.{get_or-set_same, get_or-set_other}
use borrow.Author.Count.{below_more}
use Rattle.recount_back.specs.Back.{Counted}
use Rattle.recount_back.proofs.Laws.{counted_is}
use Rattle.history.specs.Ledger.{Event}
use Rattle.log_whole.specs.Logs.{call_at}
use Rattle.recount_seen.specs.Seen.{seen_by, seen_at, grow, events_of}
use Rattle.recount_marks.specs.Marks.{played_mark, record_mark, marked_to, turned_in, Marked}

module _ (log marks : List ℕ) (i m : ℕ) where
  pub events-kept : (j : ℕ) → j ≤ i → events_of log (set marks i m) j ≡ events_of log marks j
  unfolding events_of seen_at
  events-kept zero l = refl
  events-kept (suc j) l =
      let other : get_or (set marks i m) j 0 ≡ get_or marks j 0 = get_or-set_other marks i j m 0 (λ e. omega arith) in
      ap (λ (x : ℕ). grow (seen_by x (call_at log j)) (events_of log (set marks i m) j)) other
      ∙ ap (grow (seen_by (get_or marks j 0) (call_at log j))) (events-kept j (omega arith))

  module _ (watched : Bool) (timeout : ℕ) where
    mark-kept : (j : ℕ) → j ≤ i → record_mark watched timeout log (set marks i m) j ≡ record_mark watched timeout log marks j
    mark-kept j l = ap (λ (es : List Event). played_mark watched timeout es (call_at log j)) (events-kept j l)

    pub marked_more : i < length marks → m ≡ record_mark watched timeout log marks i → Marked watched timeout log marks i → Marked watched timeout log (set marks i m) (i + 1)
    marked_more within e h =
        below_more (λ (j : ℕ). get_or (set marks i m) j 0 ≡ record_mark watched timeout log (set marks i m) j) i
        (λ j a. get_or-set_other marks i j m 0 (λ e. omega arith) ∙ h j a ∙ sym (mark-kept j (omega arith)))
        (get_or-set_same marks i m 0 within ∙ e ∙ sym (mark-kept i (omega arith)))

-- ---- the marks of the first n records

module _ (watched : Bool) (timeout : ℕ) (log marks : List ℕ) where
  pub marked-length : (n : ℕ) → length (marked_to watched timeout log marks n) ≡ length marks
  unfolding marked_to
  marked-length zero = refl
  marked-length (suc n) =
      length-set (marked_to watched timeout log marks n) n (record_mark watched timeout log (marked_to watched timeout log marks n) n) ∙ marked-length n

  -- EACH HAS ITS MARK
  pub marked_to_lem : (n : ℕ) → n ≤ length marks → Marked watched timeout log (marked_to watched timeout log marks n) n
  unfolding marked_to
  marked_to_lem zero l = λ j a. absurd (omega (arith, a))
  marked_to_lem (suc n) l =
      let one : n + 1 ≡ suc n = omega arith in
      let before = marked_to watched timeout log marks n in
      subst (λ (m : ℕ). Marked watched timeout log (set before n (record_mark watched timeout log before n)) m) one
      (marked_more log before n (record_mark watched timeout log before n) watched timeout (omega (arith, marked-length n)) refl (marked_to_lem n (omega arith)))

  -- a loop's turn
  pub marks_turn : (n mark : ℕ) (now : List ℕ) → mark ≡ record_mark watched timeout log now n → now ≡ marked_to watched timeout log marks n
      → set now n mark ≡ marked_to watched timeout log marks (n + 1)
  unfolding marked_to
  marks_turn n mark now e inv =
      let one : suc n ≡ n + 1 = omega arith in
      subst (λ (m : ℕ). set now n mark ≡ marked_to watched timeout log marks m) one
      (ap (set now n) e ∙ ap (λ (xs : List ℕ). set xs n (record_mark watched timeout log xs n)) inv)

  pub marks_start : marks ≡ marked_to watched timeout log marks 0
  unfolding marked_to
  marks_start = refl

-- ---- the records turned away

pub turned_is : {test : ℕ → Bool → Type 0} {n r : ℕ} (marks : List ℕ) → Counted test n r → ((j : ℕ) (b : Bool) → test j b → b ≡ eqb (get_or marks j 0) 0) → r ≡ turned_in marks n
unfolding turned_in
turned_is marks h tests = counted_is (turned_in marks) (λ j. eqb (get_or marks j 0) 0) refl (λ j. refl) h tests
