-- What a burst is as a fold: entry by entry as the code goes along the list, cut in two, empty, refused. Assumes nothing.
use mathlib.Core.Path.{◌≡◌, refl, sym, ap, ◌∙◌}
use mathlib.Core.Bool.{Bool, true, false, ◌&&◌, cond}
use mathlib.Core.List.{List, [], ◌∷◌, ◌++◌}
use native.Mathlib.Omega.{arith}
use Prim.Native.Nat.{ℕ, zero, suc, ◌+◌}
use lib.Dec.{eqb, leb}
use lib.ListN.{length}
use borrow.Author.Tests.{eqb-true, ne_eqb}
use Rattle.replies.proofs.Tested.{both}
use Rattle.host_burst.specs.Burst.{Single, Burst, left, behind, burst, burst_by, burst_to, burst_refusal, one_more, up_to, listed}

-- a list that is not refused has a room of its length
length-by : (entries rows : ℕ) (b : Bool) → eqb rows entries && leb entries 256 ≡ b → ◌≡◌ {A = ℕ} (cond b 0 5) 0 → rows ≡ entries
length-by entries rows true e h = eqb-true rows entries (both (eqb rows entries) (leb entries 256) e).0
length-by entries rows false e h = absurd (omega (arith, h))

pub length_is : (entries rows : ℕ) → burst_refusal entries rows ≡ 0 → rows ≡ entries
length_is entries rows h = length-by entries rows (eqb rows entries && leb entries 256) refl h

module _ {S : Type 0} (call : S → List ℕ → List ℕ → Single S) where
  -- ---- from the first n entries to the list

  -- one entry, then the first n of the rest
  up_behind : (s : S) (e row : List ℕ) (entries rows : List (List ℕ)) (n : ℕ)
      → up_to call (e ∷ entries) (left s (row ∷ rows)) (suc n) ≡ behind (call s e row).row (up_to call entries (left (call s e row).state rows) n)
  unfolding up_to
  up_behind s e row entries rows zero = refl
  up_behind s e row entries rows (suc n) = ap (λ (b : Burst S). one_more call (e ∷ entries) b (suc n)) (up_behind s e row entries rows n)

  pub up_all : (s : S) (entries rows : List (List ℕ)) → length rows ≡ length entries → up_to call entries (left s rows) (length entries) ≡ burst call s entries rows
  unfolding up_to burst
  up_all s [] rows h = refl
  up_all s (e ∷ entries) [] h = absurd (omega (arith, h))
  up_all s (e ∷ entries) (row ∷ rows) h =
      up_behind s e row entries rows (length entries)
      ∙ ap (behind (call s e row).row) (up_all (call s e row).state entries rows (omega (arith, h)))

  -- the code's loop at its start and in a turn
  pub up_none : (entries : List (List ℕ)) (b : Burst S) → b ≡ up_to call entries b 0
  unfolding up_to
  up_none entries b = refl

  pub up_more : (entries : List (List ℕ)) (b x y : Burst S) (n : ℕ) → x ≡ up_to call entries b n → y ≡ one_more call entries x n → y ≡ up_to call entries b (n + 1)
  unfolding up_to
  up_more entries b x y n e f =
      let one : suc n ≡ n + 1 = omega arith in
      f ∙ ap (λ (z : Burst S). one_more call entries z n) e ∙ ap (up_to call entries b) one

  -- ---- theorems

  -- an empty list changes nothing
  pub empty_changes_nothing : (s : S) → burst_to call s [] [] ≡ listed 0 (left s [])
  unfolding burst
  empty_changes_nothing s = refl

  -- cutting a list in two changes nothing: the second part is lent what the first one left
  pub cut_in_two : (s : S) (first second rows more : List (List ℕ)) → length rows ≡ length first
      → burst call s (first ++ second) (rows ++ more)
      ≡ left (burst call (burst call s first rows).state second more).state ((burst call s first rows).rows ++ (burst call (burst call s first rows).state second more).rows)
  unfolding burst
  cut_in_two s [] second [] more h = refl
  cut_in_two s [] second (row ∷ rows) more h = absurd (omega (arith, h))
  cut_in_two s (e ∷ first) second [] more h = absurd (omega (arith, h))
  cut_in_two s (e ∷ first) second (row ∷ rows) more h = ap (behind (call s e row).row) (cut_in_two (call s e row).state first second rows more (omega (arith, h)))

  -- a list of one entry is the single call
  pub one_entry : (s : S) (e row : List ℕ) → burst call s (e ∷ []) (row ∷ []) ≡ left (call s e row).state ((call s e row).row ∷ [])
  unfolding burst
  one_entry s e row = refl

  -- as many rows as before
  pub rows_kept : (s : S) (entries rows : List (List ℕ)) → length rows ≡ length entries → length (burst call s entries rows).rows ≡ length rows
  unfolding burst
  rows_kept s [] rows h = refl
  rows_kept s (e ∷ entries) [] h = refl
  rows_kept s (e ∷ entries) (row ∷ rows) h = ap suc (rows_kept (call s e row).state entries rows (omega (arith, h)))

  -- a list that is refused as a whole: no entry is served, and nothing is changed
  pub list-refused : (s : S) (entries rows : List (List ℕ)) (n : ℕ) → burst_refusal (length entries) (length rows) ≡ suc n → burst_to call s entries rows ≡ listed (suc n) (left s rows)
  list-refused s entries rows n h = ap (λ (k : ℕ). burst_by call k s entries rows) h

  -- a list that is not: each entry is
  pub list-served : (s : S) (entries rows : List (List ℕ)) → burst_refusal (length entries) (length rows) ≡ 0 → burst_to call s entries rows ≡ listed 0 (burst call s entries rows)
  list-served s entries rows h = ap (λ (k : ℕ). burst_by call k s entries rows) h

  -- ---- the call for a list, as the code has it: as many entries are served as there are, none where the list is refused

  ends_by : (s : S) (entries rows : List (List ℕ)) (n : ℕ) → burst_refusal (length entries) (length rows) ≡ n
      → listed n (up_to call entries (left s rows) (cond (eqb n 0) (length entries) 0)) ≡ burst_by call n s entries rows
  unfolding up_to
  ends_by s entries rows zero e = ap (listed 0) (up_all s entries rows (length_is (length entries) (length rows) e))
  ends_by s entries rows (suc n) e = ap (λ (b : Bool). listed (suc n) (up_to call entries (left s rows) (cond b (length entries) 0))) (ne_eqb (suc n) 0 (λ q. omega (arith, q)))

  pub list_ends : (s : S) (entries rows : List (List ℕ)) (refusal count : ℕ)
      → refusal ≡ burst_refusal (length entries) (length rows) → count ≡ cond (eqb refusal 0) (length entries) 0
      → listed refusal (up_to call entries (left s rows) count) ≡ burst_to call s entries rows
  list_ends s entries rows refusal count er ec =
      ap (λ (k : ℕ). listed refusal (up_to call entries (left s rows) k)) ec
      ∙ ends_by s entries rows refusal (sym er)
      ∙ ap (λ (k : ℕ). burst_by call k s entries rows) er
