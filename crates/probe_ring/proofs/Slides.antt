-- The loops that take a probe out of the middle: what is done, and what is left to do.
-- Assumes nothing.
use mathlib.Core.Path.{◌≡◌, refl, sym, ap, ◌∙◌}
use mathlib.Core.List.{List, [], map}
use Prim.Native.Nat.{ℕ, suc, ◌+◌, ◌-◌, ◌≤◌, ◌<◌}
use native.Mathlib.Omega.{arith}
use native.Mathlib.Numerals.{add-one}
use lib.Dec.{eqb}
use lib.ListN.{length, get_or, set, length-set, length-map, get_or-map}
use lib.Seq.{get_or-set_same, get_or-set_other, ext_get_or}
use Rattle.chains.proofs.Tests.{Test, holds, fails, eq_test}
use Rattle.probe_ring.specs.Rooms.{moved}
use Rattle.probe_ring.proofs.Moved.{moved_none, moved_on}

-- ---- slots from `from` to `to` that each take the next one

module _ {R : Type 0} (N : ℕ) (move : ℕ → ℕ → R → R) (from to : ℕ) (start : R) where
  pub record Sliding (room : R) (i : ℕ) : Type 0 where
    pub begun : from ≤ i
    pub inside : i ≤ to
    pub rest : moved N move from (to - from) start ≡ moved N move i (to - i) room

  pub slides : from ≤ to → Sliding start from
  slides l = record { begun = omega arith; inside = l; rest = refl }

  pub sliding_on : (room : R) (i : ℕ) → to < N → i < to → Sliding room i → Sliding (move i (i + 1) room) (i + 1)
  sliding_on room i t l s =
      let left : to - i ≡ suc (to - suc i) = omega arith in
      record {
        begun = omega (arith, s.begun);
        inside = omega arith;
        rest = rw add-one (s.rest ∙ rw left (moved_on N move i (to - suc i) room (omega arith)));
      }

  pub sliding_ends : (room : R) (i : ℕ) → to ≤ i → Sliding room i → room ≡ moved N move from (to - from) start
  sliding_ends room i l s =
      let none : to - i ≡ 0 = omega arith in
      sym (s.rest ∙ rw (none, moved_none N move i room))

-- ---- rows of a room that are changed one after the other, each by the same rule

module _ (N : ℕ) (f : List ℕ → List ℕ) (start : List (List ℕ)) where
  pub record Mapping (room : List (List ℕ)) (i : ℕ) : Type 0 where
    pub fit : length room ≡ N
    pub done : (j : ℕ) → j < i → get_or room j [] ≡ f (get_or start j [])
    pub left : (j : ℕ) → i ≤ j → get_or room j [] ≡ get_or start j []

  pub maps : length start ≡ N → Mapping start 0
  maps l = record { fit = l; done = λ j m. absurd (omega (arith, m)); left = λ j m. refl }

  pub mapping_on : (room : List (List ℕ)) (i : ℕ) (row : List ℕ) → i < N → Mapping room i → row ≡ f (get_or room i []) → Mapping (set room i row) (i + 1)
  mapping_on room i row l m e = record {
    fit = length-set room i row ∙ m.fit;
    done = λ j u. done' j u (eq_test j i);
    left = λ j u. get_or-set_other room i j row [] (λ q. absurd (omega (arith, u, q))) ∙ m.left j (omega (arith, u));
  }
    where
      done' : (j : ℕ) → j < i + 1 → Test (j ≡ i) (eqb j i) → get_or (set room i row) j [] ≡ f (get_or start j [])
      done' j u (holds q t) = rw q (get_or-set_same room i row [] (omega (arith, m.fit)) ∙ e ∙ ap f (m.left i (omega arith)))
      done' j u (fails q t) = get_or-set_other room i j row [] q ∙ m.done j (omega arith)

  pub mapping_ends : (room : List (List ℕ)) (i : ℕ) → N ≤ i → length start ≡ N → f [] ≡ [] → Mapping room i → room ≡ map f start
  mapping_ends room i l z e m =
      ext_get_or [] room (map f start) (m.fit ∙ sym z ∙ sym (length-map start f))
      (λ j u. m.done j (omega (arith, u, m.fit)) ∙ sym (get_or-map f start j []) ∙ ap (λ (d : List ℕ). get_or (map f start) j d) e)
