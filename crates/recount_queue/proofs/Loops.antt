-- One record further in a loop over the records from a front on. Assumes nothing.
use Rattle.std.specs.Prelude.{Option, Some, None}
use Rattle.call_types.specs.declared.SentProbe.{SentProbe}
use mathlib.Core.Path.{◌≡◌, refl, sym, ap, ◌∙◌}
use mathlib.Core.Bool.{Bool, true, false, ◌||◌, cond}
use Prim.Native.Nat.{ℕ, suc, ◌+◌, ◌-◌, ◌≤◌, ◌<◌}
use native.Mathlib.Omega.{arith}
use lib.Dec.{leb}
use borrow.Author.Tests.{ne_eqb, le-leb, lt-leb, leb-true, leb-false}
use Rattle.call_types.specs.declared.Call.{Call}
use Rattle.call_types.specs.declared.Call.TheVariants as call
use Rattle.recount_queue.specs.Moves.{move_by}
use Rattle.recount_queue.specs.Queue.{named, goes, any_named, passed_to, front_to, passed_by, front_by}

-- a function of a front and of how many records there are, at the front i before record n: the first record, and the rest
from_next : {A : Type 0} (f : ℕ → ℕ → A) (i n : ℕ) → i < n → f i (n - i) ≡ f i (suc (n - (i + 1)))
from_next f i n l = let d : n - i ≡ suc (n - (i + 1)) = omega arith in ap (f i) d

from_rest : {A : Type 0} (f : ℕ → ℕ → A) (i n : ℕ) → f (suc i) (n - (i + 1)) ≡ f (i + 1) (n - (i + 1))
from_rest f i n = let e : suc i ≡ i + 1 = omega arith in ap (λ (a : ℕ). f a (n - (i + 1))) e

from_none : {A : Type 0} (f : ℕ → ℕ → A) (i n : ℕ) → n ≤ i → f i (n - i) ≡ f i 0
from_none f i n l = let d : n - i ≡ 0 = omega arith in ap (f i) d

-- the test of the code is that of the definition
pub due_is : (sent timeout time : ℕ) → sent ≤ time → leb timeout (time - sent) ≡ leb (sent + timeout) time
due_is sent timeout time l = go (leb timeout (time - sent)) refl
  where
    go : (b : Bool) → leb timeout (time - sent) ≡ b → b ≡ leb (sent + timeout) time
    go true e = sym (le-leb (sent + timeout) time (omega (arith, leb-true timeout (time - sent) e)))
    go false e = sym (lt-leb (sent + timeout) time (omega (arith, leb-false timeout (time - sent) e)))

module _ (probe : ℕ → Option SentProbe) where
  -- ---- is one of them named so?

  pub any_here : (x i n : ℕ) (q : Option SentProbe) → i < n → q ≡ probe i → named x q ≡ true → true ≡ any_named probe x i (n - i)
  unfolding any_named
  any_here x i n q l e h = sym (from_next (any_named probe x) i n l ∙ ap (λ (b : Bool). b || any_named probe x (suc i) (n - (i + 1))) (ap (named x) (sym e) ∙ h))

  pub any_next : (x i n : ℕ) (q : Option SentProbe) → i < n → q ≡ probe i → named x q ≡ false → any_named probe x i (n - i) ≡ any_named probe x (i + 1) (n - (i + 1))
  unfolding any_named
  any_next x i n q l e h =
      from_next (any_named probe x) i n l
      ∙ ap (λ (b : Bool). b || any_named probe x (suc i) (n - (i + 1))) (ap (named x) (sym e) ∙ h)
      ∙ from_rest (any_named probe x) i n

  pub any_none : (x i n : ℕ) → n ≤ i → false ≡ any_named probe x i (n - i)
  unfolding any_named
  any_none x i n l = sym (from_none (any_named probe x) i n l)

  -- ---- a reply

  pub to_here : (x i n : ℕ) (q : Option SentProbe) → i < n → q ≡ probe i → named x q ≡ true → i + 1 ≡ front_to probe x i n
  unfolding passed_to
  to_here x i n q l e h =
      sym (ap (λ (k : ℕ). i + k) (from_next (passed_to probe x) i n l ∙ ap (λ (b : Bool). cond b 1 (suc (passed_to probe x (suc i) (n - (i + 1))))) (ap (named x) (sym e) ∙ h)))

  pub to_next : (x i n : ℕ) (q : Option SentProbe) → i < n → q ≡ probe i → named x q ≡ false → front_to probe x i n ≡ front_to probe x (i + 1) n
  unfolding passed_to
  to_next x i n q l e h =
      let k = passed_to probe x (suc i) (n - (i + 1)) in
      let one : i + suc (passed_to probe x (suc i) (n - (i + 1))) ≡ i + 1 + passed_to probe x (suc i) (n - (i + 1)) = omega arith in
      ap (λ (k : ℕ). i + k) (from_next (passed_to probe x) i n l ∙ ap (λ (b : Bool). cond b 1 (suc (passed_to probe x (suc i) (n - (i + 1))))) (ap (named x) (sym e) ∙ h))
      ∙ one
      ∙ ap (λ (k : ℕ). i + 1 + k) (from_rest (passed_to probe x) i n)

  pub to_none : (x n : ℕ) → n ≡ front_to probe x n n
  unfolding passed_to
  to_none x n = sym (ap (λ (k : ℕ). n + k) (from_none (passed_to probe x) n n (omega arith)) ∙ plus_none)
    where
      plus_none : n + 0 ≡ n
      plus_none = omega arith

module _ (timeout : ℕ) (probe : ℕ → Option SentProbe) where
  -- ---- an advance

  pub by_here : (t i n : ℕ) (q : Option SentProbe) → i < n → q ≡ probe i → goes timeout t q ≡ false → i ≡ front_by timeout probe t i n
  unfolding passed_by
  by_here t i n q l e h =
      sym (ap (λ (k : ℕ). i + k) (from_next (passed_by timeout probe t) i n l ∙ ap (λ (b : Bool). cond b (suc (passed_by timeout probe t (suc i) (n - (i + 1)))) 0) (ap (goes timeout t) (sym e) ∙ h)) ∙ plus_none)
    where
      plus_none : i + 0 ≡ i
      plus_none = omega arith

  pub by_next : (t i n : ℕ) (q : Option SentProbe) → i < n → q ≡ probe i → goes timeout t q ≡ true → front_by timeout probe t i n ≡ front_by timeout probe t (i + 1) n
  unfolding passed_by
  by_next t i n q l e h =
      let one : i + suc (passed_by timeout probe t (suc i) (n - (i + 1))) ≡ i + 1 + passed_by timeout probe t (suc i) (n - (i + 1)) = omega arith in
      ap (λ (k : ℕ). i + k) (from_next (passed_by timeout probe t) i n l ∙ ap (λ (b : Bool). cond b (suc (passed_by timeout probe t (suc i) (n - (i + 1)))) 0) (ap (goes timeout t) (sym e) ∙ h))
      ∙ one
      ∙ ap (λ (k : ℕ). i + 1 + k) (from_rest (passed_by timeout probe t) i n)

  pub by-none : (t n : ℕ) → n ≡ front_by timeout probe t n n
  unfolding passed_by
  by-none t n = sym (ap (λ (k : ℕ). n + k) (from_none (passed_by timeout probe t) n n (omega arith)) ∙ plus_none)
    where
      plus_none : n + 0 ≡ n
      plus_none = omega arith

-- ---- a byte that is no mark is as that of a record that was turned away

pub no_mark : (n : ℕ) (x : Option Call) → 5 < n → move_by 0 x ≡ move_by n x
no_mark n None far = refl
no_mark n (Some (call.Sent s)) far = simp (ne_eqb n 1 (omega arith))
no_mark n (Some (call.Accept a)) far = simp (ne_eqb n 4 (omega arith), ne_eqb n 5 (omega arith))
no_mark n (Some (call.Observe o)) far = refl
no_mark n (Some (call.Advance t)) far = refl
no_mark n (Some call.Idle) far = refl
