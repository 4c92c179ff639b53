-- What the proofs of this crate's functions need of the definitions. Assumes nothing.
use mathlib.Core.Path.{◌≡◌, refl, sym, ap, ◌∙◌}
use mathlib.Core.Bool.{true}
use mathlib.Core.List.{List}
use Prim.Native.Nat.{ℕ}
use lib.Pointwise.{bytes_decides}
use borrow.Author.Tests.{ne_eqb}
use Rattle.big_endian.specs.Numbers.{number_at}
use Rattle.record_parts.specs.declared.Entry.TheVariants as entry
use Rattle.log_record.specs.Records.{same_bytes, sent_at, accept_at, observe_at, converted_at, entry_by, entry_of}

-- ---- the entry of each kind

pub kind_0 : (r : List ℕ) → number_at 0 r 0 ≡ 0 → entry.Sent (sent_at r) ≡ entry_of r
unfolding entry_of
kind_0 r e = sym (ap (λ (k : ℕ). entry_by k (number_at 0 r 1) r) e)

pub kind_1 : (r : List ℕ) → number_at 0 r 0 ≡ 1 → entry.Accept (accept_at (number_at 0 r 1) r) ≡ entry_of r
unfolding entry_of
kind_1 r e = sym (ap (λ (k : ℕ). entry_by k (number_at 0 r 1) r) e)

pub kind_2 : (r : List ℕ) → number_at 0 r 0 ≡ 2 → entry.Observe (observe_at (number_at 0 r 1) r) (converted_at (number_at 0 r 1) r) ≡ entry_of r
unfolding entry_of
kind_2 r e = sym (ap (λ (k : ℕ). entry_by k (number_at 0 r 1) r) e)

pub kind_3 : (r : List ℕ) → number_at 0 r 0 ≡ 3 → entry.Advance (number_at 3 r 4) ≡ entry_of r
unfolding entry_of
kind_3 r e = sym (ap (λ (k : ℕ). entry_by k (number_at 0 r 1) r) e)

pub kind_other : (r : List ℕ) (k : ℕ) → k ≡ number_at 0 r 0 → (k ≡ 0 → ⊥) → (k ≡ 1 → ⊥) → (k ≡ 2 → ⊥) → (k ≡ 3 → ⊥) → entry.Idle ≡ entry_of r
unfolding entry_of
kind_other r k e n0 n1 n2 n3 = other (number_at 0 r 1) ∙ ap (λ (j : ℕ). entry_by j (number_at 0 r 1) r) e
  where
    other : (f : ℕ) → entry.Idle ≡ entry_by k f r
    other f = simp (ne_eqb k 0 n0, ne_eqb k 1 n1, ne_eqb k 2 n2, ne_eqb k 3 n3)

-- ---- what it means that two strings of bytes are the same

pub same_refl : (a : List ℕ) → same_bytes a a ≡ true
same_refl a = (bytes_decides a a).1 refl

pub same_equal : (a b : List ℕ) → same_bytes a b ≡ true → a ≡ b
same_equal a b h = (bytes_decides a b).0 h
