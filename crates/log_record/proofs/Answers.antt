-- Each answer of `read` and `write`, from what the code has tested. Assumes nothing.
use mathlib.Core.Path.{◌≡◌, refl, sym, ap, ap₂, ◌∙◌}
use mathlib.Core.Bool.{Bool, true, false, cond}
use mathlib.Core.List.{List}
use Prim.Native.Nat.{ℕ}
use lib.ListN.{length, replicate}
use borrow.Author.Tests.{eq-eqb, ne_eqb}
use Rattle.std.specs.Prelude.{Result, Ok, Err}
use Rattle.limits.specs.declared.Refusal.{Refusal}
use Rattle.limits.specs.declared.Refusal.TheVariants as refusal
use Rattle.big_endian.specs.Fields.{written}
use Rattle.record_parts.specs.declared.Entry.{Entry}
use Rattle.log_record.specs.Records.{blank, record_of, table_of, entry_of, same_bytes, good, answer, read_of, wrote, scales_fit, bytes_after, write_answer, written_to}

-- an entry's fields over zeros are its record
pub over_zeros : (c : Entry) → written (table_of c) (replicate 96 0) ≡ record_of c
unfolding record_of blank
over_zeros c = refl

pub over-zeros : (c : Entry) (bs zeros : List ℕ) → length bs ≡ 96 → zeros ≡ replicate (length bs) 0 → written (table_of c) zeros ≡ record_of c
over-zeros c bs zeros l e = ap (written (table_of c)) (e ∙ ap (λ (n : ℕ). replicate n 0) l) ∙ over_zeros c

-- ---- read

pub read_room : (r : List ℕ) → (length r ≡ 96 → ⊥) → Err refusal.WrongRoom ≡ read_of r
unfolding read_of
read_room r h = sym (ap (λ (b : Bool). answer b (good r) (entry_of r)) (ne_eqb (length r) 96 h))

good-by : (r : List ℕ) (c : Entry) (b t : Bool) → c ≡ entry_of r → b ≡ same_bytes r (record_of c) → b ≡ t → good r ≡ t
unfolding good
good-by r c b t e s h = ap (λ (x : Entry). same_bytes r (record_of x)) (sym e) ∙ sym s ∙ h

pub read-by : (r : List ℕ) (c : Entry) (b t : Bool) → length r ≡ 96 → c ≡ entry_of r → b ≡ same_bytes r (record_of c) → b ≡ t → answer true t c ≡ read_of r
unfolding read_of
read-by r c b t l e s h =
    ap (answer true t) e ∙ sym (ap₂ (λ (x y : Bool). answer x y (entry_of r)) (eq-eqb (length r) 96 l) (good-by r c b t e s h))

-- ---- write

abbrev refusal_by : (sized fits : Bool) → Result Unit Refusal
refusal_by sized fits = cond sized (cond fits (Ok tt) (Err refusal.OutOfRange)) (Err refusal.WrongRoom)

by_answer : (bs : List ℕ) (c : Entry) (a : Result Unit Refusal) → write_answer bs c ≡ a → wrote a (bytes_after a c bs) ≡ written_to bs c
unfolding written_to
by_answer bs c a e = sym (ap (λ (b : Result Unit Refusal). wrote b (bytes_after b c bs)) e)

pub write_room : (bs : List ℕ) (c : Entry) → (length bs ≡ 96 → ⊥) → wrote (Err refusal.WrongRoom) bs ≡ written_to bs c
write_room bs c h = by_answer bs c (Err refusal.WrongRoom) (ap (λ (b : Bool). refusal_by b (scales_fit c)) (ne_eqb (length bs) 96 h))

pub write_scale : (bs : List ℕ) (c : Entry) (b : Bool) → length bs ≡ 96 → b ≡ scales_fit c → b ≡ false → wrote (Err refusal.OutOfRange) bs ≡ written_to bs c
write_scale bs c b l s h = by_answer bs c (Err refusal.OutOfRange) (ap₂ refusal_by (eq-eqb (length bs) 96 l) (sym s ∙ h))

pub write_done : (bs after : List ℕ) (c : Entry) (b : Bool) → length bs ≡ 96 → b ≡ scales_fit c → b ≡ true → after ≡ record_of c
    → wrote (Ok tt) after ≡ written_to bs c
write_done bs after c b l s h e = ap (wrote (Ok tt)) e ∙ by_answer bs c (Ok tt) (ap₂ refusal_by (eq-eqb (length bs) 96 l) (sym s ∙ h))
