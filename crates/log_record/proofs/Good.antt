-- What `good` means: a good record is the record of what it says, and the record of every entry that fits is good. Assumes nothing.
use mathlib.Core.Path.{◌≡◌, refl, sym, ap, ap₂, ◌∙◌}
use mathlib.Core.Bool.{Bool, true, false}
use mathlib.Core.List.{List}
use Prim.Native.Nat.{ℕ}
use native.Mathlib.Omega.{arith}
use lib.Dec.{eqb}
use lib.ListN.{length}
use borrow.Author.Tests.{eq-eqb}
use Rattle.std.specs.Prelude.{Ok}
use Rattle.record_parts.specs.declared.Entry.{Entry}
use Rattle.record_parts.specs.Fits.{EntryFits}
use Rattle.log_record.specs.Records.{record_of, entry_of, same_bytes, good, answer, read_of}
use Rattle.log_record.proofs.Laws.{same_refl, same_equal}
use Rattle.log_record.proofs.Back.{record-length, record-back}

pub good_is_written : (r : List ℕ) → good r ≡ true → r ≡ record_of (entry_of r)
unfolding good
good_is_written r h = same_equal r (record_of (entry_of r)) h

pub written_is_good : (c : Entry) → EntryFits c → good (record_of c) ≡ true
unfolding good
written_is_good c h = ap (λ (x : Entry). same_bytes (record_of c) (record_of x)) (record-back c h) ∙ same_refl (record_of c)

-- What was written is read: the writer's record of an entry that fits says that entry.
pub read_back : (c : Entry) → EntryFits c → read_of (record_of c) ≡ Ok c
unfolding read_of
read_back c h =
    ap₂ (λ (x y : Bool). answer x y (entry_of (record_of c))) (eq-eqb (length (record_of c)) 96 (record-length c)) (written_is_good c h)
    ∙ ap Ok (record-back c h)

-- No entry but one: two that fit and have the same record are the same.
pub one_entry : (c d : Entry) → EntryFits c → EntryFits d → record_of c ≡ record_of d → c ≡ d
one_entry c d hc hd e = sym (record-back c hc) ∙ ap entry_of e ∙ record-back d hd

-- What is read was written: bytes that are read are the record of what was read, so that it is written as the same bytes.
pub read_is_written : (r : List ℕ) (c : Entry) → read_of r ≡ Ok c → r ≡ record_of c
unfolding read_of
read_is_written r c e = go (eqb (length r) 96) (good r) refl e
  where
    go : (s t : Bool) → good r ≡ t → answer s t (entry_of r) ≡ Ok c → r ≡ record_of c
    go true true g q =
        let same : entry_of r ≡ c = cc in
        good_is_written r g ∙ ap record_of same
    go true false g q = absurd (let z : ◌≡◌ {A = ℕ} 0 1 = cc in omega arith)
    go false t g q = absurd (let z : ◌≡◌ {A = ℕ} 0 1 = cc in omega arith)
