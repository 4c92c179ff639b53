-- What is written reads back equal, each item where it then starts, but for reserved bytes, which are 0; the contract of `write` determines the
-- answer and each byte of the room; and a refusal changes nothing. Assumes nothing.
use Rattle.std.specs.Prelude.{Result, Ok, Err}
use Rattle.limits.specs.declared.Refusal.{Refusal}
use Rattle.limits.specs.declared.Refusal.TheVariants as refusal
use mathlib.Core.Path.{◌≡◌, refl, sym, ap, ◌∙◌}
use mathlib.Core.Bool.{Bool, true, false, cond}
use mathlib.Core.List.{List, [], ◌∷◌, ◌++◌, map}
use Prim.Native.Nat.{ℕ, ◌<◌, ◌^◌}
use native.Mathlib.Omega.{arith}
use lib.Dec.{ltb}
use lib.ListN.{length, drop}
use contract.Lifetimes.{Lfts}
use borrow.Fn.World as World
use borrow.Fn.Kinds as Kinds'
use denote.Triple.Clauses as Clauses
use Rattle.area_items.specs.Items.{fits, area, items}
use Rattle.area_items.specs.Rows.{as_written, placed, Fits, AllFit, none, more}
use Rattle.area_items.proofs.Rows.{row_reads_back}
use Rattle.area_write.specs.Write.{kind_of, item_in, verdict_in, first_bad, needed, row_of, Outcome, outcome, by, write_into}
use Rattle.area_write.proofs.Laws.{good, written-length, both-good}
use Rattle.area_write.specs.contracts.write.{signature}
use Rattle.area_write.proofs.write.Kinds as K
use Rattle.area_write.proofs.write.Reads.{Post}

-- words of 64 bits
pub data Words : List ℕ → Type 0 where
  no_word : Words []
  one_more : {w : ℕ} {ws : List ℕ} → w < 2 ^ 64 → Words ws → Words (w ∷ ws)

fits-written : (values : List ℕ) (w : ℕ) → w < 2 ^ 64 → verdict_in values w ≡ Ok tt → Fits (as_written (item_in values w))
fits-written values w h ok = record {
  flags = omega arith;
  kind = omega arith;
  short = omega (arith, written-length values w ok);
  right = ap (fits (kind_of w)) (written-length values w ok) ∙ (good values w ok).1;
}

all_fit : (values ws : List ℕ) → Words ws → first_bad values ws ≡ Ok tt → AllFit (map as_written (map (item_in values) ws))
unfolding first_bad
all_fit values [] no_word e = none
all_fit values (w ∷ ws) (one_more h hs) e =
    let g = both-good (verdict_in values w) (first_bad values ws) e in
    more (fits-written values w h g.0) (all_fit values ws hs g.1)

-- what was written is an area of the items that were handed over, as they are written
pub written_reads_back : (words values : List ℕ) → Words words → first_bad values words ≡ Ok tt
    → area (row_of values words) ≡ items (placed 0 (map as_written (map (item_in values) words)))
written_reads_back words values h ok = row_reads_back (map as_written (map (item_in values) words)) (all_fit values words h ok)

-- any two exits that meet the contract are equal
pub write-unique : (κs : Lfts 3) (a : World.ArgsD signature κs) (x y : World.ResD signature κs) (s t : Clauses.AtExit (Kinds'.ended_of 3 K.ps K.r) κs)
    → Post κs a x s → Post κs a y t → (x ≡ y) × (s.1.1.0.now ≡ t.1.1.0.now)
write-unique κs a x y s t p q = let e = p ∙ sym q in (ap (λ (o : Outcome). o.answer) e, ap (λ (o : Outcome). o.room) e)

-- a refusal changes no byte
pub refused-unchanged : (words values room : List ℕ) (r : Refusal) → (write_into words values room).answer ≡ Err r → (write_into words values room).room ≡ room
unfolding write_into
refused-unchanged words values room r = go (first_bad values words) (ltb (length room) (needed words))
  where
    go : (bad : Result (Unit {0}) Refusal) (b : Bool) →
        let o = by bad (cond b (outcome (Err refusal.ShortRoom) room) (outcome (Ok (needed words)) (row_of values words ++ drop (needed words) room))) room in
        o.answer ≡ Err r → o.room ≡ room
    go (Err e) b h = refl
    go (Ok _) true h = refl
    go (Ok _) false h = absurd (cc)
