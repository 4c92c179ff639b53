-- The contracts determine the answer and every lent word: two exits that meet them are equal; and a refusal changes nothing. Assumes nothing.
use Rattle.limits.specs.declared.Refusal.{Refusal}
use Rattle.limits.specs.Numbers.{number_of}
use mathlib.Core.Path.{◌≡◌, sym, ap, ◌∙◌}
use mathlib.Core.List.{List}
use Prim.Native.Nat.{ℕ}
use contract.Lifetimes.{Lfts}
use borrow.Fn.World as World
use borrow.Fn.Kinds as Kinds'
use denote.Triple.Clauses as Clauses
use Rattle.area_items.specs.Items.{refused, area}
use Rattle.area_read.specs.Read.{read_into}
use Rattle.area_observation.specs.Told.{told}
use Rattle.host_area.specs.Calls.{BytesLeft, RoomLeft, room_left, read_to, WordsLeft, words_left, observation_to}
use Rattle.host_area.specs.contracts.ambrulicciu_area_read as read
use Rattle.host_area.proofs.ambrulicciu_area_read.Kinds as read-kinds
use Rattle.host_area.proofs.ambrulicciu_area_read.Reads as read-reads
use Rattle.host_area.specs.contracts.ambrulicciu_area_write as write
use Rattle.host_area.proofs.ambrulicciu_area_write.Kinds as write-kinds
use Rattle.host_area.proofs.ambrulicciu_area_write.Reads as write-reads
use Rattle.host_area.specs.contracts.ambrulicciu_counters_read as counters-read
use Rattle.host_area.proofs.ambrulicciu_counters_read.Kinds as counters-read-kinds
use Rattle.host_area.proofs.ambrulicciu_counters_read.Reads as counters-read-reads
use Rattle.host_area.specs.contracts.ambrulicciu_follow_up_read as follow-up-read
use Rattle.host_area.proofs.ambrulicciu_follow_up_read.Kinds as follow-up-read-kinds
use Rattle.host_area.proofs.ambrulicciu_follow_up_read.Reads as follow-up-read-reads
use Rattle.host_area.specs.contracts.ambrulicciu_counters_write as counters-write
use Rattle.host_area.proofs.ambrulicciu_counters_write.Kinds as counters-write-kinds
use Rattle.host_area.proofs.ambrulicciu_counters_write.Reads as counters-write-reads
use Rattle.host_area.specs.contracts.ambrulicciu_follow_up_write as follow-up-write
use Rattle.host_area.proofs.ambrulicciu_follow_up_write.Kinds as follow-up-write-kinds
use Rattle.host_area.proofs.ambrulicciu_follow_up_write.Reads as follow-up-write-reads
use Rattle.host_area.specs.contracts.ambrulicciu_area_observation as observation
use Rattle.host_area.proofs.ambrulicciu_area_observation.Kinds as observation-kinds
use Rattle.host_area.proofs.ambrulicciu_area_observation.Reads as observation-reads

pub read-unique :
    (κs : Lfts 3) (a : World.ArgsD read.signature κs) (x y : World.ResD read.signature κs) (s t : Clauses.AtExit (Kinds'.ended_of 3 read-kinds.ps read-kinds.r) κs)
    → read-reads.Post κs a x s → read-reads.Post κs a y t → (x ≡ y) × (s.1.0.now ≡ t.1.0.now) × (s.1.1.0.now ≡ t.1.1.0.now)
read-unique κs a x y s t p q = let e = p ∙ sym q in (ap (λ (l : RoomLeft). l.number) e, ap (λ (l : RoomLeft). l.room) e, ap (λ (l : RoomLeft). l.count) e)

pub write-unique :
    (κs : Lfts 4) (a : World.ArgsD write.signature κs) (x y : World.ResD write.signature κs) (s t : Clauses.AtExit (Kinds'.ended_of 4 write-kinds.ps write-kinds.r) κs)
    → write-reads.Post κs a x s → write-reads.Post κs a y t → (x ≡ y) × (s.1.1.0.now ≡ t.1.1.0.now) × (s.1.1.1.0.now ≡ t.1.1.1.0.now)
write-unique κs a x y s t p q = let e = p ∙ sym q in (ap (λ (l : RoomLeft). l.number) e, ap (λ (l : RoomLeft). l.room) e, ap (λ (l : RoomLeft). l.count) e)

pub counters-read-unique :
    (κs : Lfts 2) (a : World.ArgsD counters-read.signature κs) (x y : World.ResD counters-read.signature κs) (s t : Clauses.AtExit (Kinds'.ended_of 2 counters-read-kinds.ps counters-read-kinds.r) κs)
    → counters-read-reads.Post κs a x s → counters-read-reads.Post κs a y t → (x ≡ y) × (s.1.0.now ≡ t.1.0.now)
counters-read-unique κs a x y s t p q = let e = p ∙ sym q in (ap (λ (l : WordsLeft). l.number) e, ap (λ (l : WordsLeft). l.words) e)

pub follow-up-read-unique :
    (κs : Lfts 2) (a : World.ArgsD follow-up-read.signature κs) (x y : World.ResD follow-up-read.signature κs) (s t : Clauses.AtExit (Kinds'.ended_of 2 follow-up-read-kinds.ps follow-up-read-kinds.r) κs)
    → follow-up-read-reads.Post κs a x s → follow-up-read-reads.Post κs a y t → (x ≡ y) × (s.1.0.now ≡ t.1.0.now)
follow-up-read-unique κs a x y s t p q = let e = p ∙ sym q in (ap (λ (l : WordsLeft). l.number) e, ap (λ (l : WordsLeft). l.words) e)

pub counters-write-unique :
    (κs : Lfts 1) (a : World.ArgsD counters-write.signature κs) (x y : World.ResD counters-write.signature κs) (s t : Clauses.AtExit (Kinds'.ended_of 1 counters-write-kinds.ps counters-write-kinds.r) κs)
    → counters-write-reads.Post κs a x s → counters-write-reads.Post κs a y t → (x ≡ y) × (s.0.now ≡ t.0.now)
counters-write-unique κs a x y s t p q = let e = p ∙ sym q in (ap (λ (l : BytesLeft). l.number) e, ap (λ (l : BytesLeft). l.bytes) e)

pub follow-up-write-unique :
    (κs : Lfts 1) (a : World.ArgsD follow-up-write.signature κs) (x y : World.ResD follow-up-write.signature κs) (s t : Clauses.AtExit (Kinds'.ended_of 1 follow-up-write-kinds.ps follow-up-write-kinds.r) κs)
    → follow-up-write-reads.Post κs a x s → follow-up-write-reads.Post κs a y t → (x ≡ y) × (s.0.now ≡ t.0.now)
follow-up-write-unique κs a x y s t p q = let e = p ∙ sym q in (ap (λ (l : BytesLeft). l.number) e, ap (λ (l : BytesLeft). l.bytes) e)

pub observation-unique :
    (κs : Lfts 2) (a : World.ArgsD observation.signature κs) (x y : World.ResD observation.signature κs) (s t : Clauses.AtExit (Kinds'.ended_of 2 observation-kinds.ps observation-kinds.r) κs)
    → observation-reads.Post κs a x s → observation-reads.Post κs a y t → (x ≡ y) × (s.1.0.now ≡ t.1.0.now)
observation-unique κs a x y s t p q = let e = p ∙ sym q in (ap (λ (l : WordsLeft). l.number) e, ap (λ (l : WordsLeft). l.words) e)

-- a bad area: its number, and no lent word changes
pub read-refused-unchanged : (bytes items count : List ℕ) (r : Refusal) → area bytes ≡ refused r → read_to bytes items count ≡ room_left (number_of r) items count
unfolding read_to read_into
read-refused-unchanged bytes items count r e = rw e

pub observation-refused-unchanged : (bytes words : List ℕ) (r : Refusal) → area bytes ≡ refused r → observation_to bytes words ≡ words_left (number_of r) words
unfolding observation_to told
observation-refused-unchanged bytes words r e = rw e
