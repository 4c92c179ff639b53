-- The contracts determine the answer and every lent word: two exits that meet them are equal. Assumes nothing.
use mathlib.Core.Path.{◌≡◌, sym, ap, ◌∙◌}
use contract.Lifetimes.{Lfts}
use borrow.Fn.World as World
use borrow.Fn.Kinds as Kinds'
use denote.Triple.Clauses as Clauses
use Rattle.host_bits.specs.Calls.{ParseLeft, CountLeft}
use Rattle.host_bits.specs.contracts.ambrulicciu_parse_pattern as parse
use Rattle.host_bits.proofs.ambrulicciu_parse_pattern.Kinds as parse-kinds
use Rattle.host_bits.proofs.ambrulicciu_parse_pattern.Reads as parse-reads
use Rattle.host_bits.specs.contracts.ambrulicciu_bit_errors as count
use Rattle.host_bits.proofs.ambrulicciu_bit_errors.Kinds as count-kinds
use Rattle.host_bits.proofs.ambrulicciu_bit_errors.Reads as count-reads
use Rattle.host_bits.specs.contracts.ambrulicciu_bit_observation as observe
use Rattle.host_bits.proofs.ambrulicciu_bit_observation.Kinds as observe-kinds
use Rattle.host_bits.proofs.ambrulicciu_bit_observation.Reads as observe-reads
use Rattle.host_bits.specs.contracts.ambrulicciu_bit_summary_fresh as fresh
use Rattle.host_bits.proofs.ambrulicciu_bit_summary_fresh.Kinds as fresh-kinds
use Rattle.host_bits.proofs.ambrulicciu_bit_summary_fresh.Reads as fresh-reads
use Rattle.host_bits.specs.contracts.ambrulicciu_bit_summary_record as recording
use Rattle.host_bits.proofs.ambrulicciu_bit_summary_record.Kinds as recording-kinds
use Rattle.host_bits.proofs.ambrulicciu_bit_summary_record.Reads as recording-reads
use Rattle.host_bits.specs.contracts.ambrulicciu_bit_summary_show as show
use Rattle.host_bits.proofs.ambrulicciu_bit_summary_show.Kinds as show-kinds
use Rattle.host_bits.proofs.ambrulicciu_bit_summary_show.Reads as show-reads

pub parse_unique :
    (κs : Lfts 3) (a : World.ArgsD parse.signature κs) (x y : World.ResD parse.signature κs) (s t : Clauses.AtExit (Kinds'.ended_of 3 parse-kinds.ps parse-kinds.r) κs)
    → parse-reads.Post κs a x s → parse-reads.Post κs a y t → (x ≡ y) × (s.1.0.now ≡ t.1.0.now) × (s.1.1.0.now ≡ t.1.1.0.now)
parse_unique κs a x y s t p q = let e = p ∙ sym q in (ap (λ (l : ParseLeft). l.number) e, ap (λ (l : ParseLeft). l.room) e, ap (λ (l : ParseLeft). l.length) e)

pub count-unique :
    (κs : Lfts 3) (a : World.ArgsD count.signature κs) (x y : World.ResD count.signature κs) (s t : Clauses.AtExit (Kinds'.ended_of 3 count-kinds.ps count-kinds.r) κs)
    → count-reads.Post κs a x s → count-reads.Post κs a y t → (x ≡ y) × (s.1.1.0.now ≡ t.1.1.0.now)
count-unique κs a x y s t p q = let e = p ∙ sym q in (ap (λ (l : CountLeft). l.number) e, ap (λ (l : CountLeft). l.words) e)

pub observe-unique :
    (κs : Lfts 4) (a : World.ArgsD observe.signature κs) (x y : World.ResD observe.signature κs) (s t : Clauses.AtExit (Kinds'.ended_of 4 observe-kinds.ps observe-kinds.r) κs)
    → observe-reads.Post κs a x s → observe-reads.Post κs a y t → (x ≡ y) × (s.1.1.1.1.1.1.0.now ≡ t.1.1.1.1.1.1.0.now)
observe-unique κs a x y s t p q = let e = p ∙ sym q in (ap (λ (l : CountLeft). l.number) e, ap (λ (l : CountLeft). l.words) e)

pub fresh-unique :
    (κs : Lfts 1) (a : World.ArgsD fresh.signature κs) (x y : World.ResD fresh.signature κs) (s t : Clauses.AtExit (Kinds'.ended_of 1 fresh-kinds.ps fresh-kinds.r) κs)
    → fresh-reads.Post κs a x s → fresh-reads.Post κs a y t → (x ≡ y) × (s.0.now ≡ t.0.now)
fresh-unique κs a x y s t p q = let e = p ∙ sym q in (ap (λ (l : CountLeft). l.number) e, ap (λ (l : CountLeft). l.words) e)

pub record-unique :
    (κs : Lfts 1) (a : World.ArgsD recording.signature κs) (x y : World.ResD recording.signature κs) (s t : Clauses.AtExit (Kinds'.ended_of 1 recording-kinds.ps recording-kinds.r) κs)
    → recording-reads.Post κs a x s → recording-reads.Post κs a y t → (x ≡ y) × (s.0.now ≡ t.0.now)
record-unique κs a x y s t p q = let e = p ∙ sym q in (ap (λ (l : CountLeft). l.number) e, ap (λ (l : CountLeft). l.words) e)

pub show-unique :
    (κs : Lfts 2) (a : World.ArgsD show.signature κs) (x y : World.ResD show.signature κs) (s t : Clauses.AtExit (Kinds'.ended_of 2 show-kinds.ps show-kinds.r) κs)
    → show-reads.Post κs a x s → show-reads.Post κs a y t → (x ≡ y) × (s.1.0.now ≡ t.1.0.now)
show-unique κs a x y s t p q = let e = p ∙ sym q in (ap (λ (l : CountLeft). l.number) e, ap (λ (l : CountLeft). l.words) e)
