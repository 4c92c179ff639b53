use mathlib.Core.Path.{◌≡◌, refl, sym, ap, ◌∙◌}
use mathlib.Core.List.{List, ◌++◌, append_assoc}
use Prim.Native.Nat.{ℕ, ◌+◌}
use native.Mathlib.Omega.{arith}
use native.Mathlib.Numerals.{add-one}
use native.Mathlib.Nat.{le_refl}
use lib.ListN.{length, get_or, take, drop, set, length-set}
use lib.Seq.{paste, paste-zero, paste-suc, take-length}
use Rattle.decimal.specs.Writing.{over}
use Rattle.template.proofs.words.put_text.Goals as goal

-- the whole text
whole : (b : List ℕ) (at : ℕ) (t : List ℕ) → paste b at t (length t) ≡ over b at t
unfolding over
whole b at t = append_assoc (take at b) (take (length t) t) (drop (at + length t) b) ∙ ap (λ (l : List ℕ). take at b ++ (l ++ drop (at + length t) b)) (take-length t)

pub loop-byte-init : goal.loop-byte-init
loop-byte-init c = (omega arith, paste-zero c.args.bytes.now c.args.at c.args.text.now, refl)

pub loop-byte-preserved : goal.loop-byte-preserved
loop-byte-preserved c =
    let l = c.loop-byte in
    let k = l.byte-index in
    let b = c.args.bytes.now in
    let t = c.args.text.now in
    let at = c.args.at in (
      omega arith,
      ap (λ (x : List ℕ). set x l.place (get_or t k 0)) l.invariant.1
          ∙ ap (λ (n : ℕ). set (paste b at t k) n (get_or t k 0)) l.invariant.0
          ∙ paste-suc b at t k 0 (omega arith) (omega arith)
          ∙ ap (λ (n : ℕ). paste b at t n) (sym (add-one k)),
      length-set l.bytes l.place (get_or t k 0) ∙ l.invariant.2,
    )

pub returns : goal.returns
returns c =
    let l = c.loop-byte in
    let b = c.args.bytes.now in
    let t = c.args.text.now in
    let all : l.byte-index ≡ length t = omega arith in
    record {
      bytes = l.invariant.1 ∙ ap (λ (k : ℕ). paste b c.args.at t k) all ∙ whole b c.args.at t;
      end = omega arith;
      short = le_refl (length t);
    }
