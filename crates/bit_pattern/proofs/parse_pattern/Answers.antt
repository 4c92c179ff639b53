use mathlib.Core.Path.{◌≡◌, ap, ◌∙◌}
use mathlib.Core.List.{List}
use Prim.Native.Nat.{ℕ, ◌-◌}
use native.Mathlib.Omega.{arith}
use lib.ListN.{length, take, drop, length-drop}
use lib.Seq.{take_all}
use Rattle.bit_pattern.specs.Pattern.{decoded, parsed, after_prefix}
use Rattle.bit_pattern.proofs.parse_pattern.Goals as goal

-- what is handed on is the text behind the prefix
handed_on : (text : List ℕ) (start : ℕ) → drop start text ≡ after_prefix text → take (length text - start) (drop start text) ≡ after_prefix text
handed_on text start e = take_all (length text - start) (drop start text) (omega (arith, length-drop start text)) ∙ e

pub returns : goal.returns
unfolding parsed
returns c =
    let a = c.args in
    let p = c.prefix_length-start in
    c.decode.ensures ∙ ap (λ (ds : List ℕ). decoded ds a.room.now) (handed_on a.text.now p.result p.ensures.1)
