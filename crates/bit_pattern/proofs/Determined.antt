-- The contract of `parse_pattern` determines the answer and each byte of the room; and a refusal changes nothing. Assumes nothing.
use Rattle.std.specs.Prelude.{Ok, Err}
use Rattle.limits.specs.declared.Refusal.{Refusal}
use Rattle.limits.specs.declared.Refusal.TheVariants as refusal
use mathlib.Core.Path.{◌≡◌, refl, sym, ap, ◌∙◌}
use mathlib.Core.Bool.{Bool, true, false, cond}
use mathlib.Core.List.{List, ◌++◌}
use Prim.Native.Nat.{ℕ, ◌/◌}
use lib.Dec.{ltb}
use lib.ListN.{length, drop}
use contract.Lifetimes.{Lfts}
use borrow.Fn.World as World
use borrow.Fn.Kinds as Kinds'
use denote.Triple.Clauses as Clauses
use Rattle.bit_pattern.specs.Pattern.{Outcome, outcome, after_prefix, bad, bytes_of, decoded, parsed}
use Rattle.bit_pattern.specs.contracts.parse_pattern.{signature}
use Rattle.bit_pattern.proofs.parse_pattern.Kinds as K
use Rattle.bit_pattern.proofs.parse_pattern.Reads.{Post}

-- any two exits that meet the contract are equal
pub parse_unique : (κs : Lfts 2) (a : World.ArgsD signature κs) (x y : World.ResD signature κs) (s t : Clauses.AtExit (Kinds'.ended_of 2 K.ps K.r) κs)
    → Post κs a x s → Post κs a y t → (x ≡ y) × (s.1.0.now ≡ t.1.0.now)
parse_unique κs a x y s t p q = let e = p ∙ sym q in (ap (λ (o : Outcome). o.answer) e, ap (λ (o : Outcome). o.room) e)

-- a refusal changes no byte
pub refused-unchanged : (text room : List ℕ) (r : Refusal) → (parsed text room).answer ≡ Err r → (parsed text room).room ≡ room
unfolding parsed decoded
refused-unchanged text room r = by (bad (after_prefix text)) (ltb (length room) (length (after_prefix text) / 2))
  where
    by : (a b : Bool) → let ds = after_prefix text in
        let o = cond a (outcome (Err refusal.BadPattern) room) (cond b (outcome (Err refusal.ShortRoom) room) (outcome (Ok (length ds / 2)) (bytes_of ds ++ drop (length ds / 2) room))) in
        o.answer ≡ Err r → o.room ≡ room
    by true b n = refl
    by false true n = refl
    by false false n = absurd (cc)
