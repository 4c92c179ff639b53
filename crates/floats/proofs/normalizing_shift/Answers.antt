use Rattle.std.proofs.Common.{◌≡◌, ℕ, suc, ◌+◌, ◌*◌, ◌^◌, ◌<◌, ◌≤◌, sym, ◌∙◌, subst, le_trans, le_of_eq, add-suc, mul-le-mul_right, add_comm, arith, pow-add, shl_lt}
use native.Mathlib.Nat.{suc_inj}
use lib.Count.{count_leading_zeros, leading_top}
use Rattle.floats.proofs.normalizing_shift.Goals as goal

normalized : (a k s : ℕ) → 2 ^ k ≤ a → a < 2 ^ suc k → s + suc k ≡ 64 → (s < 64) × (2 ^ 63 ≤ a * 2 ^ s) × (a * 2 ^ s < 2 ^ 64)
normalized a k s lo hi e = (
  most k s e,
  subst (λ (x : ℕ). 2 ^ x ≤ a * 2 ^ s) (add_comm k s ∙ suc_inj (sym (add-suc s k) ∙ e)) (le_trans (le_of_eq (pow-add 2 k s)) (mul-le-mul_right (2 ^ s) lo)),
  subst (λ (x : ℕ). a * 2 ^ s < 2 ^ x) (add_comm (suc k) s ∙ e) (shl_lt {a = a} (suc k) s hi),
)
  where
    most : (k s : ℕ) → s + suc k ≡ 64 → s < 64
    most k s e = omega arith

pub returns : goal.returns
returns c =
    let d = c.args.v in
    let top = leading_top 64 d c.requires c.ranges.v.fits in
    normalized d top.0 (count_leading_zeros 64 d) top.2 top.3 top.1
