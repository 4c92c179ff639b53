-- Counts in bounds have room for what one reply adds: a count is raised at most once. Assumes nothing.
use Rattle.std.proofs.Common.{◌≡◌, ℕ, ◌^◌, ◌<◌, ◌≤◌, sym, ap, ◌∙◌, subst, le_of_lt}
use Rattle.direct.specs.declared.Counts.{Counts}
use Rattle.direct.specs.Outcomes.{one_observed, one_unavailable, InBounds}

module _ (n m : Counts) (e : m ≡ one_observed n) (b : InBounds n) where
  pub unavailable_room : m.unavailable ≤ 2 ^ 63
  unavailable_room = subst (λ (k : Counts). k.unavailable ≤ 2 ^ 63) (sym e) (le_of_lt b.unavailable)

  pub discontinued_room : m.discontinuities ≤ 2 ^ 63
  discontinued_room = subst (λ (k : Counts). k.discontinuities ≤ 2 ^ 63) (sym e) (le_of_lt b.discontinued)

  pub reordered_room : m.reordered ≤ 2 ^ 63
  reordered_room = subst (λ (k : Counts). k.reordered ≤ 2 ^ 63) (sym e) (le_of_lt b.reordered)

  pub discontinued_after : (l : Counts) → l ≡ one_unavailable m → l.discontinuities ≤ 2 ^ 63
  discontinued_after l f = subst (λ (k : Counts). k.discontinuities ≤ 2 ^ 63) (sym f) discontinued_room
