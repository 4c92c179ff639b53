use Rattle.std.proofs.Common.{◌≡◌, ℕ, ◌<◌, ◌≤◌, not, true, false, ap, ◌∙◌}
use Rattle.std.proofs.lemmas.Bool.{lt-ltb, le-ltb, lt-leb, le-leb}
use lib.Dec.{leb, ltb}
use lib.ListN.{get_or}
use Rattle.limits.specs.Limits.{capacity}
use Rattle.direct.specs.Outcomes.{seen_in}
use Rattle.host_ledger.specs.Parts.{direct_at, window_at}
use Rattle.host_ledger.specs.Words.{ledger_at, tables_at}
use Rattle.host_ledger_checks.proofs.Tests.{first_fails, second_fails, third_fails, fourth_fails, last_decides}
use Rattle.host_ledger_checks.proofs.rings_fit.Goals as goal

-- a test as the lemmas have it
below : (a b : ℕ) → a < b → not (ltb a b) ≡ false
below a b h = ap not (lt-ltb a b h)

not_below : (a b : ℕ) → b ≤ a → not (ltb a b) ≡ true
not_below a b h = ap not (le-ltb a b h)

up_to : (a b : ℕ) → a ≤ b → not (leb a b) ≡ false
up_to a b h = ap not (le-leb a b h)

above : (a b : ℕ) → b < a → not (leb a b) ≡ true
above a b h = ap not (lt-leb a b h)

pub returns-then-not-state : goal.returns-then-not-state
unfolding ledger_at tables_at direct_at
returns-then-not-state c =
    let w = c.args.state.now in
    first_fails (ltb (get_or w 6 0) capacity) (leb (get_or w 7 0) capacity) (ltb (get_or w 8 0) capacity) (leb (get_or w 9 0) capacity) (leb (seen_in (window_at 38 w)) capacity) (not_below _ _ c.if-not-state.true)

pub returns-then-not-state-2 : goal.returns-then-not-state-2
unfolding ledger_at tables_at direct_at
returns-then-not-state-2 c =
    let w = c.args.state.now in
    second_fails (ltb (get_or w 6 0) capacity) (leb (get_or w 7 0) capacity) (ltb (get_or w 8 0) capacity) (leb (get_or w 9 0) capacity) (leb (seen_in (window_at 38 w)) capacity) (below _ _ c.if-not-state.false) (above _ _ c.if-not-state-2.true)

pub returns-then-not-state-3 : goal.returns-then-not-state-3
unfolding ledger_at tables_at direct_at
returns-then-not-state-3 c =
    let w = c.args.state.now in
    third_fails (ltb (get_or w 6 0) capacity) (leb (get_or w 7 0) capacity) (ltb (get_or w 8 0) capacity) (leb (get_or w 9 0) capacity) (leb (seen_in (window_at 38 w)) capacity) (below _ _ c.if-not-state.false) (up_to _ _ c.if-not-state-2.false) (not_below _ _ c.if-not-state-3.true)

pub returns-then-not-state-4 : goal.returns-then-not-state-4
unfolding ledger_at tables_at direct_at
returns-then-not-state-4 c =
    let w = c.args.state.now in
    fourth_fails (ltb (get_or w 6 0) capacity) (leb (get_or w 7 0) capacity) (ltb (get_or w 8 0) capacity) (leb (get_or w 9 0) capacity) (leb (seen_in (window_at 38 w)) capacity) (below _ _ c.if-not-state.false) (up_to _ _ c.if-not-state-2.false) (below _ _ c.if-not-state-3.false) (above _ _ c.if-not-state-4.true)

pub returns : goal.returns
unfolding ledger_at tables_at direct_at
returns c =
    let w = c.args.state.now in
    c.seen_fits.ensures
    ∙ last_decides (ltb (get_or w 6 0) capacity) (leb (get_or w 7 0) capacity) (ltb (get_or w 8 0) capacity) (leb (get_or w 9 0) capacity) (leb (seen_in (window_at 38 w)) capacity) (below _ _ c.if-not-state.false) (up_to _ _ c.if-not-state-2.false) (below _ _ c.if-not-state-3.false) (up_to _ _ c.if-not-state-4.false)
