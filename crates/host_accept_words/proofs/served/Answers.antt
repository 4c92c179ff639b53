use mathlib.Core.Path.{sym, subst}
use Prim.Native.Nat.{ℕ, ◌≤◌}
use Rattle.limits.specs.Limits.{capacity}
use Rattle.chains.specs.Rings.{RingFits}
use Rattle.host_ledger.specs.Parts.{replies_at}
use Rattle.host_ledger.specs.Words.{ledger_at}
use Rattle.host_accept_words.proofs.Steps.{found_is, duplicate_is}
use Rattle.host_accept_words.proofs.served.Goals as goal

pub count_duplicate-requires : goal.count_duplicate-requires
unfolding ledger_at replies_at
count_duplicate-requires c =
    let s = c.requires.counts in
    (s.calls-below, s.replies_in.totals.duplicate)

pub returns-then-find-lt-CAPACITY : goal.returns-then-find-lt-CAPACITY
returns-then-find-lt-CAPACITY c =
    let a = c.args in
    duplicate_is a.ledger.now _ c.secret_words-secret.ensures a.keys.now a.slots.now a.probes.now a.links.now a.reply _ _ _
    c.keys_ring-ring.ensures c.find.ensures c.if-find-lt-CAPACITY.true c.count_duplicate.ensures

pub other-requires : goal.other-requires
other-requires c =
    let a = c.args in
    let found = found_is a.ledger.now _ c.secret_words-secret.ensures a.keys.now a.slots.now a.probes.now a.links.now a.reply _ _ c.keys_ring-ring.ensures c.find.ensures in
    (c.requires, c.secret_words-secret.ensures, subst (λ (n : ℕ). capacity ≤ n) found c.if-find-lt-CAPACITY.false)
