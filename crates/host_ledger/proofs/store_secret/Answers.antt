use lib.ListN.{set}
use Rattle.host_ledger.specs.Parts.{secret_words}
use Rattle.host_ledger.proofs.Back.{secret-kept}
use Rattle.host_ledger.proofs.store_secret.Goals as goal

pub returns : goal.returns
unfolding secret_words
returns c =
    let w = c.args.state.now in
    let a = c.both.ensures in
    let b = c.both-2.ensures in
    let d = c.both-3.ensures in
    let e = c.both-4.ensures in (
      λ i. set (set (set (set w 1 (a.0 i)) 2 (b.0 i)) 3 (d.0 i)) 4 (e.0 i),
      secret-kept _ _ _ _ _
          (record { is = a.0; low_again = a.1; high_again = a.2 })
          (record { is = b.0; low_again = b.1; high_again = b.2 })
          (record { is = d.0; low_again = d.1; high_again = d.2 })
          (record { is = e.0; low_again = e.1; high_again = e.2 }),
    )
