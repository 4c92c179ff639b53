use mathlib.Core.Path.{sym, ap, ◌∙◌}
use Prim.Native.Nat.{◌<◌, ◌^◌}
use Rattle.ledger_state.specs.State.{fresh_tables, fresh_counts}
use Rattle.host_ledger.specs.Words.{ledger_at}
use Rattle.log_settings.proofs.Laws.{fresh-said}
use borrow.Author.Rules.{rules}
use Rattle.log_settings.proofs.ledger_of.Goals as goal

pub returns : goal.returns
returns c =
    let f = c.fresh-fresh in
    let fits : f.result.copies < 2 ^ 16 = search (rules, f.type_inv) in
    ap ledger_at c.store_fresh.ensures.0
    ∙ fresh-said f.result.copies f.result.secret fits c.store_fresh.ensures.1 _ (λ i. record {
      copies = (sym f.ensures i).copies;
      secret = (sym f.ensures i).secret;
      calls = 0;
      tables = fresh_tables;
      counts = fresh_counts;
    })
