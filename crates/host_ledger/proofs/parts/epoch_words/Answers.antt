use mathlib.Core.List.{[], ◌∷◌}
use Rattle.host_ledger.specs.Parts.{epoch_of, epoch_words}
use Rattle.host_ledger.proofs.parts.epoch_words.Goals as goal

pub returns : goal.returns
unfolding epoch_of epoch_words
returns c =
    let anchor = c.both.ensures in
    let transmitted = c.both-2.ensures in
    let latest = c.both-3.ensures in
    let maxima = c.both-4.ensures in
    record {
      said = λ i. anchor.0 i ∷ transmitted.0 i ∷ latest.0 i ∷ maxima.0 i ∷ c.args.epoch.seen ∷ [];
      kept = λ i. record {
        anchor = record { sender = record { 0 = anchor.1 i }; received = record { 0 = anchor.2 i }; transmitted = record { 0 = transmitted.1 i } };
        latest = record { sender = record { 0 = latest.1 i }; received = record { 0 = latest.2 i }; transmitted = record { 0 = transmitted.2 i } };
        sender = maxima.1 i;
        received = maxima.2 i;
        seen = c.args.epoch.seen;
      };
    }
