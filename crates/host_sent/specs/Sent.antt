-- What `ambrulicciu_sent` returns and leaves: the library's `sent` on the ledger that the words say. Assumes nothing.
use Rattle.std.specs.Prelude.{List, ℕ}
use Rattle.call_types.specs.declared.SentProbe.{SentProbe}
use Rattle.ledger_steps.specs.Calls.{sent_to}
use Rattle.host_ledger.specs.Words.{ledger_at}
use Rattle.host_sent_words.specs.Sent.{SentLeft, sent_from}

-- of the words of the ledger, the two rooms and the probe; no monitor refuses it
unfoldable pub sent_of : List ℕ → List (List ℕ) → List (List ℕ) → SentProbe → SentLeft
sent_of w probes links s = sent_from w (sent_to 0 (ledger_at w) probes links s)
