-- Worked examples: that of document 01, a long one, a session without a monitor, and a link that sent nothing. Assumes nothing.
use Rattle.std.specs.Prelude.{Some, None}
use mathlib.Core.List.{[], ◌∷◌, ◌++◌}
use mathlib.Core.Path.{◌≡◌, refl}
use Prim.Native.Nat.{ℕ}
use lib.ListN.{length}
use Rattle.decimal.specs.Decimal.{decimal, digits_within}
use Rattle.template.specs.Text.{bytes}
use Rattle.template.specs.Filled.{filled}
use Rattle.template.specs.declared.Shown.TheVariants as shown
use Rattle.report.specs.declared.figures.Session.{Session}
use Rattle.report.specs.declared.figures.Session.TheVariants as state
use Rattle.report.specs.declared.figures.Session.TheVariants.{Active, Failed}
use Rattle.report.specs.declared.figures.Figures.{Figures}
use Rattle.report.specs.Lines.{shown_of, state_of, losses_of, values_of, text_of}

-- the figures of document 01's example
abbrev pub documented : Figures
documented =
    record {
      played = record { records = 4; turned_away = 0 };
      loss = record { requested = 1; unobserved = 0; thousandths = Some 0 };
      replies = record { unique = 1; duplicate = 1; unknown = 0 };
      probes = record { answered = 1; additional = 0; late = 0 };
      order = record { reordered = 0; independent = 0 };
      followup = record { observations = 0; matched = 0; repeated = 0; unmatched = 0; ambiguous = 0; unavailable = 0 };
      direct = record { observations = 0; unavailable = 0; discontinuities = 0; reordered = 0 };
      missing = record { forward = None; reverse = None };
      session = Active 0;
      rtt = record { samples = 1; min = Some 50; max = Some 50 };
      evicted = record { unanswered = 0 };
    }

-- Document 01's example, word for word, with the last line of document 02, Q-3.
pub document-example :
    text_of documented
    ≡ bytes "records 4 turned away 0\n"
    ++ bytes "requested 1 unobserved 0 thousandths 0\n"
    ++ bytes "unique 1 duplicate 1 unknown 0\n"
    ++ bytes "answered 1 additional 0 late 0\n"
    ++ bytes "reordered 0 independent 0\n"
    ++ bytes "followup 0 matched 0 repeated 0 unmatched 0 ambiguous 0 unavailable 0\n"
    ++ bytes "direct 0 unavailable 0 discontinuities 0 reordered 0\n"
    ++ bytes "missing forward - reverse -\n"
    ++ bytes "state active losses 0\n"
    ++ bytes "rtt samples 1 min 50 max 50\n"
    ++ bytes "evicted unanswered 0\n"
unfolding text_of values_of filled decimal digits_within
document-example = refl

-- all counts alike, with values and a session
abbrev alike : ℕ → Session → Figures
alike n s =
    record {
      played = record { records = n; turned_away = n };
      loss = record { requested = n; unobserved = n; thousandths = Some n };
      replies = record { unique = n; duplicate = n; unknown = n };
      probes = record { answered = n; additional = n; late = n };
      order = record { reordered = n; independent = n };
      followup = record { observations = n; matched = n; repeated = n; unmatched = n; ambiguous = n; unavailable = n };
      direct = record { observations = n; unavailable = n; discontinuities = n; reordered = n };
      missing = record { forward = Some n; reverse = Some n };
      session = s;
      rtt = record { samples = n; min = Some n; max = Some n };
      evicted = record { unanswered = n };
    }

-- A long text: each place holds the greatest number of its type, or the longest word.
pub longest : length (text_of (alike 18446744073709551615 (Failed 4294967295))) ≡ 931
unfolding text_of values_of filled decimal digits_within
longest = refl

-- Without a monitor the state is `none` and the losses are 0.
pub without_monitor : filled (bytes "state # losses #\n") (state_of state.None ∷ shown.Number (losses_of state.None) ∷ []) ≡ bytes "state none losses 0\n"
unfolding filled decimal digits_within
without_monitor = refl

-- With nothing requested there is no figure of loss, and no 0 that reads as one.
pub silent : filled (bytes "requested # unobserved # thousandths #\n") (shown.Number 0 ∷ shown.Number 0 ∷ shown_of None ∷ []) ≡ bytes "requested 0 unobserved 0 thousandths -\n"
unfolding filled decimal digits_within
silent = refl
