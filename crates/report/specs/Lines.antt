-- The report (document 01, 'Log and program'): its lines with a place for each value, and the values in that order. Assumes nothing.
use Rattle.std.specs.Prelude.{List, [], ◌∷◌, ◌++◌, ℕ, Option, Some, None}
use Rattle.template.specs.Text.{bytes}
use Rattle.template.specs.Filled.{filled}
use Rattle.template.specs.declared.Shown.{Shown}
use Rattle.template.specs.declared.Shown.TheVariants as shown
use Rattle.report.specs.declared.figures.Session.{Session}
use Rattle.report.specs.declared.figures.Session.TheVariants as state
use Rattle.report.specs.declared.figures.Session.TheVariants.{Idle, Active, Failed}
use Rattle.report.specs.declared.figures.Figures.{Figures}

-- the end of a line
abbrev pub newline : List ℕ
newline = bytes "\n"

-- The ten lines, in document 01's words, and "a last line, `evicted unanswered N`" (document 02, Q-3).
abbrev pub template : List ℕ
template =
    bytes "records # turned away #\n"
    ++ bytes "requested # unobserved # thousandths #\n"
    ++ bytes "unique # duplicate # unknown #\n"
    ++ bytes "answered # additional # late #\n"
    ++ bytes "reordered # independent #\n"
    ++ bytes "followup # matched # repeated # unmatched # ambiguous # unavailable #\n"
    ++ bytes "direct # unavailable # discontinuities # reordered #\n"
    ++ bytes "missing forward # reverse #\n"
    ++ bytes "state # losses #\n"
    ++ bytes "rtt samples # min # max #\n"
    ++ bytes "evicted unanswered #\n"

-- a value as it is: a number, or absent
abbrev pub shown_of : Option ℕ → Shown
shown_of None = shown.Absent
shown_of (Some n) = shown.Number n

-- the word of a session's state; without a monitor it is `none`
abbrev pub state_of : Session → Shown
state_of state.None = shown.None
state_of (Idle losses) = shown.Idle
state_of (Active losses) = shown.Active
state_of (Failed losses) = shown.Failed

-- its consecutive losses; without a monitor they are 0
abbrev pub losses_of : Session → ℕ
losses_of state.None = 0
losses_of (Idle losses) = losses
losses_of (Active losses) = losses
losses_of (Failed losses) = losses

-- What the report shows, place by place.
unfoldable pub values_of : Figures → List Shown
values_of f =
    shown.Number f.played.records
    ∷ shown.Number f.played.turned_away
    ∷ shown.Number f.loss.requested
    ∷ shown.Number f.loss.unobserved
    ∷ shown_of f.loss.thousandths
    ∷ shown.Number f.replies.unique
    ∷ shown.Number f.replies.duplicate
    ∷ shown.Number f.replies.unknown
    ∷ shown.Number f.probes.answered
    ∷ shown.Number f.probes.additional
    ∷ shown.Number f.probes.late
    ∷ shown.Number f.order.reordered
    ∷ shown.Number f.order.independent
    ∷ shown.Number f.followup.observations
    ∷ shown.Number f.followup.matched
    ∷ shown.Number f.followup.repeated
    ∷ shown.Number f.followup.unmatched
    ∷ shown.Number f.followup.ambiguous
    ∷ shown.Number f.followup.unavailable
    ∷ shown.Number f.direct.observations
    ∷ shown.Number f.direct.unavailable
    ∷ shown.Number f.direct.discontinuities
    ∷ shown.Number f.direct.reordered
    ∷ shown_of f.missing.forward
    ∷ shown_of f.missing.reverse
    ∷ state_of f.session
    ∷ shown.Number (losses_of f.session)
    ∷ shown.Number f.rtt.samples
    ∷ shown_of f.rtt.min
    ∷ shown_of f.rtt.max
    ∷ shown.Number f.evicted.unanswered
    ∷ []

-- The text of the report: the template, filled from the figures.
unfoldable pub text_of : Figures → List ℕ
text_of f = filled template (values_of f)
