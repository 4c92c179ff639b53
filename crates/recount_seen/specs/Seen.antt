-- The events of a log's first n records (crate history), from the records and one mark for each. Assumes nothing.
use Rattle.std.specs.Prelude.{◌≡◌, ◌<◌, cond, List, [], ◌∷◌, ℕ, zero, suc, eqb, get_or, Option, Some, None, Result, MatchResult}
use Rattle.call_types.specs.declared.Reply.{Reply}
use Rattle.call_types.specs.declared.Call.{Call}
use Rattle.call_types.specs.declared.Call.TheVariants as call
use Rattle.history.specs.Counting.{or_else}
use Rattle.history.specs.Given.{packet_of}
use Rattle.history.specs.Ledger.{Event, remembered, replied, observed, no_packet}
use Rattle.log_whole.specs.Logs.{call_at}
use Rattle.recount_seen.specs.declared.Mark.{Mark}
use Rattle.recount_seen.specs.declared.Mark.TheVariants as mark
use Rattle.recount_seen.specs.declared.NoMark.{NoMark}
use Rattle.recount_seen.specs.declared.Seen.{Seen}
use Rattle.recount_seen.specs.declared.Seen.TheVariants.{Nothing, Probe, Duplicate, Unknown, Known, First, Observed}

-- the byte of a mark
abbrev pub byte_of : Mark → ℕ
byte_of mark.TurnedAway = 0
byte_of mark.Served = 1
byte_of mark.Duplicate = 2
byte_of mark.Unknown = 3
byte_of mark.Known = 4
byte_of mark.First = 5

-- the result is the mark of this byte, or the byte where no mark has it
abbrev pub Reads : ℕ → Result Mark NoMark → Type 0
Reads byte r = MatchResult r (λ m. byte_of m ≡ byte) (λ e. (e.0 ≡ byte) × (5 < byte))

-- a reply by its mark: 2 duplicate, 3 unknown, 4 unique to a held probe, 5 unique to one that is remembered with it
abbrev pub reply_by : ℕ → Reply → Seen
reply_by mark a = cond (eqb mark 2) Duplicate (cond (eqb mark 3) Unknown (cond (eqb mark 4) (Known a) (cond (eqb mark 5) (First a) Nothing)))

-- a record by its mark: 1 is served, and 0 was turned away
abbrev pub seen_by : ℕ → Option Call → Seen
seen_by mark None = Nothing
seen_by mark (Some (call.Sent s)) = cond (eqb mark 1) (Probe s) Nothing
seen_by mark (Some (call.Accept a)) = reply_by mark a
seen_by mark (Some (call.Observe o)) = cond (eqb mark 1) (Observed o) Nothing
seen_by mark (Some (call.Advance t)) = Nothing
seen_by mark (Some call.Idle) = Nothing

-- record j
unfoldable pub seen_at : List ℕ → List ℕ → ℕ → Seen
seen_at log marks j = seen_by (get_or marks j 0) (call_at log j)

-- what it adds to the events
abbrev pub grow : Seen → List Event → List Event
grow Nothing es = es
grow (Probe s) es = remembered s.sequence (Some s.ordinal) s.train s.packet ∷ es
grow Duplicate es = es
grow Unknown es = es
grow (Known a) es = replied a.key (packet_of a.pending) ∷ es
grow (First a) es = replied a.key (packet_of a.pending) ∷ remembered a.key.sender None 0 (or_else (packet_of a.pending) no_packet) ∷ es
grow (Observed o) es = observed o ∷ es

-- of the first n records
unfoldable pub events_of : List ℕ → List ℕ → ℕ → List Event
events_of log marks zero = []
events_of log marks (suc n) = grow (seen_at log marks n) (events_of log marks n)

-- an answer that is kept over the first n records: each step makes the next of a record and of the answer before it
abbrev pub steps_to : {A : Type 0} → (Seen → A → A → Type 0) → List ℕ → List ℕ → A → ℕ → A → Type 0
steps_to step log marks start zero r = r ≡ start
steps_to {A} step log marks start (suc n) r = (a : A) × steps_to step log marks start n a × step (seen_at log marks n) a r

pub record Folded {A : Type 0} (step : Seen → A → A → Type 0) (log marks : List ℕ) (start : A) (n : ℕ) (r : A) : Type 0 where
  pub ran : steps_to step log marks start n r

-- each step may be taken
abbrev pub Foldable : {A : Type 0} → (Seen → A → Type 0) → (Seen → A → A → Type 0) → List ℕ → List ℕ → A → ℕ → Type 0
Foldable {A} may step log marks start n = (j : ℕ) (a : A) → j < n → Folded step log marks start j a → may (seen_at log marks j) a
