-- What one call makes of the counts of replies (document 01, 'Ledger'), by value: what the rooms found is an argument.
use Rattle.std.specs.Prelude.{Bool, true, false, ◌&&◌, not, ℕ, ◌+◌, ◌-◌, ◌%◌, ◌^◌, eqb, ltb, Option, Some, None}
use Rattle.replies.specs.declared.Answers.{Answers}
use Rattle.replies.specs.declared.Numbers.{Numbers}
use Rattle.replies.specs.declared.Totals.{Totals}
use Rattle.replies.specs.declared.Evicted.{Evicted}
use Rattle.replies.specs.declared.Replies.{Replies}
use Rattle.replies.specs.declared.ReplyClass.{ReplyClass}
use Rattle.replies.specs.declared.ReplyClass.TheVariants.{Duplicate, Unknown, Unique}

-- one more where the test holds
abbrev pub tally : Bool → ℕ → ℕ
tally true n = n + 1
tally false n = n

-- ---- classes

-- "a key among the last 4,096 accepted is duplicate. Else, with the probe not held and no pending packet, unknown. Else unique"
abbrev pub class_by : Bool → Bool → Bool → ReplyClass
class_by true held pending = Duplicate
class_by false true pending = Unique
class_by false false true = Unique
class_by false false false = Unknown

-- ---- what a unique reply does to each group of counts

-- "First reply: answered, and late without pending. Later replies: additional." "Satisfied rises while the probe's replies are below copies."
abbrev pub answered_by : ℕ → ℕ → Bool → Answers → Answers
answered_by replies copies pending a = record {
  answered = tally (eqb replies 0) a.answered;
  additional = tally (ltb 0 replies) a.additional;
  late = tally (eqb replies 0 && not pending) a.late;
  satisfied = tally (ltb replies copies) a.satisfied;
}

-- "Reflector step modulo 2^32 from the highest"
unfoldable pub step_from : ℕ → ℕ → ℕ
step_from high reflector = (reflector + 2 ^ 32 - high) % 2 ^ 32

-- "0 nothing; below 2^31 a new highest; else reordered"
abbrev pub highest_by : Bool → Bool → ℕ → ℕ → Option ℕ
highest_by true back high reflector = Some high
highest_by false true high reflector = Some high
highest_by false false high reflector = Some reflector

-- "The first sets it."
abbrev pub highest_after : Option ℕ → ℕ → Option ℕ
highest_after None reflector = Some reflector
highest_after (Some high) reflector = highest_by (eqb (step_from high reflector) 0) (not (ltb (step_from high reflector) (2 ^ 31))) high reflector

-- the step from the highest is 2^31 or more; the first reply is never reordered
abbrev pub is_reordered : Option ℕ → ℕ → Bool
is_reordered None reflector = false
is_reordered (Some high) reflector = not (ltb (step_from high reflector) (2 ^ 31))

-- "Reflector other than sender: independent observation."
abbrev pub numbered_by : ℕ → ℕ → Numbers → Numbers
numbered_by sender reflector n = record {
  last = Some reflector;
  highest = highest_after n.highest reflector;
  reordered = tally (is_reordered n.highest reflector) n.reordered;
  independent = tally (not (eqb reflector sender)) n.independent;
}

-- how many probes and accepted keys were evicted so far: one more of each that the call evicted; lost: "evicted while unanswered"
abbrev pub evicted_by : Bool → Bool → Bool → Evicted → Evicted
evicted_by probe lost key e = record { probes = tally probe e.probes; replies = tally key e.replies; unanswered = tally lost e.unanswered }

-- ---- the served calls

-- "`sent` adds copies to requested"
abbrev pub requested_by : ℕ → Totals → Totals
requested_by copies t = record { requested = t.requested + copies; unique = t.unique; duplicate = t.duplicate; unknown = t.unknown }

-- a unique reply counts as that alone; requested stays
abbrev pub one_unique : Totals → Totals
one_unique t = record { requested = t.requested; unique = t.unique + 1; duplicate = t.duplicate; unknown = t.unknown }

-- a duplicate, likewise
abbrev pub one_duplicate : Totals → Totals
one_duplicate t = record { requested = t.requested; unique = t.unique; duplicate = t.duplicate + 1; unknown = t.unknown }

-- an unknown reply, likewise
abbrev pub one_unknown : Totals → Totals
one_unknown t = record { requested = t.requested; unique = t.unique; duplicate = t.duplicate; unknown = t.unknown + 1 }

-- `sent`; copies: the ledger's, where 0 has become 1; probe, lost: whether a held probe was evicted, and that without a reply
unfoldable pub after_sent : ℕ → Bool → Bool → Replies → Replies
after_sent copies probe lost r = record {
  totals = requested_by copies r.totals;
  answers = r.answers;
  numbers = r.numbers;
  evicted = evicted_by probe lost false r.evicted;
}

-- `accept` of a duplicate: no other count changes
unfoldable pub after_duplicate : Replies → Replies
after_duplicate r = record { totals = one_duplicate r.totals; answers = r.answers; numbers = r.numbers; evicted = r.evicted }

-- `accept` of an unknown reply: no other count changes
unfoldable pub after_unknown : Replies → Replies
after_unknown r = record { totals = one_unknown r.totals; answers = r.answers; numbers = r.numbers; evicted = r.evicted }

-- replies: how many its probe had; probe, lost, key: whether a probe was evicted, that without a reply, and a key
unfoldable pub after_unique : ℕ → ℕ → Bool → ℕ → ℕ → Bool → Bool → Bool → Replies → Replies
after_unique replies copies pending sender reflector probe lost key r = record {
  totals = one_unique r.totals;
  answers = answered_by replies copies pending r.answers;
  numbers = numbered_by sender reflector r.numbers;
  evicted = evicted_by probe lost key r.evicted;
}

-- ---- what is shown

-- "Unobserved is requested less satisfied, not below 0."
abbrev pub unobserved : Replies → ℕ
unobserved r = r.totals.requested - r.answers.satisfied

-- `needs_burst_wait`
abbrev pub needs_burst_wait : ℕ → Replies → Bool
needs_burst_wait copies r = ltb 1 copies && ltb r.answers.satisfied r.totals.requested

-- before any call: counts 0, and no last and no highest reflector number
abbrev pub fresh_replies : Replies
fresh_replies = record {
  totals = record { requested = 0; unique = 0; duplicate = 0; unknown = 0 };
  answers = record { answered = 0; additional = 0; late = 0; satisfied = 0 };
  numbers = record { last = None; highest = None; reordered = 0; independent = 0 };
  evicted = record { probes = 0; replies = 0; unanswered = 0 };
}
