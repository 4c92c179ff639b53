-- The monitor's queue, from the records alone: the probes among k records from a front on, oldest first. `probe i` is the probe that record i
-- queues, if it does. A reply and an advance only move the front. Assumes nothing.
use Rattle.std.specs.Prelude.{Bool, true, false, ◌||◌, cond, List, [], ◌∷◌, ℕ, zero, suc, ◌+◌, ◌-◌, eqb, leb, Option, Some, None}
use Rattle.call_types.specs.declared.SentProbe.{SentProbe}
use Rattle.monitor_model.specs.Plain.{Sent}

module _ (timeout : ℕ) where
  -- the probe as it is queued
  abbrev pub entry : SentProbe → Sent
  entry s = record { sequence = s.sequence; deadline = s.packet.time + timeout }

  -- before others
  abbrev pub put : Option SentProbe → List Sent → List Sent
  put None xs = xs
  put (Some s) xs = entry s ∷ xs

  -- it does not stay in the queue at the time t
  abbrev pub goes : ℕ → Option SentProbe → Bool
  goes t None = true
  goes t (Some s) = leb (s.packet.time + timeout) t

-- it has the sequence x
abbrev pub named : ℕ → Option SentProbe → Bool
named x None = false
named x (Some s) = eqb s.sequence x

-- one more where there is a probe
abbrev pub one_if : Option SentProbe → ℕ → ℕ
one_if None n = n
one_if (Some s) n = suc n

module _ (probe : ℕ → Option SentProbe) where
  -- whether one of k records from a on has the sequence x
  unfoldable pub any_named : ℕ → ℕ → ℕ → Bool
  any_named x a zero = false
  any_named x a (suc k) = named x (probe a) || any_named x (suc a) k

  -- how many probes k records from a on hold
  unfoldable pub probes_in : ℕ → ℕ → ℕ
  probes_in a zero = 0
  probes_in a (suc k) = one_if (probe a) (probes_in (suc a) k)

  -- a reply to the sequence q passes the records up to and including the first that has it: how many of k from a on
  unfoldable pub passed_to : ℕ → ℕ → ℕ → ℕ
  passed_to q a zero = 0
  passed_to q a (suc k) = cond (named q (probe a)) 1 (suc (passed_to q (suc a) k))

  -- so the front moves from a, before record n
  abbrev pub front_to : ℕ → ℕ → ℕ → ℕ
  front_to q a n = a + passed_to q a (n - a)

module _ (timeout : ℕ) (probe : ℕ → Option SentProbe) where
  -- the probes of k records from a on
  unfoldable pub queue_from : ℕ → ℕ → List Sent
  queue_from a zero = []
  queue_from a (suc k) = put timeout (probe a) (queue_from (suc a) k)

  -- an advance to the time t passes the records up to the first probe whose deadline is after t: how many of k from a on
  unfoldable pub passed_by : ℕ → ℕ → ℕ → ℕ
  passed_by t a zero = 0
  passed_by t a (suc k) = cond (goes timeout t (probe a)) (suc (passed_by t (suc a) k)) 0

  -- so the front moves from a, before record n
  abbrev pub front_by : ℕ → ℕ → ℕ → ℕ
  front_by t a n = a + passed_by t a (n - a)
