-- The monitor without a queue: a front, whether it transmits, its summary, and which sequences are marked; record by record. Assumes nothing.
use Rattle.std.specs.Prelude.{Bool, true, false, cond, ℕ, zero, suc, ◌-◌, eqb, ltb}
use Rattle.monitor.specs.declared.State.TheVariants as state
use Rattle.monitor.specs.declared.Summary.{Summary}
use Rattle.monitor.specs.States.{losing, transition, stops}
use Rattle.monitor_model.specs.Plain.{Plain, new, sent, reply, lose, advance, idle}
use Rattle.recount_queue.specs.declared.Move.{Move}
use Rattle.recount_queue.specs.declared.Move.TheVariants.{Sends, Hears, Advances, Halts, Rests}
use Rattle.recount_queue.specs.Moves.{queued_at}
use Rattle.recount_queue.specs.Queue.{any_named, probes_in, front_to, front_by}

-- what a record does to the plain monitor
abbrev pub played : Move → Plain → Plain
played (Sends s) p = sent p s.sequence s.packet.time
played (Hears q) p = reply p q
played (Advances t) p = advance p t
played Halts p = idle p
played Rests p = p

-- n probes are lost
abbrev pub lost : Bool → ℕ → Summary → Summary
lost b zero s = s
lost b (suc n) s = lost b n (lose b s)

-- what is followed instead of the queue
pub record Track : Type 0 where
  pub front : ℕ
  pub on : Bool
  pub summary : Summary
  pub heard : ℕ → Bool

module _ (threshold timeout : ℕ) (moves : ℕ → Move) where
  -- the plain monitor after n records
  unfoldable pub plain_in : ℕ → Plain
  plain_in zero = new threshold timeout
  plain_in (suc n) = played (moves n) (plain_in n)

  -- the front after a reply that is heard, before record n: it moves where the sequence is marked
  abbrev pub front_if : Bool → ℕ → ℕ → ℕ → ℕ
  front_if marked q a n = cond marked (front_to (queued_at timeout moves) q a n) a

  -- a sequence is no more marked once a record with it is passed
  abbrev pub unless : ℕ → ℕ → (ℕ → Bool) → ℕ → Bool
  unless a b heard x = cond (any_named (queued_at timeout moves) x a (b - a)) false (heard x)

  -- what record n does
  abbrev pub next_of : Move → ℕ → Track → Track
  next_of (Sends s) n t = record { front = t.front; on = true; summary = t.summary; heard = λ x. cond (ltb 0 timeout) (cond (eqb s.sequence x) true (t.heard x)) (t.heard x) }
  next_of (Hears q) n t =
      let a = front_if (t.heard q) q t.front n in
      cond t.on (record { front = a; on = t.on; summary = transition state.Active (losing 0 t.summary); heard = unless t.front a t.heard }) t
  next_of (Advances u) n t =
      let a = front_by timeout (queued_at timeout moves) u t.front n in
      record { front = a; on = t.on; summary = lost t.on (probes_in (queued_at timeout moves) t.front (a - t.front)) t.summary; heard = unless t.front a t.heard }
  next_of Halts n t = record { front = suc n; on = false; summary = stops t.on t.summary; heard = λ x. false }
  next_of Rests n t = t

  -- after n records
  unfoldable pub track_in : ℕ → Track
  track_in zero = record { front = 0; on = false; summary = (new threshold timeout).summary; heard = λ x. false }
  track_in (suc n) = next_of (moves n) n (track_in n)
