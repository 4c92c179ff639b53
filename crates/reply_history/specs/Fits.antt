-- What the types of a call's numbers say: each fits its bits. Assumes nothing.
use Rattle.std.specs.Prelude.{List, [], ◌∷◌, ◌^◌, ◌<◌, Option, Some, None, ℕ}
use Rattle.call_types.specs.declared.ReplyKey.{ReplyKey}
use Rattle.call_types.specs.declared.CounterPoint.{CounterPoint}
use Rattle.call_types.specs.declared.FollowUpTelemetry.{FollowUpTelemetry}
use Rattle.call_types.specs.declared.SentProbe.{SentProbe}
use Rattle.call_types.specs.declared.ReplyObservation.{ReplyObservation}
use Rattle.call_types.specs.declared.Call.{Call}
use Rattle.call_types.specs.declared.Call.TheVariants.{Sent, Accept, Observe, Advance, Idle}

-- the three parts of a key
pub record KeyFits (k : ReplyKey) : Type 0 where
  pub sender_in : k.sender < 2 ^ 32
  pub reflector_in : k.reflector < 2 ^ 32
  pub t3_in : k.t3 < 2 ^ 64

-- what `sent` is told
pub record SentFits (s : SentProbe) : Type 0 where
  pub sequence_in : s.sequence < 2 ^ 32
  pub ordinal_in : s.ordinal < 2 ^ 32
  pub train_in : s.train < 2 ^ 32

-- an ordinal, where there is one
abbrev pub OrdinalFits : Option ℕ → Type 0
OrdinalFits None = Unit
OrdinalFits (Some n) = n < 2 ^ 32

-- the three counters
pub record PointFits (c : CounterPoint) : Type 0 where
  pub sender_in : c.sender.0 < 2 ^ 32
  pub received_in : c.received.0 < 2 ^ 32
  pub transmitted_in : c.transmitted.0 < 2 ^ 32

-- the counters, where there are any
abbrev pub CountersFit : Option CounterPoint → Type 0
CountersFit None = Unit
CountersFit (Some c) = PointFits c

-- a follow-up's numbers
pub record TelemetryFits (f : FollowUpTelemetry) : Type 0 where
  pub sequence_in : f.sequence < 2 ^ 32
  pub timestamp_in : f.timestamp < 2 ^ 64

-- a follow-up, where there is one
abbrev pub FollowFits : Option FollowUpTelemetry → Type 0
FollowFits None = Unit
FollowFits (Some f) = TelemetryFits f

-- what `observe` is told
pub record ObserveFits (o : ReplyObservation) : Type 0 where
  pub key_fits : KeyFits o.key
  pub rtt_in : o.rtt < 2 ^ 64
  pub ordinal-fits : OrdinalFits o.ordinal
  pub counters_fit : CountersFit o.counters
  pub follow-fits : FollowFits o.follow

-- a call
abbrev pub CallFits : Call → Type 0
CallFits (Sent s) = SentFits s
CallFits (Accept a) = KeyFits a.key
CallFits (Observe o) = ObserveFits o
CallFits (Advance t) = t < 2 ^ 64
CallFits Idle = Unit

-- every call of a history
unfoldable pub AllFit : List Call → Type 0
AllFit [] = Unit
AllFit (c ∷ h) = CallFits c × AllFit h
