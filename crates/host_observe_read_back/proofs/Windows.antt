-- Direct loss is read back from its words: as any words say it, and after any reply whose counters are u32. Assumes nothing.
use Rattle.std.specs.Prelude.{Option, Some, None}
use mathlib.Core.Path.{◌≡◌, refl, subst}
use mathlib.Core.Bool.{Bool, true, false, cond}
use mathlib.Core.List.{List}
use Prim.Native.Nat.{ℕ, ◌+◌, ◌%◌, ◌^◌, ◌<◌, max}
use native.Mathlib.Nat.{mod-lt}
use native.Mathlib.Omega.{arith}
use lib.Dec.{eqb, ltb}
use lib.ListN.{get_or}
use Rattle.call_types.specs.declared.CounterPoint.{CounterPoint}
use Rattle.direct.specs.declared.Counts.{Counts}
use Rattle.direct.specs.declared.Epoch.{Epoch}
use Rattle.direct.specs.declared.Direct.{Direct}
use Rattle.direct.specs.Offsets.{offset, sender_offset, received_offset, transmit_offset, jumps}
use Rattle.direct.specs.Outcomes.{anchored_at, highest, below, above, without_anchor, with_anchor, both_zero, in_window, by_ordinal, recorded}
use Rattle.reply_history.specs.Fits.{PointFits}
use Rattle.host_numbers.specs.Numbers.{lower, upper, joined, is_set}
use Rattle.host_numbers.proofs.Back.{lower-joined, upper-joined}
use Rattle.host_ledger.specs.Parts.{epoch_of, epoch_words, EpochSaid, window_at, window_words, WindowKept, direct_at, DirectKept}
use Rattle.host_ledger.proofs.Back.{closed_kept, open_kept, direct-kept}

-- what the types of an epoch's numbers say
pub record EpochFits (e : Epoch) : Type 0 where
  pub anchor_in : PointFits e.anchor
  pub latest_in : PointFits e.latest
  pub sender_in : e.sender < 2 ^ 32
  pub received_in : e.received < 2 ^ 32

abbrev pub WindowFits : Option Epoch → Type 0
WindowFits None = Unit
WindowFits (Some e) = EpochFits e

-- ---- such a window is read back

said : (e : Epoch) → EpochFits e →
    EpochSaid e (joined e.anchor.sender.0 e.anchor.received.0) (joined e.anchor.transmitted.0 e.latest.transmitted.0)
    (joined e.latest.sender.0 e.latest.received.0) (joined e.sender e.received) e.seen
unfolding epoch_words epoch_of
said e h =
    let a = h.anchor_in in
    let l = h.latest_in in
    record {
      said = refl;
      kept = λ i. record {
        anchor = record {
          sender = record { 0 = lower-joined e.anchor.sender.0 e.anchor.received.0 a.sender_in i };
          received = record { 0 = upper-joined e.anchor.sender.0 e.anchor.received.0 a.sender_in a.received_in i };
          transmitted = record { 0 = lower-joined e.anchor.transmitted.0 e.latest.transmitted.0 a.transmitted_in i };
        };
        latest = record {
          sender = record { 0 = lower-joined e.latest.sender.0 e.latest.received.0 l.sender_in i };
          received = record { 0 = upper-joined e.latest.sender.0 e.latest.received.0 l.sender_in l.received_in i };
          transmitted = record { 0 = upper-joined e.anchor.transmitted.0 e.latest.transmitted.0 a.transmitted_in l.transmitted_in i };
        };
        sender = lower-joined e.sender e.received h.sender_in i;
        received = upper-joined e.sender e.received h.sender_in h.received_in i;
        seen = e.seen;
      };
    }

pub window_again : (x : Option Epoch) → WindowFits x → WindowKept x
window_again None h = closed_kept
window_again (Some e) h = open_kept e _ _ _ _ _ (said e h)

-- ---- any words say such a window

in_word : (n : ℕ) → n % 2 ^ 32 < 2 ^ 32
in_word n = omega arith

epoch_fits : (anchor transmitted latest maxima seen : ℕ) → EpochFits (epoch_of anchor transmitted latest maxima seen)
unfolding epoch_of
epoch_fits anchor transmitted latest maxima seen = record {
  anchor_in = record { sender_in = in_word _; received_in = in_word _; transmitted_in = in_word _ };
  latest_in = record { sender_in = in_word _; received_in = in_word _; transmitted_in = in_word _ };
  sender_in = in_word _;
  received_in = in_word _;
}

window-by : (b : Bool) (e : Epoch) → EpochFits e → WindowFits (cond b (Some e) None)
window-by true e h = h
window-by false e h = tt

pub window-fits : (at : ℕ) (w : List ℕ) → WindowFits (window_at at w)
unfolding window_at
window-fits at w = window-by (is_set (get_or w at 0)) _ (epoch_fits (get_or w (at + 1) 0) (get_or w (at + 2) 0) (get_or w (at + 3) 0) (get_or w (at + 4) 0) (get_or w (at + 5) 0))

-- ---- and a reply keeps it so

offset_in : (a b : ℕ) → offset a b < 2 ^ 32
unfolding offset
offset_in a b = in_word _

max_in : (a b : ℕ) → a < 2 ^ 32 → b < 2 ^ 32 → max a b < 2 ^ 32
max_in a b h k = omega arith

module _ (c : CounterPoint) (c-fits : PointFits c) where
  without : (b : Bool) (n : Counts) → WindowFits (without_anchor b n c).direct.window
  without true n = tt
  without false n = record { anchor_in = c-fits; latest_in = c-fits; sender_in = omega arith; received_in = omega arith }

  with' : (a b d l : Bool) (n : Counts) (e : Epoch) → EpochFits e → WindowFits (with_anchor a b d l n e c).direct.window
  with' true b d l n e h = tt
  with' false true d l n e h = tt
  with' false false true l n e h = tt
  with' false false false true n e h = record {
    anchor_in = h.anchor_in;
    latest_in = h.latest_in;
    sender_in = max_in e.sender (sender_offset e.anchor c) h.sender_in (offset_in _ _);
    received_in = h.received_in;
  }
  with' false false false false n e h = record {
    anchor_in = h.anchor_in;
    latest_in = c-fits;
    sender_in = max_in e.sender (sender_offset e.anchor c) h.sender_in (offset_in _ _);
    received_in = max_in e.received (received_offset e.anchor c) h.received_in (offset_in _ _);
  }

  module _ (N : ℕ) where
    in_window_lem : (n : Counts) (x : Option Epoch) (again : Bool) → WindowFits x → WindowFits (in_window N n x c again).direct.window
    in_window_lem n None again h = without (both_zero c) n
    in_window_lem n (Some e) again h = with' (jumps e.anchor c) again (eqb e.seen N) (ltb (transmit_offset e.anchor c) (highest e)) n e h

    by-ordinal : (b : Bool) (n : Counts) (x : Option Epoch) (again : Bool) → WindowFits x → WindowFits (by_ordinal N b n x c again).direct.window
    by-ordinal true n x again h = in_window_lem n x again h
    by-ordinal false n x again h = h

    pub recorded-fits : (d : Direct) (o : Option ℕ) (again : Bool) → WindowFits d.window → WindowFits (recorded N d c o again).direct.window
    unfolding recorded
    recorded-fits d None again h = h
    recorded-fits d (Some m) again h = by-ordinal (eqb c.sender.0 m) d.counts d.window again h
