-- What the proofs of the functions cite. Assumes nothing.
use Rattle.std.specs.Prelude.{Ok, Err}
use Rattle.limits.specs.declared.Refusal.TheVariants as refusal
use mathlib.Core.Path.{◌≡◌, ap}
use mathlib.Core.List.{List}
use Prim.Native.Nat.{ℕ, ◌≤◌, ◌<◌}
use lib.ListN.{length}
use borrow.Author.Tests.{lt-ltb, le-ltb, eq-eqb, ne_eqb}
use Rattle.big_endian.specs.Fields.{Field, written}
use Rattle.call_types.specs.declared.CounterPoint.{CounterPoint}
use Rattle.area_fields.specs.declared.FollowUpItem.{FollowUpItem}
use Rattle.area_fields.specs.Fields.{counters_at, follow_up_at, counters_of, follow_up_of, wrote, wrote_fields}

module _ (value : List ℕ) where
  pub counters_there : (p : CounterPoint) → length value ≡ 12 → p ≡ counters_at value 0 → Ok p ≡ counters_of value
  unfolding counters_of
  counters_there p h e = rw (eq-eqb (length value) 12 h) (ap Ok e)

  pub counters_not : (length value ≡ 12 → ⊥) → Err refusal.WrongLength ≡ counters_of value
  unfolding counters_of
  counters_not h = rw (ne_eqb (length value) 12 h)

  pub follow_up_there : (f : FollowUpItem) → length value ≡ 16 → f ≡ follow_up_at value 0 → Ok f ≡ follow_up_of value
  unfolding follow_up_of
  follow_up_there f h e = rw (eq-eqb (length value) 16 h) (ap Ok e)

  pub follow_up_not : (length value ≡ 16 → ⊥) → Err refusal.WrongLength ≡ follow_up_of value
  unfolding follow_up_of
  follow_up_not h = rw (ne_eqb (length value) 16 h)

module _ (n : ℕ) (fs : List Field) (bytes : List ℕ) where
  pub too_few : length bytes < n → wrote (Err refusal.ShortRoom) bytes ≡ wrote_fields n fs bytes
  unfolding wrote_fields
  too_few h = rw (lt-ltb (length bytes) n h)

  pub enough_bytes : (after : List ℕ) → n ≤ length bytes → after ≡ written fs bytes → wrote (Ok tt) after ≡ wrote_fields n fs bytes
  unfolding wrote_fields
  enough_bytes after h e = rw (le-ltb (length bytes) n h) (ap (wrote (Ok tt)) e)
