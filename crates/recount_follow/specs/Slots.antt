-- The slot of a number (crate history) where no accepted key is evicted. Assumes nothing.
use Rattle.std.specs.Prelude.{List, [], ◌∷◌, ℕ}
use Rattle.history.specs.Given.{follow_of}
use Rattle.history.specs.Ledger.{Event, remembered, replied, observed}
use Rattle.history.specs.FollowUps.{Slot, free, record_of, following, observing}

-- after the events
unfoldable pub slot_in : ℕ → List Event → ℕ → Slot
slot_in copies [] r = free
slot_in copies (remembered s o t p ∷ es) r = slot_in copies es r
slot_in copies (replied k p ∷ es) r = slot_in copies es r
slot_in copies (observed o ∷ es) r =
    observing (record_of copies o) o.key.reflector r (following (follow_of o.follow) o.key.reflector o.offset (slot_in copies es) r)
