-- What is shown of each call of a host: its number is the library's, the words that it leaves say the link that the library's call leaves, and the words of the
-- ledger are as many as they were.
-- Assumes nothing.
use mathlib.Core.Path.{◌≡◌}
use Prim.Native.Nat.{ℕ}
use lib.ListN.{length}
use Rattle.link_steps.specs.Steps.{refuses, after}
use Rattle.host_link_history.specs.Hosted.{HostLink, HostCall, said, told, play_host}

abbrev pub Agrees : HostLink → HostCall → Type 0
Agrees x c = ((play_host x c).number ≡ refuses (said x) (told c)) × (said (play_host x c).next ≡ after (said x) (told c)) × (length (play_host x c).next.ledger ≡ 80)
