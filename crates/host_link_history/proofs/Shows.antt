-- What crate link_history proves of a link from fresh holds of a host's words and rooms after its calls, whatever its memory held before.
-- Assumes nothing.
use Rattle.std.specs.Prelude.{Some}
use mathlib.Core.Path.{◌≡◌, refl, sym, ap, subst, ◌∙◌}
use mathlib.Core.Bool.{Bool, true, false, cond}
use mathlib.Core.List.{List, map}
use Prim.Native.Nat.{ℕ, ◌<◌, ◌^◌}
use native.Mathlib.Omega.{arith}
use lib.ListN.{length}
use lib.Dec.{eqb}
use Rattle.ledger_state.specs.State.{at_least_one, secret_of, fresh_ledger}
use Rattle.link_steps.specs.Steps.{LinkStand, played, served}
use Rattle.history.specs.Ledger.{copies_of}
use Rattle.link_history.specs.Fresh.{Watching, alone, watching, Making, MakingFits, fresh_link, AllFits}
use Rattle.link_history.specs.Fresh as history
use Rattle.link_history.specs.Link.{LinkShows}
use Rattle.link_history.proofs.Link.{link-shows}
use Rattle.host_fresh.specs.Fresh.{fresh_of}
use Rattle.host_ledger.specs.Parts.{secret_words}
use Rattle.host_ledger.specs.Words.{ledger_at}
use Rattle.host_ledger.specs.Left.{fresh_words}
use Rattle.host_ledger_read_back.proofs.Fresh.{SecretFits, fresh-back}
use Rattle.host_monitor.proofs.Standing.{fresh_stands}
use Rattle.host_link_history.specs.Hosted.{HostCall, said, told, watch_said, host_played, AllTyped, fresh_watch, host_fresh, ThresholdFits, HostFits}
use Rattle.host_link_history.proofs.Link.{played_agrees}

copies-below : (copies : ℕ) (b : Bool) → copies < 2 ^ 16 → cond b 1 copies < 2 ^ 16
copies-below copies true h = omega arith
copies-below copies false h = h

fresh_ledger_lem : (m : Making) → MakingFits m → HostFits m → ledger_at (fresh_of m.copies m.secret).ledger ≡ fresh_ledger m.copies m.secret
unfolding fresh_of secret_of
fresh_ledger_lem m ok fits = fresh-back (at_least_one m.copies) (secret_of m.secret) (copies-below m.copies (eqb m.copies 0) ok.copies_in) (record {
  first = fits.secret 0;
  second = fits.secret 1;
  third = fits.secret 2;
  fourth = fits.secret 3;
  fifth = fits.secret 4;
  sixth = fits.secret 5;
  seventh = fits.secret 6;
  eighth = fits.secret 7;
})

fresh_watch_lem : (v : Watching) → ThresholdFits v → watch_said (fresh_watch v) ≡ history.fresh_watch v
fresh_watch_lem alone h = refl
fresh_watch_lem (watching threshold timeout) h = ap Some (fresh_stands threshold timeout h)

-- a host's fresh words say a fresh link
pub begins : (m : Making) → MakingFits m → HostFits m → said (host_fresh m) ≡ fresh_link m
begins m ok fits = λ i. record {
  link = record { ledger = fresh_ledger_lem m ok fits i; watch = fresh_watch_lem m.monitor fits.threshold i };
  rooms = m.rooms;
  queue = m.queue;
}

pub long : (m : Making) → length (host_fresh m).ledger ≡ 80
unfolding fresh_of fresh_words secret_words
long m = refl

-- THE THEOREM. Whatever the words, the rooms and the queue held before, whatever a host calls and whatever is refused: what its words and rooms then say is what
-- the served calls call for, by the plain definitions of crate history.
pub host_shows : (m : Making) → MakingFits m → HostFits m → (cs : List HostCall) → AllTyped cs → AllFits (map told cs)
    → LinkShows (copies_of m.copies) m.monitor (served (fresh_link m) (map told cs)) (said (host_played (host_fresh m) cs))
host_shows m ok fits cs t w =
    let r = played_agrees (host_fresh m) (long m) cs t in
    subst (λ (k : LinkStand). LinkShows (copies_of m.copies) m.monitor (served (fresh_link m) (map told cs)) k)
    (sym (r.0 ∙ ap (λ (k : LinkStand). played k (map told cs)) (begins m ok fits))) (link-shows m ok (map told cs) w)
