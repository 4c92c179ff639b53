-- The exported calls on plain memory are those of crate host_mixed_history on a link with a monitor: same numbers, same memory, same served calls. Assumes nothing.
use Rattle.std.specs.Prelude.{None, Some}
use mathlib.Core.Path.{◌≡◌, refl, sym, ap, ◌∙◌, subst}
use mathlib.Core.Bool.{Bool, true, false, ◌&&◌, cond}
use mathlib.Core.List.{List, [], ◌∷◌, map}
use Prim.Native.Nat.{ℕ, zero, suc, ◌+◌, ◌^◌}
use lib.Dec.{leb, ltb}
use lib.ListN.{length}
use Rattle.call_types.specs.declared.Call.{Call}
use Rattle.limits.specs.Limits.{capacity}
use Rattle.limits.specs.Refusals.{deadline_passes, counts_full, queue_full}
use Rattle.probe_queue.specs.Queue.{choose}
use Rattle.monitor.specs.Refusals.{counted}
use Rattle.monitor_model.specs.Plain.{Plain, refusal, sent_refusal}
use Rattle.ledger_steps.specs.Refusals.{earlier}
use Rattle.ledger_checks.proofs.Order.{earlier-none}
use Rattle.link_history.specs.Link.{ledger_refuses}
use Rattle.link_mixed_history.specs.Shows.{plain_from, number_from}
use Rattle.link_mixed_history.proofs.Whole.{mixed-shows}
use Rattle.monitor_model.specs.Playing as monitor
use Rattle.link_steps.specs.Steps.{LinkStand}
use Rattle.link_history.specs.Fresh.{Making, MakingFits, fresh_link}
use Rattle.link_history.specs.Fresh as making
use Rattle.link_mixed_history.specs.Mixed.{MixedCall, number_of, mixed_played, ledger_kept, ledger_served, monitor_kept, monitor_served}
use Rattle.host_link_history.specs.Hosted.{HostLink, HostFits, host_link, host_fresh, play_host}
use Rattle.host_link_history.specs.Hosted as link
use Rattle.host_link_history.proofs.Shows.{begins, long}
use Rattle.host_monitor_model.specs.Hosted as host_monitor
use Rattle.host_mixed_history.specs.Hosted.{MixedHostCall, watched, plain, alone, mixed_told, play_mixed, host_mixed_played}
use Rattle.host_mixed_history.proofs.Shows.{mixed-number_agrees}
use Rattle.host_typed_history.specs.Numbers.{AnyNumbersFit, AllNumbersFit}
use Rattle.host_typed_history.proofs.Shows.{mixed-fits, all_fit}
use Rattle.host_plain_history.proofs.Monitor.{AllServed}
use Rattle.host_plain_history.specs.Host.{Memory, HostCall, sent, watched_sent, accept, watched_accept, observe, monitor_sent, monitor_reply, monitor_advance, monitor_idle, play, after, told, is_heard, heard, onto, ledger_calls, monitor_calls, Settings, begun, Fits, Typed, AllTyped}

-- ---- the same memory and calls

-- a link's memory, with its monitor
abbrev pub link_of : Memory → HostLink
link_of x = host_link x.ledger (link.watching x.monitor) (record { keys = x.keys; slots = x.slots; probes = x.probes; offsets = x.offsets; links = x.links }) x.queue

-- a call
abbrev pub mixed_of : HostCall → MixedHostCall
mixed_of (sent sequence ordinal train time tag) = plain (link.sent sequence ordinal train time tag)
mixed_of (watched_sent sequence ordinal train time tag) = watched (link.sent sequence ordinal train time tag)
mixed_of (accept sender reflector t3 pending time tag) = plain (link.accept sender reflector t3 pending time tag)
mixed_of (watched_accept sender reflector t3 pending time tag) = watched (link.accept sender reflector t3 pending time tag)
mixed_of (observe words) = plain (link.observe words)
mixed_of (monitor_sent sequence time) = alone (monitor.sending sequence time)
mixed_of (monitor_reply sequence) = alone (monitor.replying sequence)
mixed_of (monitor_advance time) = alone (monitor.advancing time)
mixed_of monitor_idle = alone monitor.idling

-- all of them
abbrev pub all_of : List HostCall → List MixedHostCall
all_of cs = map mixed_of cs

-- what the library is told
abbrev pub said_of : List HostCall → List MixedCall
said_of cs = map mixed_told (all_of cs)

-- a step, with its memory as a link
abbrev Same : Memory → HostCall → Type 0
Same x c = ((play x c).number ≡ (play_mixed (link_of x) (mixed_of c)).number) × (link_of (play x c).memory ≡ (play_mixed (link_of x) (mixed_of c)).next)

play_is : (x : Memory) (c : HostCall) → Same x c
unfolding play play_mixed play_host host_monitor.play_host
play_is x (sent sequence ordinal train time tag) = (refl, refl)
play_is x (watched_sent sequence ordinal train time tag) = (refl, refl)
play_is x (accept sender reflector t3 pending time tag) = (refl, refl)
play_is x (watched_accept sender reflector t3 pending time tag) = (refl, refl)
play_is x (observe words) = (refl, refl)
play_is x (monitor_sent sequence time) = (refl, refl)
play_is x (monitor_reply sequence) = (refl, refl)
play_is x (monitor_advance time) = (refl, refl)
play_is x monitor_idle = (refl, refl)

pub after_is : (x : Memory) (cs : List HostCall) → link_of (after x cs) ≡ host_mixed_played (link_of x) (all_of cs)
unfolding after host_mixed_played
after_is x [] = refl
after_is x (c ∷ cs) = (play_is (after x cs) c).1 ∙ ap (λ (y : HostLink). (play_mixed y (mixed_of c)).next) (after_is x cs)

-- ---- numbers that fit

fit : (c : HostCall) → Typed c → AnyNumbersFit (mixed_of c)
fit (sent sequence ordinal train time tag) h = h
fit (watched_sent sequence ordinal train time tag) h = h
fit (accept sender reflector t3 pending time tag) h = h
fit (watched_accept sender reflector t3 pending time tag) h = h
fit (observe words) h = h
fit (monitor_sent sequence time) h = h
fit (monitor_reply sequence) h = h
fit (monitor_advance time) h = h
fit monitor_idle h = h

pub fit_all : (cs : List HostCall) → AllTyped cs → AllNumbersFit (all_of cs)
unfolding AllTyped AllNumbersFit
fit_all [] h = tt
fit_all (c ∷ cs) h = (fit c h.0, fit_all cs h.1)

-- ---- served calls

ledger_onto : (n : ℕ) (c : HostCall) (h : List Call) → onto n (told c) h ≡ ledger_kept n (mixed_told (mixed_of c)) h
ledger_onto zero (sent sequence ordinal train time tag) h = refl
ledger_onto zero (watched_sent sequence ordinal train time tag) h = refl
ledger_onto zero (accept sender reflector t3 pending time tag) h = refl
ledger_onto zero (watched_accept sender reflector t3 pending time tag) h = refl
ledger_onto zero (observe words) h = refl
ledger_onto zero (monitor_sent sequence time) h = refl
ledger_onto zero (monitor_reply sequence) h = refl
ledger_onto zero (monitor_advance time) h = refl
ledger_onto zero monitor_idle h = refl
ledger_onto (suc n) (sent sequence ordinal train time tag) h = refl
ledger_onto (suc n) (watched_sent sequence ordinal train time tag) h = refl
ledger_onto (suc n) (accept sender reflector t3 pending time tag) h = refl
ledger_onto (suc n) (watched_accept sender reflector t3 pending time tag) h = refl
ledger_onto (suc n) (observe words) h = refl
ledger_onto (suc n) (monitor_sent sequence time) h = refl
ledger_onto (suc n) (monitor_reply sequence) h = refl
ledger_onto (suc n) (monitor_advance time) h = refl
ledger_onto (suc n) monitor_idle h = refl

reply-onto : (b : Bool) (sender : ℕ) (ops : List monitor.Call)
    → onto 0 (cond b (Some (monitor.replying sender)) None) ops ≡ cond b (monitor.replying sender ∷ ops) ops
reply-onto true sender ops = refl
reply-onto false sender ops = refl

monitor_onto : (n : ℕ) (h : List Call) (c : HostCall) (ops : List monitor.Call) → onto n (heard h c) ops ≡ monitor_kept n h (mixed_told (mixed_of c)) ops
monitor_onto zero h (sent sequence ordinal train time tag) ops = refl
monitor_onto zero h (watched_sent sequence ordinal train time tag) ops = refl
monitor_onto zero h (accept sender reflector t3 pending time tag) ops = refl
monitor_onto zero h (watched_accept sender reflector t3 pending time tag) ops = reply-onto (is_heard h sender reflector t3 pending time tag) sender ops
monitor_onto zero h (observe words) ops = refl
monitor_onto zero h (monitor_sent sequence time) ops = refl
monitor_onto zero h (monitor_reply sequence) ops = refl
monitor_onto zero h (monitor_advance time) ops = refl
monitor_onto zero h monitor_idle ops = refl
monitor_onto (suc n) h c ops = refl

-- ---- a call with the monitor that is served is none that the monitor refuses

sent-none : (a : ℕ) (p : Plain) (t : ℕ) → earlier a (sent_refusal p t) ≡ 0 → sent_refusal p t ≡ 0
unfolding earlier
sent-none a p t e =
    go (leb (2 ^ 64) (t + p.timeout)) (counted p.summary) (ltb 0 p.timeout && leb capacity (length p.probes))
    (subst (λ (n : ℕ). earlier n (sent_refusal p t) ≡ 0) (earlier-none a (sent_refusal p t) e) e)
  where
    go : (b c d : Bool) → earlier 0 (choose b deadline_passes (choose c counts_full (choose d queue_full 0))) ≡ 0 → choose b deadline_passes (choose c counts_full (choose d queue_full 0)) ≡ 0
    go true c d q = q
    go false true d q = q
    go false false true q = q
    go false false false q = refl

other_none : (a : ℕ) (p : Plain) → earlier a (refusal p) ≡ 0 → refusal p ≡ 0
unfolding earlier
other_none a p e = go (counted p.summary) (subst (λ (n : ℕ). earlier n (refusal p) ≡ 0) (earlier-none a (refusal p) e) e)
  where
    go : (b : Bool) → earlier 0 (choose b counts_full 0) ≡ 0 → choose b counts_full 0 ≡ 0
    go true q = q
    go false q = refl

module _ (threshold timeout : ℕ) (h : List Call) (ops : List monitor.Call) (served : AllServed threshold timeout ops) where
  kept : (c : HostCall) (n : ℕ) → number_from (making.watching threshold timeout) h ops (mixed_told (mixed_of c)) ≡ n → AllServed threshold timeout (monitor_kept n h (mixed_told (mixed_of c)) ops)
  unfolding monitor.play_plain
  kept c (suc n) e = served
  kept (sent sequence ordinal train time tag) zero e = served
  kept (watched_sent sequence ordinal train time tag) zero e = (sent-none (ledger_refuses h) (plain_from threshold timeout ops) time e, served)
  kept (accept sender reflector t3 pending time tag) zero e = served
  kept (watched_accept sender reflector t3 pending time tag) zero e = go (is_heard h sender reflector t3 pending time tag)
    where
      go : (b : Bool) → AllServed threshold timeout (cond b (monitor.replying sender ∷ ops) ops)
      go true = (other_none (ledger_refuses h) (plain_from threshold timeout ops) e, served)
      go false = served
  kept (observe words) zero e = served
  kept (monitor_sent sequence time) zero e = (e, served)
  kept (monitor_reply sequence) zero e = (e, served)
  kept (monitor_advance time) zero e = (e, served)
  kept monitor_idle zero e = (e, served)

-- ---- from fresh

-- how the link is made
abbrev pub making_of : Settings → Memory → Making
making_of s x = record {
  copies = s.copies;
  secret = s.secret;
  monitor = making.watching s.threshold s.timeout;
  rooms = record { keys = x.keys; slots = x.slots; probes = x.probes; offsets = x.offsets; links = x.links };
  queue = x.queue;
}

module _ (s : Settings) (x : Memory) (fits : Fits s x) where
  pub making_fits : MakingFits (making_of s x)
  making_fits = record {
    copies_in = fits.copies;
    rooms_fit = record { keys_fit = fits.keys; slots_fit = fits.slots; probes_fit = fits.probes; offsets_fit = fits.offsets; links_fit = fits.links };
    queue-fits = fits.queue;
  }

  pub host_fits : HostFits (making_of s x)
  host_fits = record { threshold = fits.threshold; secret = fits.secret }

  -- the number of the next call is the library's
  pub number_is : (cs : List HostCall) → AllTyped cs → (c : HostCall) → Typed c
      → (play (after (begun s x) cs) c).number ≡ number_of (mixed_played (fresh_link (making_of s x)) (said_of cs)) (mixed_told (mixed_of c))
  number_is cs w c h =
      (play_is (after (begun s x) cs) c).0
      ∙ ap (λ (y : HostLink). (play_mixed y (mixed_of c)).number) (after_is (begun s x) cs)
      ∙ mixed-number_agrees (host_fresh (making_of s x)) (long (making_of s x)) (all_of cs) (all_fit (all_of cs) (fit_all cs w)).0 (mixed_of c) (mixed-fits (mixed_of c) (fit c h)).0
      ∙ ap (λ (k : LinkStand). number_of (mixed_played k (said_of cs)) (mixed_told (mixed_of c))) (begins (making_of s x) making_fits host_fits)

  pub ledger_calls_lem : (cs : List HostCall) → AllTyped cs → ledger_calls (begun s x) cs ≡ ledger_served (fresh_link (making_of s x)) (said_of cs)
  unfolding ledger_calls ledger_served AllTyped
  ledger_calls_lem [] w = refl
  ledger_calls_lem (c ∷ cs) w =
      ap (λ (n : ℕ). onto n (told c) (ledger_calls (begun s x) cs)) (number_is cs w.1 c w.0)
      ∙ ledger_onto (number_of (mixed_played (fresh_link (making_of s x)) (said_of cs)) (mixed_told (mixed_of c))) c (ledger_calls (begun s x) cs)
      ∙ ap (ledger_kept (number_of (mixed_played (fresh_link (making_of s x)) (said_of cs)) (mixed_told (mixed_of c))) (mixed_told (mixed_of c))) (ledger_calls_lem cs w.1)

  pub monitor_calls_lem : (cs : List HostCall) → AllTyped cs → monitor_calls (begun s x) cs ≡ monitor_served (fresh_link (making_of s x)) (said_of cs)
  unfolding monitor_calls monitor_served AllTyped
  monitor_calls_lem [] w = refl
  monitor_calls_lem (c ∷ cs) w =
      ap (λ (n : ℕ). onto n (heard (ledger_calls (begun s x) cs) c) (monitor_calls (begun s x) cs)) (number_is cs w.1 c w.0)
      ∙ monitor_onto n (ledger_calls (begun s x) cs) c (monitor_calls (begun s x) cs)
      ∙ (λ i. monitor_kept n (ledger_calls_lem cs w.1 i) (mixed_told (mixed_of c)) (monitor_calls_lem cs w.1 i))
    where
      n : ℕ
      n = number_of (mixed_played (fresh_link (making_of s x)) (said_of cs)) (mixed_told (mixed_of c))

  -- no call that the monitor was served is one that the plain model refuses
  served_there : (cs : List HostCall) → AllTyped cs → AllServed s.threshold s.timeout (monitor_served (fresh_link (making_of s x)) (said_of cs))
  unfolding monitor_served AllTyped
  served_there [] w = tt
  served_there (c ∷ cs) w =
      let sh = mixed-shows (making_of s x) making_fits (said_of cs) (all_fit (all_of cs) (fit_all cs w.1)).1 in
      kept s.threshold s.timeout (ledger_served (fresh_link (making_of s x)) (said_of cs)) (monitor_served (fresh_link (making_of s x)) (said_of cs)) (served_there cs w.1) c
      (number_of (mixed_played (fresh_link (making_of s x)) (said_of cs)) (mixed_told (mixed_of c))) (sym (sh.numbers (mixed_told (mixed_of c))))

  pub all_served : (cs : List HostCall) → AllTyped cs → AllServed s.threshold s.timeout (monitor_calls (begun s x) cs)
  all_served cs w = subst (AllServed s.threshold s.timeout) (sym (monitor_calls_lem cs w)) (served_there cs w)
