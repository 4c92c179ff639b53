-- Bursts among any calls of a link leave what their entries leave as single calls; so the theorem of condition 3 covers them.
-- Assumes nothing.
use mathlib.Core.Path.{◌≡◌, refl, sym, ap, ◌∙◌, subst}
use mathlib.Core.List.{List, [], ◌∷◌, map}
use native.Mathlib.Omega.{arith}
use Prim.Native.Nat.{ℕ, zero, suc}
use lib.ListN.{length}
use Rattle.history.specs.Ledger.{copies_of}
use Rattle.ledger_steps.specs.Rooms.{Rooms}
use Rattle.probe_queue.specs.declared.QueuedProbe.{QueuedProbe}
use Rattle.call_types.specs.declared.ReplyKey.{ReplyKey}
use Rattle.ledger_steps.specs.Refusals.{awaits_key}
use Rattle.link_history.specs.Fresh.{Making, MakingFits, fresh_link}
use Rattle.link_history.specs.Shows.{awaits_from}
use Rattle.link_mixed_history.specs.Mixed.{ledger_served, monitor_served}
use Rattle.link_mixed_history.specs.Shows.{MixedShows, AllMixedFit}
use Rattle.host_accept_words.specs.Accept.{accept_of}
use Rattle.host_watched_accept.specs.Calls.{watched_accept_to}
use Rattle.host_link_history.specs.Hosted.{HostWatch, HostLink, HostCall, HostFits, host_link, said, play_host, host_fresh}
use Rattle.host_link_history.specs.Hosted as link
use Rattle.host_burst.specs.Burst.{burst, burst_by, burst_refusal, listed}
use Rattle.host_burst.proofs.Folds.{length_is}
use Rattle.host_accept_burst.specs.Burst.{accept_burst}
use Rattle.host_accept_burst.specs.Burst as plain_burst
use Rattle.host_watched_accept_burst.specs.Burst.{watched_burst}
use Rattle.host_watched_accept_burst.specs.Burst as watch_burst
use Rattle.host_mixed_history.specs.Hosted.{MixedHostCall, watched, plain, mixed_told, unwatched, beside, play_mixed, host_mixed_played, MixedTyped, AllMixedTyped}
use Rattle.host_mixed_history.specs.Bursts.{BurstHostCall, single, watched_list, plain_list, left_plain, left_watched, plain_lent, watched_lent, lists, play_burst, host_burst_played, entry_call, entries_onto, list_onto, singly, all_singly}
use Rattle.host_mixed_history.proofs.Shows.{any_calls-show}

-- ---- a list on a link, entry by entry: play is what one entry's single call leaves of it

module _ (kind : HostCall → MixedHostCall) where
  -- the link after the single calls of a list
  unfoldable entered : HostLink → List (List ℕ) → HostLink
  entered x [] = x
  entered x (e ∷ entries) = entered (play_mixed x (kind (entry_call e))).next entries

  -- they are calls like any other
  entered_is : (x : HostLink) (entries : List (List ℕ)) (cs : List MixedHostCall) → host_mixed_played x (entries_onto kind entries cs) ≡ entered (host_mixed_played x cs) entries
  unfolding host_mixed_played entries_onto entered
  entered_is x [] cs = refl
  entered_is x (e ∷ entries) cs = entered_is x entries (kind (entry_call e) ∷ cs)

-- without a monitor in the link
plain-entered : (w : List ℕ) (rooms : Rooms) (queue : List QueuedProbe) (entries rows : List (List ℕ)) → length rows ≡ length entries →
    let x = host_link w link.alone rooms queue in
    (left_plain x (listed 0 (burst plain_burst.accept_entry (plain_lent x) entries rows))).next ≡ entered watched x entries
unfolding burst entered play_mixed play_host accept_of
plain-entered w rooms queue [] rows h = refl
plain-entered w rooms queue (e ∷ entries) [] h = absurd (omega (arith, h))
plain-entered w rooms queue (e ∷ entries) (row ∷ rows) h =
    let r = (plain_burst.accept_entry (plain_lent (host_link w link.alone rooms queue)) e row).state in
    plain-entered r.ledger (link.accept_rooms rooms r.keys r.slots r.probes r.links) queue entries rows (omega (arith, h))

-- with one
watched-entered : (w words : List ℕ) (rooms : Rooms) (queue : List QueuedProbe) (entries rows : List (List ℕ)) → length rows ≡ length entries →
    let x = host_link w (link.watching words) rooms queue in
    (left_watched x (listed 0 (burst watch_burst.accept_entry (watched_lent words x) entries rows))).next ≡ entered watched x entries
unfolding burst entered play_mixed play_host watched_accept_to
watched-entered w words rooms queue [] rows h = refl
watched-entered w words rooms queue (e ∷ entries) [] h = absurd (omega (arith, h))
watched-entered w words rooms queue (e ∷ entries) (row ∷ rows) h =
    let r = (watch_burst.accept_entry (watched_lent words (host_link w (link.watching words) rooms queue)) e row).state in
    watched-entered r.ledger r.monitor (link.accept_rooms rooms r.keys r.slots r.probes r.links) r.queue entries rows (omega (arith, h))

-- beside a monitor that is not lent
beside-entered : (w : List ℕ) (watch : HostWatch) (rooms : Rooms) (queue : List QueuedProbe) (entries rows : List (List ℕ)) → length rows ≡ length entries →
    let x = host_link w watch rooms queue in
    beside (left_plain (unwatched x) (listed 0 (burst plain_burst.accept_entry (plain_lent x) entries rows))).next x ≡ entered plain x entries
unfolding burst entered play_mixed play_host accept_of
beside-entered w watch rooms queue [] rows h = refl
beside-entered w watch rooms queue (e ∷ entries) [] h = absurd (omega (arith, h))
beside-entered w watch rooms queue (e ∷ entries) (row ∷ rows) h =
    let r = (plain_burst.accept_entry (plain_lent (host_link w watch rooms queue)) e row).state in
    beside-entered r.ledger watch (link.accept_rooms rooms r.keys r.slots r.probes r.links) queue entries rows (omega (arith, h))

-- ---- one call of any kind

watched-lists : (v : HostWatch) (w : List ℕ) (rooms : Rooms) (queue : List QueuedProbe) (entries rows : List (List ℕ)) (cs : List MixedHostCall) (x : HostLink)
    → host_mixed_played x cs ≡ host_link w v rooms queue → (n : ℕ) → burst_refusal (length entries) (length rows) ≡ n
    → (lists v (host_link w v rooms queue) entries rows).next ≡ host_mixed_played x (list_onto n watched entries cs)
unfolding accept_burst watched_burst
watched-lists link.alone w rooms queue entries rows cs x e zero h =
    let y = host_link w link.alone rooms queue in
    ap (λ (k : ℕ). (left_plain y (burst_by plain_burst.accept_entry k (plain_lent y) entries rows)).next) h
    ∙ plain-entered w rooms queue entries rows (length_is (length entries) (length rows) h)
    ∙ ap (λ (z : HostLink). entered watched z entries) (sym e) ∙ sym (entered_is watched x entries cs)
watched-lists link.alone w rooms queue entries rows cs x e (suc n) h =
    let y = host_link w link.alone rooms queue in
    ap (λ (k : ℕ). (left_plain y (burst_by plain_burst.accept_entry k (plain_lent y) entries rows)).next) h ∙ sym e
watched-lists (link.watching words) w rooms queue entries rows cs x e zero h =
    let y = host_link w (link.watching words) rooms queue in
    ap (λ (k : ℕ). (left_watched y (burst_by watch_burst.accept_entry k (watched_lent words y) entries rows)).next) h
    ∙ watched-entered w words rooms queue entries rows (length_is (length entries) (length rows) h)
    ∙ ap (λ (z : HostLink). entered watched z entries) (sym e) ∙ sym (entered_is watched x entries cs)
watched-lists (link.watching words) w rooms queue entries rows cs x e (suc n) h =
    let y = host_link w (link.watching words) rooms queue in
    ap (λ (k : ℕ). (left_watched y (burst_by watch_burst.accept_entry k (watched_lent words y) entries rows)).next) h ∙ sym e

plain-lists : (w : List ℕ) (v : HostWatch) (rooms : Rooms) (queue : List QueuedProbe) (entries rows : List (List ℕ)) (cs : List MixedHostCall) (x : HostLink)
    → host_mixed_played x cs ≡ host_link w v rooms queue → (n : ℕ) → burst_refusal (length entries) (length rows) ≡ n →
    let y = host_link w v rooms queue in
    beside (lists link.alone (unwatched y) entries rows).next y ≡ host_mixed_played x (list_onto n plain entries cs)
unfolding accept_burst
plain-lists w v rooms queue entries rows cs x e zero h =
    let y = host_link w v rooms queue in
    ap (λ (k : ℕ). beside (left_plain (unwatched y) (burst_by plain_burst.accept_entry k (plain_lent y) entries rows)).next y) h
    ∙ beside-entered w v rooms queue entries rows (length_is (length entries) (length rows) h)
    ∙ ap (λ (z : HostLink). entered plain z entries) (sym e) ∙ sym (entered_is plain x entries cs)
plain-lists w v rooms queue entries rows cs x e (suc n) h =
    let y = host_link w v rooms queue in
    ap (λ (k : ℕ). beside (left_plain (unwatched y) (burst_by plain_burst.accept_entry k (plain_lent y) entries rows)).next y) h ∙ sym e

plays : (x y : HostLink) (cs : List MixedHostCall) (c : BurstHostCall) → host_mixed_played x cs ≡ y → (play_burst y c).next ≡ host_mixed_played x (singly c cs)
unfolding play_burst host_mixed_played
plays x y cs (single c) e = ap (λ (z : HostLink). (play_mixed z c).next) (sym e)
plays x y cs (watched_list entries rows) e = watched-lists y.watch y.ledger y.rooms y.queue entries rows cs x e (burst_refusal (length entries) (length rows)) refl
plays x y cs (plain_list entries rows) e = plain-lists y.ledger y.watch y.rooms y.queue entries rows cs x e (burst_refusal (length entries) (length rows)) refl

-- EVERY ENTRY IS A CALL: whatever lists of entries stand among the calls of a link, its memory is what their entries leave as single calls in list order
pub entries_are_calls : (x : HostLink) (cs : List BurstHostCall) → host_burst_played x cs ≡ host_mixed_played x (all_singly cs)
unfolding host_burst_played host_mixed_played all_singly
entries_are_calls x [] = refl
entries_are_calls x (c ∷ cs) = plays x (host_burst_played x cs) (all_singly cs) c (sym (entries_are_calls x cs))

-- THE THEOREM of condition 3 with bursts: whatever the memory held before, whatever a host calls on it, lists among the single calls, with the monitor,
-- without it or of the monitor alone, and whatever is refused: what its words and rooms then say is what the calls that were served call for, every entry one
pub bursts_show : (m : Making) → MakingFits m → HostFits m → (cs : List BurstHostCall) → AllMixedTyped (all_singly cs) → AllMixedFit (map mixed_told (all_singly cs))
    → MixedShows (copies_of m.copies) m.monitor (ledger_served (fresh_link m) (map mixed_told (all_singly cs))) (monitor_served (fresh_link m) (map mixed_told (all_singly cs)))
    (said (host_burst_played (host_fresh m) cs))
bursts_show m ok fits cs t w =
    subst
    (λ (x : HostLink). MixedShows (copies_of m.copies) m.monitor (ledger_served (fresh_link m) (map mixed_told (all_singly cs))) (monitor_served (fresh_link m) (map mixed_told (all_singly cs))) (said x))
    (sym (entries_are_calls (host_fresh m) cs)) (any_calls-show m ok fits (all_singly cs) t w)

-- ONLY THE LAST UNIQUE KEY AWAITS: whether a key awaits its observe after any calls and lists follows from the served calls, every entry one; by `awaiting` of
-- crate history it is the newest unique one, until it is observed
pub last-unique-awaits : (m : Making) → MakingFits m → HostFits m → (cs : List BurstHostCall) → AllMixedTyped (all_singly cs) → AllMixedFit (map mixed_told (all_singly cs)) → (key : ReplyKey)
    → let k = said (host_burst_played (host_fresh m) cs) in
    awaits_key k.link.ledger k.rooms.keys key ≡ awaits_from (ledger_served (fresh_link m) (map mixed_told (all_singly cs))) key
last-unique-awaits m ok fits cs t w key = (bursts_show m ok fits cs t w).ledger.awaits key
