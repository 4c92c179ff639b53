-- The parts of the second count put together, as the code puts them. Assumes nothing.
use Rattle.std.specs.Prelude.{Result, Ok, Err}
use mathlib.Core.Path.{◌≡◌, refl, sym, ap, ◌∙◌}
use mathlib.Core.Bool.{Bool, true, false, ◌&&◌}
use mathlib.Core.List.{List}
use Prim.Native.Nat.{ℕ, ◌≤◌, ◌<◌}
use native.Mathlib.Omega.{arith}
use lib.Dec.{eqb}
use lib.ListN.{length}
use borrow.Author.Tests.{eq-eqb, eqb-true}
use Rattle.limits.specs.Limits.{capacity}
use Rattle.limits.specs.declared.Refusal.{Refusal}
use Rattle.limits.specs.Numbers.{number_of}
use Rattle.history.specs.Ledger.{copies_of}
use Rattle.history.specs.FollowUps.{round_trips}
use Rattle.history.specs.DirectLoss.{window, spans}
use Rattle.log_whole.specs.declared.Settings.{Settings}
use Rattle.log_whole.specs.declared.Fault.{Fault}
use Rattle.log_whole.specs.Logs.{log_of}
use Rattle.report.specs.declared.figures.PlayedRecords.{PlayedRecords}
use Rattle.report.specs.declared.figures.Loss.{Loss}
use Rattle.report.specs.declared.figures.Replies.{Replies}
use Rattle.report.specs.declared.figures.Probes.{Probes}
use Rattle.report.specs.declared.figures.Order.{Order}
use Rattle.report.specs.declared.figures.FollowUps.{FollowUps}
use Rattle.report.specs.declared.figures.Direct.{Direct}
use Rattle.report.specs.declared.figures.Missing.{Missing}
use Rattle.report.specs.declared.figures.RoundTrip.{RoundTrip}
use Rattle.report.specs.declared.figures.Session.{Session}
use Rattle.report.specs.declared.figures.Figures.{Figures}
use Rattle.report.specs.Lines.{text_of}
use Rattle.report.specs.Report.{Outcome, outcome, report_room, pick_outcome, written, wrong, report_of}
use Rattle.recount_seen.specs.Seen.{events_of}
use Rattle.recount_lines.specs.Lines.{played_at, loss_at, replies_at, probes_at, order_at}
use Rattle.recount_direct.specs.Missing.{missing_of}
use Rattle.recount_trips.specs.Trips.{trips_of}
use Rattle.recount_marks.specs.Marks.{marked_to}
use Rattle.recount_marks.proofs.Records.{few_records}
use Rattle.recount_queue.specs.Moves.{move_at}
use Rattle.recount_monitor.specs.Session.{session_in, fronts_after}
use Rattle.recount.specs.Figures.{followup_at, direct_at, figures_by, watched_by, figures_at}
use Rattle.recount.specs.Recount.{most_records, rooms_fit, checked_by, recounted, Recounted, marks_of, fronts_of, recount_good, recount_by, recount_of_log}

-- ---- the figures

pub figures_are : (copies asked : ℕ) (log marks : List ℕ) (n : ℕ) (session : Session)
    (played : PlayedRecords) (loss : Loss) (replies : Replies) (probes : Probes) (order : Order) (followup : FollowUps) (direct : Direct) (missing : Missing) (rtt : RoundTrip)
    → asked ≡ copies_of copies
    → played ≡ played_at marks n
    → loss ≡ loss_at asked log marks n
    → replies ≡ replies_at asked log marks n
    → probes ≡ probes_at asked log marks n
    → order ≡ order_at asked log marks n
    → followup ≡ followup_at asked log marks n
    → direct ≡ direct_at log marks n
    → missing ≡ missing_of (spans (window capacity (events_of log marks n)))
    → rtt ≡ trips_of (round_trips (events_of log marks n))
    → record {
      played = played;
      loss = loss;
      replies = replies;
      probes = probes;
      order = order;
      followup = followup;
      direct = direct;
      missing = missing;
      session = session;
      rtt = rtt;
      evicted = record { unanswered = 0 };
    } ≡ figures_by copies log marks n session
unfolding figures_by
figures_are copies asked log marks n session played loss replies probes order followup direct missing rtt e a b d f g h j k l = λ i. record {
  played = a i;
  loss = (b ∙ ap (λ (x : ℕ). loss_at x log marks n) e) i;
  replies = (d ∙ ap (λ (x : ℕ). replies_at x log marks n) e) i;
  probes = (f ∙ ap (λ (x : ℕ). probes_at x log marks n) e) i;
  order = (g ∙ ap (λ (x : ℕ). order_at x log marks n) e) i;
  followup = (h ∙ ap (λ (x : ℕ). followup_at x log marks n) e) i;
  direct = j i;
  missing = k i;
  session = session;
  rtt = l i;
  evicted = record { unanswered = 0 };
}

-- ---- a good log

in_room : (figures : Figures) (buffer : List ℕ) → length buffer ≡ report_room → report_of buffer figures ≡ written (text_of figures) buffer
unfolding report_of
in_room figures buffer l = ap (λ (b : Bool). pick_outcome b (written (text_of figures) buffer) (wrong buffer)) (eq-eqb (length buffer) report_room l)

module _ (s : Settings) (log marks fronts buffer : List ℕ) where
  pub good_is : (watched : Bool) (marks' fronts' : List ℕ) (session : Session) (figures : Figures) (o : Outcome)
      → watched ≡ watched_by s.threshold
      → marks' ≡ marked_to watched s.timeout log marks s.count
      → session ≡ session_in s.threshold s.timeout (move_at log marks') s.count
      → fronts' ≡ fronts_after s.threshold s.timeout (move_at log marks') fronts s.count
      → figures ≡ figures_by s.copies log marks' s.count session
      → o ≡ report_of buffer figures
      → length buffer ≡ report_room
      → recounted o marks' fronts' ≡ recount_good s log marks fronts buffer
  good_is watched marks' fronts' session figures o w m x f g e l =
      let marked : marks' ≡ marks_of s log marks = m ∙ ap (λ (b : Bool). marked_to b s.timeout log marks s.count) w in
      let fronted : fronts' ≡ fronts_of s log (marks_of s log marks) fronts =
      f ∙ ap (λ (ms : List ℕ). fronts_after s.threshold s.timeout (move_at log ms) fronts s.count) marked
      in
      let counted : figures ≡ figures_at s log (marks_of s log marks) =
      g ∙ ap (figures_by s.copies log marks' s.count) x ∙ ap (figures_at s log) marked
      in
      let told : o ≡ written (text_of (figures_at s log (marks_of s log marks))) buffer =
      e ∙ in_room figures buffer l ∙ ap (λ (y : Figures). written (text_of y) buffer) counted
      in
      λ i. recounted (told i) (marked i) (fronted i)

-- ---- what the check tells

apart : {r : Refusal} {s : Settings} → ◌≡◌ {A = Result Settings Refusal} (Err r) (Ok s) → ⊥
apart e = let z : ◌≡◌ {A = ℕ} 0 1 = cc in omega arith

pub checked_good : (fit : Bool) (l : Result Settings Fault) (s : Settings) → Ok s ≡ checked_by fit l → (fit ≡ true) × (l ≡ Ok s)
checked_good true (Err f) s e = absurd (apart (sym e))
checked_good true (Ok s') s e = (refl, cc)
checked_good false l s e = absurd (apart (sym e))

both : (a b : Bool) → a && b ≡ true → (a ≡ true) × (b ≡ true)
both true b e = (refl, e)
both false b e = absurd (never e)
  where
    never : false ≡ true → ⊥
    never e = let z : ◌≡◌ {A = ℕ} 0 1 = cc in omega arith

pub rooms_are : (marks fronts buffer : ℕ) → rooms_fit marks fronts buffer ≡ true → (marks ≡ most_records) × (fronts ≡ most_records) × (buffer ≡ report_room)
rooms_are marks fronts buffer e =
    let x = both (eqb marks most_records && eqb fronts most_records) (eqb buffer report_room) e in
    let y = both (eqb marks most_records) (eqb fronts most_records) x.0 in
    (eqb-true marks most_records y.0, eqb-true fronts most_records y.1, eqb-true buffer report_room x.1)

module _ (log marks fronts buffer : List ℕ) (fit : Bool) (found : Result Settings Fault) (checked : Result Settings Refusal)
    (fits : fit ≡ rooms_fit (length marks) (length fronts) (length buffer)) (reads : found ≡ log_of log) (checks : checked ≡ checked_by fit found) where
  -- so a good log's records have their room
  pub rooms_for : (s : Settings) → checked ≡ Ok s
      → (s.count ≤ length marks) × (s.count ≤ length fronts) × (s.count < 65536) × (length buffer ≡ report_room)
  rooms_for s e =
      let c = checked_good fit found s (sym e ∙ checks) in
      let r = rooms_are (length marks) (length fronts) (length buffer) (sym fits ∙ c.0) in
      let few = few_records log s (sym reads ∙ c.1) in
      (omega (arith, r.0, few), omega (arith, r.1, few), omega (arith, few), r.2)

  pub by-check : recount_by checked log marks fronts buffer ≡ recount_of_log log marks fronts buffer
  unfolding recount_of_log
  by-check =
      ap (λ (x : Result Settings Refusal). recount_by x log marks fronts buffer) checks
      ∙ (λ i. recount_by (checked_by (fits i) (reads i)) log marks fronts buffer)

  pub refused_is : (r : Refusal) → checked ≡ Err r → recounted (outcome (Err (number_of r)) buffer) marks fronts ≡ recount_of_log log marks fronts buffer
  unfolding outcome
  refused_is r e = sym (ap (λ (x : Result Settings Refusal). recount_by x log marks fronts buffer) e) ∙ by-check

  pub counted_is : (s : Settings) (left : Recounted) → checked ≡ Ok s → left ≡ recount_good s log marks fronts buffer → left ≡ recount_of_log log marks fronts buffer
  counted_is s left e r = r ∙ sym (ap (λ (x : Result Settings Refusal). recount_by x log marks fronts buffer) e) ∙ by-check
