-- What holds of a monitor with its room after any calls from fresh, and what a pop and a push leave of it.
-- Assumes nothing.
use mathlib.Core.Path.{◌≡◌, refl, sym, ap, subst, ◌∙◌}
use mathlib.Core.Bool.{Bool, true, false}
use mathlib.Core.List.{List, [], ◌∷◌, ◌++◌, map}
use Prim.Native.Nat.{ℕ, zero, suc, ◌+◌, ◌<◌, ◌≤◌, ◌-◌}
use native.Mathlib.Nat.{mod-lt}
use native.Mathlib.Omega.{arith}
use lib.ListN.{length, take, drop, set, take-append-drop, length-set}
use lib.Seq.{drop-append-le, drop-append_seam}
use lib.Dec.{eqb, leb, ltb}
use borrow.Author.Tests.{leb-true, leb-false, ltb-true}
use Rattle.limits.specs.Limits.{capacity}
use Rattle.probe_queue.specs.declared.QueuedProbe.{QueuedProbe}
use Rattle.probe_queue.specs.Queue.{choose, Held, place, at, queued, unmark, after, popped}
use Rattle.monitor.specs.declared.Monitor.{Monitor}
use Rattle.monitor.specs.declared.Summary.{Summary}
use Rattle.monitor.specs.States.{most_losses}
use Rattle.monitor.specs.Operations.{MonitorStand, ascending, repeated, pops, least, runs, queues}
use Rattle.monitor_model.specs.Plain.{Sent, Marks, Plain, insert, queue}
use Rattle.monitor_model.specs.Playing.{plain_probe_of, marked}
use Rattle.monitor_model.proofs.Lists.{tabulate-length, take-tabulate}
use Rattle.monitor_model.proofs.Rings.{pushes, unmarks_all, unmark_sequence, popped-long, pops-unmark, drops}
use Rattle.monitor_model.proofs.Rising.{Rises, Last, rises_later, last-drop, last_snoc, rises_snoc}
use Rattle.monitor_model.proofs.Marks.{seqs, removes, pops_slow, pops_fast, inserts}

-- the plain state that a monitor with its room shows, with a set of marks
abbrev pub seen : MonitorStand → Marks → Plain
seen x marks =
    record { summary = x.monitor.summary; timeout = x.monitor.timeout; transmitting = x.monitor.transmitting; probes = map plain_probe_of (queued x.room x.monitor.ring); received = marks }

-- what holds after any calls from fresh
pub record Kept (x : MonitorStand) (marks : Marks) : Type 0 where
  pub held : Held x.monitor.ring
  pub long : length x.room ≡ capacity
  pub few : x.monitor.summary.consecutive_losses ≤ most_losses
  pub received : (s : ℕ) → marked s (queued x.room x.monitor.ring) ≡ marks s
  pub rising : Rises (drop (x.monitor.ring.len - x.monitor.run) (seqs (queued x.room x.monitor.ring)))
  pub last : Last x.monitor.latest (seqs (queued x.room x.monitor.ring))

-- a plain state is shown, and all that holds is kept
abbrev pub Next : MonitorStand → Plain → Type 0
Next x p = (marks : Marks) × ((p ≡ seen x marks) × Kept x marks)

-- ---- unmarking shows in the marks alone
unmark-probe : (q : ℕ) (p : QueuedProbe) → plain_probe_of (unmark q p) ≡ plain_probe_of p
unfolding unmark
unmark-probe q p = by (eqb p.sequence q)
  where
    by : (t : Bool) → plain_probe_of (choose t (record { sequence = p.sequence; deadline = p.deadline; mark = 0 }) p) ≡ plain_probe_of p
    by true = refl
    by false = refl

unmark-probes : (q : ℕ) (xs : List QueuedProbe) → map plain_probe_of (map (unmark q) xs) ≡ map plain_probe_of xs
unmark-probes q [] = refl
unmark-probes q (x ∷ xs) = ap (λ (y : Sent). y ∷ map plain_probe_of (map (unmark q) xs)) (unmark-probe q x) ∙ ap (λ (ys : List Sent). plain_probe_of x ∷ ys) (unmark-probes q xs)

all_probes : (ps xs : List QueuedProbe) → map plain_probe_of (unmarks_all ps xs) ≡ map plain_probe_of xs
all_probes [] xs = refl
all_probes (p ∷ ps) xs = all_probes ps (map (unmark p.sequence) xs) ∙ unmark-probes p.sequence xs

unmark_seqs : (q : ℕ) (xs : List QueuedProbe) → seqs (map (unmark q) xs) ≡ seqs xs
unmark_seqs q [] = refl
unmark_seqs q (x ∷ xs) = ap (λ (n : ℕ). n ∷ seqs (map (unmark q) xs)) (unmark_sequence q x) ∙ ap (λ (ns : List ℕ). x.sequence ∷ ns) (unmark_seqs q xs)

all_seqs : (ps xs : List QueuedProbe) → seqs (unmarks_all ps xs) ≡ seqs xs
all_seqs [] xs = refl
all_seqs (p ∷ ps) xs = all_seqs ps (map (unmark p.sequence) xs) ∙ unmark_seqs p.sequence xs

seqs_drop : (n : ℕ) (xs : List QueuedProbe) → seqs (drop n xs) ≡ drop n (seqs xs)
seqs_drop zero xs = refl
seqs_drop (suc n) [] = refl
seqs_drop (suc n) (x ∷ xs) = seqs_drop n xs

seqs_snoc : (xs : List QueuedProbe) (v : QueuedProbe) → seqs (xs ++ v ∷ []) ≡ seqs xs ++ v.sequence ∷ []
seqs_snoc [] v = refl
seqs_snoc (x ∷ xs) v = ap (λ (ns : List ℕ). x.sequence ∷ ns) (seqs_snoc xs v)

probes_snoc : (xs : List QueuedProbe) (v : QueuedProbe) → map plain_probe_of (xs ++ v ∷ []) ≡ map plain_probe_of xs ++ plain_probe_of v ∷ []
probes_snoc [] v = refl
probes_snoc (x ∷ xs) v = ap (λ (ns : List Sent). plain_probe_of x ∷ ns) (probes_snoc xs v)

seqs_length : (xs : List QueuedProbe) → length (seqs xs) ≡ length xs
seqs_length [] = refl
seqs_length (x ∷ xs) = ap suc (seqs_length xs)

-- ---- n pops
module _ (x : MonitorStand) (marks : Marks) (kept : Kept x marks) (n : ℕ) (l : n ≤ x.monitor.ring.len) (s : Summary) (few : s.consecutive_losses ≤ most_losses) where
  abbrev m : Monitor
  m = x.monitor

  abbrev xs : List QueuedProbe
  xs = queued x.room m.ring

  abbrev left : List QueuedProbe
  left = queued (popped x.room m.ring (after m.ring n) (repeated m n)) (after m.ring n)

  abbrev shaped : Bool → List QueuedProbe
  shaped a = choose a (drop n xs) (unmarks_all (take n xs) (drop n xs))

  shape : (a : Bool) → ascending m ≡ a → left ≡ shaped a
  shape true e = ap (λ (t : Bool). queued (popped x.room m.ring (after m.ring n) (choose t 0 n)) (after m.ring n)) e ∙ drops x.room m.ring n l
  shape false e =
      ap (λ (t : Bool). queued (popped x.room m.ring (after m.ring n) (choose t 0 n)) (after m.ring n)) e
      ∙ pops-unmark x.room m.ring (after m.ring n) n kept.long (mod-lt (m.ring.head + n) {m = capacity} (omega arith)) (omega (arith, kept.held.1))
      ∙ ap (λ (ps : List QueuedProbe). unmarks_all ps (queued x.room (after m.ring n))) (sym (take-tabulate n m.ring.len (at x.room m.ring) l))
      ∙ ap (unmarks_all (take n xs)) (drops x.room m.ring n l)

  shaped_probes : (a : Bool) → map plain_probe_of (shaped a) ≡ map plain_probe_of (drop n xs)
  shaped_probes true = refl
  shaped_probes false = all_probes (take n xs) (drop n xs)

  shaped_seqs : (a : Bool) → seqs (shaped a) ≡ drop n (seqs xs)
  shaped_seqs true = seqs_drop n xs
  shaped_seqs false = all_seqs (take n xs) (drop n xs) ∙ seqs_drop n xs

  whole : ascending m ≡ true → Rises (seqs (take n xs ++ drop n xs))
  whole e =
      subst (λ (ys : List QueuedProbe). Rises (seqs ys)) (sym (take-append-drop n xs))
      (subst (λ (k : ℕ). Rises (drop k (seqs xs))) (none m.ring.len m.run (leb-true m.ring.len m.run e)) kept.rising)
    where
      none : (a b : ℕ) → a ≤ b → a - b ≡ 0
      none a b h = omega (arith, h)

  together : (k : ℕ) → marked k (take n xs ++ drop n xs) ≡ marks k
  together k = ap (marked k) (take-append-drop n xs) ∙ kept.received k

  shaped_marks : (a : Bool) → ascending m ≡ a → (k : ℕ) → marked k (shaped a) ≡ removes (take n xs) marks k
  shaped_marks true e k = pops_fast (take n xs) (drop n xs) marks together (whole e) k
  shaped_marks false e k = pops_slow (take n xs) (drop n xs) marks together k

  left_seqs : seqs left ≡ drop n (seqs xs)
  left_seqs = ap seqs (shape (ascending m) refl) ∙ shaped_seqs (ascending m)

  pub popped-next : Next (pops m x.room n s) (record { summary = s; timeout = m.timeout; transmitting = m.transmitting; probes = map plain_probe_of (drop n xs); received = removes (take n xs) marks })
  popped-next = (
    removes (take n xs) marks,
    (
      ap (λ (ps : List Sent). record { summary = s; timeout = m.timeout; transmitting = m.transmitting; probes = ps; received = removes (take n xs) marks }) (sym (ap (map plain_probe_of) (shape (ascending m) refl) ∙ shaped_probes (ascending m))),
      record {
        held = (mod-lt (m.ring.head + n) {m = capacity} (omega arith), omega (arith, kept.held.1));
        long = popped-long x.room m.ring (after m.ring n) (repeated m n) ∙ kept.long;
        few = few;
        received = λ k. ap (marked k) (shape (ascending m) refl) ∙ shaped_marks (ascending m) refl k;
        rising = subst (λ (ns : List ℕ). Rises (drop (m.ring.len - n - m.run) ns)) (sym left_seqs) (rises_later (seqs xs) m.ring.len m.run n l kept.rising);
        last = subst (Last m.latest) (sym left_seqs) (last-drop m.latest n (seqs xs) kept.last);
      },
    ),
  )

-- ---- one probe more
run_one : (len run : ℕ) (ns : List ℕ) (v : ℕ) → length ns ≡ len → Rises (drop (len + 1 - 1) (ns ++ v ∷ []))
run_one len run ns v e =
    subst (λ (k : ℕ). Rises (drop k (ns ++ v ∷ []))) (e ∙ back len) (subst Rises (sym (drop-append_seam ns (v ∷ []))) (tt, tt))
  where
    back : (k : ℕ) → k ≡ k + 1 - 1
    back k = omega arith

run_more : (len run latest : ℕ) (ns : List ℕ) (v : ℕ) (a : Bool) → length ns ≡ len → leb run len ≡ a → Rises (drop (len - run) ns) → Last latest ns → latest < v → Rises (drop (len + 1 - (choose a run len + 1)) (ns ++ v ∷ []))
run_more len run latest ns v a e ea r h l =
    subst (λ (k : ℕ). Rises (drop k (ns ++ v ∷ []))) (same a ea)
    (subst Rises (sym (drop-append-le (len - run) ns (v ∷ []) (subst (λ (k : ℕ). len - run ≤ k) (sym e) (omega arith))))
    (rises_snoc latest v (drop (len - run) ns) r (last-drop latest (len - run) ns h) l))
  where
    same : (t : Bool) → leb run len ≡ t → len - run ≡ len + 1 - (choose t run len + 1)
    same true h2 = omega (arith, leb-true run len h2)
    same false h2 = omega (arith, leb-false run len h2)

-- the run of the last sequences that ascend still does
run_kept : (len run latest : ℕ) (ns : List ℕ) (v : ℕ) (a b : Bool) → length ns ≡ len → Rises (drop (len - run) ns) → Last latest ns → eqb len 0 ≡ a → ltb latest v ≡ b
    → Rises (drop (len + 1 - choose a 1 (choose b (least run len + 1) 1)) (ns ++ v ∷ []))
run_kept len run latest ns v true b e r h ea eb = run_one len run ns v e
run_kept len run latest ns v false true e r h ea eb = run_more len run latest ns v (leb run len) e refl r h (ltb-true latest v eb)
run_kept len run latest ns v false false e r h ea eb = run_one len run ns v e

module _ (x : MonitorStand) (marks : Marks) (kept : Kept x marks) (s t : ℕ) (ll : x.monitor.ring.len < capacity) where
  abbrev mon : Monitor
  mon = x.monitor

  abbrev old : List QueuedProbe
  old = queued x.room mon.ring

  abbrev probe : QueuedProbe
  probe = record { sequence = s; deadline = t + mon.timeout; mark = 1 }

  abbrev new : List QueuedProbe
  new = queued (set x.room (place mon.ring mon.ring.len) probe) (record { head = mon.ring.head; len = mon.ring.len + 1 })

  longer : new ≡ old ++ probe ∷ []
  longer = pushes x.room mon.ring probe kept.long kept.held.0 ll

  new_seqs : seqs new ≡ seqs old ++ s ∷ []
  new_seqs = ap seqs longer ∙ seqs_snoc old probe

  pub pushed-next : Next (queues mon x.room s t) (queue (seen x marks) s t)
  pushed-next = (
    insert s marks,
    (
      ap (λ (ps : List Sent). record { summary = mon.summary; timeout = mon.timeout; transmitting = true; probes = ps; received = insert s marks }) (sym (ap (map plain_probe_of) longer ∙ probes_snoc old probe)),
      record {
        held = (kept.held.0, omega (arith, ll));
        long = length-set x.room (place mon.ring mon.ring.len) probe ∙ kept.long;
        few = kept.few;
        received = λ k. ap (marked k) longer ∙ inserts old probe marks refl kept.received k;
        rising = subst (λ (ns : List ℕ). Rises (drop (mon.ring.len + 1 - runs mon s) ns)) (sym new_seqs)
            (run_kept mon.ring.len mon.run mon.latest (seqs old) s (eqb mon.ring.len 0) (ltb mon.latest s) (seqs_length old ∙ tabulate-length mon.ring.len _) kept.rising kept.last refl refl);
        last = subst (Last s) (sym new_seqs) (last_snoc s (seqs old));
      },
    ),
  )
