-- Pops of the plain model, on the list of probes that queued records show.
-- Assumes nothing.
use mathlib.Core.Path.{◌≡◌, refl}
use mathlib.Core.Bool.{Bool, true, false, not}
use mathlib.Core.List.{List, [], ◌∷◌, map}
use Prim.Native.Nat.{ℕ, suc, ◌<◌}
use native.Mathlib.Nat.{not-suc-le-zero, le_of_suc-le-suc}
use lib.ListN.{length, take, drop}
use lib.Dec.{eqb, leb}
use Rattle.probe_queue.specs.declared.QueuedProbe.{QueuedProbe}
use Rattle.probe_queue.specs.declared.Rule.TheVariants.{Due, Until}
use Rattle.probe_queue.specs.Queue.{choose, leading, passes}
use Rattle.monitor.specs.declared.Summary.{Summary}
use Rattle.monitor_model.specs.Plain.{Marks, remove, Left, pop_to, Advanced, lose, advancing}
use Rattle.monitor_model.specs.Playing.{plain_probe_of}
use Rattle.monitor_model.proofs.Losses.{loses_one}
use Rattle.monitor_model.proofs.Marks.{removes}

-- what n pops leave
abbrev pub leaves : ℕ → List QueuedProbe → Marks → Left
leaves n xs marks = record { probes = map plain_probe_of (drop n xs); received = removes (take n xs) marks }

reply_one : (b : Bool) (x : QueuedProbe) (xs : List QueuedProbe) (n : ℕ) (marks : Marks) (rest : Left) → (b ≡ false → n < length xs → rest ≡ leaves (suc n) xs (remove x.sequence marks))
    → choose (not b) (suc n) 0 < suc (length xs)
    → choose b (record { probes = map plain_probe_of xs; received = remove x.sequence marks }) rest ≡ leaves (suc (choose (not b) (suc n) 0)) (x ∷ xs) marks
reply_one true x xs n marks rest i l = refl
reply_one false x xs n marks rest i l = i refl (le_of_suc-le-suc l)

-- a marked reply pops up to and including the first probe with its sequence
pub pops_to : (s : ℕ) (xs : List QueuedProbe) (marks : Marks) → leading (passes (Until s)) xs < length xs → pop_to s (map plain_probe_of xs) marks ≡ leaves (suc (leading (passes (Until s)) xs)) xs marks
unfolding passes
pops_to s [] marks l = absurd (not-suc-le-zero l)
pops_to s (x ∷ xs) marks l =
    reply_one (eqb x.sequence s) x xs (leading (passes (Until s)) xs) marks (pop_to s (map plain_probe_of xs) (remove x.sequence marks)) (λ e h. pops_to s xs (remove x.sequence marks) h) l

-- what `advance` leaves after n pops
abbrev pub loses_and_leaves : Bool → ℕ → Summary → List QueuedProbe → Marks → Advanced
loses_and_leaves tr n summary xs marks = record { summary = loses_one tr n summary; probes = map plain_probe_of (drop n xs); received = removes (take n xs) marks }

advance_one : (b : Bool) (tr : Bool) (summary : Summary) (x : QueuedProbe) (xs : List QueuedProbe) (n : ℕ) (marks : Marks) (rest : Advanced) → rest ≡ loses_and_leaves tr n (lose tr summary) xs (remove x.sequence marks)
    → choose b rest (record { summary = summary; probes = map plain_probe_of (x ∷ xs); received = marks }) ≡ loses_and_leaves tr (choose b (suc n) 0) summary (x ∷ xs) marks
advance_one true tr summary x xs n marks rest e = e
advance_one false tr summary x xs n marks rest e = refl

-- `advance` pops every front probe that is due
pub pops-due : (tr : Bool) (t : ℕ) (summary : Summary) (xs : List QueuedProbe) (marks : Marks)
    → advancing tr t summary (map plain_probe_of xs) marks ≡ loses_and_leaves tr (leading (passes (Due t)) xs) summary xs marks
unfolding passes
pops-due tr t summary [] marks = refl
pops-due tr t summary (x ∷ xs) marks =
    advance_one (leb x.deadline t) tr summary x xs (leading (passes (Due t)) xs) marks (advancing tr t (lose tr summary) (map plain_probe_of xs) (remove x.sequence marks)) (pops-due tr t (lose tr summary) xs (remove x.sequence marks))
