-- Q-10 of a host's calls, whatever its words, rooms and queue held before: of a monitor alone, and of a link with a monitor.
-- Assumes nothing.
use Rattle.std.specs.Prelude.{Some}
use mathlib.Core.Path.{◌≡◌, refl, sym, subst}
use mathlib.Core.Bool.{false}
use mathlib.Core.List.{List}
use Prim.Native.Nat.{ℕ, ◌<◌, ◌^◌}
use lib.ListN.{length}
use Rattle.limits.specs.Limits.{capacity}
use Rattle.probe_queue.specs.declared.QueuedProbe.{QueuedProbe}
use Rattle.monitor.specs.Operations.{MonitorStand}
use Rattle.monitor_model.specs.Plain.{Plain, new}
use Rattle.monitor_model.proofs.Standing.{Next}
use Rattle.monitor_model.proofs.Model as model
use Rattle.monitor_in_time.specs.InTime.{counting, InTime}
use Rattle.monitor_in_time.proofs.Sound.{counting_positive, new_keeps}
use Rattle.monitor_in_time.proofs.InTime.{Steps, Models, holds}
use Rattle.monitor_in_time.proofs.Core.{counting_few, core_models}
use Rattle.link_steps.specs.Steps.{LinkStand}
use Rattle.link_history.specs.Fresh.{Watching, watching, Making, MakingFits}
use Rattle.host_monitor_model.specs.Hosted.{Lent, said, begun, Typed}
use Rattle.host_monitor_model.proofs.Follows.{agrees, begins}
use Rattle.host_link_history.specs.Hosted.{HostLink, told, host_fresh}
use Rattle.host_link_history.specs.Hosted as hosted
use Rattle.host_link_history.proofs.Link as agreeing
use Rattle.host_link_history.proofs.Shows as shown
use Rattle.link_in_time.specs.Link.{drives_of}
use Rattle.link_in_time.specs.Host.{host_monitor, host_link, HostFits}
use Rattle.link_in_time.proofs.Link.{Stands, link_models, link_begins}

-- ---- a monitor alone

abbrev Says : Lent → Plain → Type 0
Says x p = Next (said x) p

host_models : Models host_monitor Typed Says
host_models = record {
  shows = λ x p n. core_models.shows (said x) p n;
  steps = λ x p n c typed.
      let a = agrees c x typed in
      let s = core_models.steps (said x) p n c tt in
      (s.0, subst (λ (y : MonitorStand). Next y s.0) (sym a.1) s.1, subst (λ (k : ℕ). Steps (Some c) k p s.0) (sym a.0) s.2);
}

-- THE THEOREM, of the monitor's words
pub host_in_time : (threshold timeout : ℕ) (queue : List QueuedProbe) → threshold < 2 ^ 16 → length queue ≡ capacity → InTime host_monitor Typed (counting threshold) (begun threshold timeout queue)
host_in_time threshold timeout queue h long =
    holds host_monitor Typed Says host_models (counting threshold) (counting_positive threshold) (counting_few threshold h)
    (begun threshold timeout queue) (new threshold timeout)
    (subst (λ (y : MonitorStand). Next y (new threshold timeout)) (sym (begins threshold timeout queue h)) (λ s. false, (refl, model.begins threshold timeout queue long)))
    (new_keeps threshold timeout)

-- ---- a link with a monitor

module _ (m : Making) (ok : MakingFits m) (fits : hosted.HostFits m) (threshold timeout : ℕ) (with-monitor : m.monitor ≡ watching threshold timeout) where
  -- the words say a link that stands, and those of the ledger are 80
  abbrev SaysLink : HostLink → Plain → Type 0
  SaysLink x p = Stands m ok threshold timeout with-monitor (hosted.said x) p × (length x.ledger ≡ 80)

  host_link_models : Models host_link HostFits SaysLink
  host_link_models = record {
    shows = λ x p s. (link_models m ok threshold timeout with-monitor).shows (hosted.said x) p s.0;
    steps = λ x p s c f.
        let a = agreeing.agrees x c s.1 f.0 in
        let t = (link_models m ok threshold timeout with-monitor).steps (hosted.said x) p s.0 (told c) f.1 in (
          t.0,
          (subst (λ (k : LinkStand). Stands m ok threshold timeout with-monitor k t.0) (sym a.1) t.1, a.2),
          subst (λ (n : ℕ). Steps (drives_of (hosted.said x) (told c)) n p t.0) (sym a.0) t.2,
        );
  }

  -- THE THEOREM, of the words and rooms of a link
  pub host_link_in_time : InTime host_link HostFits (counting threshold) (host_fresh m)
  host_link_in_time =
      holds host_link HostFits SaysLink host_link_models (counting threshold) (counting_positive threshold)
      (counting_few threshold (subst (λ (v : Watching). hosted.ThresholdFits v) with-monitor fits.threshold)) (host_fresh m) (new threshold timeout)
      (subst (λ (k : LinkStand). Stands m ok threshold timeout with-monitor k (new threshold timeout)) (sym (shown.begins m ok fits)) (link_begins m ok threshold timeout with-monitor), shown.long m)
      (new_keeps threshold timeout)
