-- THE THEOREM OF CONDITION 3, of a link made fresh over any rooms of the right size, after any calls, refused ones included.
-- Assumes nothing.
use mathlib.Core.Path.{◌≡◌, refl, sym, ap, ◌∙◌, subst}
use mathlib.Core.Bool.{true}
use mathlib.Core.List.{List, [], ◌∷◌}
use Prim.Native.Nat.{ℕ, zero, suc, ◌+◌, ◌<◌}
use native.Mathlib.Omega.{arith}
use lib.ListN.{length}
use Rattle.limits.specs.Limits.{most_calls}
use Rattle.limits.specs.Refusals.{wrong_room, queue_full}
use Rattle.call_types.specs.declared.Call.{Call}
use Rattle.history.specs.Ledger.{copies_of}
use Rattle.ledger_state.specs.Refusal.{counts_fit}
use Rattle.link_steps.specs.Steps.{LinkStand, refuses, played, kept_if, served, one_if, turned_away}
use Rattle.link_history.specs.Fresh.{Making, MakingFits, fresh_link, words_in, AllFits}
use Rattle.link_history.specs.Shows.{calls_in}
use Rattle.link_history.specs.Link.{refuses_from, served_from, QueueFull, LinkShows}
use Rattle.link_history.proofs.Follows.{copies_fit, link_follows}
use Rattle.link_history.proofs.Shows.{ledger_follows}
use Rattle.link_history.proofs.Sums.{events_in}
use Rattle.link_history.proofs.Bounds.{counts_fit_lem}
use Rattle.link_history.proofs.Watched.{watch_follows, watch_shows}
use Rattle.link_history.proofs.Refused.{refuses_is, from_five, three_full}

module _ (m : Making) (ok : MakingFits m) where
  abbrev k₀ : LinkStand
  k₀ = fresh_link m

  -- the refusal of each call to come
  pub refusals_follow : (cs : List Call) → AllFits cs → (c : Call) → refuses (played k₀ cs) c ≡ refuses_from m.monitor (served k₀ cs) c
  refusals_follow cs w c =
      refuses_is m.monitor (words_in m) (copies_of m.copies) (copies_fit m.copies ok.copies_in) (served k₀ cs) (events_in k₀ cs w) (played k₀ cs) (link_follows m ok cs w)
      (watch_follows m ok cs w) c

  -- THE THEOREM. Whatever the rooms held, whatever was called and whatever was refused, each call given what the last one left: what the code's states
  -- and rooms show is what the served calls call for, by the plain definitions of crate history and of monitor_model.
  pub link-shows : (cs : List Call) → AllFits cs → LinkShows (copies_of m.copies) m.monitor (served k₀ cs) (played k₀ cs)
  link-shows cs w = record {
    ledger = ledger_follows m ok cs w;
    monitor = watch_shows m ok cs w;
    refusals = refusals_follow cs w;
  }

  -- THE SERVED CALLS FOLLOW FROM THOSE THAT WERE MADE.
  pub served_is : (cs : List Call) → AllFits cs → served k₀ cs ≡ served_from m.monitor cs
  unfolding served served_from AllFits
  served_is [] w = refl
  served_is (c ∷ cs) w =
      ap (λ (n : ℕ). kept_if n c (served k₀ cs)) (refusals_follow cs w.1 c)
      ∙ ap (λ (h : List Call). kept_if (refuses_from m.monitor h c) c h) (served_is cs w.1)

  -- so all that a link shows is a plain function of the calls that were made
  pub made-calls-show : (cs : List Call) → AllFits cs → LinkShows (copies_of m.copies) m.monitor (served_from m.monitor cs) (played k₀ cs)
  made-calls-show cs w = subst (λ (h : List Call). LinkShows (copies_of m.copies) m.monitor h (played k₀ cs)) (served_is cs w) (link-shows cs w)

  -- over rooms of the right size refusal 5 never happens
  pub never_misplaced : (cs : List Call) → AllFits cs → (c : Call) → refuses (played k₀ cs) c ≡ wrong_room → ⊥
  never_misplaced cs w c e = from_five m.monitor (served k₀ cs) c (sym (refusals_follow cs w c) ∙ e)

  -- refusal 3 happens only where 4,096 probes are queued
  pub three_only_full : (cs : List Call) → AllFits cs → (c : Call) → refuses (played k₀ cs) c ≡ queue_full → QueueFull m.monitor (served k₀ cs)
  three_only_full cs w c e = three_full m.monitor (served k₀ cs) c (sym (refusals_follow cs w c) ∙ e)

  -- no count of the ledger gets to 2^63 and no sum to 2^126 before 4,294,967,295 calls are served
  pub counts_never_full : (cs : List Call) → AllFits cs → calls_in (served k₀ cs) < most_calls → counts_fit (played k₀ cs).link.ledger.counts ≡ true
  counts_never_full cs w l =
      ap counts_fit (ledger_follows m ok cs w).counts
      ∙ counts_fit_lem (copies_of m.copies) (copies_fit m.copies ok.copies_in) (served k₀ cs) l (events_in k₀ cs w)

-- each call that was made was served or turned away
pub turned_away_adds_up : (k : LinkStand) (cs : List Call) → length (served k cs) + turned_away k cs ≡ length cs
unfolding served turned_away
turned_away_adds_up k [] = refl
turned_away_adds_up k (c ∷ cs) = go (refuses (played k cs) c) (turned_away_adds_up k cs)
  where
    go : (n : ℕ) → length (served k cs) + turned_away k cs ≡ length cs → length (kept_if n c (served k cs)) + one_if n (turned_away k cs) ≡ suc (length cs)
    go zero e = omega (arith, e)
    go (suc n) e = omega (arith, e)
