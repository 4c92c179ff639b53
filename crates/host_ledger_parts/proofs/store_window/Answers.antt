use Rattle.std.specs.Prelude.{Option}
use Rattle.direct.specs.declared.Epoch.{Epoch}
use mathlib.Core.Path.{sym, ap, ◌∙◌, subst}
use Prim.Native.Nat.{ℕ}
use mathlib.Core.List.{List, ◌∷◌}
use lib.ListN.{set}
use lib.Seq.{sets}
use Rattle.host_ledger.specs.Parts.{window_words, WindowKept}
use Rattle.host_ledger.proofs.Back.{closed_kept, open_kept}
use Rattle.host_ledger_parts.proofs.store_window.Goals as goal

pub returns-in-None : goal.returns-in-None
returns-in-None c =
    let w = c.args.state.now in
    let e = c.in-None.is in
    (sym (ap (λ (x : Option Epoch). sets w 38 (window_words x)) e), subst WindowKept (sym e) closed_kept)

pub returns-in-Some : goal.returns-in-Some
returns-in-Some c =
    let w = c.args.state.now in
    let e = c.in-Some.is in
    let said = c.epoch_words-words.ensures in (
      ap (λ (ws : List ℕ). sets w 38 (1 ∷ ws)) said.said ∙ sym (ap (λ (x : Option Epoch). sets w 38 (window_words x)) e),
      subst WindowKept (sym e) (open_kept _ _ _ _ _ _ said),
    )
