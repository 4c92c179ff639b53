-- From what the log's own calls answer to what a host is told, by the case. Assumes nothing.
use Rattle.std.specs.Prelude.{Option, Some, None, Result}
use mathlib.Core.Path.{◌≡◌, sym, ap, ◌∙◌}
use mathlib.Core.List.{List}
use Prim.Native.Nat.{ℕ}
use Rattle.call_types.specs.declared.Call.{Call}
use Rattle.log_whole.specs.declared.Fault.{Fault}
use Rattle.log_whole.specs.declared.Settings.{Settings}
use Rattle.log_whole.specs.Logs.{log_of, call_at}
use Rattle.host_call_words.specs.Words.{call_words}
use Rattle.host_log_read.specs.Answers.{Left, left, checked_by, check_to, first_by, first_bad_to, no_call, read_by, read_to}

pub check_is : (log ws : List ℕ) (l k : Result Settings Fault) (x : Left) → l ≡ log_of log → l ≡ k → x ≡ checked_by k ws → x ≡ check_to log ws
unfolding check_to
check_is log ws l k x e n p = p ∙ ap (λ (z : Result Settings Fault). checked_by z ws) (sym n ∙ e)

pub first_is : (log ws : List ℕ) (l k : Result Settings Fault) (x : Left) → l ≡ log_of log → l ≡ k → x ≡ first_by k ws → x ≡ first_bad_to log ws
unfolding first_bad_to
first_is log ws l k x e n p = p ∙ ap (λ (z : Result Settings Fault). first_by z ws) (sym n ∙ e)

pub read_call : (log : List ℕ) (at : ℕ) (ws : List ℕ) (p : Option Call) (c : Call) (w : List ℕ) → p ≡ call_at log at → p ≡ Some c → w ≡ call_words c
    → left 0 w ≡ read_to log at ws
unfolding read_to
read_call log at ws p c w e n q = ap (left 0) q ∙ ap (λ (z : Option Call). read_by z (log_of log) ws) (sym n ∙ e)

pub read_none : (log : List ℕ) (at : ℕ) (ws : List ℕ) (p : Option Call) (l : Result Settings Fault) (m : ℕ) → p ≡ call_at log at → p ≡ None → l ≡ log_of log
    → m ≡ no_call l → left m ws ≡ read_to log at ws
unfolding read_to
read_none log at ws p l m e n q h =
    ap (λ (k : ℕ). left k ws) (h ∙ ap no_call q) ∙ ap (λ (z : Option Call). read_by z (log_of log) ws) (sym n ∙ e)
