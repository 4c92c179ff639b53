-- Exactly the good records keep document 01's rules for their bytes. Assumes nothing.
use mathlib.Core.Path.{◌≡◌, sym, ap, ◌∙◌, subst}
use mathlib.Core.Bool.{true}
use mathlib.Core.List.{List}
use Prim.Native.Nat.{ℕ}
use Rattle.log_record.specs.Records.{entry_of, same_bytes, good}
use Rattle.log_record.proofs.Laws.{same_refl}
use Rattle.log_record.proofs.Good.{good_is_written}
use Rattle.log_rules.specs.Rules.{Bytes, Rules}
use Rattle.log_rules.proofs.Kept.{record_rules}
use Rattle.log_rules.proofs.Said.{said}

pub good_rules : (r : List ℕ) → good r ≡ true → Rules r
good_rules r g = subst Rules (sym (good_is_written r g)) (record_rules (entry_of r))

pub rules_good : (r : List ℕ) → Bytes r → Rules r → good r ≡ true
unfolding good
rules_good r b h = ap (same_bytes r) (said r b h) ∙ same_refl r
