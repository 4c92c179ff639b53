-- What is stored of the follow-ups, by what was told and by the class. Assumes nothing.
use Rattle.correlation.specs.Class.{Class}
use Rattle.std.specs.Prelude.{Option, Some, None, Ok, Err}
use mathlib.Core.Path.{◌≡◌, refl, sym, ap, ◌∙◌}
use mathlib.Core.Bool.{Bool, cond}
use mathlib.Core.List.{List, [], ◌∷◌}
use Prim.Native.Nat.{ℕ, ◌+◌}
use native.Mathlib.Omega.{arith}
use lib.IntN.{ℤ}
use lib.ListN.{get_or}
use lib.Seq.{sets, set-get_or}
use Rattle.call_types.specs.declared.FollowUpTelemetry.{FollowUpTelemetry}
use Rattle.call_types.specs.declared.ReplyKey.{ReplyKey}
use Rattle.call_types.specs.declared.ReplyObservation.{ReplyObservation}
use Rattle.chains.specs.declared.Ring.{Ring}
use Rattle.chains.proofs.Tests.{eq_true, eq_false}
use Rattle.correlation.specs.declared.follow.Match.{Match}
use Rattle.correlation.specs.declared.follow.Miss.{Miss}
use Rattle.correlation.specs.declared.follow.Miss.TheVariants as miss
use Rattle.follow_ups.specs.declared.FollowCounts.{FollowCounts}
use Rattle.follow_ups.specs.declared.FollowUps.{FollowUps}
use Rattle.follow_ups.specs.Followed.{counted, followed}
use Rattle.ledger_steps.specs.Observe.{FollowOutcome, follow_outcome, follow_by, follow_in}
use Rattle.host_follow_class.specs.Class.{ClassOutcome, class_outcome, class_in}
use Rattle.host_ledger.specs.Parts.{follow_at, follow_counts_words, follow_words}
use Rattle.host_ledger.specs.Left.{follow_stored}
use Rattle.host_observe_words.specs.Observe.{follow_left, follow_leaves}

-- a follow-up that is not matched leaves the count of those that are
pub matched_stays : (why : Miss) (n : FollowCounts) → (counted (Err why) n).matched ≡ n.matched
matched_stays miss.Unavailable n = refl
matched_stays miss.Ambiguous n = refl
matched_stays miss.Unmatched n = refl
matched_stays miss.Repeated n = refl

-- ---- the follow-up, at any capacity N

module _ (N : ℕ) (by_key : ReplyKey → ℕ) (by_number : ℕ → ℕ) where
  -- an observation, by its follow-up
  follow_as :
      (fs : FollowUps) (ring : Ring) (keys slots links : List (List ℕ)) (o : ReplyObservation) (x : Option FollowUpTelemetry) (out : FollowOutcome)
      → o.follow ≡ x → out ≡ follow_by N by_key by_number x fs ring keys slots links o
      → out ≡ follow_in N by_key by_number fs ring keys slots links o
  unfolding follow_in
  follow_as fs ring keys slots links o x out e h = h ∙ sym (ap (λ (y : Option FollowUpTelemetry). follow_by N by_key by_number y fs ring keys slots links o) e)

  -- a follow-up whose class is known
  counted-as :
      (fs fs' : FollowUps) (ring : Ring) (keys slots slots' links : List (List ℕ)) (o : ReplyObservation) (f : FollowUpTelemetry) (c : Class) (offset : ℤ)
      → class_outcome c slots' ≡ class_in N by_key by_number ring keys slots links o.key.reflector offset f
      → offset ≡ o.offset
      → fs' ≡ followed fs c offset
      → follow_outcome fs' slots' ≡ follow_by N by_key by_number (Some f) fs ring keys slots links o
  unfolding class_in
  counted-as fs fs' ring keys slots slots' links o f c offset e₁ e₂ e₃ =
      ap (λ (x : FollowUps). follow_outcome x slots') (e₃ ∙ ap (followed fs c) e₂)
      ∙ ap (λ (x : ClassOutcome). follow_outcome (followed fs x.class o.offset) x.slots)
      (e₁ ∙ ap (λ (z : ℤ). class_in N by_key by_number ring keys slots links o.key.reflector z f) e₂)

-- ---- its words

module _ (w : List ℕ) where
  -- counts as they are read are stored as they were
  same-counts : sets w 44 (follow_counts_words (follow_at 44 w).counts) ≡ w
  unfolding follow_at
  same-counts =
      ap (λ (v : List ℕ). sets v 45 (get_or w 45 0 ∷ get_or w 46 0 ∷ get_or w 47 0 ∷ get_or w 48 0 ∷ get_or w 49 0 ∷ [])) (set-get_or w 44 0)
      ∙ ap (λ (v : List ℕ). sets v 46 (get_or w 46 0 ∷ get_or w 47 0 ∷ get_or w 48 0 ∷ get_or w 49 0 ∷ [])) (set-get_or w 45 0)
      ∙ ap (λ (v : List ℕ). sets v 47 (get_or w 47 0 ∷ get_or w 48 0 ∷ get_or w 49 0 ∷ [])) (set-get_or w 46 0)
      ∙ ap (λ (v : List ℕ). sets v 48 (get_or w 48 0 ∷ get_or w 49 0 ∷ [])) (set-get_or w 47 0)
      ∙ ap (λ (v : List ℕ). sets v 49 (get_or w 49 0 ∷ [])) (set-get_or w 48 0)
      ∙ set-get_or w 49 0

  -- none matched, so that only the counts are stored
  unmatched : (f : FollowUps) → f.counts.matched ≡ get_or w 45 0 → follow_stored w f ≡ sets w 44 (follow_counts_words f.counts)
  unmatched f e = ap (λ (b : Bool). cond b (sets w 44 (follow_counts_words f.counts)) (sets w 44 (follow_words f))) (eq_true f.counts.matched (get_or w 45 0) e)

  untold : follow_stored w (follow_at 44 w) ≡ w
  unfolding follow_at
  untold = unmatched (follow_at 44 w) refl ∙ same-counts

  -- a follow-up of a class that is not matched
  pub other_as : (c d : Class) (offset : ℤ) → c ≡ d → (counted d (follow_at 44 w).counts).matched ≡ get_or w 45 0
      → sets w 44 (follow_counts_words (counted c (follow_at 44 w).counts)) ≡ follow_stored w (followed (follow_at 44 w) c offset)
  unfolding followed
  other_as c d offset e h =
      sym (unmatched (followed (follow_at 44 w) c offset) (ap (λ (x : Class). (counted x (follow_at 44 w).counts).matched) e ∙ h))

  -- a matched one
  pub matched_as : (c : Class) (m : Match) (offset given : ℤ) → given ≡ offset → c ≡ Ok m
      → sets w 44 (follow_words (followed (follow_at 44 w) (Ok m) given)) ≡ follow_stored w (followed (follow_at 44 w) c offset)
  unfolding followed follow_at
  matched_as c m offset given q e =
      ap (λ (x : ℤ). sets w 44 (follow_words (followed (follow_at 44 w) (Ok m) x))) q
      ∙ sym
      (ap (λ (x : Class). follow_stored w (followed (follow_at 44 w) x offset)) e
      ∙ ap (λ (b : Bool). cond b (sets w 44 (follow_counts_words (counted (Ok m) (follow_at 44 w).counts))) (sets w 44 (follow_words (followed (follow_at 44 w) (Ok m) offset))))
      (eq_false (get_or w 45 0 + 1) (get_or w 45 0) (λ z. omega arith)))

module _ (N : ℕ) (by_key : ReplyKey → ℕ) (by_number : ℕ → ℕ) (w : List ℕ) (ring : Ring) (keys slots links : List (List ℕ)) (o : ReplyObservation) where
  -- no follow-up
  pub follow_untold : o.follow ≡ None → follow_left w slots ≡ follow_leaves w (follow_in N by_key by_number (follow_at 44 w) ring keys slots links o)
  unfolding follow_in
  follow_untold e =
      ap (λ (v : List ℕ). follow_left v slots) (sym (untold w))
      ∙ sym (ap (λ (x : Option FollowUpTelemetry). follow_leaves w (follow_by N by_key by_number x (follow_at 44 w) ring keys slots links o)) e)

  -- a follow-up whose class was counted
  pub follow-told :
      (f : FollowUpTelemetry) (c : Class) (offset : ℤ) (slots' : List (List ℕ)) (w' : List ℕ)
      → o.follow ≡ Some f
      → class_outcome c slots' ≡ class_in N by_key by_number ring keys slots links o.key.reflector offset f
      → offset ≡ o.offset
      → w' ≡ follow_stored w (followed (follow_at 44 w) c offset)
      → follow_left w' slots' ≡ follow_leaves w (follow_in N by_key by_number (follow_at 44 w) ring keys slots links o)
  follow-told f c offset slots' w' e₁ e₂ e₃ e₄ =
      ap (λ (v : List ℕ). follow_left v slots') e₄
      ∙ ap (follow_leaves w)
      (follow_as N by_key by_number (follow_at 44 w) ring keys slots links o (Some f) (follow_outcome (followed (follow_at 44 w) c offset) slots') e₁
      (counted-as N by_key by_number (follow_at 44 w) (followed (follow_at 44 w) c offset) ring keys slots slots' links o f c offset e₂ e₃ refl))
