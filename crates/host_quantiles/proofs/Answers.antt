-- What the proofs of the calls cite: each case of the library's answer. Assumes nothing.
use mathlib.Core.Path.{◌≡◌, refl, sym, ap, ◌∙◌, subst}
use mathlib.Core.Bool.{Bool, true, false, not}
use borrow.Author.Tests.{ne_eqb}
use mathlib.Core.List.{List}
use Prim.Native.Nat.{ℕ, zero, suc, ◌+◌, ◌^◌, ◌<◌}
use native.Mathlib.Omega.{arith}
use lib.Ieee.{Float}
use lib.ListN.{get_or, set}
use lib.Seq.{set-get_or, get_or-set_other}
use Rattle.host_numbers.specs.Numbers.{flag_word, is_set}
use Rattle.quantiles.specs.declared.Quantiles.{Quantiles}
use Rattle.std.specs.Prelude.{Option, Some, None, Result, Ok, Err}
use Rattle.limits.specs.declared.Refusal.{Refusal}
use Rattle.limits.specs.Numbers.{number_of}
use Rattle.quantiles.specs.Record as record-call
use Rattle.quantiles.specs.Between.{one_more, Tried}
use Rattle.quantiles.proofs.Numbers.{some_number}
use Rattle.quantiles.proofs.Determined.{refusal_changes_nothing}
use Rattle.percentiles.specs.Percentiles as percentiles-call
use Rattle.percentiles.proofs.Determined.{refusal-has_no_values}
use Rattle.host_quantiles.specs.Calls.{quantiles_at, words_with, started, fresh_to, record_left, record_by, record_to, percentiles_left, percentiles_by, percentiles_to}
use Rattle.host_quantiles.specs.Kept.{state_of, Kept, kept, kept_by}

pub fresh-said : (ws : List ℕ) (signed n : ℕ) → n ≡ flag_word (is_set signed) → started 0 (set (set (set (set ws 0 n) 1 0) 2 0) 3 0) ≡ fresh_to ws signed
unfolding fresh_to
fresh-said ws signed n is = ap (λ (m : ℕ). started 0 (set (set (set (set ws 0 m) 1 0) 2 0) 3 0)) is

-- ---- record

-- the words that say a state are those of that state
same-words : (ws : List ℕ) → words_with ws (quantiles_at ws) ≡ ws
same-words ws =
    ap (λ (l : List ℕ). set (set l 2 (get_or ws 2 0)) 3 (get_or ws 3 0)) (set-get_or ws 1 0)
    ∙ ap (λ (l : List ℕ). set l 3 (get_or ws 3 0)) (set-get_or ws 2 0)
    ∙ set-get_or ws 3 0

module _ (ws room after recorded : List ℕ) (value : ℕ) (q : Quantiles) (a : Result (Option Quantiles) Refusal) (is : q ≡ quantiles_at ws) (left : record-call.outcome q a after ≡ record-call.recorded q room value) where
  -- the outcome of the answer is the library's
  from_answer : (b : Result (Option Quantiles) Refusal) → a ≡ b → record-call.outcome (quantiles_at ws) b after ≡ record-call.recorded (quantiles_at ws) room value
  from_answer b told =
      ap (λ (c : Result (Option Quantiles) Refusal). record-call.outcome (quantiles_at ws) c after) (sym told)
      ∙ ap (λ (p : Quantiles). record-call.outcome p a after) (sym is)
      ∙ left
      ∙ ap (λ (p : Quantiles). record-call.recorded p room value) is

  pub record-refused : (r : Refusal) → a ≡ Err r → record_left (number_of r) ws after recorded ≡ record_to ws room value recorded
  unfolding record_to record-call.outcome record-call.still
  record-refused r told =
      let e = from_answer (Err r) told in
      ap (λ (l : List ℕ). record_left (number_of r) ws l recorded) (ap (λ (o : record-call.Outcome). o.room) (e ∙ refusal_changes_nothing (quantiles_at ws) room value (λ z. some_number r (ap (λ (o : record-call.Outcome). o.number) e ∙ z))))
      ∙ refused (number_of r) (record-call.still (number_of r) (quantiles_at ws) after) (some_number r)
      ∙ ap (λ (o : record-call.Outcome). record_by o.number o ws room recorded) e
    where
      refused : (n : ℕ) (o : record-call.Outcome) → (n ≡ 0 → ⊥) → record_left n ws room recorded ≡ record_by n o ws room recorded
      refused zero o some = absurd (some refl)
      refused (suc n) o some = refl

  pub record-full : a ≡ Ok None → record_left 0 ws after (set recorded 0 0) ≡ record_to ws room value recorded
  unfolding record_to record-call.outcome record-call.still
  record-full told =
      ap (λ (l : List ℕ). record_left 0 l after (set recorded 0 0)) (sym (same-words ws))
      ∙ ap (λ (o : record-call.Outcome). record_by o.number o ws room recorded) (from_answer (Ok None) told)

  pub record-counted : (next : Quantiles) → a ≡ Ok (Some next)
      → record_left 0 (set (set (set ws 1 next.count) 2 next.min) 3 next.max) after (set recorded 0 1) ≡ record_to ws room value recorded
  unfolding record_to record-call.outcome record-call.taken
  record-counted next told = ap (λ (o : record-call.Outcome). record_by o.number o ws room recorded) (from_answer (Ok (Some next)) told)

-- what is kept of an answer is what the call leaves
pub record-kept : (ws room after recorded : List ℕ) (value : ℕ) (q : Quantiles) (a : Result (Option Quantiles) Refusal) → q ≡ quantiles_at ws → record-call.outcome q a after ≡ record-call.recorded q room value
    → (n : ℕ) (words answered : List ℕ) → kept n words answered ≡ kept_by a ws recorded → record_left n words after answered ≡ record_to ws room value recorded
record-kept ws room after recorded value q (Err r) is left n words answered e =
    ap (λ (k : Kept). record_left k.number k.words after k.recorded) e ∙ record-refused ws room after recorded value q (Err r) is left r refl
record-kept ws room after recorded value q (Ok None) is left n words answered e =
    ap (λ (k : Kept). record_left k.number k.words after k.recorded) e ∙ record-full ws room after recorded value q (Ok None) is left refl
record-kept ws room after recorded value q (Ok (Some next)) is left n words answered e =
    ap (λ (k : Kept). record_left k.number k.words after k.recorded) e ∙ record-counted ws room after recorded value q (Ok (Some next)) is left next refl

-- the state of the kind that the flag says is the one that the words say
pub kind_unsigned : (ws : List ℕ) (q : Quantiles) → q ≡ state_of ws false → get_or ws 0 0 ≡ 0 → q ≡ quantiles_at ws
kind_unsigned ws q is e = is ∙ ap (state_of ws) (sym (ap is_set e))

pub kind_signed : (ws : List ℕ) (q : Quantiles) → q ≡ state_of ws true → (get_or ws 0 0 ≡ 0 → ⊥) → q ≡ quantiles_at ws
kind_signed ws q is n = is ∙ ap (state_of ws) (sym (ap not (ne_eqb (get_or ws 0 0) 0 n)))

-- a sample that changes neither the least nor the greatest leaves their words as they are
one_more-words : (ws : List ℕ) → words_with ws (one_more (quantiles_at ws)) ≡ set ws 1 (get_or ws 1 0 + 1)
one_more-words ws =
    ap (λ (x : ℕ). set (set after 2 x) 3 (get_or ws 3 0)) (sym (get_or-set_other ws 1 2 (get_or ws 1 0 + 1) 0 (λ e. two e)))
    ∙ ap (λ (l : List ℕ). set l 3 (get_or ws 3 0)) (set-get_or after 2 0)
    ∙ ap (λ (x : ℕ). set after 3 x) (sym (get_or-set_other ws 1 3 (get_or ws 1 0 + 1) 0 (λ e. three e)))
    ∙ set-get_or after 3 0
  where
    after : List ℕ
    after = set ws 1 (get_or ws 1 0 + 1)

    two : ◌≡◌ {A = ℕ} 2 1 → ⊥
    two e = omega arith

    three : ◌≡◌ {A = ℕ} 3 1 → ⊥
    three e = omega arith

-- where a try took the sample, the count's word alone is what the call leaves
pub record_tried : (ws room after recorded : List ℕ) (value : ℕ) (q : Quantiles) → q ≡ quantiles_at ws → (t : Bool) → t ≡ true → Tried t q room value after
    → record_left 0 (set ws 1 (q.count + 1)) after (set recorded 0 1) ≡ record_to ws room value recorded
unfolding record-call.outcome
record_tried ws room after recorded value q is t was tried =
    ap (λ (p : Quantiles). record_left 0 (set ws 1 (p.count + 1)) after (set recorded 0 1)) is
    ∙ ap (λ (l : List ℕ). record_left 0 l after (set recorded 0 1)) (sym (one_more-words ws))
    ∙ ap (λ (p : Quantiles). record_left 0 (words_with ws (one_more p)) after (set recorded 0 1)) (sym is)
    ∙ record-counted ws room after recorded value q (Ok (Some (one_more q))) is (subst (λ (b : Bool). Tried b q room value after) was tried).1 (one_more q) refl

-- and the count has room for it
pub tried_fits : (q : Quantiles) (room after : List ℕ) (value : ℕ) (t : Bool) → t ≡ true → Tried t q room value after → q.count + 1 < 2 ^ 64
tried_fits q room after value t was tried = (subst (λ (b : Bool). Tried b q room value after) was tried).0

-- where it did not, the room is as it was
pub not_tried : (ws room after recorded : List ℕ) (value n : ℕ) (words left answered : List ℕ) (q : Quantiles) (t : Bool) → t ≡ false → Tried t q room value after
    → record_left n words left answered ≡ record_to ws after value recorded → record_left n words left answered ≡ record_to ws room value recorded
not_tried ws room after recorded value n words left answered q t was tried e =
    e ∙ ap (λ (r : List ℕ). record_to ws r value recorded) (subst (λ (b : Bool). Tried b q room value after) was tried)

-- ---- percentiles

module _ (ws room : List ℕ) (percents : List Float) (shown after present : List ℕ) (q : Quantiles) (a : Result Bool Refusal) (is : q ≡ quantiles_at ws) (left : percentiles-call.outcome a after ≡ percentiles-call.percentiles_of q room percents shown) where
  from_showing : (b : Result Bool Refusal) → a ≡ b → percentiles-call.outcome b after ≡ percentiles-call.percentiles_of (quantiles_at ws) room percents shown
  from_showing b told =
      ap (λ (c : Result Bool Refusal). percentiles-call.outcome c after) (sym told) ∙ left ∙ ap (λ (p : Quantiles). percentiles-call.percentiles_of p room percents shown) is

  pub percentiles-refused : (r : Refusal) (n : ℕ) → a ≡ Err r → n ≡ number_of r → percentiles_left n after present ≡ percentiles_to ws room percents shown present
  unfolding percentiles_to percentiles-call.outcome
  percentiles-refused r n told number =
      let e = from_showing (Err r) told in
      ap (λ (m : ℕ). percentiles_left m after present) number
      ∙ ap (λ (l : List ℕ). percentiles_left (number_of r) l present) (ap (λ (o : percentiles-call.Outcome). o.shown) (e ∙ refusal-has_no_values (quantiles_at ws) room percents shown (λ z. some_number r (ap (λ (o : percentiles-call.Outcome). o.number) e ∙ z))))
      ∙ refused (number_of r) (percentiles-call.outcome (Err r) after) (some_number r)
      ∙ ap (λ (o : percentiles-call.Outcome). percentiles_by o.number o shown present) e
    where
      refused : (n : ℕ) (o : percentiles-call.Outcome) → (n ≡ 0 → ⊥) → percentiles_left n shown present ≡ percentiles_by n o shown present
      refused zero o some = absurd (some refl)
      refused (suc n) o some = refl

  pub percentiles-served : (values : Bool) (word : ℕ) → a ≡ Ok values → word ≡ flag_word values → percentiles_left 0 after (set present 0 word) ≡ percentiles_to ws room percents shown present
  unfolding percentiles_to percentiles-call.outcome
  percentiles-served values word told is-word =
      ap (λ (w : ℕ). percentiles_left 0 after (set present 0 w)) is-word
      ∙ ap (λ (o : percentiles-call.Outcome). percentiles_by o.number o shown present) (from_showing (Ok values) told)
