-- A filled template, byte by byte from its start. Assumes nothing.
use mathlib.Core.Path.{◌≡◌, refl, sym, ap, ◌∙◌}
use mathlib.Core.Bool.{Bool, true, false, cond}
use mathlib.Core.List.{List, [], ◌∷◌, ◌++◌, append_assoc, append-nil}
use Prim.Native.Nat.{ℕ, zero, suc, ◌+◌, ◌≤◌, ◌<◌}
use native.Mathlib.Omega.{arith}
use native.Mathlib.Nat.{le_refl, add-zero}
use native.Mathlib.Numerals.{add-one}
use lib.Dec.{eqb}
use lib.ListN.{length, get_or, take, drop}
use lib.Seq.{take-suc, drop-cons, drop-nil}
use borrow.Author.Tests.{eq-eqb, ne_eqb}
use Rattle.template.specs.declared.Shown.{Shown}
use Rattle.template.specs.Filled.{shown_text, place, filled, places}

-- what one byte of a template becomes, with the values that are left
abbrev piece : ℕ → List Shown → List ℕ
piece c [] = c ∷ []
piece c (v ∷ values) = cond (eqb c place) (shown_text v) (c ∷ [])

-- a template with one byte more
filled_snoc : (s : List ℕ) (c : ℕ) (values : List Shown) → filled (s ++ (c ∷ [])) values ≡ filled s values ++ piece c (drop (places s) values)
unfolding filled places
filled_snoc [] c [] = refl
filled_snoc [] c (v ∷ values) = go (eqb c place)
  where
    go : (b : Bool) → cond b (shown_text v ++ []) (c ∷ []) ≡ cond b (shown_text v) (c ∷ [])
    go true = append-nil (shown_text v)
    go false = refl
filled_snoc (d ∷ s) c [] = ap (λ (l : List Shown). d ∷ (s ++ piece c l)) (sym (drop-nil (places (d ∷ s))))
filled_snoc (d ∷ s) c (v ∷ values) = go (filled_snoc s c values) (filled_snoc s c (v ∷ values)) (eqb d place)
  where
    go : filled (s ++ (c ∷ [])) values ≡ filled s values ++ piece c (drop (places s) values)
        → filled (s ++ (c ∷ [])) (v ∷ values) ≡ filled s (v ∷ values) ++ piece c (drop (places s) (v ∷ values))
        → (b : Bool)
        → cond b (shown_text v ++ filled (s ++ (c ∷ [])) values) (d ∷ filled (s ++ (c ∷ [])) (v ∷ values))
        ≡ cond b (shown_text v ++ filled s values) (d ∷ filled s (v ∷ values)) ++ piece c (drop (cond b (suc (places s)) (places s)) (v ∷ values))
    go next same true =
        ap (λ (l : List ℕ). shown_text v ++ l) next
        ∙ sym (append_assoc (shown_text v) (filled s values) (piece c (drop (places s) values)))
    go next same false = ap (λ (l : List ℕ). d ∷ l) same

places_snoc : (s : List ℕ) (c : ℕ) → places (s ++ (c ∷ [])) ≡ places s + cond (eqb c place) 1 0
unfolding places
places_snoc [] c = go (eqb c place)
  where
    go : (b : Bool) → cond b (suc 0) 0 ≡ 0 + cond b 1 0
    go true = refl
    go false = refl
places_snoc (d ∷ s) c = go (places_snoc s c) (eqb d place)
  where
    go : places (s ++ (c ∷ [])) ≡ places s + cond (eqb c place) 1 0 → (b : Bool) → cond b (suc (places (s ++ (c ∷ [])))) (places (s ++ (c ∷ []))) ≡ cond b (suc (places s)) (places s) + cond (eqb c place) 1 0
    go e true = omega (arith, e)
    go e false = e

-- the first bytes of a template have no more places than the whole
pub places-take : (i : ℕ) (t : List ℕ) → places (take i t) ≤ places t
unfolding places
places-take zero t = omega arith
places-take (suc i) [] = le_refl 0
places-take (suc i) (c ∷ t) = go (places-take i t) (eqb c place)
  where
    go : places (take i t) ≤ places t → (b : Bool) → cond b (suc (places (take i t))) (places (take i t)) ≤ cond b (suc (places t)) (places t)
    go l true = omega (arith, l)
    go l false = l

module _ (t : List ℕ) (i : ℕ) (h : i < length t) where
  take_next : take (i + 1) t ≡ take i t ++ (get_or t i 0 ∷ [])
  take_next = ap (λ (k : ℕ). take k t) (add-one i) ∙ take-suc t i 0 h

  -- a place is counted
  pub place-counted : get_or t i 0 ≡ place → places (take (i + 1) t) ≡ places (take i t) + 1
  place-counted e = ap places take_next ∙ places_snoc (take i t) (get_or t i 0) ∙ ap (λ (b : Bool). places (take i t) + cond b 1 0) (eq-eqb _ _ e)

  -- any other byte is not
  pub byte_passed : (get_or t i 0 ≡ place → ⊥) → places (take (i + 1) t) ≡ places (take i t)
  byte_passed e = ap places take_next ∙ places_snoc (take i t) (get_or t i 0) ∙ ap (λ (b : Bool). places (take i t) + cond b 1 0) (ne_eqb _ _ e) ∙ add-zero (places (take i t))

  -- A place is filled by the value behind those of the places before it.
  pub place-filled : (values : List Shown) (d : Shown) → get_or t i 0 ≡ place → places (take i t) < length values
      → filled (take (i + 1) t) values ≡ filled (take i t) values ++ shown_text (get_or values (places (take i t)) d)
  place-filled values d e l =
      ap (λ (s : List ℕ). filled s values) take_next
      ∙ filled_snoc (take i t) (get_or t i 0) values
      ∙ ap (λ (vs : List Shown). filled (take i t) values ++ piece (get_or t i 0) vs) (drop-cons values (places (take i t)) d l)
      ∙ ap (λ (b : Bool). filled (take i t) values ++ cond b (shown_text (get_or values (places (take i t)) d)) (get_or t i 0 ∷ [])) (eq-eqb _ _ e)

  -- Any other byte stays as it is.
  pub byte_copied : (values : List Shown) → (get_or t i 0 ≡ place → ⊥) → filled (take (i + 1) t) values ≡ filled (take i t) values ++ (get_or t i 0 ∷ [])
  byte_copied values e =
      ap (λ (s : List ℕ). filled s values) take_next
      ∙ filled_snoc (take i t) (get_or t i 0) values
      ∙ ap (λ (l : List ℕ). filled (take i t) values ++ l) (plain (drop (places (take i t)) values))
    where
      plain : (vs : List Shown) → piece (get_or t i 0) vs ≡ get_or t i 0 ∷ []
      plain [] = refl
      plain (v ∷ vs) = ap (λ (b : Bool). cond b (shown_text v) (get_or t i 0 ∷ [])) (ne_eqb _ _ e)
