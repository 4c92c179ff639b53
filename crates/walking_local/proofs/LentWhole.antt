-- A local array that is lent for one call as a `&mut [T; n]`, and comes back: two steps of a walk, as `Lent.antt` and `LentArray.antt` of crate walking
-- have them for what a function is lent itself and for a local array that is lent as a slice.
--     array_lies       the array's cell, with what its elements own, is the array in memory
--     array_cell       the array in memory is its cell, at the elements' machine values
--     whole_to, whole_back       before the call and after it
-- They say nothing of a crate. Assumes `Logic`.
use mathlib.Core.Path.{refl, subst}
use Prim.Native.Nat.{ℕ}
use mathlib.Core.List.{List, [], ◌∷◌}
use seplogic.Ra.Ura.{Ura}
use base.Fraction.{full_share}
use mir.Syntax.{Ty, Lifetime, ty_array}
use mir.Val.{Val, vptr}
use base.Logic.{ent, sep}
use base.Fml.{GName, fsep, flft, flent, fat, fres}
use types.Logic.{Logic, sem}
use types.Kit.{Goal, Item, Soaks, ‵, ◌⊛◌, some, later, Seq, ◌$◌, ◌∵◌, !, qed, done, use1, use2, use3, await, pick, split, move, rewrite, fsplit, fjoin, fpick, fpack}
use types.SemTy.{Body}
use types.Tokens.{lft_new, lft_end}
use denote.RattleType.{RattleType}
use denote.Laws.{Is, Tells, Makes, shows}
use denote.Memory.{cell_at, lone, mem, part_of}
use denote.Array.{Array, array_vals, Array-Tells, Array-Makes}
use denote.Lend.{lends_ref, ref_back}
use denote.Ref.{MutRef}
use denote.Steps.{only, facts, owned}
use Rattle.walking.proofs.Lent.{lent_at}

module _ {M : Type 1} {𝓤 : Ura M} (𝓛 : Logic 𝓤) (R : RattleType) (n b o : ℕ) where
  open 𝓛 use {H}

  abbrev arr : Ty
  arr = ty_array (lone R.mir) n

  array_lies : (xs : List R.Denot) (v : Val) → ent 𝓤 (sep 𝓤 (H.at full_share arr b o v) (sem 𝓛 ((Array R n).own_val xs (v ∷ [])))) (sem 𝓛 ((mem (Array R n)).own_at xs b o))
  unfolding part_of
  array_lies xs v =
      qed 𝓛 (‵ (fat full_share arr b o v) ∷ ‵ ((Array R n).own_val xs (v ∷ [])) ∷ []) ∵ use1 𝓛 (‵ (cell_at full_share (Array R n).mir (v ∷ []) b o)) (𝓛.laws.at_raw full_share arr b o v) $ fjoin ! $
      fpack ! (List Val) (λ vs. fsep (cell_at full_share (Array R n).mir vs b o) ((Array R n).own_val xs vs)) (v ∷ []) $ done !

  array_cell : {K : Type 0} {Γ : List (Item 𝓤)} {G : Goal 𝓤 H} → K → (vals : R.Denot → List Val) → Tells R (Is R) vals → (zs : List R.Denot)
      → (Is (Array R n) zs (array_vals vals zs) → Seq K 𝓛 (‵ (fat full_share arr b o (only (array_vals vals zs))) ∷ Γ) G) → Seq K 𝓛 (‵ ((mem (Array R n)).own_at zs b o) ∷ Γ) G
  unfolding part_of
  array_cell t vals tl zs k =
      fpick t (λ vs. fsplit t $ move t (1 ∷ []) $ facts t (Array R n) (Is (Array R n)) (shows 𝓛 (Array R n)) zs vs (λ is.
      rewrite t 0 (λ (us : List Val). ‵ (cell_at full_share (Array R n).mir us b o)) (Array-Tells R vals tl n zs vs is) refl $
      use1 𝓛 (‵ (fat full_share arr b o (only (array_vals vals zs)))) (𝓛.laws.raw_at full_share arr b o (only (array_vals vals zs))) $ k (subst (Is (Array R n) zs) (Array-Tells R vals tl n zs vs is) is)))

-- Before the call [the array's cell; …] becomes [the callee's token; the reference; what is kept; …]; after it [the callee's token; what is kept; what says the last value; …] becomes [the array's cell; …]
module _ {M : Type 1} {𝓤 : Ura M} {𝓛 : Logic 𝓤} {K : Type 0} {Γ : List (Item 𝓤)} {G : Goal 𝓤 𝓛.H} where
  pub whole_to : K → Soaks G → (ℓ : Lifetime) (R : RattleType) → Makes 𝓛 R (Is R) → (n b : ℕ) (ys : List R.Denot) {v : Val} → Is (Array R n) ys (v ∷ [])
      → ((ν : ℕ) (δ : GName) → Seq K 𝓛 (‵ (flft (ν ∷ []) full_share) ∷ ‵ ((MutRef ℓ (ν ∷ []) (Array R n)).own_val (lent_at b 0 δ ys) (vptr b 0 ∷ [])) ∷ ‵ (flent (ν ∷ []) (Body (mem (Array R n)) b 0 δ)) ∷ Γ) G)
      → Seq K 𝓛 (‵ (fat full_share (ty_array (lone R.mir) n) b 0 v) ∷ Γ) G
  whole_to t s ℓ R mk n b ys {v} is k =
      owned t (Array R n) (Is (Array R n)) (Array-Makes 𝓛 R mk n) ys (v ∷ []) is $ move t (1 ∷ 0 ∷ []) $ use2 𝓛 (‵ ((mem (Array R n)).own_at ys b 0)) (array_lies 𝓛 R n b 0 ys v) $
      lft_new t s (λ ν. move t (1 ∷ []) $
      use1 𝓛 (later (some (λ (δ : GName). ‵ ((MutRef ℓ (ν ∷ []) (Array R n)).own_val (lent_at b 0 δ ys) (vptr b 0 ∷ [])) ⊛ ‵ (flent (ν ∷ []) (Body (mem (Array R n)) b 0 δ))))) (lends_ref 𝓛 (Array R n) ℓ (ν ∷ []) ys b 0) $ await t s $ pick t (λ δ. split t $ move t (2 ∷ []) $ k ν δ))

  pub whole_back : K → Soaks G → {ν : ℕ} {δ : GName} (R : RattleType) (vals : R.Denot → List Val) → Tells R (Is R) vals → (n b : ℕ) (zs : List R.Denot)
      → (Is (Array R n) zs (array_vals vals zs) → Seq K 𝓛 (‵ (fat full_share (ty_array (lone R.mir) n) b 0 (only (array_vals vals zs))) ∷ Γ) G)
      → Seq K 𝓛 (‵ (flft (ν ∷ []) full_share) ∷ ‵ (flent (ν ∷ []) (Body (mem (Array R n)) b 0 δ)) ∷ ‵ (fres δ ((Array R n).coded.code zs)) ∷ Γ) G
  whole_back t s {ν} {δ} R vals tl n b zs k =
      lft_end t s $ use3 𝓛 (later (‵ ((mem (Array R n)).own_at zs b 0))) (ref_back 𝓛 (Array R n) (ν ∷ []) δ zs b 0) $ await t s $ array_cell 𝓛 R n b 0 t vals tl zs k
