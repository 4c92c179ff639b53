-- The call rule, for a caller that walks, and how its facts are handed over. They say nothing of a crate.
--     asks             what plain parameters own, and what the callee requires, are had for nothing
--     holds            a goal P ∗ Q, where Q is had for nothing: P is left
--     twice            what is Copy is had twice
--     calls_gave       what i has is what the callee asks. Once it has returned r at v: the tokens are back as j, what says the last values ws is there, and what the callee ensures is the fact ψ r ws
--     calls-plain      the same of a callee that asks nothing that is owned
--     whiles, unless   the test of a `while`, and an `if` with no `else`: the rest of the part runs where the test held, or where it failed
--     big_lit          a constant that is too big for `lit`, as 4096 is
--     most, more       a counter that is at most a number that fits, fits, and where it is below it, one more does
-- Assumes `Logic`.
use mathlib.Core.List.{List, [], ◌∷◌}
use seplogic.Ra.Ura.{Ura}
use mathlib.Core.Bool.{Bool, not}
use Prim.Native.Nat.{ℕ, ◌+◌, ◌<◌, ◌≤◌}
use native.Mathlib.Omega.{arith}
use lib.Dec.{T}
use mir.Syntax.{Callee, Place, Opd as Operand, Body, skip, seq, cond, exit, call, Width, int_big}
use mir.Val.{Val, vbool, vint, Fits}
use base.Logic.{SProp, guard_i, ent, sep, emp, id⊢, via, mono_l, comm∗, emp∗, mono∗}
use base.Fml.{ftrue}
use prog.Wp.{Env, Calls, Loops, Wp, exits, after_seq}
use types.Logic.{Logic, sem}
use contract.Monad.{fact}
use sound.WpLaws.{FmC}
use types.Kit.{Goal, Item, Step, step, ‵, raw, ◌⊛◌, some, later, mean, Post, post, any_q, prop, runs, lands, Seq, ◌$◌, use0, use1, await, pick, split, move, drop}
use types.Run.{Opd, Opds, first, branches, skips, jumps}
use denote.RattleType.{RattleType, Denots, Valss, owns}
use denote.Laws.{Is, Ises, Are, Makess, Copy, owns_make, shows}
use denote.Signature.{type_at}
use denote.Steps.{heard, facts}
use denote.Triple.Entry.{Res, alive}
use denote.Triple.Statement.{Triple}
use denote.Triple.Spec.{triple_of}
use denote.Triple.Clauses.{Ended, Clauses, Lasts, at_exit, closing, lasts}
use denote.Triple.Call.{calls_at}

-- what plain parameters own is had for nothing
pub asks : {M : Type 1} {𝓤 : Ura M} (𝓛 : Logic 𝓤) (Rs : List RattleType) → Makess 𝓛 Rs (Ises Rs) → (a : Denots Rs) (vss : Valss Rs) → Are Rs (Ises Rs) a vss → (P : SProp 𝓤) → ent 𝓤 (emp 𝓤) P
    → ent 𝓤 (emp 𝓤) (sep 𝓤 (sep 𝓤 (emp 𝓤) (sem 𝓛 (owns Rs a vss))) P)
asks {𝓤 = 𝓤} 𝓛 Rs mk a vss are P p =
    via 𝓤 (sep 𝓤 (emp 𝓤) (emp 𝓤)) (emp∗ 𝓤 (emp 𝓤)) (mono∗ 𝓤 (via 𝓤 (sep 𝓤 (emp 𝓤) (emp 𝓤)) (emp∗ 𝓤 (emp 𝓤)) (mono∗ 𝓤 (id⊢ 𝓤 (emp 𝓤)) (owns_make 𝓛 Rs (Ises Rs) mk a vss are))) p)

module _ {M : Type 1} {𝓤 : Ura M} {𝓛 : Logic 𝓤} {K : Type 0} {Γ : List (Item 𝓤)} where
  open 𝓛 use {H}

  pub holds : K → {P Q : SProp 𝓤} → ent 𝓤 (emp 𝓤) Q → Step K 𝓛 Γ (prop P) Γ (prop (sep 𝓤 P Q))
  holds t {P} {Q} had = step (λ s. record { prf = via 𝓤 P s.prf (via 𝓤 (sep 𝓤 (emp 𝓤) P) (emp∗ 𝓤 P) (via 𝓤 (sep 𝓤 Q P) (mono_l 𝓤 P had) (comm∗ 𝓤 Q P))) })

  pub twice : K → {G : Goal 𝓤 H} {R : RattleType} → Copy 𝓛 R → (x : R.Denot) (vs : List Val) → Step K 𝓛 (‵ (R.own_val x vs) ∷ ‵ (R.own_val x vs) ∷ Γ) G (‵ (R.own_val x vs) ∷ Γ) G
  twice t {G} {R} copy x vs = step (λ s. use1 𝓛 (‵ (R.own_val x vs) ⊛ ‵ (R.own_val x vs)) (copy.twice x vs) $ split t $ s)

module _ {M : Type 1} {𝓤 : Ura M} {𝓛 : Logic 𝓤} {K : Type 0} {Γ : List (Item 𝓤)} {E : Env 𝓤 𝓛.H} {C : Calls 𝓤 𝓛.H} {Λ : Loops 𝓤 𝓛.H} {q : Post 𝓤 𝓛.H} {d : Place} {f : Callee} {xs : List Operand} {rest : Body} where
  open 𝓛 use {H}

  pub calls_gave : K → FmC 𝓤 H 𝓛.laws C → (T : Ended) (c : Clauses 𝓤 T) → Triple 𝓤 (C f) (triple_of 𝓛 T.signature (closing 𝓛 T c))
      → (y : (triple_of 𝓛 T.signature (closing 𝓛 T c)).Ghost) {i : Item 𝓤} (j : Item 𝓤)
      → ent 𝓤 (mean 𝓛 i) ((triple_of 𝓛 T.signature (closing 𝓛 T c)).pre y) → ent 𝓤 (alive 𝓛 T.signature y.0.0 y.0.1) (mean 𝓛 j)
      → (ψ : Res T.signature y.0.0 → Lasts T y.0.0 y.0.3 → Type 0)
      → ((r : Res T.signature y.0.0) (ws : Lasts T y.0.0 y.0.3) → ent 𝓤 ((c y.0.0 y.0.3).ensures y.1 r (at_exit T y.0.0 y.0.3 ws)) (fact 𝓤 (ψ r ws)))
      → Opds K 𝓛 (raw ((triple_of 𝓛 T.signature (closing 𝓛 T c)).pre y) ∷ Γ) E xs ((triple_of 𝓛 T.signature (closing 𝓛 T c)).args y)
      → ((r : Res T.signature y.0.0) (v : Val) (ws : Lasts T y.0.0 y.0.3) → ψ r ws → Is (type_at T.signature.result y.0.0) r (v ∷ []) → Seq K 𝓛 (j ∷ ‵ (lasts T y.0.0 y.0.3 ws) ∷ Γ) (lands C Λ E d v rest q))
      → Seq K 𝓛 (i ∷ Γ) (runs C Λ E (seq (call f xs d) rest) q)
  calls_gave t fm T c known y j into back ψ out os k =
      use1 𝓛 (raw ((triple_of 𝓛 T.signature (closing 𝓛 T c)).pre y)) into $ calls_at t fm (triple_of 𝓛 T.signature (closing 𝓛 T c)) known y os (λ v.
      use1 𝓛 (later (some (λ (r : Res T.signature y.0.0). (raw (alive 𝓛 T.signature y.0.0 y.0.1) ⊛ ‵ ((type_at T.signature.result y.0.0).own_val r (v ∷ []))) ⊛ some (λ (ws : Lasts T y.0.0 y.0.3). ‵ (lasts T y.0.0 y.0.3 ws) ⊛ raw ((c y.0.0 y.0.3).ensures y.1 r (at_exit T y.0.0 y.0.3 ws)))))) (id⊢ 𝓤 _) $ await t tt $ pick t (λ r.
      split t $ split t $ use1 𝓛 j back $ move t (2 ∷ []) $ pick t (λ ws. split t $
      -- [what says the last values; what is ensured; the tokens; the result; …]
      move t (1 ∷ []) $ use1 𝓛 (raw (fact 𝓤 (ψ r ws))) (out r ws) $ heard t (ψ r ws) (λ e. move t (2 ∷ []) $
      facts t (type_at T.signature.result y.0.0) (Is (type_at T.signature.result y.0.0)) (shows 𝓛 (type_at T.signature.result y.0.0)) r (v ∷ []) (λ is. move t (1 ∷ 0 ∷ []) $ k r v ws e is)))))

  pub calls-plain : K → FmC 𝓤 H 𝓛.laws C → (T : Ended) (c : Clauses 𝓤 T) → Triple 𝓤 (C f) (triple_of 𝓛 T.signature (closing 𝓛 T c))
      → (y : (triple_of 𝓛 T.signature (closing 𝓛 T c)).Ghost) → ent 𝓤 (emp 𝓤) ((triple_of 𝓛 T.signature (closing 𝓛 T c)).pre y)
      → (ψ : Res T.signature y.0.0 → Lasts T y.0.0 y.0.3 → Type 0)
      → ((r : Res T.signature y.0.0) (ws : Lasts T y.0.0 y.0.3) → ent 𝓤 ((c y.0.0 y.0.3).ensures y.1 r (at_exit T y.0.0 y.0.3 ws)) (fact 𝓤 (ψ r ws)))
      → Opds K 𝓛 (raw ((triple_of 𝓛 T.signature (closing 𝓛 T c)).pre y) ∷ Γ) E xs ((triple_of 𝓛 T.signature (closing 𝓛 T c)).args y)
      → ((r : Res T.signature y.0.0) (v : Val) (ws : Lasts T y.0.0 y.0.3) → ψ r ws → Is (type_at T.signature.result y.0.0) r (v ∷ []) → Seq K 𝓛 Γ (lands C Λ E d v rest q))
      → Seq K 𝓛 Γ (runs C Λ E (seq (call f xs d) rest) q)
  calls-plain t fm T c known y into ψ out os k =
      use0 𝓛 (‵ ftrue) (id⊢ 𝓤 (emp 𝓤)) $ calls_gave t fm T c known y (raw (alive 𝓛 T.signature y.0.0 y.0.1)) into (id⊢ 𝓤 _) ψ out os (λ r v ws e is. drop t $ drop t $ k r v ws e is)

module _ {M : Type 1} {𝓤 : Ura M} {𝓛 : Logic 𝓤} {K : Type 0} {Γ : List (Item 𝓤)} {E : Env 𝓤 𝓛.H} {C : Calls 𝓤 𝓛.H} {Λ : Loops 𝓤 𝓛.H} {q : Post 𝓤 𝓛.H} {c : Operand} {y : Bool} where
  open 𝓛 use {H}

  pub whiles : K → {n : ℕ} {b : Body} → Opd K 𝓛 Γ E c (vbool y) → (T y → Seq K 𝓛 Γ (runs C Λ E b q)) → (T (not y) → Seq K 𝓛 Γ (prop (post 𝓤 H q (exits n)))) → Seq K 𝓛 Γ (runs C Λ E (seq (cond c skip (exit n)) b) q)
  whiles t o on out = first t $ branches t o (λ h. skips t $ record { prf = (on h).prf }) (λ h. jumps t $ record { prf = (out h).prf })

  pub unless : K → {a b : Body} → Opd K 𝓛 Γ E c (vbool y) → (T y → Seq K 𝓛 Γ (runs C Λ E a (any_q (after_seq 𝓤 H (Wp 𝓤 H C Λ E b (post 𝓤 H q)) (post 𝓤 H q))))) → (T (not y) → Seq K 𝓛 Γ (runs C Λ E b q)) → Seq K 𝓛 Γ (runs C Λ E (seq (cond c a skip) b) q)
  unless t o taken on = first t $ branches t o taken (λ h. skips t $ record { prf = (on h).prf })

pub most : {i n m : ℕ} → i ≤ n → n < m → i < m
most l h = omega arith

pub more : {i n m : ℕ} → i < n → n < m → i + 1 < m
more l h = omega arith

module _ {M : Type 1} {𝓤 : Ura M} {𝓛 : Logic 𝓤} {K : Type 0} {Γ : List (Item 𝓤)} {E : Env 𝓤 𝓛.H} where
  pub big_lit : K → {w : Width} {n : ℕ} → Fits w n → Opd K 𝓛 Γ E (int_big w n) (vint w n)
  big_lit t {w} {n} z = record { go = λ Kt h. via 𝓤 (Kt (vint w n)) h (guard_i 𝓤 (Fits w n) (Kt (vint w n)) z) }
