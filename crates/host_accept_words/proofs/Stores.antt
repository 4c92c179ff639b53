-- The stores of a unique reply: its counts first, then the call and both rings, which stand in words before them. Assumes nothing.
use mathlib.Core.Path.{◌≡◌, refl, sym, ap, ◌∙◌}
use mathlib.Core.Bool.{Bool, true}
use mathlib.Core.List.{List, [], ◌∷◌}
use Prim.Native.Nat.{ℕ, suc, ◌+◌, ◌%◌, ◌^◌, ◌≤◌, ◌<◌}
use native.Mathlib.Omega.{arith}
use lib.Dec.{leb}
use lib.ListN.{length, get_or, set}
use lib.Seq.{sets, set_comm, get_or-set_other}
use Rattle.limits.specs.Limits.{capacity}
use Rattle.call_types.specs.declared.Reply.{Reply}
use Rattle.chains.specs.declared.Ring.{Ring}
use Rattle.replies.specs.declared.Replies.{Replies}
use Rattle.replies.specs.Served.{after_unique}
use Rattle.ledger_steps.specs.Accept.{is_pending, ledger_unique}
use Rattle.host_ledger.specs.Parts.{replies_at, replies_words}
use Rattle.host_ledger.specs.Words.{tables_at, ledger_at, tables_words}
use Rattle.host_ledger.specs.Left.{accepted_words}
use Rattle.host_unique_reply.specs.Stored.{replies_stored}
use Rattle.host_accept_words.specs.Accept.{rings_stored}

-- ---- stores that are apart

-- stores change no word before them
before_sets : (xs w : List ℕ) (at i : ℕ) → i < at → get_or (sets w at xs) i 0 ≡ get_or w i 0
before_sets [] w at i h = refl
before_sets (x ∷ xs) w at i h =
    before_sets xs (set w at x) (suc at) i (omega (arith, h)) ∙ get_or-set_other w at i x 0 (λ q. omega (arith, h, q))

set_past : (xs w : List ℕ) (i a at : ℕ) → i < at → sets (set w i a) at xs ≡ set (sets w at xs) i a
set_past [] w i a at h = refl
set_past (x ∷ xs) w i a at h =
    ap (λ (v : List ℕ). sets v (suc at) xs) (set_comm w i at a x (λ q. omega (arith, h, q))) ∙ set_past xs (set w at x) i a (suc at) (omega (arith, h))

-- which come first is the same
sets_past : (ys xs w : List ℕ) (i at : ℕ) → i + length ys ≤ at → sets (sets w i ys) at xs ≡ sets (sets w at xs) i ys
sets_past [] xs w i at h = refl
sets_past (y ∷ ys) xs w i at h =
    sets_past ys xs (set w i y) (suc i) at (omega (arith, h)) ∙ ap (λ (v : List ℕ). sets v (suc i) ys) (set_past xs w i y at (omega (arith, h)))

-- ---- a unique reply

-- the counts leave the calls as they were
pub calls_stay : (w w₁ : List ℕ) (r : Replies) → w₁ ≡ replies_stored w r → get_or w₁ 5 0 ≡ get_or w 5 0
unfolding replies_stored
calls_stay w w₁ r e =
    ap (λ (v : List ℕ). get_or v 5 0) e
    ∙ get_or-set_other (sets w 11 (replies_words r)) 72 5 r.evicted.unanswered 0 (λ q. omega (arith, q))
    ∙ before_sets (replies_words r) w 11 5 (omega arith)

stored_is : (w w₁ w₂ : List ℕ) (keys probes : Ring) (r : Replies) → w₁ ≡ replies_stored w r → w₂ ≡ rings_stored w₁ keys probes
    → w₂ ≡ accepted_words w (ledger_unique (ledger_at w) keys probes r)
unfolding accepted_words ledger_at rings_stored replies_stored
stored_is w w₁ w₂ keys probes r e₁ e₂ =
    e₂
    ∙ (λ i. sets (set (e₁ i) 5 (calls_stay w w₁ r e₁ i + 1)) 6 (tables_words (record { keys = keys; probes = probes; awaits = true })))
    ∙ sym (sets_past rings (r.evicted.unanswered ∷ []) (sets w 11 (replies_words r)) 5 72 (omega arith))
    ∙ ap (λ (v : List ℕ). set v 72 r.evicted.unanswered) (sym (sets_past rings (replies_words r) w 5 11 (omega arith)))
  where
    rings : List ℕ
    rings = (get_or w 5 0 + 1) ∷ tables_words (record { keys = keys; probes = probes; awaits = true })

pub unique-stored :
    (w w₁ w₂ : List ℕ) (a : Reply) (before : ℕ) (pending probe lost : Bool) (keys probes : Ring) → pending ≡ is_pending a.pending
    → w₁ ≡ replies_stored w (after_unique before (get_or w 0 0 % 2 ^ 16) pending a.key.sender a.key.reflector probe lost (leb capacity (get_or w 7 0)) (replies_at 11 72 w))
    → w₂ ≡ rings_stored w₁ keys probes
    → w₂ ≡ accepted_words w (ledger_unique (ledger_at w) keys probes (after_unique before (ledger_at w).copies (is_pending a.pending) a.key.sender a.key.reflector probe lost (leb capacity (ledger_at w).tables.keys.len) (ledger_at w).counts.replies))
unfolding ledger_at tables_at
unique-stored w w₁ w₂ a before pending probe lost keys probes ep e₁ e₂ =
    stored_is w w₁ w₂ keys probes _ e₁ e₂
    ∙ ap (λ (p : Bool). accepted_words w (ledger_unique (ledger_at w) keys probes (after_unique before (get_or w 0 0 % 2 ^ 16) p a.key.sender a.key.reflector probe lost (leb capacity (get_or w 7 0)) (replies_at 11 72 w)))) ep
