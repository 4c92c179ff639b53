-- From what the code stores to the words of a call. Assumes nothing.
use Rattle.std.specs.Prelude.{None}
use mathlib.Core.Path.{◌≡◌, ap, ◌∙◌}
use mathlib.Core.List.{List, [], ◌∷◌, ◌++◌}
use Prim.Native.Nat.{ℕ, ◌+◌}
use lib.ListN.{get_or, set, replicate}
use mir.Syntax.{w32, w64}
use mir.Val.{of_z}
use Rattle.host_numbers.specs.Numbers.{lower, upper}
use Rattle.call_types.specs.declared.Reply.{Reply}
use Rattle.call_types.specs.declared.ReplyObservation.{ReplyObservation}
use Rattle.call_types.specs.declared.SentProbe.{SentProbe}
use Rattle.record_parts.specs.Parts.{observe_flags, pending_flag, pending_time, pending_tag, time_word, ordinal_number}
use Rattle.record_parts.specs.Parts.{sender_count, received_count, transmitted_count, follow_sequence, follow_timestamp}
use Rattle.host_call_words.specs.Words.{wires, sent_words, accept_words, observation_words, observe_words}
use Rattle.host_call_words.specs.Stores.{long_at}

abbrev zeros : List ℕ
zeros = replicate 44 0

pub long-stored : (w : List ℕ) (at n l h : ℕ) → l ≡ lower n → h ≡ upper n → set (set w at l) (at + 1) h ≡ long_at w at n
long-stored w at n l h el eh = λ i. set (set w at (el i)) (at + 1) (eh i)

pub sent-stored : (p : SentProbe) (w₁ w₂ : List ℕ) → w₁ ≡ long_at zeros 2 p.packet.time → w₂ ≡ long_at w₁ 4 p.packet.tag
    → set (set (set w₂ 6 p.sequence) 7 p.ordinal) 1 p.train ≡ sent_words p
sent-stored p w₁ w₂ e f = ap (λ (w : List ℕ). set (set (set w 6 p.sequence) 7 p.ordinal) 1 p.train) (f ∙ ap (λ (w : List ℕ). long_at w 4 p.packet.tag) e)

pub accept-stored : (r : Reply) (w₁ w₂ w₃ : List ℕ) (t g k : ℕ) → w₁ ≡ long_at (set zeros 0 1) 8 r.key.t3 → t ≡ pending_time r.pending
    → w₂ ≡ long_at w₁ 10 t → g ≡ pending_tag r.pending → w₃ ≡ long_at w₂ 12 g → k ≡ pending_flag r.pending
    → set (set (set w₃ 14 r.key.sender) 15 r.key.reflector) 16 k ≡ accept_words r
accept-stored r w₁ w₂ w₃ t g k e₁ et e₂ eg e₃ ek =
    let second : w₂ ≡ long_at (long_at (set zeros 0 1) 8 r.key.t3) 10 (pending_time r.pending) = e₂ ∙ (λ i. long_at (e₁ i) 10 (et i)) in
    let third = e₃ ∙ (λ i. long_at (second i) 12 (eg i)) in
    λ i. set (set (set (third i) 14 r.key.sender) 15 r.key.reflector) 16 (ek i)

-- the words one after the other
pub observation-listed : (o : ReplyObservation) (a b t k₁ k₂ r₁ r₂ a₁ a₂ b₁ b₂ t₁ t₂ n s r u q z e f : ℕ)
    → a ≡ time_word o.t4 → b ≡ of_z w64 o.reference → t ≡ follow_timestamp o.follow
    → k₁ ≡ lower o.key.t3 → k₂ ≡ upper o.key.t3 → r₁ ≡ lower o.rtt → r₂ ≡ upper o.rtt → a₁ ≡ lower a → a₂ ≡ upper a → b₁ ≡ lower b → b₂ ≡ upper b → t₁ ≡ lower t → t₂ ≡ upper t
    → n ≡ ordinal_number o.ordinal → s ≡ sender_count o.counters → r ≡ received_count o.counters → u ≡ transmitted_count o.counters
    → q ≡ follow_sequence o.follow → z ≡ of_z w32 o.offset → e ≡ wires o.quality → f ≡ observe_flags o None
    → k₁ ∷ k₂ ∷ r₁ ∷ r₂ ∷ a₁ ∷ a₂ ∷ b₁ ∷ b₂ ∷ 0 ∷ 0 ∷ t₁ ∷ t₂ ∷ o.key.sender ∷ o.key.reflector ∷ n ∷ s ∷ r ∷ u ∷ q ∷ z ∷ e ∷ f ∷ 0 ∷ 0 ∷ [] ≡ observation_words o
observation-listed o a b t k₁ k₂ r₁ r₂ a₁ a₂ b₁ b₂ t₁ t₂ n s r u q z e f ea eb et ek₁ ek₂ er₁ er₂ ea₁ ea₂ eb₁ eb₂ et₁ et₂ en es er eu eq ez ee ef =
    λ i. ek₁ i ∷ ek₂ i ∷ er₁ i ∷ er₂ i ∷ (ea₁ ∙ ap lower ea) i ∷ (ea₂ ∙ ap upper ea) i ∷ (eb₁ ∙ ap lower eb) i ∷ (eb₂ ∙ ap upper eb) i ∷ 0 ∷ 0 ∷ (et₁ ∙ ap lower et) i ∷ (et₂ ∙ ap upper et) i
    ∷ o.key.sender ∷ o.key.reflector ∷ en i ∷ es i ∷ er i ∷ eu i ∷ eq i ∷ ez i ∷ ee i ∷ ef i ∷ 0 ∷ 0 ∷ []

-- those of an observation behind the kind
pub observe-listed : (o : ReplyObservation) (w : List ℕ) → w ≡ observation_words o
    → 2 ∷ replicate 17 0 ++ (get_or w 0 0 ∷ get_or w 1 0 ∷ get_or w 2 0 ∷ get_or w 3 0 ∷ get_or w 4 0 ∷ get_or w 5 0 ∷ get_or w 6 0 ∷ get_or w 7 0 ∷ get_or w 8 0 ∷ get_or w 9 0 ∷ get_or w 10 0 ∷ get_or w 11 0 ∷ get_or w 12 0 ∷ get_or w 13 0 ∷ get_or w 14 0 ∷ get_or w 15 0 ∷ get_or w 16 0 ∷ get_or w 17 0 ∷ get_or w 18 0 ∷ get_or w 19 0 ∷ get_or w 20 0 ∷ get_or w 21 0 ∷ get_or w 22 0 ∷ get_or w 23 0 ∷ 0 ∷ 0 ∷ []) ≡ observe_words o
observe-listed o w e = ap (λ (w : List ℕ). 2 ∷ replicate 17 0 ++ (get_or w 0 0 ∷ get_or w 1 0 ∷ get_or w 2 0 ∷ get_or w 3 0 ∷ get_or w 4 0 ∷ get_or w 5 0 ∷ get_or w 6 0 ∷ get_or w 7 0 ∷ get_or w 8 0 ∷ get_or w 9 0 ∷ get_or w 10 0 ∷ get_or w 11 0 ∷ get_or w 12 0 ∷ get_or w 13 0 ∷ get_or w 14 0 ∷ get_or w 15 0 ∷ get_or w 16 0 ∷ get_or w 17 0 ∷ get_or w 18 0 ∷ get_or w 19 0 ∷ get_or w 20 0 ∷ get_or w 21 0 ∷ get_or w 22 0 ∷ get_or w 23 0 ∷ 0 ∷ 0 ∷ [])) e
