-- From one entry to all entries of a list: what the calls in a row leave is what the definition says, and what was looked at once still holds.
-- Assumes nothing.
use mathlib.Core.Path.{◌≡◌, refl, sym, ap, subst, ◌∙◌}
use mathlib.Core.Bool.{Bool, true, cond, ◌&&◌}
use mathlib.Core.List.{List, []}
use native.Mathlib.Omega.{arith}
use Prim.Native.Nat.{ℕ, suc, ◌+◌, ◌-◌, ◌≤◌, ◌<◌, ◌^◌}
use lib.Dec.{eqb}
use lib.ListN.{length, get_or, set}
use Rattle.call_types.specs.declared.Reply.{Reply}
use Rattle.ledger_state.specs.Refusal.{first_refusal, sized, rings_fit, room_for_call}
use Rattle.ledger_steps.specs.Accept.{accept_on}
use Rattle.ledger_steps.specs.Refusals.{refusal_of_accept}
use Rattle.ledger_steps.specs.Calls.{accept_to}
use Rattle.ledger_checks.specs.Sound.{SoundAccept}
use Rattle.host_ledger.specs.Words.{ledger_at}
use Rattle.host_accept_words.specs.Accept.{AcceptLeft, accept_left, accept_from, accept_of, served_leaves}
use Rattle.host_accept_words.proofs.Steps.{sound, served_is, refused_is}
use Rattle.host_burst_bounds.specs.Lasts.{lasts}
use Rattle.host_burst_bounds.proofs.Lasting.{Lasting, lasts_begins, next-served, left-long, left_lasting}
use Rattle.host_burst.specs.Burst.{Burst, left, listed, burst_refusal, one_more, up_to}
use Rattle.host_burst.specs.Entries.{reply_at, answer_in, served_row, refused_row, row_after}
use Rattle.host_burst.proofs.Steps.{row_of_call, refused_row_lem}
use Rattle.host_burst.proofs.Folds.{up_none, up_more, list_ends}
use Rattle.host_accept_burst.specs.Burst.{Lent, lent, rowed, accept_entry, accept_burst}

-- ---- one entry

-- the rooms have their size
abbrev pub all_sized : (keys slots probes links : List (List ℕ)) → Bool
all_sized keys slots probes links = sized (length keys) && sized (length slots) && sized (length probes) && sized (length links)

module _ (ledger : List ℕ) (keys slots probes links entries : List (List ℕ)) (i : ℕ) (answers : List (List ℕ)) (zeros : List ℕ) (reply : Reply) (er : reply ≡ reply_at (get_or entries i [])) where
  abbrev row : List ℕ
  row = get_or answers i []

  row_is : row_after row (accept_from ledger zeros (accept_to 0 (ledger_at ledger) keys slots probes links reply)).number (accept_from ledger zeros (accept_to 0 (ledger_at ledger) keys slots probes links reply)).answer
      ≡ (rowed (accept_from ledger (answer_in row) (accept_to 0 (ledger_at ledger) keys slots probes links reply))).row
  unfolding accept_to
  row_is =
      row_of_call ledger zeros row (refusal_of_accept 0 (ledger_at ledger) (length keys) (length slots) (length probes) (length links)) (accept_on (ledger_at ledger) keys slots probes links reply) keys slots probes links

  entry_ends : (n : ℕ) (ledger' : List ℕ) (keys' slots' probes' links' : List (List ℕ)) (words : List ℕ) (answers' : List (List ℕ))
      → accept_left n ledger' keys' slots' probes' links' words ≡ accept_from ledger zeros (accept_to 0 (ledger_at ledger) keys slots probes links reply)
      → answers' ≡ set answers i (row_after row n words)
      → left (lent ledger' keys' slots' probes' links') answers' ≡ one_more accept_entry entries (left (lent ledger keys slots probes links) answers) i
  unfolding accept_of
  entry_ends n ledger' keys' slots' probes' links' words answers' eg ea =
      (λ j. left (lent ledger' keys' slots' probes' links') (ea j))
      ∙ ap (λ (x : AcceptLeft). left (rowed x).state (set answers i (row_after row x.number x.answer))) eg
      ∙ ap (λ (r : List ℕ). left (rowed (accept_from ledger (answer_in row) (accept_to 0 (ledger_at ledger) keys slots probes links reply))).state (set answers i r)) row_is
      ∙ ap (λ (a : Reply). left (rowed (accept_of ledger keys slots probes links (answer_in row) a)).state (set answers i (rowed (accept_of ledger keys slots probes links (answer_in row) a)).row)) er

-- what the code does with an entry that is not refused, and with one that is: refused is the number of its tests
module _ (ledger : List ℕ) (keys slots probes links entries : List (List ℕ)) (i : ℕ) (answers : List (List ℕ)) (refused : ℕ)
    (tested : refused ≡ first_refusal (all_sized keys slots probes links && rings_fit (ledger_at ledger)) true true (room_for_call (ledger_at ledger)) true true) where
  pub entry_sound : refused ≡ 0 → SoundAccept (ledger_at ledger) (length keys) (length slots) (length probes) (length links)
  entry_sound z = sound ledger keys slots probes links refused tested z

  pub entry-served : (reply : Reply) (ledger' : List ℕ) (keys' slots' probes' links' : List (List ℕ)) (words : List ℕ) (answers' : List (List ℕ)) → refused ≡ 0
      → reply ≡ reply_at (get_or entries i [])
      → accept_left 0 ledger' keys' slots' probes' links' words ≡ served_leaves ledger (accept_on (ledger_at ledger) keys slots probes links reply)
      → answers' ≡ set answers i (served_row words)
      → left (lent ledger' keys' slots' probes' links') answers' ≡ one_more accept_entry entries (left (lent ledger keys slots probes links) answers) i
  unfolding accept_of
  entry-served reply ledger' keys' slots' probes' links' words answers' z er eg ea =
      entry_ends ledger keys slots probes links entries i answers words reply er 0 ledger' keys' slots' probes' links' words answers'
      (served_is ledger keys slots probes links 0 (sym z ∙ tested) words reply reply ledger' keys' slots' probes' links' words refl refl eg) ea

  pub entry-refused : (answers' : List (List ℕ)) → (refused ≡ 0 → ⊥) → answers' ≡ set answers i (refused_row (get_or answers i []) refused)
      → left (lent ledger keys slots probes links) answers' ≡ one_more accept_entry entries (left (lent ledger keys slots probes links) answers) i
  unfolding accept_of
  entry-refused answers' h ea =
      let reply = reply_at (get_or entries i []) in
      entry_ends ledger keys slots probes links entries i answers [] reply refl refused ledger keys slots probes links [] answers'
      (refused_is ledger keys slots probes links refused tested [] reply h)
      (ea ∙ ap (set answers i) (refused_row_lem (get_or answers i []) refused [] h))

-- ---- the loop
module _ (ledger₀ : List ℕ) (keys₀ slots₀ probes₀ links₀ entries : List (List ℕ)) (count : ℕ) (answers₀ : List (List ℕ)) (sure : Bool) where
  abbrev begun : Burst Lent
  begun = left (lent ledger₀ keys₀ slots₀ probes₀ links₀) answers₀

  -- what stands after i entries
  pub record Serves (i : ℕ) (ledger : List ℕ) (keys slots probes links answers : List (List ℕ)) : Type 0 where
    pub served : left (lent ledger keys slots probes links) answers ≡ up_to accept_entry entries begun i
    pub within : i ≤ count
    pub long : length ledger ≡ 80
    pub keys_long : length keys ≡ length keys₀
    pub slots_long : length slots ≡ length slots₀
    pub probes-long : length probes ≡ length probes₀
    pub links_long : length links ≡ length links₀
    pub answers_long : length answers ≡ length answers₀
    pub sizes : sure ≡ true → all_sized keys₀ slots₀ probes₀ links₀ ≡ true
    pub lasting : sure ≡ true → Lasting (count - i) (ledger_at ledger)

  pub begins : length ledger₀ ≡ 80 → sure ≡ lasts (all_sized keys₀ slots₀ probes₀ links₀) count ledger₀
      → Serves 0 ledger₀ keys₀ slots₀ probes₀ links₀ answers₀
  begins long es =
      let shown : sure ≡ true → (all_sized keys₀ slots₀ probes₀ links₀ ≡ true) × Lasting count (ledger_at ledger₀) = λ e. lasts_begins (all_sized keys₀ slots₀ probes₀ links₀) count ledger₀ (sym es ∙ e) in
      let all : count ≡ count - 0 = omega arith in
      record {
        served = up_none accept_entry entries begun;
        within = omega arith;
        long = long;
        keys_long = refl;
        slots_long = refl;
        probes-long = refl;
        links_long = refl;
        answers_long = refl;
        sizes = λ e. (shown e).0;
        lasting = λ e. subst (λ (n : ℕ). Lasting n (ledger_at ledger₀)) all (shown e).1;
      }

  module _ (i : ℕ) (ledger : List ℕ) (keys slots probes links answers : List (List ℕ)) (s : Serves i ledger keys slots probes links answers) (less : i < count) where
    one_more_lem : count - i ≡ suc (count - (i + 1))
    one_more_lem = omega (arith, less)

    still : sure ≡ true → Lasting (suc (count - (i + 1))) (ledger_at ledger)
    still e = subst (λ (n : ℕ). Lasting n (ledger_at ledger)) one_more_lem (s.lasting e)

    sized-still : sure ≡ true → all_sized keys slots probes links ≡ true
    sized-still e = (λ j. sized (s.keys_long j) && sized (s.slots_long j) && sized (s.probes-long j) && sized (s.links_long j)) ∙ s.sizes e

    pub not_refused : sure ≡ true → first_refusal (all_sized keys slots probes links && rings_fit (ledger_at ledger)) true true (room_for_call (ledger_at ledger)) true true ≡ 0
    not_refused e = next-served (count - (i + 1)) (ledger_at ledger) (all_sized keys slots probes links) (sized-still e) (still e)

    -- the words that the entry leaves
    abbrev reply : Reply
    reply = reply_at (get_or entries i [])

    abbrev answer : List ℕ
    answer = answer_in (get_or answers i [])

    below : reply.key.reflector < 2 ^ 32
    below = omega arith

    words_are : (ledger' : List ℕ) (keys' slots' probes' links' answers' : List (List ℕ))
        → left (lent ledger' keys' slots' probes' links') answers' ≡ one_more accept_entry entries (left (lent ledger keys slots probes links) answers) i
        → ledger' ≡ (accept_from ledger answer (accept_to 0 (ledger_at ledger) keys slots probes links reply)).ledger
    unfolding accept_of
    words_are ledger' keys' slots' probes' links' answers' eg = ap (λ (b : Burst Lent). b.state.ledger) eg

    pub serves_on : (ledger' : List ℕ) (keys' slots' probes' links' answers' : List (List ℕ))
        → left (lent ledger' keys' slots' probes' links') answers' ≡ one_more accept_entry entries (left (lent ledger keys slots probes links) answers) i
        → length keys' ≡ length keys → length slots' ≡ length slots → length probes' ≡ length probes → length links' ≡ length links → length answers' ≡ length answers
        → Serves (i + 1) ledger' keys' slots' probes' links' answers'
    serves_on ledger' keys' slots' probes' links' answers' eg ek el ep ex ea =
        let e = words_are ledger' keys' slots' probes' links' answers' eg in
        record {
          served = up_more accept_entry entries begun (left (lent ledger keys slots probes links) answers) (left (lent ledger' keys' slots' probes' links') answers') i s.served eg;
          within = omega (arith, less);
          long = ap length e ∙ left-long ledger s.long keys slots probes links reply below answer;
          keys_long = ek ∙ s.keys_long;
          slots_long = el ∙ s.slots_long;
          probes-long = ep ∙ s.probes-long;
          links_long = ex ∙ s.links_long;
          answers_long = ea ∙ s.answers_long;
          sizes = s.sizes;
          lasting = λ t. subst (λ (w : List ℕ). Lasting (count - (i + 1)) (ledger_at w)) (sym e) (left_lasting ledger s.long keys slots probes links reply below answer (count - (i + 1)) (still t));
        }

  pub all_served : (i : ℕ) (ledger : List ℕ) (keys slots probes links answers : List (List ℕ)) → Serves i ledger keys slots probes links answers → count ≤ i
      → left (lent ledger keys slots probes links) answers ≡ up_to accept_entry entries begun count
  all_served i ledger keys slots probes links answers s least =
      let e : i ≡ count = omega (arith, s.within, least) in
      s.served ∙ ap (up_to accept_entry entries begun) e

-- ---- the list
pub burst-ends :
    (ledger : List ℕ) (keys slots probes links entries answers : List (List ℕ)) (refusal count : ℕ) (ledger' : List ℕ) (keys' slots' probes' links' answers' : List (List ℕ))
    → refusal ≡ burst_refusal (length entries) (length answers) → count ≡ cond (eqb refusal 0) (length entries) 0
    → left (lent ledger' keys' slots' probes' links') answers' ≡ up_to accept_entry entries (left (lent ledger keys slots probes links) answers) count
    → listed refusal (left (lent ledger' keys' slots' probes' links') answers') ≡ accept_burst (lent ledger keys slots probes links) entries answers
unfolding accept_burst
burst-ends ledger keys slots probes links entries answers refusal count ledger' keys' slots' probes' links' answers' ef ec es =
    ap (listed refusal) es ∙ list_ends accept_entry (lent ledger keys slots probes links) entries answers refusal count ef ec
