-- What the calls in a row leave is what the definition says.
-- Assumes nothing.
use mathlib.Core.Path.{◌≡◌, refl, sym, ap, ◌∙◌}
use mathlib.Core.List.{List}
use Prim.Native.Nat.{ℕ, zero, suc}
use Rattle.call_types.specs.declared.Reply.{Reply}
use Rattle.probe_queue.specs.declared.QueuedProbe.{QueuedProbe}
use Rattle.ledger_watched.specs.Watched.{accept_to}
use Rattle.host_calls.specs.Calls.{reply_of}
use Rattle.host_ledger.specs.Words.{ledger_at}
use Rattle.host_monitor_words.specs.Words.{monitor_at}
use Rattle.host_watched_accept_words.specs.declared.ReplyAnswer.{ReplyAnswer}
use Rattle.host_watched_accept_words.specs.Calls.{Left, left, ended, zeros, shown_in}
use Rattle.host_watched_accept_words.proofs.Joined.{shown_is}
use Rattle.host_watched_accept.specs.Calls.{watched_accept_to}

-- ---- the answer's words

pub stored_is : (n : ℕ) (told words words' : List ℕ) → n ≡ 0 → words' ≡ told → words' ≡ shown_in n told words
stored_is n told words words' z e = e ∙ ap (λ (k : ℕ). shown_in k told words) (sym z)

pub kept_is : (n : ℕ) (told words : List ℕ) → (n ≡ 0 → ⊥) → words ≡ shown_in n told words
kept_is zero told words h = absurd (h refl)
kept_is (suc n) told words h = refl

-- ---- the call

-- what a call left, its answer's words stored over these
abbrev showing : List ℕ → Left → Left
showing answer x = left x.number x.ledger x.monitor x.keys x.slots x.probes x.links x.queue (shown_in x.number x.answer answer)

pub accept-ends :
    (ledger monitor : List ℕ) (keys slots probes links : List (List ℕ)) (queue : List QueuedProbe) (sender reflector t3 pending time tag : ℕ) (answer : List ℕ)
    (s : Reply) (given : ReplyAnswer) (ledger' monitor' : List ℕ) (keys' slots' probes' links' : List (List ℕ)) (queue' : List QueuedProbe) (r : ℕ) (answer' : List ℕ)
    → s ≡ reply_of sender reflector t3 pending time tag
    → left given.number ledger' monitor' keys' slots' probes' links' queue' given.words ≡ ended ledger monitor zeros (accept_to (ledger_at ledger) (monitor_at monitor) keys slots probes links queue s)
    → (r ≡ given.number) × (answer' ≡ shown_in given.number given.words answer)
    → left r ledger' monitor' keys' slots' probes' links' queue' answer' ≡ watched_accept_to ledger monitor keys slots probes links queue sender reflector t3 pending time tag answer
unfolding watched_accept_to
accept-ends ledger monitor keys slots probes links queue sender reflector t3 pending time tag answer s given ledger' monitor' keys' slots' probes' links' queue' r answer' es eg er =
    let a = reply_of sender reflector t3 pending time tag in
    let whole = accept_to (ledger_at ledger) (monitor_at monitor) keys slots probes links queue a in
    (λ i. left (er.0 i) ledger' monitor' keys' slots' probes' links' queue' (er.1 i))
    ∙ ap (showing answer) (eg ∙ ap (λ (x : Reply). ended ledger monitor zeros (accept_to (ledger_at ledger) (monitor_at monitor) keys slots probes links queue x)) es)
    ∙ ap (λ (words : List ℕ). left (ended ledger monitor zeros whole).number (ended ledger monitor zeros whole).ledger (ended ledger monitor zeros whole).monitor whole.keys whole.slots whole.probes whole.links whole.queue words)
    (shown_is answer ledger monitor keys slots probes links queue a)
