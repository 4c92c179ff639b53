-- What the test shows: as long as entries are left, the next one is not refused. The counts are n or more below their bounds while n entries are
-- left; a reply raises each by one at most, leaves the rings in their rooms, and changes no other count.
-- Assumes nothing.
use Rattle.std.specs.Prelude.{Option}
use Rattle.call_types.specs.declared.PendingPacket.{PendingPacket}
use mathlib.Core.Path.{◌≡◌, refl, sym, ap, subst, ◌∙◌}
use mathlib.Core.Bool.{Bool, true, false, not, ◌&&◌}
use mathlib.Core.List.{List}
use native.Mathlib.Omega.{arith}
use Prim.Native.Nat.{ℕ, zero, suc, ◌+◌, ◌≤◌, ◌<◌, ◌^◌}
use lib.Dec.{leb, ltb, eqb}
use lib.ListN.{length, get_or}
use borrow.Author.Tests.{ltb-true, leb-true, eqb-true, lt-ltb, le-leb}
use Rattle.limits.specs.Limits.{capacity, most_calls, count_bound}
use Rattle.call_types.specs.declared.ReplyKey.{ReplyKey}
use Rattle.call_types.specs.declared.Reply.{Reply}
use Rattle.chains.specs.declared.Ring.{Ring}
use Rattle.chains.specs.Hash.{number_hash}
use Rattle.chains.specs.Rings.{RingFits}
use Rattle.chains.proofs.Places.{push-fits}
use Rattle.key_ring.specs.Table.{Table, hash_of, pushed_key, accepted_key}
use Rattle.probe_ring.specs.Rooms.{Rooms, rooms, pushed}
use Rattle.replies.specs.declared.Replies.{Replies}
use Rattle.replies.specs.declared.ReplyClass.{ReplyClass}
use Rattle.replies.specs.declared.ReplyClass.TheVariants as class
use Rattle.replies.specs.Served.{tally, is_reordered, after_duplicate, after_unknown, after_unique, class_by}
use Rattle.replies.specs.Bounds.{replies_fit}
use Rattle.replies.proofs.Tested.{both}
use Rattle.delays.specs.Bounds as delays
use Rattle.direct.specs.Outcomes.{counts_in_bounds, seen_in}
use Rattle.follow_ups.specs.Bounds.{follow_ups_fit}
use Rattle.ledger_state.specs.declared.Ledger.{Ledger}
use Rattle.ledger_state.specs.State.{hash_words}
use Rattle.ledger_state.specs.Refusal.{first_refusal, ring_fits, rings_fit, counts_fit, room_for_call}
use Rattle.ledger_state.proofs.Served.{served, not_refused}
use Rattle.ledger_steps.specs.Accept.{is_pending, readied, unique_in, accept_by, accept_in, accept_on, key_slot, probe_slot}
use Rattle.ledger_steps.specs.Calls as calls
use Rattle.ledger_steps.specs.Refusals.{refusal_of_accept}
use Rattle.host_ledger.specs.Parts.{replies_at}
use Rattle.host_ledger.specs.Words.{ledger_at}
use Rattle.host_ledger_read_back.proofs.Accept.{accept-back}
use Rattle.host_accept_words.specs.Served.{served_words}
use Rattle.host_accept_words.proofs.Long.{served-long}
use Rattle.host_accept_words.specs.Accept.{accept_from}
use Rattle.host_burst_bounds.specs.Lasts.{far, low_totals, low_answers, low_others, last_calls, low, lasts}

-- each count of replies is at least n below its bound
pub record RepliesLast (n : ℕ) (r : Replies) : Type 0 where
  pub requested : r.totals.requested + n ≤ count_bound
  pub unique : r.totals.unique + n ≤ count_bound
  pub duplicate : r.totals.duplicate + n ≤ count_bound
  pub unknown : r.totals.unknown + n ≤ count_bound
  pub answered : r.answers.answered + n ≤ count_bound
  pub additional : r.answers.additional + n ≤ count_bound
  pub late : r.answers.late + n ≤ count_bound
  pub satisfied : r.answers.satisfied + n ≤ count_bound
  pub reordered : r.numbers.reordered + n ≤ count_bound
  pub independent : r.numbers.independent + n ≤ count_bound
  pub probes : r.evicted.probes + n ≤ count_bound
  pub keys : r.evicted.replies + n ≤ count_bound
  pub unanswered : r.evicted.unanswered + n ≤ count_bound

-- n replies more are not refused for the ledger's sake
pub record Lasting (n : ℕ) (l : Ledger) : Type 0 where
  pub keys_ring : RingFits capacity l.tables.keys
  pub probes_ring : RingFits capacity l.tables.probes
  pub seen : leb (seen_in l.counts.direct.window) capacity ≡ true
  pub calls : l.calls + n ≤ most_calls
  pub replies : RepliesLast n l.counts.replies
  pub rtt : delays.counts_fit l.counts.rtt ≡ true
  pub direct : counts_in_bounds l.counts.direct.counts ≡ true
  pub follow : follow_ups_fit l.counts.follow ≡ true

-- ---- what the test shows

four : (a b c d : Bool) → a && b && c && d ≡ true → (a ≡ true) × (b ≡ true) × (c ≡ true) × (d ≡ true)
four a b c d e =
    let x = both (a && b && c) d e in
    let y = both (a && b) c x.0 in
    let z = both a b y.0 in
    (z.0, z.1, y.1, x.1)

ring_in : (r : Ring) → ring_fits r ≡ true → RingFits capacity r
ring_in r e =
    let x = both (ltb r.head capacity) (leb r.len capacity) e in
    record { head_in = ltb-true r.head capacity x.0; len_in = leb-true r.len capacity x.1 }

below : (c n : ℕ) → far c ≡ true → n ≤ 256 → c + n ≤ count_bound
below c n e h = omega (arith, ltb-true c (2 ^ 62) e, h)

replies-last : (w : List ℕ) (n : ℕ) → n ≤ 256 → low_totals w ≡ true → low_answers w ≡ true → low_others w ≡ true → RepliesLast n (ledger_at w).counts.replies
unfolding ledger_at replies_at
replies-last w n h t a o =
    let x = four (far (get_or w 11 0)) (far (get_or w 12 0)) (far (get_or w 13 0)) (far (get_or w 14 0)) t in
    let y = four (far (get_or w 15 0)) (far (get_or w 16 0)) (far (get_or w 17 0)) (far (get_or w 18 0)) a in
    let u = both (far (get_or w 21 0) && far (get_or w 22 0) && far (get_or w 23 0) && far (get_or w 24 0)) (far (get_or w 72 0)) o in
    let z = four (far (get_or w 21 0)) (far (get_or w 22 0)) (far (get_or w 23 0)) (far (get_or w 24 0)) u.0 in
    record {
      requested = below (get_or w 11 0) n x.0 h;
      unique = below (get_or w 12 0) n x.1 h;
      duplicate = below (get_or w 13 0) n x.2 h;
      unknown = below (get_or w 14 0) n x.3 h;
      answered = below (get_or w 15 0) n y.0 h;
      additional = below (get_or w 16 0) n y.1 h;
      late = below (get_or w 17 0) n y.2 h;
      satisfied = below (get_or w 18 0) n y.3 h;
      reordered = below (get_or w 21 0) n z.0 h;
      independent = below (get_or w 22 0) n z.1 h;
      probes = below (get_or w 23 0) n z.2 h;
      keys = below (get_or w 24 0) n z.3 h;
      unanswered = below (get_or w 72 0) n u.1 h;
    }

calls_last : (w : List ℕ) (n : ℕ) → n ≤ 256 → leb (get_or w 5 0) last_calls ≡ true → (ledger_at w).calls + n ≤ most_calls
unfolding ledger_at
calls_last w n h e = omega (arith, leb-true (get_or w 5 0) last_calls e, h)

pub lasts_begins : (sized : Bool) (count : ℕ) (w : List ℕ) → lasts sized count w ≡ true → (sized ≡ true) × Lasting count (ledger_at w)
unfolding lasts
lasts_begins sized count w e =
    let l = ledger_at w in
    let n = first_refusal (sized && rings_fit l) true true (room_for_call l) true true in
    let x = both (eqb n 0 && leb count 256) (low w) e in
    let y = both (eqb n 0) (leb count 256) x.0 in
    let p = served (sized && rings_fit l) true true (room_for_call l) true true (eqb-true n 0 y.0) in
    let placed = both sized (rings_fit l) p.placed_is in
    let rings = both (ring_fits l.tables.keys && ring_fits l.tables.probes) (leb (seen_in l.counts.direct.window) capacity) placed.1 in
    let two = both (ring_fits l.tables.keys) (ring_fits l.tables.probes) rings.0 in
    let counted = both (ltb l.calls most_calls) (counts_fit l.counts) p.counted_is in
    let fit = four (replies_fit l.counts.replies) (delays.counts_fit l.counts.rtt) (counts_in_bounds l.counts.direct.counts) (follow_ups_fit l.counts.follow) counted.1 in
    let lows = four (low_totals w) (low_answers w) (low_others w) (leb (get_or w 5 0) last_calls) x.1 in
    let most = leb-true count 256 y.1 in (
      placed.0,
      record {
        keys_ring = ring_in l.tables.keys two.0;
        probes_ring = ring_in l.tables.probes two.1;
        seen = rings.1;
        calls = calls_last w count most lows.3;
        replies = replies-last w count most lows.0 lows.1 lows.2;
        rtt = fit.1;
        direct = fit.2;
        follow = fit.3;
      },
    )

-- ---- as long as entries are left, a call is served

hold : (a b : Bool) → a ≡ true → b ≡ true → a && b ≡ true
hold a b p q = ap (λ (x : Bool). x && b) p ∙ q

ring_true : (r : Ring) → RingFits capacity r → ring_fits r ≡ true
ring_true r f = hold (ltb r.head capacity) (leb r.len capacity) (lt-ltb r.head capacity f.head_in) (le-leb r.len capacity f.len_in)

fits_true : (c n : ℕ) → c + suc n ≤ count_bound → ltb c count_bound ≡ true
fits_true c n h = lt-ltb c count_bound (omega (arith, h))

replies_fit_lem : (n : ℕ) (r : Replies) → RepliesLast (suc n) r → replies_fit r ≡ true
replies_fit_lem n r s =
    hold _ _
    (hold _ _
    (hold _ _
    (hold _ _ (hold _ _ (hold _ _ (fits_true _ n s.requested) (fits_true _ n s.unique)) (fits_true _ n s.duplicate)) (fits_true _ n s.unknown))
    (hold _ _ (hold _ _ (hold _ _ (fits_true _ n s.answered) (fits_true _ n s.additional)) (fits_true _ n s.late)) (fits_true _ n s.satisfied)))
    (hold _ _ (fits_true _ n s.reordered) (fits_true _ n s.independent)))
    (hold _ _ (hold _ _ (fits_true _ n s.probes) (fits_true _ n s.keys)) (fits_true _ n s.unanswered))

pub next-served : (n : ℕ) (l : Ledger) (sized : Bool) → sized ≡ true → Lasting (suc n) l → first_refusal (sized && rings_fit l) true true (room_for_call l) true true ≡ 0
next-served n l sized e s =
    not_refused (sized && rings_fit l) true true (room_for_call l) true true (record {
      placed_is = hold sized (rings_fit l) e (hold _ _ (hold _ _ (ring_true l.tables.keys s.keys_ring) (ring_true l.tables.probes s.probes_ring)) s.seen);
      ranged_is = refl;
      timely_is = refl;
      counted_is = hold _ _ (lt-ltb l.calls most_calls (omega (arith, s.calls))) (hold _ _ (hold _ _ (hold _ _ (replies_fit_lem n l.counts.replies s.replies) s.rtt) s.direct) s.follow);
      awaiting_is = refl;
      room_is = refl;
    })

-- ---- a reply leaves one entry less

-- a count that did not rise, and one that may have
less : (c n : ℕ) → c + suc n ≤ count_bound → c + n ≤ count_bound
less c n h = omega (arith, h)

more : (c n : ℕ) → c + suc n ≤ count_bound → c + 1 + n ≤ count_bound
more c n h = omega (arith, h)

tallied : (b : Bool) (c n : ℕ) → c + suc n ≤ count_bound → tally b c + n ≤ count_bound
tallied true c n h = more c n h
tallied false c n h = less c n h

kept-replies : (n : ℕ) (r : Replies) → RepliesLast (suc n) r → RepliesLast n r
kept-replies n r s = record {
  requested = less _ n s.requested;
  unique = less _ n s.unique;
  duplicate = less _ n s.duplicate;
  unknown = less _ n s.unknown;
  answered = less _ n s.answered;
  additional = less _ n s.additional;
  late = less _ n s.late;
  satisfied = less _ n s.satisfied;
  reordered = less _ n s.reordered;
  independent = less _ n s.independent;
  probes = less _ n s.probes;
  keys = less _ n s.keys;
  unanswered = less _ n s.unanswered;
}

duplicate-replies : (n : ℕ) (r : Replies) → RepliesLast (suc n) r → RepliesLast n (after_duplicate r)
unfolding after_duplicate
duplicate-replies n r s =
    let k = kept-replies n r s in
    record {
      requested = k.requested;
      unique = k.unique;
      duplicate = more _ n s.duplicate;
      unknown = k.unknown;
      answered = k.answered;
      additional = k.additional;
      late = k.late;
      satisfied = k.satisfied;
      reordered = k.reordered;
      independent = k.independent;
      probes = k.probes;
      keys = k.keys;
      unanswered = k.unanswered;
    }

unknown-replies : (n : ℕ) (r : Replies) → RepliesLast (suc n) r → RepliesLast n (after_unknown r)
unfolding after_unknown
unknown-replies n r s =
    let k = kept-replies n r s in
    record {
      requested = k.requested;
      unique = k.unique;
      duplicate = k.duplicate;
      unknown = more _ n s.unknown;
      answered = k.answered;
      additional = k.additional;
      late = k.late;
      satisfied = k.satisfied;
      reordered = k.reordered;
      independent = k.independent;
      probes = k.probes;
      keys = k.keys;
      unanswered = k.unanswered;
    }

unique-replies : (n : ℕ) (r : Replies) (replies copies : ℕ) (pending : Bool) (sender reflector : ℕ) (probe lost key : Bool)
    → RepliesLast (suc n) r → RepliesLast n (after_unique replies copies pending sender reflector probe lost key r)
unfolding after_unique
unique-replies n r replies copies pending sender reflector probe lost key s = record {
  requested = less _ n s.requested;
  unique = more _ n s.unique;
  duplicate = less _ n s.duplicate;
  unknown = less _ n s.unknown;
  answered = tallied (eqb replies 0) _ n s.answered;
  additional = tallied (ltb 0 replies) _ n s.additional;
  late = tallied (eqb replies 0 && not pending) _ n s.late;
  satisfied = tallied (ltb replies copies) _ n s.satisfied;
  reordered = tallied (is_reordered r.numbers.highest reflector) _ n s.reordered;
  independent = tallied (not (eqb reflector sender)) _ n s.independent;
  probes = tallied probe _ n s.probes;
  keys = tallied key _ n s.keys;
  unanswered = tallied lost _ n s.unanswered;
}

-- both rings after a unique reply
keys_fit : (by_key : ReplyKey → ℕ) (by_number : ℕ → ℕ) (t : Table) (k : ReplyKey) → RingFits capacity t.ring → RingFits capacity (accepted_key capacity by_key by_number t k).ring
unfolding accepted_key pushed_key
keys_fit by_key by_number t k f = push-fits capacity t.ring f

ring_by : (b : Bool) (by_key : ReplyKey → ℕ) (by_number : ℕ → ℕ) (r : Rooms) (slot : ℕ) (k : ReplyKey) (p : Option PendingPacket) → ltb slot capacity ≡ b → RingFits capacity r.ring → RingFits capacity (readied capacity by_key by_number r slot k p).answer.ring
unfolding readied pushed
ring_by true by_key by_number r slot k p e f = rw e f
ring_by false by_key by_number r slot k p e f = rw e (push-fits capacity r.ring f)

pub kept_lasting : (n : ℕ) (l : Ledger) → Lasting (suc n) l → Lasting n l
kept_lasting n l s = record {
  keys_ring = s.keys_ring;
  probes_ring = s.probes_ring;
  seen = s.seen;
  calls = omega (arith, s.calls);
  replies = kept-replies n l.counts.replies s.replies;
  rtt = s.rtt;
  direct = s.direct;
  follow = s.follow;
}

by_class : (by_key : ReplyKey → ℕ) (by_number : ℕ → ℕ) (n : ℕ) (l : Ledger) (c : ReplyClass) (keys slots probes links : List (List ℕ)) (at : ℕ) (a : Reply)
    → Lasting (suc n) l → Lasting n (accept_by capacity by_key by_number c l keys slots probes links at a).ledger
unfolding unique_in
by_class by_key by_number n l class.Duplicate keys slots probes links at a s = record {
  keys_ring = s.keys_ring;
  probes_ring = s.probes_ring;
  seen = s.seen;
  calls = omega (arith, s.calls);
  replies = duplicate-replies n l.counts.replies s.replies;
  rtt = s.rtt;
  direct = s.direct;
  follow = s.follow;
}
by_class by_key by_number n l class.Unknown keys slots probes links at a s = record {
  keys_ring = s.keys_ring;
  probes_ring = s.probes_ring;
  seen = s.seen;
  calls = omega (arith, s.calls);
  replies = unknown-replies n l.counts.replies s.replies;
  rtt = s.rtt;
  direct = s.direct;
  follow = s.follow;
}
by_class by_key by_number n l class.Unique keys slots probes links at a s = record {
  keys_ring = keys_fit by_key by_number _ a.key s.keys_ring;
  probes_ring = ring_by (ltb at capacity) by_key by_number (rooms probes links l.tables.probes) at a.key a.pending refl s.probes_ring;
  seen = s.seen;
  calls = omega (arith, s.calls);
  replies = unique-replies n l.counts.replies _ _ _ _ _ _ _ _ s.replies;
  rtt = s.rtt;
  direct = s.direct;
  follow = s.follow;
}

served_lasting : (n : ℕ) (l : Ledger) (keys slots probes links : List (List ℕ)) (a : Reply) → Lasting (suc n) l → Lasting n (accept_on l keys slots probes links a).ledger
unfolding accept_in
served_lasting n l keys slots probes links a s =
    let by_key = hash_of (hash_words l) in
    let by_number = number_hash (hash_words l) in
    let at = probe_slot capacity by_key by_number l probes links a.key in
    by_class by_key by_number n l (class_by (ltb (key_slot capacity by_key by_number l keys links a.key) capacity) (ltb at capacity) (is_pending a.pending)) keys slots probes links at a s

-- ---- the same of the words

module _ (w : List ℕ) (long : length w ≡ 80) (keys slots probes links : List (List ℕ)) (a : Reply) (h : a.key.reflector < 2 ^ 32) (answer : List ℕ) where
  -- the words that the call leaves, by its refusal's number
  abbrev left_by : ℕ → List ℕ
  left_by k = (accept_from w answer (calls.accept_by k (accept_on (ledger_at w) keys slots probes links a) keys slots probes links)).ledger

  -- the words that the call leaves
  abbrev pub words_left : List ℕ
  words_left = (accept_from w answer (calls.accept_to 0 (ledger_at w) keys slots probes links a)).ledger

  abbrev number : ℕ
  number = refusal_of_accept 0 (ledger_at w) (length keys) (length slots) (length probes) (length links)

  back : ledger_at (left_by 0) ≡ (accept_on (ledger_at w) keys slots probes links a).ledger
  back = accept-back w long (served_words w) (λ l. refl) (λ l. refl) (λ l p o t. refl) keys slots probes links a h

  long-by : (k : ℕ) → length (left_by k) ≡ 80
  long-by zero = served-long w (accept_on (ledger_at w) keys slots probes links a).ledger (accept_on (ledger_at w) keys slots probes links a).accepted ∙ long
  long-by (suc k) = long

  pub left-long : length words_left ≡ 80
  unfolding calls.accept_to
  left-long = long-by number

  lasting_by : (n k : ℕ) → Lasting (suc n) (ledger_at w) → Lasting n (ledger_at (left_by k))
  lasting_by n zero s = subst (Lasting n) (sym back) (served_lasting n (ledger_at w) keys slots probes links a s)
  lasting_by n (suc k) s = kept_lasting n (ledger_at w) s

  pub left_lasting : (n : ℕ) → Lasting (suc n) (ledger_at w) → Lasting n (ledger_at words_left)
  unfolding calls.accept_to
  left_lasting n s = lasting_by n number s
