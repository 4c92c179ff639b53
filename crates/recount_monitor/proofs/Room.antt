-- A ROOM OF FRONTS FOLLOWS THE MONITOR: what is looked up in it is what is followed without a queue. Assumes nothing.
use Rattle.std.specs.Prelude.{Option}
use Rattle.call_types.specs.declared.SentProbe.{SentProbe}
use mathlib.Core.Path.{◌≡◌, refl, sym, ap, subst, ◌∙◌}
use mathlib.Core.Bool.{Bool, true, false, not, ◌&&◌, ◌||◌, cond}
use mathlib.Core.List.{List}
use Prim.Native.Nat.{ℕ, zero, suc, ◌+◌, ◌-◌, ◌≤◌, ◌<◌}
use native.Mathlib.Omega.{arith}
use lib.Dec.{eqb, ltb}
use lib.ListN.{length, length-set, get_or, set}
use lib.Seq.{get_or-set_same, get_or-set_other}
use borrow.Author.Count.{below_none, below_more}
use Rattle.monitor.specs.declared.State.TheVariants as state
use Rattle.monitor.specs.States.{losing, transition}
use Rattle.recount_queue.specs.declared.Move.{Move}
use Rattle.recount_queue.specs.declared.Move.TheVariants.{Sends, Hears, Advances, Halts, Rests}
use Rattle.recount_queue.specs.Moves.{queued_at}
use Rattle.recount_queue.specs.Queue.{any_named, front_to, front_by}
use Rattle.recount_queue.specs.Track.{Track, front_if, unless, next_of, track_in}
use Rattle.recount_queue.proofs.Follows.{follows}
use Rattle.recount_monitor.specs.Fronts.{front_at, transmits_next, transmits_in, marked_next, passes, marked_in, reply_front, front_next, fronts_to, Fronted}

module _ (threshold timeout : ℕ) (moves : ℕ → Move) where
  abbrev probe : ℕ → Option SentProbe
  probe = queued_at timeout moves

  module _ (fronts : List ℕ) where
    -- what is followed after n records, in the words of the room
    pub record Tracks (n : ℕ) (t : Track) : Type 0 where
      pub front : t.front ≡ front_at fronts n
      pub on : t.on ≡ transmits_in moves n
      pub heard : (x : ℕ) → t.heard x ≡ marked_in timeout moves fronts x n

    module _ (n : ℕ) (t : Track) (ok : Tracks n t) where
      -- a record that leaves the front where it is passes nothing
      passes_none : (x : ℕ) → get_or fronts n 0 ≡ front_at fronts n → passes timeout moves fronts x n ≡ false
      unfolding any_named
      passes_none x e =
          let d : get_or fronts n 0 - front_at fronts n ≡ 0 = omega (arith, e) in
          ap (any_named probe x (front_at fronts n)) d

      -- what the front passes, by the front itself
      passes_to : (a x : ℕ) → get_or fronts n 0 ≡ a → any_named probe x t.front (a - t.front) ≡ passes timeout moves fronts x n
      passes_to a x e =
          ap (λ (f : ℕ). any_named probe x f (a - f)) ok.front
          ∙ ap (λ (b : ℕ). any_named probe x (front_at fronts n) (b - front_at fronts n)) (sym e)

      kept : (passed b : Bool) → cond passed false b ≡ (not passed && b)
      kept true b = refl
      kept false b = refl

      put : (queues same b : Bool) → cond queues (cond same true b) b ≡ ((queues && same) || b)
      put true true b = refl
      put true false b = refl
      put false same b = refl

      -- a front that moved from t's to a
      moved : (a : ℕ) → get_or fronts n 0 ≡ a → (x : ℕ) → cond (any_named probe x t.front (a - t.front)) false (t.heard x) ≡ (not (passes timeout moves fronts x n) && marked_in timeout moves fronts x n)
      moved a e x =
          ap (λ (b : Bool). cond b false (t.heard x)) (passes_to a x e)
          ∙ ap (cond (passes timeout moves fronts x n) false) (ok.heard x)
          ∙ kept (passes timeout moves fronts x n) (marked_in timeout moves fronts x n)

      still : (x : ℕ) → get_or fronts n 0 ≡ front_at fronts n → t.heard x ≡ (not (passes timeout moves fronts x n) && marked_in timeout moves fronts x n)
      still x e = ok.heard x ∙ ap (λ (b : Bool). not b && marked_in timeout moves fronts x n) (sym (passes_none x e))

      -- the room's words after one record more
      on_next : (m : Move) → moves n ≡ m → transmits_next m (transmits_in moves n) ≡ transmits_in moves (suc n)
      unfolding transmits_in
      on_next m e = ap (λ (y : Move). transmits_next y (transmits_in moves n)) (sym e)

      heard-next : (m : Move) → moves n ≡ m → (x : ℕ) → marked_next timeout m x (passes timeout moves fronts x n) (marked_in timeout moves fronts x n) ≡ marked_in timeout moves fronts x (suc n)
      unfolding marked_in
      heard-next m e x = ap (λ (y : Move). marked_next timeout y x (passes timeout moves fronts x n) (marked_in timeout moves fronts x n)) (sym e)

      -- the front after a reply
      reply-front : (q : ℕ) → t.on ≡ true → cond (t.heard q) (front_to probe q t.front n) t.front ≡ reply_front timeout moves fronts q n
      reply-front q e =
          ap (λ (b : Bool). cond b (front_to probe q t.front n) t.front) (ok.heard q)
          ∙ ap (λ (f : ℕ). cond (marked_in timeout moves fronts q n) (front_to probe q f n) f) ok.front
          ∙ ap (λ (b : Bool). cond (b && marked_in timeout moves fronts q n) (front_to probe q (front_at fronts n) n) (front_at fronts n)) (sym e ∙ ok.on)

      no_reply_front : (q : ℕ) → t.on ≡ false → reply_front timeout moves fronts q n ≡ front_at fronts n
      no_reply_front q e = ap (λ (b : Bool). cond (b && marked_in timeout moves fronts q n) (front_to probe q (front_at fronts n) n) (front_at fronts n)) (sym ok.on ∙ e)

      -- what is followed after a reply that is heard
      abbrev replied : ℕ → Track
      replied q =
          let a = front_if threshold timeout moves (t.heard q) q t.front n in
          record { front = a; on = t.on; summary = transition state.Active (losing 0 t.summary); heard = unless threshold timeout moves t.front a t.heard }

      hears-by : (q : ℕ) → moves n ≡ Hears q → get_or fronts n 0 ≡ reply_front timeout moves fronts q n → (b : Bool) → t.on ≡ b → Tracks (suc n) (cond b (replied q) t)
      hears-by q m e true o = record {
        front = reply-front q o ∙ sym e;
        on = ok.on ∙ on_next (Hears q) m;
        heard = λ x. moved (cond (t.heard q) (front_to probe q t.front n) t.front) (e ∙ sym (reply-front q o)) x ∙ heard-next (Hears q) m x;
      }
      hears-by q m e false o = record {
        front = ok.front ∙ sym (e ∙ no_reply_front q o);
        on = ok.on ∙ on_next (Hears q) m;
        heard = λ x. still x (e ∙ no_reply_front q o) ∙ heard-next (Hears q) m x;
      }

      next : (m : Move) → moves n ≡ m → get_or fronts n 0 ≡ front_next timeout moves m fronts n → Tracks (suc n) (next_of threshold timeout moves m n t)
      next (Sends s) m e = record {
        front = ok.front ∙ sym e;
        on = on_next (Sends s) m;
        heard = λ x. put (ltb 0 timeout) (eqb s.sequence x) (t.heard x) ∙ ap (λ (b : Bool). (ltb 0 timeout && eqb s.sequence x) || b) (ok.heard x) ∙ heard-next (Sends s) m x;
      }
      next (Hears q) m e = hears-by q m e t.on refl
      next (Advances u) m e =
          let by : front_by timeout probe u t.front n ≡ front_by timeout probe u (front_at fronts n) n = ap (λ (f : ℕ). front_by timeout probe u f n) ok.front in
          record {
            front = by ∙ sym e;
            on = ok.on ∙ on_next (Advances u) m;
            heard = λ x. moved (front_by timeout probe u t.front n) (e ∙ sym by) x ∙ heard-next (Advances u) m x;
          }
      next Halts m e = record { front = sym e; on = on_next Halts m; heard = λ x. heard-next Halts m x }
      next Rests m e = record { front = ok.front ∙ sym e; on = ok.on ∙ on_next Rests m; heard = λ x. ok.heard x ∙ heard-next Rests m x }

    -- THE THEOREM
    pub tracks : (n : ℕ) → Fronted timeout moves fronts n → (j : ℕ) → j ≤ n → Tracks j (track_in threshold timeout moves j)
    unfolding track_in transmits_in marked_in
    tracks n ok zero l = record { front = refl; on = refl; heard = λ x. refl }
    tracks n ok (suc j) l = next j (track_in threshold timeout moves j) (tracks n ok j (omega arith)) (moves j) refl (ok j l)

    -- no front is past the records before it
    pub front-within : (n : ℕ) → Fronted timeout moves fronts n → (j : ℕ) → j ≤ n → front_at fronts j ≤ j
    front-within n ok j l = omega (arith, (tracks n ok j l).front, (follows threshold timeout moves j).within)

-- ---- a front that is stored changes nothing of what is looked up before it

module _ (timeout : ℕ) (moves : ℕ → Move) (fronts : List ℕ) (i v : ℕ) where
  at-kept : (j : ℕ) → j ≤ i → front_at (set fronts i v) j ≡ front_at fronts j
  at-kept zero l = refl
  at-kept (suc j) l = get_or-set_other fronts i j v 0 (λ e. omega arith)

  marked-kept : (x j : ℕ) → j ≤ i → marked_in timeout moves (set fronts i v) x j ≡ marked_in timeout moves fronts x j
  unfolding marked_in
  marked-kept x zero l = refl
  marked-kept x (suc j) l =
      ap (λ (f : ℕ). marked_next timeout (moves j) x (any_named (queued_at timeout moves) x f (front_at (set fronts i v) (suc j) - f)) (marked_in timeout moves (set fronts i v) x j)) (at-kept j (omega arith))
      ∙ ap (λ (b : ℕ). marked_next timeout (moves j) x (any_named (queued_at timeout moves) x (front_at fronts j) (b - front_at fronts j)) (marked_in timeout moves (set fronts i v) x j)) (at-kept (suc j) l)
      ∙ ap (marked_next timeout (moves j) x (passes timeout moves fronts x j)) (marked-kept x j (omega arith))

  next-kept : (m : Move) (j : ℕ) → j ≤ i → front_next timeout moves m (set fronts i v) j ≡ front_next timeout moves m fronts j
  next-kept (Sends s) j l = at-kept j l
  next-kept (Hears q) j l =
      ap (λ (b : Bool). cond (transmits_in moves j && b) (front_to (queued_at timeout moves) q (front_at (set fronts i v) j) j) (front_at (set fronts i v) j)) (marked-kept q j l)
      ∙ ap (λ (f : ℕ). cond (transmits_in moves j && marked_in timeout moves fronts q j) (front_to (queued_at timeout moves) q f j) f) (at-kept j l)
  next-kept (Advances t) j l = ap (λ (f : ℕ). front_by timeout (queued_at timeout moves) t f j) (at-kept j l)
  next-kept Halts j l = refl
  next-kept Rests j l = at-kept j l

  fronted_more : i < length fronts → v ≡ front_next timeout moves (moves i) fronts i → Fronted timeout moves fronts i → Fronted timeout moves (set fronts i v) (suc i)
  fronted_more within e h =
      let one : i + 1 ≡ suc i = omega arith in
      subst (λ (n : ℕ). Fronted timeout moves (set fronts i v) n) one
      (below_more (λ (j : ℕ). get_or (set fronts i v) j 0 ≡ front_next timeout moves (moves j) (set fronts i v) j) i
      (λ j a. get_or-set_other fronts i j v 0 (λ e. omega arith) ∙ h j a ∙ sym (next-kept (moves j) j (omega arith)))
      (get_or-set_same fronts i v 0 within ∙ e ∙ sym (next-kept (moves i) i (omega arith))))

module _ (timeout : ℕ) (moves : ℕ → Move) (fronts : List ℕ) where
  pub fronts_starts : fronts ≡ fronts_to timeout moves fronts 0
  unfolding fronts_to
  fronts_starts = refl

  pub fronts_length : (n : ℕ) → length (fronts_to timeout moves fronts n) ≡ length fronts
  unfolding fronts_to
  fronts_length zero = refl
  fronts_length (suc n) = length-set (fronts_to timeout moves fronts n) n (front_next timeout moves (moves n) (fronts_to timeout moves fronts n) n) ∙ fronts_length n

  -- what the loop leaves has the fronts in it
  pub fronted_to : (n : ℕ) → n ≤ length fronts → Fronted timeout moves (fronts_to timeout moves fronts n) n
  unfolding fronts_to
  fronted_to zero l = below_none _
  fronted_to (suc n) l = fronted_more timeout moves (fronts_to timeout moves fronts n) n (front_next timeout moves (moves n) (fronts_to timeout moves fronts n) n) (omega (arith, fronts_length n)) refl (fronted_to n (omega arith))

  pub fronts_turn : (n v : ℕ) (room : List ℕ) → room ≡ fronts_to timeout moves fronts n → v ≡ front_next timeout moves (moves n) room n → set room n v ≡ fronts_to timeout moves fronts (n + 1)
  unfolding fronts_to
  fronts_turn n v room e f =
      let one : suc n ≡ n + 1 = omega arith in
      subst (λ (m : ℕ). set room n v ≡ fronts_to timeout moves fronts m) one
      (ap (set room n) f ∙ ap (λ (r : List ℕ). set r n (front_next timeout moves (moves n) r n)) e)
