-- THE PLAIN MONITOR IS FOLLOWED WITHOUT ITS QUEUE: what is queued are the probes of the records from the front on. Assumes nothing.
use Rattle.std.specs.Prelude.{Option, Some, None}
use mathlib.Core.Path.{◌≡◌, refl, sym, ap, subst, ◌∙◌}
use mathlib.Core.Bool.{Bool, true, false, cond}
use mathlib.Core.List.{List, [], ◌∷◌, ◌++◌}
use Prim.Native.Nat.{ℕ, zero, suc, ◌+◌, ◌-◌, ◌≤◌}
use native.Mathlib.Omega.{arith}
use lib.Dec.{eqb, ltb}
use Rattle.call_types.specs.declared.SentProbe.{SentProbe}
use Rattle.probe_queue.specs.Queue.{choose}
use Rattle.monitor.specs.declared.State.TheVariants as state
use Rattle.monitor.specs.declared.Summary.{Summary}
use Rattle.monitor.specs.States.{losing, transition, stops}
use Rattle.monitor_model.specs.Plain.{Sent, Plain, insert, pop_to, hear, reply, advancing}
use Rattle.recount_queue.specs.declared.Move.{Move}
use Rattle.recount_queue.specs.declared.Move.TheVariants.{Sends, Hears, Advances, Halts, Rests}
use Rattle.recount_queue.specs.Moves.{sent_by, queued_at}
use Rattle.recount_queue.specs.Queue.{put, named, goes, queue_from, any_named, passed_to, passed_by, probes_in}
use Rattle.recount_queue.specs.Track.{played, lost, Track, plain_in, front_if, unless, next_of, track_in}
use Rattle.recount_queue.proofs.Passes.{queue_more, popped-probes, popped_marks, advanced-probes, advanced-summary, advanced_marks}

append-nil : (xs : List Sent) → xs ++ [] ≡ xs
append-nil [] = refl
append-nil (x ∷ xs) = ap (λ (l : List Sent). x ∷ l) (append-nil xs)

module _ (threshold timeout : ℕ) (moves : ℕ → Move) where
  abbrev probe : ℕ → Option SentProbe
  probe = queued_at timeout moves

  abbrev run : ℕ → ℕ → List Sent
  run a k = queue_from timeout probe a k

  -- ---- passing records is never past the end

  to_most : (q a k : ℕ) → passed_to probe q a k ≤ k
  unfolding passed_to
  to_most q a zero = omega arith
  to_most q a (suc k) = go (named q (probe a)) (to_most q (suc a) k)
    where
      go : (b : Bool) → passed_to probe q (suc a) k ≤ k → cond b 1 (suc (passed_to probe q (suc a) k)) ≤ suc k
      go true l = omega arith
      go false l = omega arith

  by_most : (t a k : ℕ) → passed_by timeout probe t a k ≤ k
  unfolding passed_by
  by_most t a zero = omega arith
  by_most t a (suc k) = go (goes timeout t (probe a)) (by_most t (suc a) k)
    where
      go : (b : Bool) → passed_by timeout probe t (suc a) k ≤ k → cond b (suc (passed_by timeout probe t (suc a) k)) 0 ≤ suc k
      go true l = omega arith
      go false l = omega arith

  -- ---- one record more

  run_more : (a n : ℕ) → a ≤ n → run a (suc n - a) ≡ run a (n - a) ++ put timeout (probe n) []
  run_more a n l =
      let e : suc n - a ≡ suc (n - a) = omega arith in
      let f : a + (n - a) ≡ n = omega arith in
      ap (run a) e ∙ queue_more timeout probe a (n - a) ∙ ap (λ (i : ℕ). run a (n - a) ++ put timeout (probe i) []) f

  run_same : (a n : ℕ) → a ≤ n → probe n ≡ None → run a (suc n - a) ≡ run a (n - a)
  run_same a n l e = run_more a n l ∙ ap (λ (x : Option SentProbe). run a (n - a) ++ put timeout x []) e ∙ append-nil (run a (n - a))

  no_probe : (n : ℕ) → sent_by (moves n) ≡ None → probe n ≡ None
  no_probe n e = go (ltb 0 timeout) ∙ refl
    where
      go : (b : Bool) → cond b (sent_by (moves n)) None ≡ None
      go true = e
      go false = refl

  -- what holds of the plain monitor p and what is followed, after n records
  pub record Follows (p : Plain) (t : Track) (n : ℕ) : Type 0 where
    pub probes : p.probes ≡ run t.front (n - t.front)
    pub received : (x : ℕ) → p.received x ≡ t.heard x
    pub on : p.transmitting ≡ t.on
    pub summary : p.summary ≡ t.summary
    pub timeout_is : p.timeout ≡ timeout
    pub within : t.front ≤ n

  module _ (p : Plain) (t : Track) (n : ℕ) (ok : Follows p t n) where
    sends_on : (s : SentProbe) → moves n ≡ Sends s → Follows (played (Sends s) p) (next_of threshold timeout moves (Sends s) n t) (suc n)
    unfolding insert
    sends_on s e = go (ltb 0 timeout) refl
      where
        at : (b : Bool) → ltb 0 timeout ≡ b → probe n ≡ cond b (Some s) None
        at b q = ap (λ (d : Bool). cond d (sent_by (moves n)) None) q ∙ ap (λ (m : Move). cond b (sent_by m) None) e

        marked : (x : ℕ) (b : Bool) → choose b true (p.received x) ≡ cond b true (t.heard x)
        marked x true = refl
        marked x false = ok.received x

        go : (b : Bool) → ltb 0 timeout ≡ b → Follows (played (Sends s) p) (next_of threshold timeout moves (Sends s) n t) (suc n)
        go true q =
            let w : ltb 0 p.timeout ≡ true = ap (ltb 0) ok.timeout_is ∙ q in
            rw (w, q) (record {
              probes =
                  ap (λ (xs : List Sent). xs ++ record { sequence = s.sequence; deadline = s.packet.time + p.timeout } ∷ []) ok.probes
                  ∙ ap (λ (d : ℕ). run t.front (n - t.front) ++ record { sequence = s.sequence; deadline = s.packet.time + d } ∷ []) ok.timeout_is
                  ∙ sym (run_more t.front n ok.within ∙ ap (λ (x : Option SentProbe). run t.front (n - t.front) ++ put timeout x []) (at true q));
              received = λ x. marked x (eqb s.sequence x);
              on = refl;
              summary = ok.summary;
              timeout_is = ok.timeout_is;
              within = omega (arith, ok.within);
            })
        go false q =
            let w : ltb 0 p.timeout ≡ false = ap (ltb 0) ok.timeout_is ∙ q in
            rw (w, q) (record {
              probes = ok.probes ∙ sym (run_same t.front n ok.within (at false q));
              received = ok.received;
              on = refl;
              summary = ok.summary;
              timeout_is = ok.timeout_is;
              within = omega (arith, ok.within);
            })

    rests_on : sent_by (moves n) ≡ None → Follows p t (suc n)
    rests_on e = record {
      probes = ok.probes ∙ sym (run_same t.front n ok.within (no_probe n e));
      received = ok.received;
      on = ok.on;
      summary = ok.summary;
      timeout_is = ok.timeout_is;
      within = omega (arith, ok.within);
    }

    halts_on : Follows (played Halts p) (next_of threshold timeout moves Halts n t) (suc n)
    unfolding queue_from
    halts_on = record {
      probes = sym (gone (suc n - suc n) (omega arith));
      received = λ x. refl;
      on = refl;
      summary = ap (λ (b : Bool). stops b p.summary) ok.on ∙ ap (stops t.on) ok.summary;
      timeout_is = ok.timeout_is;
      within = omega arith;
    }
      where
        gone : (k : ℕ) → k ≡ 0 → run (suc n) k ≡ []
        gone k e = ap (run (suc n)) e

    -- the front after passing k records
    front_moves : (k : ℕ) → k ≤ n - t.front → probe n ≡ None → run (t.front + k) (n - t.front - k) ≡ run (t.front + k) (suc n - (t.front + k))
    front_moves k l e =
        let w = ok.within in
        let d : n - t.front - k ≡ n - (t.front + k) = omega arith in
        ap (run (t.front + k)) d ∙ sym (run_same (t.front + k) n (omega arith) e)

    passed_is : (k x : ℕ) → any_named probe x t.front k ≡ any_named probe x t.front (t.front + k - t.front)
    passed_is k x = let d : k ≡ t.front + k - t.front = omega arith in ap (any_named probe x t.front) d

    none_named : (x : ℕ) → t.heard x ≡ unless threshold timeout moves t.front t.front t.heard x
    unfolding any_named
    none_named x =
        let d : 0 ≡ t.front - t.front = omega arith in
        ap (λ (k : ℕ). cond (any_named probe x t.front k) false (t.heard x)) d

    module _ (none_here : probe n ≡ None) where
      -- a reply that is heard
      abbrev heard_by : Bool → ℕ → Plain
      heard_by d q = hear p (choose d (pop_to q p.probes p.received) (record { probes = p.probes; received = p.received }))

      abbrev track_by : Bool → ℕ → Track
      track_by d q = record {
        front = front_if threshold timeout moves d q t.front n;
        on = t.on;
        summary = transition state.Active (losing 0 t.summary);
        heard = unless threshold timeout moves t.front (front_if threshold timeout moves d q t.front n) t.heard;
      }

      heard_on : (d : Bool) (q : ℕ) → Follows (heard_by d q) (track_by d q) (suc n)
      heard_on true q =
          let k = passed_to probe q t.front (n - t.front) in
          let l : passed_to probe q t.front (n - t.front) ≤ n - t.front = to_most q t.front (n - t.front) in
          record {
            probes = ap (λ (xs : List Sent). (pop_to q xs p.received).probes) ok.probes ∙ popped-probes timeout probe q t.front (n - t.front) p.received
                ∙ front_moves (passed_to probe q t.front (n - t.front)) l none_here;
            received = λ x.
                ap (λ (xs : List Sent). (pop_to q xs p.received).received x) ok.probes ∙ popped_marks timeout probe q t.front (n - t.front) p.received x
                ∙ ap (λ (b : Bool). cond b false (p.received x)) (passed_is (passed_to probe q t.front (n - t.front)) x)
                ∙ ap (cond (any_named probe x t.front (t.front + passed_to probe q t.front (n - t.front) - t.front)) false) (ok.received x);
            on = ok.on;
            summary = ap (λ (s : Summary). transition state.Active (losing 0 s)) ok.summary;
            timeout_is = ok.timeout_is;
            within = omega (arith, l, ok.within);
          }
      heard_on false q = record {
        probes = ok.probes ∙ sym (run_same t.front n ok.within none_here);
        received = λ x. ok.received x ∙ none_named x;
        on = ok.on;
        summary = ap (λ (s : Summary). transition state.Active (losing 0 s)) ok.summary;
        timeout_is = ok.timeout_is;
        within = omega (arith, ok.within);
      }

      hears-by : (b : Bool) (q : ℕ) → sent_by (moves n) ≡ None → Follows (choose b (heard_by (t.heard q) q) p) (cond b (track_by (t.heard q) q) t) (suc n)
      hears-by true q e = heard_on (t.heard q) q
      hears-by false q e = rests_on e

      hears_on : (q : ℕ) → sent_by (moves n) ≡ None → Follows (played (Hears q) p) (next_of threshold timeout moves (Hears q) n t) (suc n)
      hears_on q e =
          subst (λ (d : Bool). Follows (choose p.transmitting (heard_by d q) p) (next_of threshold timeout moves (Hears q) n t) (suc n)) (sym (ok.received q))
          (subst (λ (b : Bool). Follows (choose b (heard_by (t.heard q) q) p) (next_of threshold timeout moves (Hears q) n t) (suc n)) (sym ok.on) (hears-by t.on q e))

      advances_on : (u : ℕ) → Follows (played (Advances u) p) (next_of threshold timeout moves (Advances u) n t) (suc n)
      advances_on u =
          let l : passed_by timeout probe u t.front (n - t.front) ≤ n - t.front = by_most u t.front (n - t.front) in
          record {
            probes = ap (λ (xs : List Sent). (advancing p.transmitting u p.summary xs p.received).probes) ok.probes
                ∙ advanced-probes timeout probe p.transmitting u t.front (n - t.front) p.summary p.received
                ∙ front_moves (passed_by timeout probe u t.front (n - t.front)) l none_here;
            received = λ x.
                ap (λ (xs : List Sent). (advancing p.transmitting u p.summary xs p.received).received x) ok.probes
                ∙ advanced_marks timeout probe p.transmitting u t.front (n - t.front) p.summary p.received x
                ∙ ap (λ (b : Bool). cond b false (p.received x)) (passed_is (passed_by timeout probe u t.front (n - t.front)) x)
                ∙ ap (cond (any_named probe x t.front (t.front + passed_by timeout probe u t.front (n - t.front) - t.front)) false) (ok.received x);
            on = ok.on;
            summary =
                ap (λ (xs : List Sent). (advancing p.transmitting u p.summary xs p.received).summary) ok.probes
                ∙ advanced-summary timeout probe p.transmitting u t.front (n - t.front) p.summary p.received
                ∙ lost-same (passed_by timeout probe u t.front (n - t.front));
            timeout_is = ok.timeout_is;
            within = omega (arith, l, ok.within);
          }
        where
          lost-same : (k : ℕ) → lost p.transmitting (probes_in probe t.front k) p.summary ≡ lost t.on (probes_in probe t.front (t.front + k - t.front)) t.summary
          lost-same k =
              let d : k ≡ t.front + k - t.front = omega arith in
              ap (λ (b : Bool). lost b (probes_in probe t.front k) p.summary) ok.on
              ∙ ap (lost t.on (probes_in probe t.front k)) ok.summary
              ∙ ap (λ (j : ℕ). lost t.on (probes_in probe t.front j) t.summary) d

    one_move : (m : Move) → moves n ≡ m → Follows (played m p) (next_of threshold timeout moves m n t) (suc n)
    one_move (Sends s) e = sends_on s e
    one_move (Hears q) e = hears_on (no_probe n (ap sent_by e)) q (ap sent_by e)
    one_move (Advances u) e = advances_on (no_probe n (ap sent_by e)) u
    one_move Halts e = halts_on
    one_move Rests e = rests_on (ap sent_by e)

  -- THE THEOREM
  pub follows : (n : ℕ) → Follows (plain_in threshold timeout moves n) (track_in threshold timeout moves n) n
  unfolding plain_in track_in queue_from
  follows zero = record { probes = refl; received = λ x. refl; on = refl; summary = refl; timeout_is = refl; within = omega arith }
  follows (suc n) = one_move (plain_in threshold timeout moves n) (track_in threshold timeout moves n) n (follows n) (moves n) refl
