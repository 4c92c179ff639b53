-- What `sent`, `reply` and `advance` of the plain monitor do to a queue that is a run of records. Assumes nothing.
use Rattle.std.specs.Prelude.{Option, Some, None}
use Rattle.call_types.specs.declared.SentProbe.{SentProbe}
use mathlib.Core.Path.{◌≡◌, refl, ap, ◌∙◌}
use mathlib.Core.Bool.{Bool, true, false, ◌||◌, cond}
use mathlib.Core.List.{List, [], ◌∷◌, ◌++◌}
use Prim.Native.Nat.{ℕ, zero, suc, ◌+◌, ◌-◌}
use native.Mathlib.Omega.{arith}
use lib.Dec.{eqb, leb}
use Rattle.probe_queue.specs.Queue.{choose}
use Rattle.monitor.specs.declared.Summary.{Summary}
use Rattle.monitor_model.specs.Plain.{Sent, Marks, remove, pop_to, lose, advancing}
use Rattle.recount_queue.specs.Track.{lost}
use Rattle.recount_queue.specs.Queue.{entry, put, named, queue_from, any_named, passed_to, goes, passed_by, probes_in}

module _ (timeout : ℕ) (probe : ℕ → Option SentProbe) where
  -- ---- one record more at the end

  put_end : (x : Option SentProbe) (xs ys : List Sent) → put timeout x (xs ++ ys) ≡ put timeout x xs ++ ys
  put_end None xs ys = refl
  put_end (Some s) xs ys = refl

  pub queue_more : (a k : ℕ) → queue_from timeout probe a (suc k) ≡ queue_from timeout probe a k ++ put timeout (probe (a + k)) []
  unfolding queue_from
  queue_more a zero = let e : a ≡ a + 0 = omega arith in ap (λ (i : ℕ). put timeout (probe i) []) e
  queue_more a (suc k) =
      let e : suc a + k ≡ a + suc k = omega arith in
      ap (put timeout (probe a)) (queue_more (suc a) k)
      ∙ put_end (probe a) (queue_from timeout probe (suc a) k) (put timeout (probe (suc a + k)) [])
      ∙ ap (λ (i : ℕ). put timeout (probe a) (queue_from timeout probe (suc a) k) ++ put timeout (probe i) []) e

  -- ---- a reply

  abbrev rest_to : ℕ → ℕ → ℕ → List Sent
  rest_to q a k = queue_from timeout probe (a + passed_to probe q a k) (k - passed_to probe q a k)

  -- one record further
  step : (a k p : ℕ) → queue_from timeout probe (suc a + p) (k - p) ≡ queue_from timeout probe (a + suc p) (suc k - suc p)
  step a k p =
      let e : suc a + p ≡ a + suc p = omega arith in
      let d : k - p ≡ suc k - suc p = omega arith in
      ap (λ (i : ℕ). queue_from timeout probe i (k - p)) e ∙ ap (queue_from timeout probe (a + suc p)) d

  pub popped-probes : (q a k : ℕ) (m : Marks) → (pop_to q (queue_from timeout probe a k) m).probes ≡ rest_to q a k
  unfolding queue_from passed_to
  popped-probes q a zero m = refl
  popped-probes q a (suc k) m = go (probe a) (λ m. popped-probes q (suc a) k m)
    where
      go : (x : Option SentProbe) → ((m : Marks) → (pop_to q (queue_from timeout probe (suc a) k) m).probes ≡ rest_to q (suc a) k)
          → (pop_to q (put timeout x (queue_from timeout probe (suc a) k)) m).probes
          ≡ queue_from timeout probe (a + cond (named q x) 1 (suc (passed_to probe q (suc a) k))) (suc k - cond (named q x) 1 (suc (passed_to probe q (suc a) k)))
      go None ih = ih m ∙ step a k (passed_to probe q (suc a) k)
      go (Some s) ih = by (eqb s.sequence q)
        where
          by : (b : Bool) → (choose b (record { probes = queue_from timeout probe (suc a) k; received = remove s.sequence m }) (pop_to q (queue_from timeout probe (suc a) k) (remove s.sequence m))).probes
              ≡ queue_from timeout probe (a + cond b 1 (suc (passed_to probe q (suc a) k))) (suc k - cond b 1 (suc (passed_to probe q (suc a) k)))
          by true = let e : suc a ≡ a + 1 = omega arith in let d : k ≡ suc k - 1 = omega arith in ap (λ (i : ℕ). queue_from timeout probe i k) e ∙ ap (queue_from timeout probe (a + 1)) d
          by false = ih (remove s.sequence m) ∙ step a k (passed_to probe q (suc a) k)

  -- a sequence stays marked unless one of the passed records has it
  pub popped_marks : (q a k : ℕ) (m : Marks) (x : ℕ) → (pop_to q (queue_from timeout probe a k) m).received x ≡ cond (any_named probe x a (passed_to probe q a k)) false (m x)
  unfolding queue_from passed_to any_named remove
  popped_marks q a zero m x = refl
  popped_marks q a (suc k) m x = go (probe a) refl (λ m. popped_marks q (suc a) k m x)
    where
      go : (y : Option SentProbe) → probe a ≡ y → ((m : Marks) → (pop_to q (queue_from timeout probe (suc a) k) m).received x ≡ cond (any_named probe x (suc a) (passed_to probe q (suc a) k)) false (m x))
          → (pop_to q (put timeout y (queue_from timeout probe (suc a) k)) m).received x
          ≡ cond (any_named probe x a (cond (named q y) 1 (suc (passed_to probe q (suc a) k)))) false (m x)
      go None e ih = rw e (ih m)
      go (Some s) e ih = by (eqb s.sequence q)
        where
          last : (d : Bool) → choose d false (m x) ≡ cond (d || false) false (m x)
          last true = refl
          last false = refl

          more : (c d : Bool) → cond c false (choose d false (m x)) ≡ cond (d || c) false (m x)
          more true true = refl
          more true false = refl
          more false true = refl
          more false false = refl

          by : (b : Bool) → (choose b (record { probes = queue_from timeout probe (suc a) k; received = remove s.sequence m }) (pop_to q (queue_from timeout probe (suc a) k) (remove s.sequence m))).received x
              ≡ cond (any_named probe x a (cond b 1 (suc (passed_to probe q (suc a) k)))) false (m x)
          by true = rw e (last (eqb s.sequence x))
          by false = rw e (ih (remove s.sequence m) ∙ more (any_named probe x (suc a) (passed_to probe q (suc a) k)) (eqb s.sequence x))

  -- ---- an advance

  pub advanced-probes : (b : Bool) (t a k : ℕ) (s : Summary) (m : Marks)
      → (advancing b t s (queue_from timeout probe a k) m).probes ≡ queue_from timeout probe (a + passed_by timeout probe t a k) (k - passed_by timeout probe t a k)
  unfolding queue_from passed_by
  advanced-probes b t a zero s m = refl
  advanced-probes b t a (suc k) s m = go (probe a) refl (λ s m. advanced-probes b t (suc a) k s m)
    where
      go : (y : Option SentProbe) → probe a ≡ y
          → ((s : Summary) (m : Marks) → (advancing b t s (queue_from timeout probe (suc a) k) m).probes ≡ queue_from timeout probe (suc a + passed_by timeout probe t (suc a) k) (k - passed_by timeout probe t (suc a) k))
          → (advancing b t s (put timeout y (queue_from timeout probe (suc a) k)) m).probes
          ≡ queue_from timeout probe (a + cond (goes timeout t y) (suc (passed_by timeout probe t (suc a) k)) 0) (suc k - cond (goes timeout t y) (suc (passed_by timeout probe t (suc a) k)) 0)
      go None e ih = ih s m ∙ step a k (passed_by timeout probe t (suc a) k)
      go (Some p) e ih = by (leb (p.packet.time + timeout) t)
        where
          by : (d : Bool) → (choose d (advancing b t (lose b s) (queue_from timeout probe (suc a) k) (remove p.sequence m)) (record { summary = s; probes = entry timeout p ∷ queue_from timeout probe (suc a) k; received = m })).probes
              ≡ queue_from timeout probe (a + cond d (suc (passed_by timeout probe t (suc a) k)) 0) (suc k - cond d (suc (passed_by timeout probe t (suc a) k)) 0)
          by true = ih (lose b s) (remove p.sequence m) ∙ step a k (passed_by timeout probe t (suc a) k)
          by false =
              let z : a ≡ a + 0 = omega arith in let w : suc k ≡ suc k - 0 = omega arith in
              rw (← z, ← w, e)

  pub advanced-summary : (b : Bool) (t a k : ℕ) (s : Summary) (m : Marks) → (advancing b t s (queue_from timeout probe a k) m).summary ≡ lost b (probes_in probe a (passed_by timeout probe t a k)) s
  unfolding queue_from passed_by probes_in
  advanced-summary b t a zero s m = refl
  advanced-summary b t a (suc k) s m = go (probe a) refl (λ s m. advanced-summary b t (suc a) k s m)
    where
      go : (y : Option SentProbe) → probe a ≡ y
          → ((s : Summary) (m : Marks) → (advancing b t s (queue_from timeout probe (suc a) k) m).summary ≡ lost b (probes_in probe (suc a) (passed_by timeout probe t (suc a) k)) s)
          → (advancing b t s (put timeout y (queue_from timeout probe (suc a) k)) m).summary
          ≡ lost b (probes_in probe a (cond (goes timeout t y) (suc (passed_by timeout probe t (suc a) k)) 0)) s
      go None e ih = rw e (ih s m)
      go (Some p) e ih = by (leb (p.packet.time + timeout) t)
        where
          by : (d : Bool) → (choose d (advancing b t (lose b s) (queue_from timeout probe (suc a) k) (remove p.sequence m)) (record { summary = s; probes = entry timeout p ∷ queue_from timeout probe (suc a) k; received = m })).summary
              ≡ lost b (probes_in probe a (cond d (suc (passed_by timeout probe t (suc a) k)) 0)) s
          by true = rw e (ih (lose b s) (remove p.sequence m))
          by false = refl

  pub advanced_marks : (b : Bool) (t a k : ℕ) (s : Summary) (m : Marks) (x : ℕ)
      → (advancing b t s (queue_from timeout probe a k) m).received x ≡ cond (any_named probe x a (passed_by timeout probe t a k)) false (m x)
  unfolding queue_from passed_by any_named remove
  advanced_marks b t a zero s m x = refl
  advanced_marks b t a (suc k) s m x = go (probe a) refl (λ s m. advanced_marks b t (suc a) k s m x)
    where
      go : (y : Option SentProbe) → probe a ≡ y
          → ((s : Summary) (m : Marks) → (advancing b t s (queue_from timeout probe (suc a) k) m).received x ≡ cond (any_named probe x (suc a) (passed_by timeout probe t (suc a) k)) false (m x))
          → (advancing b t s (put timeout y (queue_from timeout probe (suc a) k)) m).received x
          ≡ cond (any_named probe x a (cond (goes timeout t y) (suc (passed_by timeout probe t (suc a) k)) 0)) false (m x)
      go None e ih = rw e (ih s m)
      go (Some p) e ih = by (leb (p.packet.time + timeout) t)
        where
          more : (c d : Bool) → cond c false (choose d false (m x)) ≡ cond (d || c) false (m x)
          more true true = refl
          more true false = refl
          more false true = refl
          more false false = refl

          by : (d : Bool) → (choose d (advancing b t (lose b s) (queue_from timeout probe (suc a) k) (remove p.sequence m)) (record { summary = s; probes = entry timeout p ∷ queue_from timeout probe (suc a) k; received = m })).received x
              ≡ cond (any_named probe x a (cond d (suc (passed_by timeout probe t (suc a) k)) 0)) false (m x)
          by true = rw e (ih (lose b s) (remove p.sequence m) ∙ more (any_named probe x (suc a) (passed_by timeout probe t (suc a) k)) (eqb p.sequence x))
          by false = refl
