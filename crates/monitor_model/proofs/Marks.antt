-- The set of marked sequences, and the marks of the queued records: what pops take away from each.
-- Assumes nothing.
use mathlib.Core.Path.{◌≡◌, refl, sym, ap, subst, ◌∙◌}
use mathlib.Core.Bool.{Bool, true, false, not}
use mathlib.Core.List.{List, [], ◌∷◌, ◌++◌, map}
use Prim.Native.Nat.{ℕ, suc, ◌<◌, ◌≤◌, zero-le, suc-le-suc}
use native.Mathlib.Omega.{arith}
use lib.ListN.{length, take}
use lib.Dec.{T, eqb, ltb, leb-suc-suc}
use borrow.Author.Tests.{eqb-true, ne_eqb, ltb-false, lt-ltb}
use Rattle.probe_queue.specs.declared.QueuedProbe.{QueuedProbe}
use Rattle.probe_queue.specs.declared.Rule.TheVariants.{Below, Until, Unmarked}
use Rattle.probe_queue.specs.Queue.{choose, leading, is_marked, passes, unmark}
use Rattle.monitor_model.specs.Plain.{Marks, insert, remove}
use Rattle.monitor_model.specs.Playing.{marked}
use Rattle.monitor_model.proofs.Rings.{unmarks_all, unmark_sequence}
use Rattle.monitor_model.proofs.Rising.{Above, Rises, above-append}

abbrev pub seqs : List QueuedProbe → List ℕ
seqs xs = map (λ (p : QueuedProbe). p.sequence) xs

-- whether a sequence is one of a list's
abbrev pub among : ℕ → List QueuedProbe → Bool
among s [] = false
among s (p ∷ ps) = choose (eqb p.sequence s) true (among s ps)

-- each pop removes its sequence
abbrev pub removes : List QueuedProbe → Marks → Marks
removes [] marks = marks
removes (p ∷ ps) marks = removes ps (remove p.sequence marks)

twice : (a b v : Bool) → choose b false (choose a false v) ≡ choose (choose a true b) false v
twice true true v = refl
twice true false v = refl
twice false b v = refl

removes_is : (ps : List QueuedProbe) (marks : Marks) (s : ℕ) → removes ps marks s ≡ choose (among s ps) false (marks s)
unfolding remove
removes_is [] marks s = refl
removes_is (p ∷ ps) marks s = removes_is ps (remove p.sequence marks) s ∙ twice (eqb p.sequence s) (among s ps) (marks s)

-- one record and one unmarked sequence: `a` its being of that sequence, `b` that sequence's being s, `c` its being of s
one_unmarked : (a b c k m : Bool) (x : QueuedProbe) → (a ≡ true → c ≡ b) → (b ≡ true → c ≡ a)
    → choose c (choose (is_marked (choose a (record { sequence = x.sequence; deadline = x.deadline; mark = 0 }) x)) true (choose b false m)) (choose b false m) ≡ choose b false (choose c (choose (is_marked x) true m) m)
one_unmarked true true c k m x i j = subst (λ (t : Bool). choose t (choose false true false) false ≡ false) (sym (i refl)) refl
one_unmarked true false c k m x i j = subst (λ (t : Bool). choose t (choose false true m) m ≡ choose t (choose (is_marked x) true m) m) (sym (i refl)) refl
one_unmarked false true c k m x i j = subst (λ (t : Bool). choose t (choose (is_marked x) true false) false ≡ false) (sym (j refl)) refl
one_unmarked false false c k m x i j = refl

marked-unmark : (q s : ℕ) (xs : List QueuedProbe) → marked s (map (unmark q) xs) ≡ choose (eqb q s) false (marked s xs)
unfolding unmark
marked-unmark q s [] = none (eqb q s)
  where
    none : (t : Bool) → false ≡ choose t false false
    none true = refl
    none false = refl
marked-unmark q s (x ∷ xs) =
    ap (λ (n : ℕ). choose (eqb n s) (choose (is_marked (unmark q x)) true (marked s (map (unmark q) xs))) (marked s (map (unmark q) xs))) (unmark_sequence q x)
    ∙ ap (λ (m : Bool). choose (eqb x.sequence s) (choose (is_marked (unmark q x)) true m) m) (marked-unmark q s xs)
    ∙ one_unmarked (eqb x.sequence q) (eqb q s) (eqb x.sequence s) true (marked s xs) x
    (λ e. ap (λ (n : ℕ). eqb n s) (eqb-true x.sequence q e)) (λ e. ap (eqb x.sequence) (sym (eqb-true q s e)))

marked_unmarks : (ps xs : List QueuedProbe) (s : ℕ) → marked s (unmarks_all ps xs) ≡ choose (among s ps) false (marked s xs)
marked_unmarks [] xs s = refl
marked_unmarks (p ∷ ps) xs s =
    marked_unmarks ps (map (unmark p.sequence) xs) s ∙ ap (λ (m : Bool). choose (among s ps) false m) (marked-unmark p.sequence s xs) ∙ twice (eqb p.sequence s) (among s ps) (marked s xs)

append_one : (c a k m n : Bool) → choose c true a ≡ false → (a ≡ false → m ≡ n) → choose c (choose k true m) m ≡ n
append_one true a k m n e i = let z : true ≡ false = e in absurd (impossible z)
  where
    impossible : true ≡ false → ⊥
    impossible z = subst T z tt
append_one false a k m n e i = i e

-- of a sequence that is not among the first records, the marks are those of the others
pub marked_append : (ps xs : List QueuedProbe) (s : ℕ) → among s ps ≡ false → marked s (ps ++ xs) ≡ marked s xs
marked_append [] xs s e = refl
marked_append (p ∷ ps) xs s e = append_one (eqb p.sequence s) (among s ps) (is_marked p) (marked s (ps ++ xs)) (marked s xs) e (λ h. marked_append ps xs s h)

-- above a sequence no record of it is marked
pub above-unmarked : (n s : ℕ) (xs : List QueuedProbe) → Above n (seqs xs) → s ≤ n → marked s xs ≡ false
above-unmarked n s [] a l = refl
above-unmarked n s (x ∷ xs) a l =
    ap (λ (t : Bool). choose t (choose (is_marked x) true (marked s xs)) (marked s xs)) (ne_eqb x.sequence s (λ e. omega (arith, e, l, a.0))) ∙ above-unmarked n s xs a.1 l

seqs_append : (ps xs : List QueuedProbe) → seqs (ps ++ xs) ≡ seqs ps ++ seqs xs
seqs_append [] xs = refl
seqs_append (p ∷ ps) xs = ap (λ (ns : List ℕ). p.sequence ∷ ns) (seqs_append ps xs)

absent_one : (c a : Bool) (m : Bool) → choose c true a ≡ true → (c ≡ true → m ≡ false) → (a ≡ true → m ≡ false) → m ≡ false
absent_one true a m e i j = i refl
absent_one false a m e i j = j e

-- where sequences ascend, one among the first records is not marked among the others
pub absent : (ps xs : List QueuedProbe) (s : ℕ) → Rises (seqs (ps ++ xs)) → among s ps ≡ true → marked s xs ≡ false
absent [] xs s r e = absurd (impossible e)
  where
    impossible : false ≡ true → ⊥
    impossible z = subst (λ (t : Bool). T (not t)) z tt
absent (p ∷ ps) xs s r e =
    absent_one (eqb p.sequence s) (among s ps) (marked s xs) e
    (λ h. above-unmarked p.sequence s xs (above-append p.sequence (seqs ps) (seqs xs) (subst (Above p.sequence) (seqs_append ps xs) r.0)) (omega (arith, eqb-true p.sequence s h)))
    (λ h. absent ps xs s r.1 h)

-- ---- what n pops leave of the marks
module _ (ps xs : List QueuedProbe) (marks : Marks) (same : (s : ℕ) → marked s (ps ++ xs) ≡ marks s) where
  slow_by : (s : ℕ) (a : Bool) → among s ps ≡ a → choose a false (marked s xs) ≡ choose a false (marks s)
  slow_by s true e = refl
  slow_by s false e = sym (marked_append ps xs s e) ∙ same s

  pub pops_slow : (s : ℕ) → marked s (unmarks_all ps xs) ≡ removes ps marks s
  pops_slow s = marked_unmarks ps xs s ∙ slow_by s (among s ps) refl ∙ sym (removes_is ps marks s)

  fast_by : Rises (seqs (ps ++ xs)) → (s : ℕ) (a : Bool) → among s ps ≡ a → marked s xs ≡ choose a false (marks s)
  fast_by r s true e = absent ps xs s r e
  fast_by r s false e = sym (marked_append ps xs s e) ∙ same s

  pub pops_fast : Rises (seqs (ps ++ xs)) → (s : ℕ) → marked s xs ≡ removes ps marks s
  pops_fast r s = fast_by r s (among s ps) refl ∙ sym (removes_is ps marks s)

-- ---- one probe more
snoc_one : (c k m v : Bool) → choose c (choose k true (choose v true m)) (choose v true m) ≡ choose v true (choose c (choose k true m) m)
snoc_one true true m true = refl
snoc_one true true m false = refl
snoc_one true false m v = refl
snoc_one false k m v = refl

marked_snoc : (xs : List QueuedProbe) (v : QueuedProbe) (s : ℕ) → is_marked v ≡ true → marked s (xs ++ v ∷ []) ≡ choose (eqb v.sequence s) true (marked s xs)
marked_snoc [] v s e = ap (λ (k : Bool). choose (eqb v.sequence s) (choose k true false) false) e
marked_snoc (x ∷ xs) v s e =
    ap (λ (m : Bool). choose (eqb x.sequence s) (choose (is_marked x) true m) m) (marked_snoc xs v s e) ∙ snoc_one (eqb x.sequence s) (is_marked x) (marked s xs) (eqb v.sequence s)

pub inserts : (xs : List QueuedProbe) (v : QueuedProbe) (marks : Marks) → is_marked v ≡ true → ((s : ℕ) → marked s xs ≡ marks s) → (s : ℕ) → marked s (xs ++ v ∷ []) ≡ insert v.sequence marks s
unfolding insert
inserts xs v marks e same s = marked_snoc xs v s e ∙ ap (λ (m : Bool). choose (eqb v.sequence s) true m) (same s)

-- ---- what a search finds
found_one : (c k m : Bool) (n len : ℕ) → ltb n len ≡ m → ltb (choose (choose c (not k) true) (suc n) 0) (suc len) ≡ choose c (choose k true m) m
found_one true true m n len e = lt-ltb 0 (suc len) (suc-le-suc zero-le)
found_one true false m n len e = leb-suc-suc (suc n) len ∙ e
found_one false k m n len e = leb-suc-suc (suc n) len ∙ e

-- a marked record is found exactly if there is one
pub finds : (s : ℕ) (xs : List QueuedProbe) → ltb (leading (passes (Unmarked s)) xs) (length xs) ≡ marked s xs
unfolding passes
finds s [] = refl
finds s (x ∷ xs) = found_one (eqb x.sequence s) (is_marked x) (marked s xs) (leading (passes (Unmarked s)) xs) (length xs) (finds s xs)

first_one : (c k m : Bool) (n len : ℕ) → choose c (choose k true m) m ≡ true → (m ≡ true → n < len) → choose (not c) (suc n) 0 < suc len
first_one true k m n len e i = suc-le-suc zero-le
first_one false k m n len e i = suc-le-suc (i e)

-- then there is a first record of the sequence
pub first-within : (s : ℕ) (xs : List QueuedProbe) → marked s xs ≡ true → leading (passes (Until s)) xs < length xs
unfolding passes
first-within s [] e = absurd (impossible e)
  where
    impossible : false ≡ true → ⊥
    impossible z = subst (λ (t : Bool). T (not t)) z tt
first-within s (x ∷ xs) e = first_one (eqb x.sequence s) (is_marked x) (marked s xs) (leading (passes (Until s)) xs) (length xs) e (λ h. first-within s xs h)

early_one : (b : Bool) (x : QueuedProbe) (s j : ℕ) (xs : List QueuedProbe) → (b ≡ false → marked s xs ≡ false) → marked s (take (suc j) xs) ≡ marked s xs → marked s (take (suc (choose b (suc j) 0)) (x ∷ xs)) ≡ marked s (x ∷ xs)
early_one true x s j xs i e = ap (λ (m : Bool). choose (eqb x.sequence s) (choose (is_marked x) true m) m) e
early_one false x s j xs i e = ap (λ (m : Bool). choose (eqb x.sequence s) (choose (is_marked x) true m) m) (sym (i refl))

-- where sequences ascend, the search may stop after the first that is not below
pub stops_early : (s : ℕ) (xs : List QueuedProbe) → Rises (seqs xs) → marked s (take (suc (leading (passes (Below s)) xs)) xs) ≡ marked s xs
unfolding passes
stops_early s [] r = refl
stops_early s (x ∷ xs) r =
    early_one (ltb x.sequence s) x s (leading (passes (Below s)) xs) xs (λ h. above-unmarked x.sequence s xs r.0 (ltb-false x.sequence s h)) (stops_early s xs r.1)
