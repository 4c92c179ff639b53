-- Lists that are given by their entries, and how many of their first entries pass a test.
-- Assumes nothing.
use mathlib.Core.Path.{◌≡◌, refl, sym, ap, ◌∙◌}
use mathlib.Core.Bool.{Bool, true, false}
use mathlib.Core.List.{List, [], ◌∷◌, ◌++◌, map}
use Prim.Native.Nat.{ℕ, zero, suc, ◌+◌, ◌<◌, ◌≤◌, zero-le, suc-le-suc}
use native.Mathlib.Nat.{zero-add, suc-add, not-suc-le-zero, le_of_suc-le-suc}
use lib.ListN.{length, take, drop}
use Rattle.probe_queue.specs.Queue.{choose, tabulate, leading}

pub tabulate-length : {X : Type 0} (n : ℕ) (f : ℕ → X) → length (tabulate n f) ≡ n
tabulate-length zero f = refl
tabulate-length (suc n) f = ap suc (tabulate-length n (λ i. f (suc i)))

pub tabulate_cong : {X : Type 0} (n : ℕ) (f g : ℕ → X) → ((i : ℕ) → i < n → f i ≡ g i) → tabulate n f ≡ tabulate n g
tabulate_cong zero f g e = refl
tabulate_cong (suc n) f g e =
    ap (λ (x : _). x ∷ tabulate n (λ i. f (suc i))) (e 0 (suc-le-suc zero-le)) ∙ ap (λ (xs : List _). g 0 ∷ xs) (tabulate_cong n (λ i. f (suc i)) (λ i. g (suc i)) (λ i l. e (suc i) (suc-le-suc l)))

pub tabulate_snoc : {X : Type 0} (n : ℕ) (f : ℕ → X) → tabulate (suc n) f ≡ tabulate n f ++ f n ∷ []
tabulate_snoc zero f = refl
tabulate_snoc (suc n) f = ap (λ (xs : List _). f 0 ∷ xs) (tabulate_snoc n (λ i. f (suc i)))

pub drop-tabulate : {X : Type 0} (n m : ℕ) (f : ℕ → X) → drop n (tabulate (n + m) f) ≡ tabulate m (λ i. f (n + i))
drop-tabulate zero m f = ap (λ (k : ℕ). tabulate k f) (zero-add m) ∙ tabulate_cong m f (λ i. f (0 + i)) (λ i l. ap f (sym (zero-add i)))
drop-tabulate (suc n) m f =
    ap (λ (k : ℕ). drop (suc n) (tabulate k f)) (suc-add n m) ∙ drop-tabulate n m (λ i. f (suc i)) ∙ tabulate_cong m (λ i. f (suc (n + i))) (λ i. f (suc n + i)) (λ i l. ap f (sym (suc-add n i)))

pub take-tabulate : {X : Type 0} (k n : ℕ) (f : ℕ → X) → k ≤ n → take k (tabulate n f) ≡ tabulate k f
take-tabulate zero n f l = refl
take-tabulate (suc k) zero f l = absurd (not-suc-le-zero l)
take-tabulate (suc k) (suc n) f l = ap (λ (xs : List _). f 0 ∷ xs) (take-tabulate k n (λ i. f (suc i)) (le_of_suc-le-suc l))

pub map-tabulate : {X Y : Type 0} (g : X → Y) (n : ℕ) (f : ℕ → X) → map g (tabulate n f) ≡ tabulate n (λ i. g (f i))
map-tabulate g zero f = refl
map-tabulate g (suc n) f = ap (λ (xs : List _). g (f 0) ∷ xs) (map-tabulate g n (λ i. f (suc i)))

leading_step : (t : Bool) (n k : ℕ) → n ≤ k → choose t (suc n) 0 ≤ suc k
leading_step true n k l = suc-le-suc l
leading_step false n k l = zero-le

pub leading_le : {X : Type 0} (test : X → Bool) (xs : List X) → leading test xs ≤ length xs
leading_le test [] = zero-le
leading_le test (x ∷ xs) = leading_step (test x) (leading test xs) (length xs) (leading_le test xs)

-- a list that stops within its first part stops there
append-step : (t : Bool) (a b n : ℕ) → choose t (suc a) 0 < suc n → (a < n → b ≡ a) → choose t (suc b) 0 ≡ choose t (suc a) 0
append-step true a b n l e = ap suc (e (le_of_suc-le-suc l))
append-step false a b n l e = refl

pub leading-append : {X : Type 0} (test : X → Bool) (xs ys : List X) → leading test xs < length xs → leading test (xs ++ ys) ≡ leading test xs
leading-append test [] ys l = absurd (not-suc-le-zero l)
leading-append test (x ∷ xs) ys l = append-step (test x) (leading test xs) (leading test (xs ++ ys)) (length xs) l (λ h. leading-append test xs ys h)

-- what a test says of each first entry that it passes
pub leading-passes : {X : Type 0} (f g : X → Bool) → ((x : X) → f x ≡ g x) → (xs : List X) → leading f xs ≡ leading g xs
leading-passes f g e [] = refl
leading-passes f g e (x ∷ xs) = ap (λ (t : Bool). choose t (suc (leading f xs)) 0) (e x) ∙ ap (λ (n : ℕ). choose (g x) (suc n) 0) (leading-passes f g e xs)
