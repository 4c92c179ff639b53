-- What is written is read back, and what is written elsewhere leaves it alone: one law over the width. Assumes nothing.
use mathlib.Core.Path.{◌≡◌, refl, sym, ap, ap₂, ◌∙◌, subst}
use mathlib.Core.Bool.{Bool, true, false, ◌||◌, ◌&&◌}
use mathlib.Core.Logic.{◌⊎◌, inl, inr}
use mathlib.Core.List.{List, [], ◌∷◌}
use Prim.Native.Nat.{ℕ, zero, suc, ◌+◌, ◌*◌, ◌/◌, ◌%◌, ◌^◌, ◌≤◌, ◌<◌}
use native.Mathlib.Omega.{arith}
use native.Mathlib.Nat.{pow-suc, mod-lt, div-add-mod', div-lt_iff_lt-mul}
use lib.Dec.{T, leb, leb→le}
use lib.Pow.{pow-add}
use lib.ListN.{length, get_or, length-set}
use lib.Seq.{get_or-set_same, get_or-set_other}
use Rattle.big_endian.specs.Numbers.{base, number_at, put}
use Rattle.big_endian.specs.Fields.{Field, written, apart, apart_from, laid_out}

-- a width is two of the next lower
twofold : (k : ℕ) → 2 ^ suc k ≡ 2 ^ k + 2 ^ k
twofold k = pow-suc 2 k ∙ double (2 ^ k)
  where
    double : (n : ℕ) → n * 2 ≡ n + n
    double n = omega arith

base_twofold : (k : ℕ) → base (suc k) ≡ base k * base k
base_twofold k = ap (λ (n : ℕ). 256 ^ n) (twofold k) ∙ pow-add 256 (2 ^ k) (2 ^ k)

positive : (n : ℕ) → 0 < 256 ^ n
positive zero = omega arith
positive (suc n) = subst (λ (m : ℕ). 0 < m) (sym (pow-suc 256 n)) (times (256 ^ n) (positive n))
  where
    times : (m : ℕ) → 0 < m → 0 < m * 256
    times m h = omega arith

base_positive : (k : ℕ) → 0 < base k
base_positive k = positive (2 ^ k)

pub put-length : (k : ℕ) (bs : List ℕ) (at v : ℕ) → length (put k bs at v) ≡ length bs
put-length zero bs at v = length-set bs at v
put-length (suc k) bs at v = put-length k (put k bs at (v / base k)) (at + 2 ^ k) (v % base k) ∙ put-length k bs at (v / base k)

-- a byte outside of what is written
pub byte-before : (k : ℕ) (bs : List ℕ) (at v i : ℕ) → i < at → get_or (put k bs at v) i 0 ≡ get_or bs i 0
byte-before zero bs at v i h = get_or-set_other bs at i v 0 (λ e. absurd (omega (arith, e)))
byte-before (suc k) bs at v i h =
    byte-before k (put k bs at (v / base k)) (at + 2 ^ k) (v % base k) i (omega arith) ∙ byte-before k bs at (v / base k) i h

pub byte-behind : (k : ℕ) (bs : List ℕ) (at v i : ℕ) → at + 2 ^ k ≤ i → get_or (put k bs at v) i 0 ≡ get_or bs i 0
byte-behind zero bs at v i h = get_or-set_other bs at i v 0 (λ e. absurd (omega (arith, e)))
byte-behind (suc k) bs at v i h =
    let l : at + 2 ^ k + 2 ^ k ≤ i = omega (arith, twofold k) in
    byte-behind k (put k bs at (v / base k)) (at + 2 ^ k) (v % base k) i l ∙ byte-behind k bs at (v / base k) i (omega arith)

-- a number that lies before, or behind, what is written
pub number-before : (j k : ℕ) (bs : List ℕ) (at v b : ℕ) → b + 2 ^ j ≤ at → number_at j (put k bs at v) b ≡ number_at j bs b
number-before zero k bs at v b h = byte-before k bs at v b (omega arith)
number-before (suc j) k bs at v b h =
    let l : b + 2 ^ j + 2 ^ j ≤ at = omega (arith, twofold j) in
    ap₂ (λ (x y : ℕ). x * base j + y) (number-before j k bs at v b (omega arith)) (number-before j k bs at v (b + 2 ^ j) l)

pub number_behind : (j k : ℕ) (bs : List ℕ) (at v b : ℕ) → at + 2 ^ k ≤ b → number_at j (put k bs at v) b ≡ number_at j bs b
number_behind zero k bs at v b h = byte-behind k bs at v b h
number_behind (suc j) k bs at v b h =
    ap₂ (λ (x y : ℕ). x * base j + y) (number_behind j k bs at v b h) (number_behind j k bs at v (b + 2 ^ j) (omega arith))

-- what was written is read back
pub number-back : (k : ℕ) (bs : List ℕ) (at v : ℕ) → at + 2 ^ k ≤ length bs → v < base k → number_at k (put k bs at v) at ≡ v
number-back zero bs at v h l = get_or-set_same bs at v 0 (omega arith)
number-back (suc k) bs at v h l =
    let room : at + 2 ^ k + 2 ^ k ≤ length bs = omega (arith, twofold k) in
    let high : v / base k < base k = (div-lt_iff_lt-mul (base_positive k)).1 (subst (λ (n : ℕ). v < n) (base_twofold k) l) in
    ap₂ (λ (x y : ℕ). x * base k + y)
    (number-before k k (put k bs at (v / base k)) (at + 2 ^ k) (v % base k) at (omega arith) ∙ number-back k bs at (v / base k) (omega arith) high)
    (number-back k (put k bs at (v / base k)) (at + 2 ^ k) (v % base k) (rw (put-length k bs at (v / base k)) room) (mod-lt v (base_positive k)))
    ∙ div-add-mod' v (base k)

-- ---- tables of fields

pub written-length : (fs : List Field) (bs : List ℕ) → length (written fs bs) ≡ length bs
written-length [] bs = refl
written-length (f ∷ fs) bs = written-length fs (put f.width bs f.at f.value) ∙ put-length f.width bs f.at f.value

both : (a b : Bool) → T (a && b) → T a × T b
both true true t = (tt, tt)
both true false t = absurd t
both false b t = absurd t

either : (a b : Bool) → T (a || b) → T a ⊎ T b
either true b t = inl tt
either false b t = inr t

-- one field, apart from another that is written
beside : (f g : Field) (bs : List ℕ) → T (apart f g) → number_at f.width (put g.width bs g.at g.value) f.at ≡ number_at f.width bs f.at
beside f g bs t = go (either (leb (f.at + 2 ^ f.width) g.at) (leb (g.at + 2 ^ g.width) f.at) t)
  where
    go : T (leb (f.at + 2 ^ f.width) g.at) ⊎ T (leb (g.at + 2 ^ g.width) f.at) → number_at f.width (put g.width bs g.at g.value) f.at ≡ number_at f.width bs f.at
    go (inl u) = number-before f.width g.width bs g.at g.value f.at (leb→le (f.at + 2 ^ f.width) g.at u)
    go (inr u) = number_behind f.width g.width bs g.at g.value f.at (leb→le (g.at + 2 ^ g.width) f.at u)

-- a field, apart from a whole table
besides : (f : Field) (gs : List Field) (bs : List ℕ) → T (apart_from f gs) → number_at f.width (written gs bs) f.at ≡ number_at f.width bs f.at
besides f [] bs t = refl
besides f (g ∷ gs) bs t =
    let u = both (apart f g) (apart_from f gs) t in
    besides f gs (put g.width bs g.at g.value) u.1 ∙ beside f g bs u.0

-- a field of a table: the first, or one of the rest
pub data In (f : Field) : List Field → Type 0 where
  first : {g : Field} {fs : List Field} → g ≡ f → In f (g ∷ fs)
  later : {g : Field} {fs : List Field} → In f fs → In f (g ∷ fs)

first_back : (n : ℕ) (g : Field) (fs : List Field) (bs : List ℕ) → length bs ≡ n → T (laid_out n (g ∷ fs)) → g.value < base g.width
    → number_at g.width (written (g ∷ fs) bs) g.at ≡ g.value
first_back n g fs bs e t l =
    let u = both (leb (g.at + 2 ^ g.width) n) (apart_from g fs && laid_out n fs) t in
    besides g fs (put g.width bs g.at g.value) (both (apart_from g fs) (laid_out n fs) u.1).0
    ∙ number-back g.width bs g.at g.value (rw e (leb→le (g.at + 2 ^ g.width) n u.0)) l

-- Every field of a table that is laid out is read back, where its value fits.
pub field_back : (n : ℕ) (fs : List Field) (bs : List ℕ) (f : Field) → length bs ≡ n → T (laid_out n fs) → In f fs → f.value < base f.width
    → number_at f.width (written fs bs) f.at ≡ f.value
field_back n [] bs f e t m l = elim m [ ]
field_back n (g ∷ fs) bs f e t (first q) l =
    subst (λ (x : Field). x.value < base x.width → number_at x.width (written (g ∷ fs) bs) x.at ≡ x.value) q (first_back n g fs bs e t) l
field_back n (g ∷ fs) bs f e t (later m) l =
    let u = both (leb (g.at + 2 ^ g.width) n) (apart_from g fs && laid_out n fs) t in
    field_back n fs (put g.width bs g.at g.value) f (put-length g.width bs g.at g.value ∙ e) (both (apart_from g fs) (laid_out n fs) u.1).1 m l
