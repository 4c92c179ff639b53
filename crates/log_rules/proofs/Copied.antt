-- A table whose values are the numbers of a string of bytes, written over bytes that agree with it elsewhere, gives that string. Assumes nothing.
use mathlib.Core.Path.{◌≡◌, refl, sym, ap, ◌∙◌, subst}
use mathlib.Core.Bool.{Bool, true, false, ◌&&◌, ◌||◌}
use mathlib.Core.List.{List, [], ◌∷◌}
use Prim.Native.Nat.{ℕ, zero, suc, ◌+◌, ◌*◌, ◌/◌, ◌%◌, ◌^◌, ◌≤◌, ◌<◌}
use native.Mathlib.Omega.{arith}
use native.Mathlib.Nat.{pow-suc, mul-le-mul_right, mul-add-div_right, mul-add-mod_self_right, div-eq_of_lt, mod-eq_of_lt}
use lib.Dec.{T, leb, ltb, leb→le}
use lib.Pow.{pow-add}
use lib.ListN.{length, get_or}
use lib.Seq.{get_or-set_same, ext_get_or}
use borrow.Author.Tests.{leb-true, leb-false, ltb-true, ltb-false}
use Rattle.big_endian.specs.Numbers.{base, number_at, put}
use Rattle.big_endian.specs.Fields.{Field, written, apart_from, laid_out}
use Rattle.log_rules.specs.Rules.{Bytes}
use Rattle.big_endian.proofs.Laws.{put-length, byte-before, byte-behind}

twofold : (k : ℕ) → 2 ^ suc k ≡ 2 ^ k + 2 ^ k
twofold k = pow-suc 2 k ∙ double (2 ^ k)
  where
    double : (n : ℕ) → n * 2 ≡ n + n
    double n = omega arith

base_twofold : (k : ℕ) → base (suc k) ≡ base k * base k
base_twofold k = ap (λ (n : ℕ). 256 ^ n) (twofold k) ∙ pow-add 256 (2 ^ k) (2 ^ k)

-- a number of 2 ^ k bytes fits
pub number_lt : (k : ℕ) (r : List ℕ) (at : ℕ) → Bytes r → number_at k r at < base k
number_lt zero r at b = b at
number_lt (suc k) r at b = subst (λ (n : ℕ). number_at (suc k) r at < n) (sym (base_twofold k))
    (under (number_at k r at) (number_at k r (at + 2 ^ k)) (base k) (number_lt k r at b) (number_lt k r (at + 2 ^ k) b))
  where
    under : (x y m : ℕ) → x < m → y < m → x * m + y < m * m
    under x y m p q = omega (arith, mul-le-mul_right m p)

high_of : (x y m : ℕ) → y < m → (x * m + y) / m ≡ x
high_of x y m h = mul-add-div_right (positive h) x y ∙ ap (λ (n : ℕ). x + n) (div-eq_of_lt h) ∙ none x
  where
    positive : y < m → 0 < m
    positive h = omega arith

    none : (n : ℕ) → n + 0 ≡ n
    none n = omega arith

low_of : (x y m : ℕ) → y < m → (x * m + y) % m ≡ y
low_of x y m h = mul-add-mod_self_right x m y ∙ mod-eq_of_lt h

half_of : (k : ℕ) (bs r : List ℕ) (at i h l : ℕ) → at + 2 ^ k + 2 ^ k ≤ length bs → Bytes r → at ≤ i → i < at + 2 ^ k + 2 ^ k
    → h ≡ number_at k r at → l ≡ number_at k r (at + 2 ^ k) → (t : Bool) → ltb i (at + 2 ^ k) ≡ t
    → ((ls : List ℕ) (a w : ℕ) → a + 2 ^ k ≤ length ls → a ≤ i → i < a + 2 ^ k → w ≡ number_at k r a → get_or (put k ls a w) i 0 ≡ get_or r i 0)
    → get_or (put k (put k bs at h) (at + 2 ^ k) l) i 0 ≡ get_or r i 0
half_of k bs r at i h l room b low high eh el true t again =
    byte-before k (put k bs at h) (at + 2 ^ k) l i (ltb-true i (at + 2 ^ k) t) ∙ again bs at h (omega arith) low (ltb-true i (at + 2 ^ k) t) eh
half_of k bs r at i h l room b low high eh el false t again =
    again (put k bs at h) (at + 2 ^ k) l (rw (put-length k bs at h) room) (ltb-false i (at + 2 ^ k) t) high el

-- a byte of a number that was written: in its upper half, or in its lower half
pub byte_of : (k : ℕ) (bs r : List ℕ) (at i v : ℕ) → at + 2 ^ k ≤ length bs → Bytes r → at ≤ i → i < at + 2 ^ k → v ≡ number_at k r at
    → get_or (put k bs at v) i 0 ≡ get_or r i 0
byte_of zero bs r at i v room b low high e =
    let same : i ≡ at = omega arith in
    rw same (get_or-set_same bs at v 0 (omega arith) ∙ e)
byte_of (suc k) bs r at i v room b low high e =
    half_of k bs r at i (v / base k) (v % base k) (omega (arith, twofold k)) b low (omega (arith, twofold k))
    (ap (λ (n : ℕ). n / base k) e ∙ high_of (number_at k r at) (number_at k r (at + 2 ^ k)) (base k) (number_lt k r (at + 2 ^ k) b))
    (ap (λ (n : ℕ). n % base k) e ∙ low_of (number_at k r at) (number_at k r (at + 2 ^ k)) (base k) (number_lt k r (at + 2 ^ k) b))
    (ltb i (at + 2 ^ k)) refl
    (λ ls a w p q s u. byte_of k ls r a i w p b q s u)

-- ---- a whole table

-- a byte that a field, or one of a table's fields, covers
abbrev pub covers : Field → ℕ → Bool
covers f i = leb f.at i && ltb i (f.at + 2 ^ f.width)

abbrev pub covered : List Field → ℕ → Bool
covered [] i = false
covered (f ∷ fs) i = covers f i || covered fs i

-- each field's value is the number of r at its place
abbrev pub Says : List ℕ → List Field → Type 0
Says r [] = Unit
Says r (f ∷ fs) = (f.value ≡ number_at f.width r f.at) × Says r fs

both : (a b : Bool) → T (a && b) → T a × T b
both true true t = (tt, tt)
both true false t = absurd t
both false b t = absurd t

-- a byte beside one that a field covers
pub uncovered : (f : Field) (bs : List ℕ) (i : ℕ) → covers f i ≡ false → get_or (put f.width bs f.at f.value) i 0 ≡ get_or bs i 0
uncovered f bs i e = go (leb f.at i) (ltb i (f.at + 2 ^ f.width)) refl refl e
  where
    go : (s t : Bool) → leb f.at i ≡ s → ltb i (f.at + 2 ^ f.width) ≡ t → s && t ≡ false → get_or (put f.width bs f.at f.value) i 0 ≡ get_or bs i 0
    go false t p q h = byte-before f.width bs f.at f.value i (leb-false f.at i p)
    go true false p q h = byte-behind f.width bs f.at f.value i (ltb-false i (f.at + 2 ^ f.width) q)
    go true true p q h = absurd (let z : ◌≡◌ {A = ℕ} 0 1 = cc in omega arith)

one_more : (n : ℕ) (f : Field) (fs : List Field) (bs r : List ℕ) → f.at + 2 ^ f.width ≤ length bs → Bytes r → f.value ≡ number_at f.width r f.at
    → (i : ℕ) → covered fs i ≡ false → (covered (f ∷ fs) i ≡ false → get_or bs i 0 ≡ get_or r i 0)
    → (s t : Bool) → leb f.at i ≡ s → ltb i (f.at + 2 ^ f.width) ≡ t → get_or (put f.width bs f.at f.value) i 0 ≡ get_or r i 0
one_more n f fs bs r room b e i u h true true p q =
    byte_of f.width bs r f.at i f.value room b (leb-true f.at i p) (ltb-true i (f.at + 2 ^ f.width) q) e
one_more n f fs bs r room b e i u h true false p q =
    byte-behind f.width bs f.at f.value i (ltb-false i (f.at + 2 ^ f.width) q) ∙ h (λ k. (p k && q k) || u k)
one_more n f fs bs r room b e i u h false t p q =
    byte-before f.width bs f.at f.value i (leb-false f.at i p) ∙ h (λ k. (p k && q k) || u k)

pub copied : (n : ℕ) (fs : List Field) (bs r : List ℕ) → length bs ≡ n → length r ≡ n → T (laid_out n fs) → Bytes r → Says r fs
    → ((i : ℕ) → i < n → covered fs i ≡ false → get_or bs i 0 ≡ get_or r i 0) → written fs bs ≡ r
copied n [] bs r lb lr t b s h = ext_get_or 0 bs r (lb ∙ sym lr) (λ i l. h i (subst (λ (m : ℕ). i < m) lb l) refl)
copied n (f ∷ fs) bs r lb lr t b s h =
    let u = both (leb (f.at + 2 ^ f.width) n) (apart_from f fs && laid_out n fs) t in
    let room : f.at + 2 ^ f.width ≤ length bs = rw lb (leb→le (f.at + 2 ^ f.width) n u.0) in
    copied n fs (put f.width bs f.at f.value) r (put-length f.width bs f.at f.value ∙ lb) lr (both (apart_from f fs) (laid_out n fs) u.1).1 b s.1
    (λ i l o. one_more n f fs bs r room b s.0 i o (h i l) (leb f.at i) (ltb i (f.at + 2 ^ f.width)) refl refl)
