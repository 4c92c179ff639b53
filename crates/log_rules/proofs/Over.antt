-- What a table writes over does not matter where its fields cover every byte. Assumes nothing.
use mathlib.Core.Path.{◌≡◌, refl, sym, ◌∙◌, subst}
use mathlib.Core.Bool.{Bool, true, false, ◌&&◌, ◌||◌}
use mathlib.Core.List.{List, [], ◌∷◌}
use Prim.Native.Nat.{ℕ, zero, suc, ◌+◌, ◌*◌, ◌/◌, ◌%◌, ◌^◌, ◌≤◌, ◌<◌}
use native.Mathlib.Omega.{arith}
use native.Mathlib.Nat.{pow-suc}
use lib.Dec.{T, leb, ltb, leb→le}
use lib.ListN.{length, get_or}
use lib.Seq.{get_or-set_same, ext_get_or}
use borrow.Author.Tests.{leb-true, leb-false, ltb-true, ltb-false}
use Rattle.big_endian.specs.Numbers.{base, put}
use Rattle.big_endian.specs.Fields.{Field, written, apart_from, laid_out}
use Rattle.big_endian.proofs.Laws.{put-length, byte-before, byte-behind}
use Rattle.log_rules.proofs.Copied.{covered}

twofold : (k : ℕ) → 2 ^ suc k ≡ 2 ^ k + 2 ^ k
twofold k = pow-suc 2 k ∙ double (2 ^ k)
  where
    double : (n : ℕ) → n * 2 ≡ n + n
    double n = omega arith

half_same : (k : ℕ) (ks bs : List ℕ) (at i h l : ℕ) → at + 2 ^ k + 2 ^ k ≤ length ks → at + 2 ^ k + 2 ^ k ≤ length bs → at ≤ i → i < at + 2 ^ k + 2 ^ k
    → (t : Bool) → ltb i (at + 2 ^ k) ≡ t
    → ((ls ms : List ℕ) (a w : ℕ) → a + 2 ^ k ≤ length ls → a + 2 ^ k ≤ length ms → a ≤ i → i < a + 2 ^ k → get_or (put k ls a w) i 0 ≡ get_or (put k ms a w) i 0)
    → get_or (put k (put k ks at h) (at + 2 ^ k) l) i 0 ≡ get_or (put k (put k bs at h) (at + 2 ^ k) l) i 0
half_same k ks bs at i h l ra rb low high true t again =
    byte-before k (put k ks at h) (at + 2 ^ k) l i (ltb-true i (at + 2 ^ k) t)
    ∙ again ks bs at h (omega arith) (omega arith) low (ltb-true i (at + 2 ^ k) t)
    ∙ sym (byte-before k (put k bs at h) (at + 2 ^ k) l i (ltb-true i (at + 2 ^ k) t))
half_same k ks bs at i h l ra rb low high false t again =
    again (put k ks at h) (put k bs at h) (at + 2 ^ k) l (rw (put-length k ks at h) ra) (rw (put-length k bs at h) rb) (ltb-false i (at + 2 ^ k) t) high

-- a byte of a number, over whatever it was written
pub put_same : (k : ℕ) (ks bs : List ℕ) (at v i : ℕ) → at + 2 ^ k ≤ length ks → at + 2 ^ k ≤ length bs → at ≤ i → i < at + 2 ^ k
    → get_or (put k ks at v) i 0 ≡ get_or (put k bs at v) i 0
put_same zero ks bs at v i ra rb low high =
    let same : i ≡ at = omega arith in
    rw same (get_or-set_same ks at v 0 (omega arith) ∙ sym (get_or-set_same bs at v 0 (omega arith)))
put_same (suc k) ks bs at v i ra rb low high =
    half_same k ks bs at i (v / base k) (v % base k) (omega (arith, twofold k)) (omega (arith, twofold k)) low (omega (arith, twofold k)) (ltb i (at + 2 ^ k)) refl
    (λ ls ms a w p q s u. put_same k ls ms a w i p q s u)

both : (a b : Bool) → T (a && b) → T a × T b
both true true t = (tt, tt)
both true false t = absurd t
both false b t = absurd t

one_more : (f : Field) (fs : List Field) (ks bs : List ℕ) → f.at + 2 ^ f.width ≤ length ks → f.at + 2 ^ f.width ≤ length bs
    → (i : ℕ) → covered fs i ≡ false → (covered (f ∷ fs) i ≡ false → get_or ks i 0 ≡ get_or bs i 0)
    → (s t : Bool) → leb f.at i ≡ s → ltb i (f.at + 2 ^ f.width) ≡ t
    → get_or (put f.width ks f.at f.value) i 0 ≡ get_or (put f.width bs f.at f.value) i 0
one_more f fs ks bs ra rb i u h true true p q =
    put_same f.width ks bs f.at f.value i ra rb (leb-true f.at i p) (ltb-true i (f.at + 2 ^ f.width) q)
one_more f fs ks bs ra rb i u h true false p q =
    let l : f.at + 2 ^ f.width ≤ i = ltb-false i (f.at + 2 ^ f.width) q in
    byte-behind f.width ks f.at f.value i l ∙ h (λ k. (p k && q k) || u k) ∙ sym (byte-behind f.width bs f.at f.value i l)
one_more f fs ks bs ra rb i u h false t p q =
    let l : i < f.at = leb-false f.at i p in
    byte-before f.width ks f.at f.value i l ∙ h (λ k. (p k && q k) || u k) ∙ sym (byte-before f.width bs f.at f.value i l)

pub written_same : (n : ℕ) (fs : List Field) (ks bs : List ℕ) → length ks ≡ n → length bs ≡ n → T (laid_out n fs)
    → ((i : ℕ) → i < n → covered fs i ≡ false → get_or ks i 0 ≡ get_or bs i 0) → written fs ks ≡ written fs bs
written_same n [] ks bs la lb t h = ext_get_or 0 ks bs (la ∙ sym lb) (λ i l. h i (subst (λ (m : ℕ). i < m) la l) refl)
written_same n (f ∷ fs) ks bs la lb t h =
    let u = both (leb (f.at + 2 ^ f.width) n) (apart_from f fs && laid_out n fs) t in
    let fits : f.at + 2 ^ f.width ≤ n = leb→le (f.at + 2 ^ f.width) n u.0 in
    written_same n fs (put f.width ks f.at f.value) (put f.width bs f.at f.value)
    (put-length f.width ks f.at f.value ∙ la) (put-length f.width bs f.at f.value ∙ lb) (both (apart_from f fs) (laid_out n fs) u.1).1
    (λ i l o. one_more f fs ks bs (rw la fits) (rw lb fits) i o (h i l) (leb f.at i) (ltb i (f.at + 2 ^ f.width)) refl refl)
