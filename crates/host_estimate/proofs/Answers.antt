-- What the proofs of the calls cite. Assumes nothing.
use Rattle.std.specs.Prelude.{Result, Ok, Err}
use mathlib.Core.Path.{◌≡◌, refl, sym, ap, subst, ◌∙◌}
use mathlib.Core.Bool.{Bool, true, false}
use mathlib.Core.List.{List}
use Prim.Native.Nat.{ℕ}
use lib.Ieee.{Float}
use lib.ListN.{set}
use lib.Seq.{sets}
use Rattle.host_numbers.specs.Numbers.{flag_word, is_set}
use Rattle.estimate.specs.declared.ClockFormat.{ClockFormat}
use Rattle.estimate.specs.declared.ErrorEstimate.{ErrorEstimate}
use Rattle.estimate.specs.declared.Reading.{Reading}
use Rattle.estimate.specs.declared.Reading.TheVariants.{Known, Invalid}
use Rattle.limits.specs.declared.Refusal.{Refusal}
use Rattle.limits.specs.Numbers.{number_of}
use Rattle.estimate.specs.Wire.{estimate_of, wire_of}
use Rattle.estimate.specs.Make.{is_ptp, format_of, made_of, smallest}
use Rattle.estimate.specs.Error.{InSeconds, reading_of, ExactMs, InMs}
use Rattle.host_estimate.specs.Calls.{left, wire_after, new_to, unsynchronized_to, parts_of, parts_to, left_seconds, seconds_to, Seconds, left_reading, reading_after, reading_to, ReadingLeft}

pub new-made :
    (synchronized ptp scale multiplier : ℕ) (wire : List ℕ) (m : Result ErrorEstimate Refusal) (e : ErrorEstimate) (w : ℕ)
    → m ≡ made_of (is_set synchronized) (is_set ptp) scale multiplier → m ≡ Ok e → w ≡ wire_of e
    → left 0 (set wire 0 w) ≡ new_to synchronized ptp scale multiplier wire
unfolding new_to
new-made synchronized ptp scale multiplier wire m e w is told bits =
    ap (λ (n : ℕ). left 0 (set wire 0 n)) bits ∙ ap (λ (x : Result ErrorEstimate Refusal). wire_after x wire) (sym told ∙ is)

pub new-refused :
    (synchronized ptp scale multiplier : ℕ) (wire : List ℕ) (m : Result ErrorEstimate Refusal) (why : Refusal) (n : ℕ)
    → m ≡ made_of (is_set synchronized) (is_set ptp) scale multiplier → m ≡ Err why → n ≡ number_of why
    → left n wire ≡ new_to synchronized ptp scale multiplier wire
unfolding new_to
new-refused synchronized ptp scale multiplier wire m why n is told by = ap (λ (k : ℕ). left k wire) by ∙ ap (λ (x : Result ErrorEstimate Refusal). wire_after x wire) (sym told ∙ is)

format_again : (b : Bool) → is_ptp (format_of b) ≡ b
format_again true = refl
format_again false = refl

pub unsynchronized-made :
    (ptp : ℕ) (wire : List ℕ) (f : ClockFormat) (e : ErrorEstimate) (w : ℕ)
    → f ≡ format_of (is_set ptp) → e ≡ smallest (is_ptp f) → w ≡ wire_of e
    → left 0 (set wire 0 w) ≡ unsynchronized_to ptp wire
unfolding unsynchronized_to
unsynchronized-made ptp wire f e w by is bits =
    ap (λ (n : ℕ). left 0 (set wire 0 n)) (bits ∙ ap wire_of (is ∙ ap smallest (ap is_ptp by ∙ format_again (is_set ptp))))

pub parts_said :
    (w : ℕ) (parts : List ℕ) (e : ErrorEstimate) (a b : ℕ)
    → e ≡ estimate_of w → a ≡ flag_word e.synchronized → b ≡ flag_word e.ptp
    → left 0 (set (set (set (set parts 0 a) 1 b) 2 e.scale) 3 e.multiplier) ≡ parts_to w parts
unfolding parts_to
parts_said w parts e a b is first second =
    ap (λ (n : ℕ). left 0 (set (set (set (set parts 0 n) 1 b) 2 e.scale) 3 e.multiplier)) first
    ∙ ap (λ (n : ℕ). left 0 (set (set (set (set parts 0 (flag_word e.synchronized)) 1 n) 2 e.scale) 3 e.multiplier)) second
    ∙ ap (λ (x : ErrorEstimate). left 0 (sets parts 0 (parts_of x))) is

pub in_seconds : (w : ℕ) (before : List Float) (e : ErrorEstimate) (x : Float) → e ≡ estimate_of w → InSeconds e x → Seconds w before 0 (set before 0 x)
unfolding seconds_to
in_seconds w before e x is s =
    let t = subst (λ (y : ErrorEstimate). InSeconds y x) is s in
    record {
      is = ap (λ (y : Float). left_seconds 0 (set before 0 y)) t.Only;
      exact = subst (λ (y : Float). InSeconds (estimate_of w) y) t.Only t;
    }

-- what the library promises of a reading, of the estimate that 16 bits say
said : (w : ℕ) (e : ErrorEstimate) (r : Reading) → e ≡ estimate_of w → InMs e r → InMs (estimate_of w) r
said w e r is m = subst (λ (y : ErrorEstimate). InMs y r) is m

exact_said : (w : ℕ) (r : Reading) → InMs (estimate_of w) r → ExactMs (estimate_of w) (reading_of (estimate_of w))
exact_said w r m = subst (ExactMs (estimate_of w)) m.is m.exact

pub read : (w : ℕ) (known : List ℕ) (ms : List Float) (received : List ℕ) (e : ErrorEstimate) (r s : Reading) → e ≡ estimate_of w → InMs e r → r ≡ s
    → (number : ℕ) (known-after : List ℕ) (ms-after : List Float) (received-after : List ℕ) → left_reading number known-after ms-after received-after ≡ reading_after s known ms received
    → ReadingLeft w known ms received number known-after ms-after received-after
unfolding reading_to
read w known ms received e r s is m told number known-after ms-after received-after left =
    let n = said w e r is m in
    record { is = left ∙ ap (λ (x : Reading). reading_after x known ms received) (sym told ∙ n.is); exact = exact_said w r n }
