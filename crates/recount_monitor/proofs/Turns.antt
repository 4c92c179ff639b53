-- One turn more of each loop. Assumes nothing.
use Rattle.std.specs.Prelude.{Option}
use Rattle.call_types.specs.declared.SentProbe.{SentProbe}
use mathlib.Core.Path.{◌≡◌, refl, sym, ap, ◌∙◌}
use mathlib.Core.Bool.{Bool, true, false, ◌&&◌, cond}
use mathlib.Core.List.{List}
use Prim.Native.Nat.{ℕ, zero, suc, ◌+◌, ◌-◌, ◌≤◌, ◌<◌}
use native.Mathlib.Omega.{arith}
use lib.Dec.{eqb}
use lib.ListN.{length, get_or}
use Rattle.report.specs.declared.figures.Session.{Session}
use Rattle.report.specs.declared.figures.Session.TheVariants as session
use Rattle.report.specs.declared.figures.Session.TheVariants.{Idle}
use Rattle.recount_queue.specs.declared.Move.{Move}
use Rattle.recount_queue.specs.Moves.{queued_at}
use Rattle.recount_queue.specs.Queue.{any_named, front_to}
use Rattle.recount_monitor.specs.Fronts.{front_at, transmits_next, transmits_in, marked_next, marked_in, reply_front, front_next, fronts_to, Fronted}
use Rattle.recount_monitor.specs.Session.{session_in, fronts_after, lose_if, lost_in, line_next, line_in}
use Rattle.recount_monitor.proofs.Room.{front-within, fronted_to}
use Rattle.recount_monitor.proofs.Lines.{line_is}

pub one_more : (n : ℕ) → n + 1 ≡ suc n
one_more n = omega arith

-- the front before a record that is not the first
pub front-before : (fronts : List ℕ) (j : ℕ) → (j ≡ 0 → ⊥) → get_or fronts (j - 1) 0 ≡ front_at fronts j
front-before fronts zero other = absurd (other refl)
front-before fronts (suc j) other = let e : suc j - 1 ≡ j = omega arith in ap (λ (i : ℕ). get_or fronts i 0) e

module _ (timeout : ℕ) (moves : ℕ → Move) where
  pub on_starts : false ≡ transmits_in moves 0
  unfolding transmits_in
  on_starts = refl

  pub on_turn : (n : ℕ) (m : Move) (a b : Bool) → m ≡ moves n → b ≡ transmits_next m a → a ≡ transmits_in moves n → b ≡ transmits_in moves (n + 1)
  unfolding transmits_in
  on_turn n m a b e step inv = step ∙ ap (λ (y : Move). transmits_next y a) e ∙ ap (transmits_next (moves n)) inv ∙ ap (transmits_in moves) (sym (one_more n))

  pub marked-starts : (fronts : List ℕ) (x : ℕ) → false ≡ marked_in timeout moves fronts x 0
  unfolding marked_in
  marked-starts fronts x = refl

  pub marked_turn : (fronts : List ℕ) (x n : ℕ) (m : Move) (from to : ℕ) (p a b : Bool) → m ≡ moves n → from ≡ front_at fronts n → to ≡ front_at fronts (n + 1)
      → p ≡ any_named (queued_at timeout moves) x from (to - from) → b ≡ marked_next timeout m x p a → a ≡ marked_in timeout moves fronts x n → b ≡ marked_in timeout moves fronts x (n + 1)
  unfolding marked_in
  marked_turn fronts x n m from to p a b e f g q step inv =
      step
      ∙ ap (λ (y : Move). marked_next timeout y x p a) e
      ∙ ap (λ (y : Bool). marked_next timeout (moves n) x y a)
      (q ∙ ap (λ (i : ℕ). any_named (queued_at timeout moves) x i (to - i)) f ∙ ap (λ (i : ℕ). any_named (queued_at timeout moves) x (front_at fronts n) (i - front_at fronts n)) (g ∙ ap (front_at fronts) (one_more n)))
      ∙ ap (marked_next timeout (moves n) x (any_named (queued_at timeout moves) x (front_at fronts n) (front_at fronts (suc n) - front_at fronts n))) inv
      ∙ ap (marked_in timeout moves fronts x) (sym (one_more n))

  -- what the next record leaves is no farther than that record
  pub front_next-within : (fronts : List ℕ) (n j : ℕ) → Fronted timeout moves fronts n → j < n → front_at fronts (j + 1) ≤ j + 1
  front_next-within fronts n j ok l = front-within 0 timeout moves fronts n ok (j + 1) (omega arith)

module _ (threshold : ℕ) (probe : ℕ → Option SentProbe) where
  pub lost-turn : (i n : ℕ) (q : Option SentProbe) (x y : Session) → i < n → q ≡ probe i → y ≡ lose_if threshold q x → lost_in threshold probe x i (n - i) ≡ lost_in threshold probe y (i + 1) (n - (i + 1))
  unfolding lost_in
  lost-turn i n q x y l e step =
      let d : n - i ≡ suc (n - (i + 1)) = omega arith in
      ap (lost_in threshold probe x i) d
      ∙ ap (λ (z : Session). lost_in threshold probe z (suc i) (n - (i + 1))) (ap (λ (r : Option SentProbe). lose_if threshold r x) (sym e) ∙ sym step)
      ∙ ap (λ (a : ℕ). lost_in threshold probe y a (n - (i + 1))) (sym (one_more i))

  pub lost-none : (i n : ℕ) (x : Session) → n ≤ i → lost_in threshold probe x i (n - i) ≡ x
  unfolding lost_in
  lost-none i n x l = let d : n - i ≡ 0 = omega arith in ap (lost_in threshold probe x i) d

module _ (threshold timeout : ℕ) (moves : ℕ → Move) (fronts : List ℕ) where
  pub line-starts : Idle 0 ≡ line_in threshold timeout moves fronts 0
  unfolding line_in
  line-starts = refl

  pub line-turn : (n : ℕ) (x y : Session) → y ≡ line_next threshold timeout moves fronts n (moves n) x → x ≡ line_in threshold timeout moves fronts n → y ≡ line_in threshold timeout moves fronts (n + 1)
  unfolding line_in
  line-turn n x y step inv = step ∙ ap (line_next threshold timeout moves fronts n (moves n)) inv ∙ ap (line_in threshold timeout moves fronts) (sym (one_more n))

-- ---- a record by what it is to the monitor

module _ (timeout : ℕ) (moves : ℕ → Move) (fronts : List ℕ) (n : ℕ) where
  pub next-by : (m x : Move) (r : ℕ) → m ≡ moves n → m ≡ x → r ≡ front_next timeout moves x fronts n → r ≡ front_next timeout moves (moves n) fronts n
  next-by m x r e f g = g ∙ ap (λ (y : Move). front_next timeout moves y fronts n) (sym f ∙ e)

module _ (threshold timeout : ℕ) (moves : ℕ → Move) (fronts : List ℕ) (n : ℕ) where
  pub line-by : (m x : Move) (s r : Session) → m ≡ moves n → m ≡ x → r ≡ line_next threshold timeout moves fronts n x s → r ≡ line_next threshold timeout moves fronts n (moves n) s
  line-by m x s r e f g = g ∙ ap (λ (y : Move). line_next threshold timeout moves fronts n y s) (sym f ∙ e)

  -- an advance while transmitting
  pub line-lost : (s r : Session) (on : Bool) (from to : ℕ) → on ≡ transmits_in moves n → on ≡ true → from ≡ front_at fronts n → to ≡ front_at fronts (n + 1)
      → r ≡ lost_in threshold (queued_at timeout moves) s from (to - from)
      → r ≡ cond (transmits_in moves n) (lost_in threshold (queued_at timeout moves) s (front_at fronts n) (front_at fronts (suc n) - front_at fronts n)) s
  line-lost s r on from to o t f g e =
      e
      ∙ ap (λ (a : ℕ). lost_in threshold (queued_at timeout moves) s a (to - a)) f
      ∙ ap (λ (b : ℕ). lost_in threshold (queued_at timeout moves) s (front_at fronts n) (b - front_at fronts n)) (g ∙ ap (front_at fronts) (one_more n))
      ∙ ap (λ (b : Bool). cond b (lost_in threshold (queued_at timeout moves) s (front_at fronts n) (front_at fronts (suc n) - front_at fronts n)) s) (sym t ∙ o)

  -- and while it does not
  pub line_kept : (s : Session) (on : Bool) → on ≡ transmits_in moves n → on ≡ false
      → s ≡ cond (transmits_in moves n) (lost_in threshold (queued_at timeout moves) s (front_at fronts n) (front_at fronts (suc n) - front_at fronts n)) s
  line_kept s on o t = ap (λ (b : Bool). cond b (lost_in threshold (queued_at timeout moves) s (front_at fronts n) (front_at fronts (suc n) - front_at fronts n)) s) (sym t ∙ o)

module _ (timeout : ℕ) (moves : ℕ → Move) (fronts : List ℕ) (q n : ℕ) where
  pub reply_moves : (r front : ℕ) (on marked : Bool) → on ≡ transmits_in moves n → marked ≡ marked_in timeout moves fronts q n → (on && marked) ≡ true → front ≡ front_at fronts n
      → r ≡ front_to (queued_at timeout moves) q front n → r ≡ reply_front timeout moves fronts q n
  reply_moves r front on marked o m t f e =
      e
      ∙ ap (λ (a : ℕ). front_to (queued_at timeout moves) q a n) f
      ∙ ap (λ (b : Bool). cond b (front_to (queued_at timeout moves) q (front_at fronts n) n) (front_at fronts n)) (sym t ∙ ap (λ (b : Bool). b && marked) o ∙ ap (λ (b : Bool). transmits_in moves n && b) m)

  pub reply_rests : (front : ℕ) (on marked : Bool) → on ≡ transmits_in moves n → marked ≡ marked_in timeout moves fronts q n → (on && marked) ≡ false → front ≡ front_at fronts n
      → front ≡ reply_front timeout moves fronts q n
  reply_rests front on marked o m t f =
      f ∙ ap (λ (b : Bool). cond b (front_to (queued_at timeout moves) q (front_at fronts n) n) (front_at fronts n)) (sym t ∙ ap (λ (b : Bool). b && marked) o ∙ ap (λ (b : Bool). transmits_in moves n && b) m)

-- ---- with and without a monitor

module _ (threshold timeout : ℕ) (moves : ℕ → Move) (fronts : List ℕ) (n : ℕ) where
  pub no_session : eqb threshold 0 ≡ true → (session.None ≡ session_in threshold timeout moves n) × (fronts ≡ fronts_after threshold timeout moves fronts n)
  unfolding session_in fronts_after
  no_session e = (rw e, rw e)

  pub fronts_left : eqb threshold 0 ≡ false → fronts_to timeout moves fronts n ≡ fronts_after threshold timeout moves fronts n
  unfolding fronts_after
  fronts_left e = rw e

  pub line-left : (room : List ℕ) → room ≡ fronts_to timeout moves fronts n → n ≤ length fronts → eqb threshold 0 ≡ false → line_in threshold timeout moves room n ≡ session_in threshold timeout moves n
  line-left room e l above =
      ap (λ (r : List ℕ). line_in threshold timeout moves r n) e
      ∙ line_is threshold timeout moves (fronts_to timeout moves fronts n) above n (fronted_to timeout moves fronts n l)
