use mathlib.Core.Path.{◌≡◌, refl, sym, ap, ap₂, ◌∙◌}
use mathlib.Core.List.{List, [], ◌∷◌, ◌++◌}
use Prim.Native.Nat.{ℕ, ◌+◌, ◌-◌, ◌*◌, ◌≤◌, ◌<◌}
use native.Mathlib.Omega.{arith}
use lib.ListN.{length, get_or, take, set, length-append}
use lib.Seq.{take-length}
use Rattle.decimal.specs.Decimal.{most_digits}
use Rattle.decimal.specs.Writing.{over, Stands}
use Rattle.decimal.proofs.Places.{over_none, over-front, over-over, over-length}
use Rattle.template.specs.declared.Shown.{Shown}
use Rattle.template.specs.Filled.{shown_text, place, filled, places, most_filled}
use Rattle.template.proofs.Laws.{places-take, place-counted, byte_passed, place-filled, byte_copied}
use Rattle.template.proofs.fill.Invariants.{Standing}
use Rattle.template.proofs.fill.Goals as goal
use Rattle.template.proofs.fill.Goals.{else-byte-eq-PLACE, then-byte-eq-PLACE}

-- there is a value for a place that was found
value-left : (t : List ℕ) (i : ℕ) → i < length t → get_or t i 0 ≡ place → places (take i t) < places t
value-left t i h e = omega (arith, place-counted t i h e, places-take (i + 1) t)

-- one byte is written
one_byte : (b : List ℕ) (at c : ℕ) → at < length b → set b at c ≡ over b at (c ∷ [])
one_byte b at c h = ap (λ (l : List ℕ). set l at c) (sym (over_none b (at + 1))) ∙ over-front b at c [] h

module _ (b t : List ℕ) (values : List Shown) (few : places t ≤ length values) (room : most_filled t values ≤ length b) {bytes : List ℕ} {i at next : ℕ} (h : i < length t) (s : Standing b t values bytes i at next) where
  -- the next piece stands behind what stands
  further : (piece bytes' : List ℕ) (at' next' : ℕ) → filled (take (i + 1) t) values ≡ filled (take i t) values ++ piece → next' ≡ places (take (i + 1) t)
      → length piece ≤ 1 + most_digits * (next' - next) → next ≤ next' → bytes' ≡ over bytes at piece → at' ≡ at + length piece
      → Standing b t values bytes' (i + 1) at' next'
  further piece bytes' at' next' e counted short later e-bytes e-at =
      let fewer = places-take (i + 1) t in
      let long : length (filled (take (i + 1) t) values) ≡ at + length piece = ap length e ∙ length-append (filled (take i t) values) piece ∙ ap (λ (n : ℕ). n + length piece) (sym s.1) in
      let stands : bytes' ≡ over b 0 (filled (take (i + 1) t) values) =
      e-bytes
      ∙ ap₂ (λ (l : List ℕ) (n : ℕ). over l n piece) s.0 (s.1 ∙ plain (length (filled (take i t) values)))
      ∙ over-over b 0 (filled (take i t) values) piece (omega (arith, few, room, counted, later, fewer, s.1, s.4))
      ∙ ap (over b 0) (sym e) in
      let bound : at' ≤ i + 1 + most_digits * next' = omega (arith, e-at, short, later, s.4) in (
        stands,
        e-at ∙ sym long,
        counted,
        omega (arith, h),
        bound,
        ap length stands ∙ over-length b 0 (filled (take (i + 1) t) values) (omega (arith, few, room, counted, fewer, bound, long, e-at, h)),
      )
    where
      plain : (n : ℕ) → n ≡ 0 + n
      plain n = omega arith

  -- a value stands at a place
  at_place : (d : Shown) {after bytes' : List ℕ} {r at' next' : ℕ} → get_or t i 0 ≡ place → Stands most_digits (shown_text (get_or values next d)) bytes at after r
      → bytes' ≡ after → at' ≡ r → next' ≡ next + 1 → Standing b t values bytes' (i + 1) at' next'
  at_place d {after} {bytes'} {r} {at'} {next'} found value e-bytes e-at e-next =
      further
      (shown_text (get_or values next d))
      bytes'
      at'
      next'
      (place-filled t i h values d found (omega (arith, few, value-left t i h found)) ∙ ap (λ (n : ℕ). filled (take i t) values ++ shown_text (get_or values n d)) (sym s.2))
      (e-next ∙ ap (λ (n : ℕ). n + 1) s.2 ∙ sym (place-counted t i h found))
      (omega (arith, e-next, value.short))
      (omega (arith, e-next))
      (e-bytes ∙ value.bytes)
      (e-at ∙ value.end)

  -- any other byte stands as it is
  at_byte : {bytes' : List ℕ} {at' next' : ℕ} → (get_or t i 0 ≡ place → ⊥) → bytes' ≡ set bytes at (get_or t i 0) → at' ≡ at + 1 → next' ≡ next → Standing b t values bytes' (i + 1) at' next'
  at_byte {bytes'} {at'} {next'} other e-bytes e-at e-next =
      further
      (get_or t i 0 ∷ [])
      bytes'
      at'
      next'
      (byte_copied t i h values other)
      (e-next ∙ s.2 ∙ sym (byte_passed t i h other))
      (omega arith)
      (omega (arith, e-next))
      (e-bytes ∙ one_byte bytes at (get_or t i 0) (omega (arith, s.2, s.4, s.5, few, room, places-take i t, h)))
      e-at

pub loop-byte-init : goal.loop-byte-init
unfolding filled places
loop-byte-init c =
    (sym (over_none c.args.bytes.now 0), refl, refl, omega arith, omega arith, refl)

pub offset_bounds-values-next : goal.offset_bounds-values-next
offset_bounds-values-next c =
    let l = c.loop-byte in
    omega (arith, c.requires.0, value-left c.args.template.now l.byte-index (omega arith) c.if-byte-eq-PLACE.true)

pub bounds-values-next : goal.bounds-values-next
bounds-values-next c =
    let l = c.loop-byte in
    omega (arith, c.requires.0, value-left c.args.template.now l.byte-index (omega arith) c.if-byte-eq-PLACE.true)

pub put_shown-at-requires : goal.put_shown-at-requires
put_shown-at-requires c =
    let l = c.loop-byte in
    omega (arith, l.invariant, c.requires, value-left c.args.template.now l.byte-index (omega arith) c.if-byte-eq-PLACE.true)

pub overflow_add-next : goal.overflow_add-next
overflow_add-next c =
    let l = c.loop-byte in
    omega (arith, l.invariant, c.requires, value-left c.args.template.now l.byte-index (omega arith) c.if-byte-eq-PLACE.true)

pub bounds-bytes-at : goal.bounds-bytes-at
bounds-bytes-at c =
    let l = c.loop-byte in
    omega (arith, l.invariant, c.requires, places-take l.byte-index c.args.template.now)

pub overflow_add-at : goal.overflow_add-at
overflow_add-at c =
    let l = c.loop-byte in
    omega (arith, l.invariant, c.requires, c.well_formed, places-take l.byte-index c.args.template.now)

pub loop-byte-preserved : goal.loop-byte-preserved
loop-byte-preserved c =
    let l = c.loop-byte in
    let t = c.args.template.now in
    let values = c.args.values in
    let more : l.byte-index < length t = omega arith in
    let b = c.args.bytes.now in
    elim c.if-byte-eq-PLACE.branch [
      | then-byte-eq-PLACE w ↦ at_place b t values c.requires.0 c.requires.1 more l.invariant _ w.if-byte-eq-PLACE.true w.put_shown-at.ensures w.bytes-is w.at-is w.next-is
      | else-byte-eq-PLACE w ↦ at_byte b t values c.requires.0 c.requires.1 more l.invariant w.if-byte-eq-PLACE.false w.bytes-is w.at-is w.next-is
    ]

pub returns : goal.returns
returns c =
    let l = c.loop-byte in
    let t = c.args.template.now in
    let values = c.args.values in
    let all : take l.byte-index t ≡ t = ap (λ (n : ℕ). take n t) {x = l.byte-index} {y = length t} (omega arith) ∙ take-length t in
    record {
      bytes = l.invariant.0 ∙ ap (λ (s : List ℕ). over c.args.bytes.now 0 (filled s values)) all;
      end = l.invariant.1 ∙ ap (λ (s : List ℕ). length (filled s values)) all ∙ plain (length (filled t values));
      short = omega (arith, l.invariant, c.requires, places-take l.byte-index t, ap (λ (s : List ℕ). length (filled s values)) all);
    }
  where
    plain : (n : ℕ) → n ≡ 0 + n
    plain n = omega arith
