-- The report has a value for each place, and every text fits the buffer. Assumes nothing.
use mathlib.Core.Path.{◌≡◌, refl}
use Prim.Native.Nat.{◌≤◌}
use native.Mathlib.Nat.{le_trans}
use lib.Dec.{lit≤}
use lib.ListN.{length}
use Rattle.template.specs.Filled.{places, most_filled}
use Rattle.template.proofs.Bounds.{Words, filled-at-most}
use Rattle.report.specs.declared.figures.Figures.{Figures}
use Rattle.report.specs.Lines.{template, values_of, text_of}
use Rattle.report.specs.Report.{report_room}

module _ (f : Figures) where
  -- There is a value for each place, and a place for each value.
  pub value_each : places template ≡ length (values_of f)
  unfolding places values_of
  value_each = refl

  -- the template's bytes, and 20 for each value, are no more than the buffer has
  pub room : most_filled template (values_of f) ≤ report_room
  unfolding values_of
  room = lit≤ tt

  -- Every text of figures whose numbers are of 64 bits fits the buffer.
  pub text_fits : Words (values_of f) → length (text_of f) ≤ report_room
  unfolding text_of
  text_fits h = le_trans (filled-at-most template (values_of f) h) room
