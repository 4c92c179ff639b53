-- Five lines of the report, from the first n records of a log and their marks. Assumes nothing.
use Rattle.std.specs.Prelude.{List, ℕ, zero, suc, ◌-◌, ◌*◌, ◌/◌, Option, Some, None}
use Rattle.report.specs.declared.figures.PlayedRecords.{PlayedRecords}
use Rattle.report.specs.declared.figures.Loss.{Loss}
use Rattle.report.specs.declared.figures.Replies.{Replies}
use Rattle.report.specs.declared.figures.Probes.{Probes}
use Rattle.report.specs.declared.figures.Order.{Order}
use Rattle.recount_marks.specs.Marks.{turned_in}
use Rattle.recount_counts.specs.Tests.{test_by, passing}

-- "records N turned away N"
abbrev pub played_at : List ℕ → ℕ → PlayedRecords
played_at marks n = record { records = n; turned_away = turned_in marks n }

-- "1,000·unobserved/requested rounded down"; with nothing requested there is no figure (document 02, Q-5)
abbrev pub thousandths_of : (requested lost : ℕ) → Option ℕ
thousandths_of zero lost = None
thousandths_of (suc n) lost = Some (1000 * lost / suc n)

-- unobserved is requested less satisfied, not below 0
abbrev pub loss_by : (requested satisfied : ℕ) → Loss
loss_by requested satisfied = record {
  requested = requested;
  unobserved = requested - satisfied;
  thousandths = thousandths_of requested (requested - satisfied);
}

module _ (copies : ℕ) (log marks : List ℕ) (n : ℕ) where
  -- how many of the records pass the test of this number
  abbrev pub tells : ℕ → ℕ
  tells kind = passing (test_by kind copies) log marks n

  -- "requested N unobserved N thousandths N": each probe sent asks for as many replies as copies
  unfoldable pub loss_at : Loss
  loss_at = loss_by (copies * tells 0) (tells 7)

  -- "unique N duplicate N unknown N"
  unfoldable pub replies_at : Replies
  replies_at = record { unique = tells 3; duplicate = tells 1; unknown = tells 2 }

  -- "answered N additional N late N"
  unfoldable pub probes_at : Probes
  probes_at = record { answered = tells 4; additional = tells 5; late = tells 6 }

  -- "reordered N independent N"
  unfoldable pub order_at : Order
  order_at = record { reordered = tells 9; independent = tells 8 }
