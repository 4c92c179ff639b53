-- "Thousandths are 1,000·unobserved/requested rounded down" (document 01, 'Ledger'). "With nothing requested there is no figure: the answer
-- is absent." (document 02, Q-5)
use Rattle.std.specs.Prelude.{Bool, true, false, ℕ, ◌*◌, ◌/◌, eqb, Option, Some, None}

-- by whether nothing was requested; the division of whole numbers rounds down
abbrev pub thousandths_by : Bool → ℕ → ℕ → Option ℕ
thousandths_by true unobserved requested = None
thousandths_by false unobserved requested = Some (1000 * unobserved / requested)

-- of unobserved and requested, in this order
unfoldable pub thousandths_of : ℕ → ℕ → Option ℕ
thousandths_of unobserved requested = thousandths_by (eqb requested 0) unobserved requested

-- whether there is a figure: 1 or 0
abbrev pub known_of : Option ℕ → ℕ
known_of None = 0
known_of (Some n) = 1

-- the figure, 0 where there is none
abbrev pub value_of : Option ℕ → ℕ
value_of None = 0
value_of (Some n) = n
