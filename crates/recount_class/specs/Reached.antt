-- What is missing in a window, by how far it reaches. Assumes nothing.
use Rattle.std.specs.Prelude.{cond, ◌-◌, leb, ltb, Some, None}
use Rattle.report.specs.declared.figures.Missing.{Missing}
use Rattle.recount_window.specs.declared.Reach.{Reach}

-- neither is shown
abbrev pub no_missing : Missing
no_missing = record { forward = None; reverse = None }

-- an anchor alone shows none, and the highest offset less the seen offsets above 0 is reverse missing
abbrev pub missing_by : Reach → Missing
missing_by r =
    cond (ltb r.points 2) no_missing
    (cond (leb r.received r.sender) (record { forward = Some (r.sender - r.received); reverse = Some (r.highest - r.above) })
    (record { forward = None; reverse = Some (r.highest - r.above) }))
