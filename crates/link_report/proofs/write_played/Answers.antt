use mathlib.Core.Path.{ap, ◌∙◌}
use Rattle.link_steps.specs.declared.Link.{Link}
use Rattle.report.specs.Report.{report_of}
use Rattle.link_figures.specs.Figures.{figures_of}
use Rattle.link_report.proofs.write_played.Goals as goal

pub returns : goal.returns
returns c =
    let made = c in
    let a = made.args in
    c.report.ensures
    ∙ ap (report_of a.text.now) (made.figures_of-figures.ensures ∙ ap (λ (link : Link). figures_of link a.count a.tally.turned) made.link_of-link.ensures)
