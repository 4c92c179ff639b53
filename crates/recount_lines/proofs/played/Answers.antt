use Rattle.recount_lines.proofs.played.Goals as goal

pub returns : goal.returns
returns c = λ i. record { records = c.args.n; turned_away = c.turned_away-turned.ensures i }
