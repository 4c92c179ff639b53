use Rattle.directions.proofs.Directions.new.Goals as goal

pub returns : goal.returns
returns c = λ i. record { forward = c.new-forward.ensures i; reverse = c.new-reverse.ensures i }
