-- What it is for a contract to determine the answer of a call that lends nothing, and that the contracts of this crate do.
use Rattle.std.proofs.Common.{◌≡◌, List, sym, ◌∙◌}
use contract.Lifetimes.{Lfts}
use denote.Triple.Clauses.{AtExit}
use borrow.Fn.Kinds.{ParamKind, ResultKind, Dens, Out, res_t, ended_of}
use Rattle.floats.specs.Exact.{exactly_one}
use Rattle.floats.proofs.power_of_two.Kinds as power-of-two
use Rattle.floats.proofs.power_of_two.Reads as power-of-two'
use Rattle.floats.proofs.nearest.Kinds as nearest
use Rattle.floats.proofs.nearest.Reads as nearest'
use Rattle.floats.proofs.nearest_magnitude.Kinds as nearest-magnitude
use Rattle.floats.proofs.nearest_magnitude.Reads as nearest-magnitude'
use Rattle.floats.proofs.nearest_signed.Kinds as nearest-signed
use Rattle.floats.proofs.nearest_signed.Reads as nearest-signed'
use Rattle.floats.proofs.round_half_away.Kinds as round-half-away
use Rattle.floats.proofs.round_half_away.Reads as round-half-away'

-- any two outcomes that meet the contract have the same answer
abbrev pub OneAnswer : (ps : List (ParamKind 0)) (r : ResultKind 0) → Out 0 ps r → Type 0
OneAnswer ps r Post = (κs : Lfts 0) (a : Dens κs ps) (x y : (res_t r κs).Denot) (s t : AtExit (ended_of 0 ps r) κs) → Post κs a x s → Post κs a y t → x ≡ y

pub power_of_two-unique : OneAnswer power-of-two.ps power-of-two.r power-of-two'.Post
power_of_two-unique κs a x y s t p q = exactly_one x y _ _ p q

pub nearest-unique : OneAnswer nearest.ps nearest.r nearest'.Post
nearest-unique κs a x y s t p q = p ∙ sym q

pub nearest_magnitude-unique : OneAnswer nearest-magnitude.ps nearest-magnitude.r nearest-magnitude'.Post
nearest_magnitude-unique κs a x y s t p q = p ∙ sym q

pub nearest_signed-unique : OneAnswer nearest-signed.ps nearest-signed.r nearest-signed'.Post
nearest_signed-unique κs a x y s t p q = p ∙ sym q

pub round_half_away-unique : OneAnswer round-half-away.ps round-half-away.r round-half-away'.Post
round_half_away-unique κs a x y s t p q = p ∙ sym q
