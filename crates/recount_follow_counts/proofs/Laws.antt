-- Two classes are the same where their numbers are, and none has the number that stands for any. Assumes nothing.
use Rattle.std.proofs.Common.{◌≡◌, false, eqb, refl}
use denote.Enum.Bare.{sameb}
use Rattle.recount_follow.specs.declared.Class.{Class}
use Rattle.recount_follow.specs.declared.Class.TheVariants as class
use Rattle.recount_follow.specs.contracts.Class.{the_type}
use Rattle.recount_follow.specs.Brief.{number_of}

pub same_class : (a b : Class) → sameb the_type a b ≡ eqb (number_of a) (number_of b)
same_class class.Unavailable class.Unavailable = refl
same_class class.Unavailable class.Ambiguous = refl
same_class class.Unavailable class.Unmatched = refl
same_class class.Unavailable class.Repeated = refl
same_class class.Unavailable class.Matched = refl
same_class class.Ambiguous class.Unavailable = refl
same_class class.Ambiguous class.Ambiguous = refl
same_class class.Ambiguous class.Unmatched = refl
same_class class.Ambiguous class.Repeated = refl
same_class class.Ambiguous class.Matched = refl
same_class class.Unmatched class.Unavailable = refl
same_class class.Unmatched class.Ambiguous = refl
same_class class.Unmatched class.Unmatched = refl
same_class class.Unmatched class.Repeated = refl
same_class class.Unmatched class.Matched = refl
same_class class.Repeated class.Unavailable = refl
same_class class.Repeated class.Ambiguous = refl
same_class class.Repeated class.Unmatched = refl
same_class class.Repeated class.Repeated = refl
same_class class.Repeated class.Matched = refl
same_class class.Matched class.Unavailable = refl
same_class class.Matched class.Ambiguous = refl
same_class class.Matched class.Unmatched = refl
same_class class.Matched class.Repeated = refl
same_class class.Matched class.Matched = refl

pub of_one : (a : Class) → eqb (number_of a) 5 ≡ false
of_one class.Unavailable = refl
of_one class.Ambiguous = refl
of_one class.Unmatched = refl
of_one class.Repeated = refl
of_one class.Matched = refl
