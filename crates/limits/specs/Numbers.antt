-- The number of each refusal: document 01's table, and what document 02 adds to it.
use Rattle.std.specs.Prelude.{ℕ, Option, Some, None, Result, Ok, Err}
use Rattle.limits.specs.declared.Refusal.{Refusal}
use Rattle.limits.specs.declared.Refusal.TheVariants as refusal

-- the number that the host is told
abbrev pub number_of : Refusal → ℕ
number_of refusal.OutOfRange = 1
number_of refusal.NotAwaiting = 2
number_of refusal.QueueFull = 3
number_of refusal.CountsFull = 4
number_of refusal.WrongRoom = 5
number_of refusal.DeadlinePasses = 6
number_of refusal.BadTrailer = 7
number_of refusal.BadRecord = 8
number_of refusal.TooLong = 9
number_of refusal.PassesEnd = 10
number_of refusal.WrongLength = 11
number_of refusal.ShortRoom = 12
number_of refusal.BadPattern = 13
number_of refusal.TooMuchPadding = 14

-- the same of a test: 0 where nothing is refused
abbrev pub number : Option Refusal → ℕ
number None = 0
number (Some r) = number_of r

-- an answer as the definitions have it: with the number of its refusal
abbrev pub numbered : {A : Type 0} → Result A Refusal → Result A ℕ
numbered (Ok x) = Ok x
numbered (Err r) = Err (number_of r)

-- the number of such an answer: 0 where the call was served
abbrev pub answer_number : {A : Type 0} → Result A ℕ → ℕ
answer_number (Ok x) = 0
answer_number (Err n) = n
