-- The numbers that document 01, "Refusals", and its change requests give the refusals. 12 is none any more (T-09).
--   number     the number of a refusal
use Rattle.std.specs.Prelude.{ℕ}
use Rattle.refusal.specs.declared.Refusal.{Refusal}
use Rattle.refusal.specs.declared.Refusal.TheVariants.{ProblemTooLong, HeadCutOff, LengthPastEnd, TagOutOfPlace, TooDeep, FixedPart, InnerFields, PatternInExpression, FunctionInArgument, MetavariableOver31, TooManyConstraints, TooManyFunctions}
use Rattle.refusal.specs.declared.Refusal.TheVariants.{FaceTooLarge, NoAllowance, NoSuchPlace, NotASolution, BufferTooShort, TextTooLong, TextMalformed, SymbolTooWide, TextOutOfOrder, NodesOutOfRange, ProblemBufferTooShort}

abbrev pub number : Refusal → ℕ
number ProblemTooLong = 1
number HeadCutOff = 2
number LengthPastEnd = 3
number TagOutOfPlace = 4
number TooDeep = 5
number FixedPart = 6
number InnerFields = 7
number PatternInExpression = 8
number FunctionInArgument = 9
number MetavariableOver31 = 10
number TooManyConstraints = 11
number TooManyFunctions = 13
number FaceTooLarge = 14
number NoAllowance = 15
number NoSuchPlace = 16
number NotASolution = 17
number BufferTooShort = 18
number TextTooLong = 19
number TextMalformed = 20
number SymbolTooWide = 25
number TextOutOfOrder = 27
number NodesOutOfRange = 28
number ProblemBufferTooShort = 29
