-- The numbers of refusals, document 01 and document 02; and the number of an answer, which is 0 where it is no refusal. Assumes nothing.
use Rattle.std.specs.Prelude.{ℕ, Ok, Err, Result}
use Rattle.refusals.specs.declared.Refusal.{Refusal}
use Rattle.refusals.specs.declared.Refusal.TheVariants.{Side, Depth, SampleCount, Lambda, Costs, Sample, Room, Small, OneLevel, ManyLevels, Colors, Orientation, Cache, Lengths, Map, WordRoom, Text, Context, BlockCount, ListEnd, Word, WordsLeft, NotListed, AdaptedLength, AdaptedRows}

abbrev pub number_of : Refusal → ℕ
number_of Side = 1
number_of Depth = 2
number_of SampleCount = 3
number_of Lambda = 4
number_of Costs = 5
number_of Sample = 6
number_of Room = 7
number_of Small = 8
number_of OneLevel = 9
number_of ManyLevels = 10
number_of Colors = 11
number_of Orientation = 12
number_of Cache = 13
number_of Lengths = 14
number_of Map = 15
number_of WordRoom = 16
number_of Text = 17
number_of Context = 18
number_of BlockCount = 19
number_of ListEnd = 20
number_of Word = 21
number_of WordsLeft = 22
number_of NotListed = 23
number_of AdaptedLength = 24
number_of AdaptedRows = 25

-- 0, or the number of the refusal
abbrev pub number : {A : Type 0} → Result A Refusal → ℕ
number (Ok a) = 0
number (Err refusal) = number_of refusal
