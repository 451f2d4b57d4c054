-- The numbers of documents 01 and 02, "Why a job was turned back".
use Rattle.std.specs.Prelude.{ℕ}
use Rattle.refusals.specs.declared.Refusal.{Refusal}
use Rattle.refusals.specs.declared.Refusal.TheVariants.{File, Sections, Length, Word, Opening, Mass, Row, Diagonal, Immovable, Pairs, Block, Value, Pivot, Residual, Direction, Step, Result, Range, Root, Speed, Number, Symmetry, Definite, Layout, Shift, Tolerance, Rule, RulesOfRow, Committed, Moved}

abbrev pub number_of : Refusal → ℕ
number_of File = 1
number_of Sections = 2
number_of Length = 3
number_of Word = 4
number_of Opening = 5
number_of Mass = 6
number_of Row = 7
number_of Diagonal = 8
number_of Immovable = 9
number_of Pairs = 10
number_of Block = 11
number_of Value = 12
number_of Pivot = 13
number_of Residual = 14
number_of Direction = 15
number_of Step = 16
number_of Result = 17
number_of Range = 18
number_of Root = 19
number_of Speed = 20
number_of Number = 21
number_of Symmetry = 22
number_of Definite = 23
number_of Layout = 24
number_of Shift = 25
number_of Tolerance = 26
number_of Rule = 27
number_of RulesOfRow = 28
number_of Committed = 29
number_of Moved = 30
