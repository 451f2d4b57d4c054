-- The numbers are few, and none is 0. Assumes nothing.
use Rattle.std.proofs.Common.{◌<◌, ◌≤◌, arith}
use Rattle.refusals.specs.declared.Refusal.{Refusal}
use Rattle.refusals.specs.declared.Refusal.TheVariants.{File, Sections, Length, Word, Opening, Mass, Row, Diagonal, Immovable, Pairs, Block, Value, Pivot, Residual, Direction, Step, Result, Range, Root, Speed, Number, Symmetry, Definite, Layout, Shift, Tolerance, Rule, RulesOfRow, Committed, Moved}
use Rattle.refusals.specs.Number.{number_of}

pub number_few : (r : Refusal) → number_of r ≤ 30
number_few File = omega arith
number_few Sections = omega arith
number_few Length = omega arith
number_few Word = omega arith
number_few Opening = omega arith
number_few Mass = omega arith
number_few Row = omega arith
number_few Diagonal = omega arith
number_few Immovable = omega arith
number_few Pairs = omega arith
number_few Block = omega arith
number_few Value = omega arith
number_few Pivot = omega arith
number_few Residual = omega arith
number_few Direction = omega arith
number_few Step = omega arith
number_few Result = omega arith
number_few Range = omega arith
number_few Root = omega arith
number_few Speed = omega arith
number_few Number = omega arith
number_few Symmetry = omega arith
number_few Definite = omega arith
number_few Layout = omega arith
number_few Shift = omega arith
number_few Tolerance = omega arith
number_few Rule = omega arith
number_few RulesOfRow = omega arith
number_few Committed = omega arith
number_few Moved = omega arith

-- a refusal's number is held by 32 bits
pub number_fits : (r : Refusal) → number_of r < 4294967296
number_fits r = omega (arith, number_few r)
