-- The pattern of the pairs in one lent slice: first where each row's places start, one word more than there are rows, then the column of each place.
use Rattle.std.specs.Prelude.{ℕ, ◌+◌, List, take, drop}

unfoldable pub starts_in : ℕ → List ℕ → List ℕ
starts_in rows pattern = take (rows + 1) pattern

unfoldable pub columns_in : ℕ → List ℕ → List ℕ
columns_in rows pattern = drop (rows + 1) pattern
