-- What is known of the space that standard input was read into.
use Rattle.std.specs.Prelude.{◌≡◌, ℕ, ◌≤◌, List, length, take, Option, Some, None}

-- `&xs[..n]` is in bounds and has n bytes
abbrev pub IsPrefixLen : ℕ → List ℕ → Type 0
IsPrefixLen n xs = (n ≤ length xs) × (n ≡ length (take n xs))

-- so many bytes at the front of the space were read; of what a failed read leaves there nothing is known
abbrev pub CountsRead : Option ℕ → List ℕ → Type 0
CountsRead (Some n) space = IsPrefixLen n space
CountsRead None space = Unit

pub record Filled (r : Option ℕ) (space : List ℕ) : Type 0 where
  pub front : CountsRead r space
