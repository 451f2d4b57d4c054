-- A list of bytes.
use Rattle.std.specs.Prelude.{ℕ, ◌<◌, List, get_or}

pub record Bytes (file : List ℕ) : Type 0 where
  pub below : (k : ℕ) → get_or file k 0 < 256
