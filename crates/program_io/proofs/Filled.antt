-- What was read is within the space. Assumes nothing.
use Rattle.std.proofs.Common.{◌≡◌, ℕ, ◌≤◌, List, length, Option, Some}
use Rattle.program_io.specs.Input.{Filled, IsPrefixLen}

pub filled_counts : {r : Option ℕ} {n : ℕ} {space : List ℕ} → Filled r space → r ≡ Some n → IsPrefixLen n space
filled_counts f e = rw e at f.front

pub filled_within : {r : Option ℕ} {n : ℕ} {space : List ℕ} → Filled r space → r ≡ Some n → n ≤ length space
filled_within f e = (filled_counts f e).0
