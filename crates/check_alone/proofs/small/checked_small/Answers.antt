-- `check_alone::small::checked_small` meets its contract. Assumes nothing.
use Prim.Native.Nat.{◌*◌, ◌≤◌}
use native.Mathlib.Omega.{arith}
use Rattle.check_alone.proofs.small.checked_small.Goals as goal

pub checked_within-requires : goal.checked_within-requires
checked_within-requires c = record {
  memory = (let r : 128 ≤ 512 = omega arith in r, let b : 384 ≤ 1536 = omega arith in b);
  room = λ _. (c.requires.0, let b : 6 * c.args.b ≤ 384 = omega (arith, c.requires.1) in b);
}
