-- `check_alone::memory::checked_in` meets its contract. Assumes nothing.
use Prim.Native.Nat.{◌*◌, ◌≤◌}
use native.Mathlib.Omega.{arith}
use Rattle.check_refusals.proofs.Fitting.{given_of}
use Rattle.check_alone.proofs.memory.checked_in.Goals as goal

pub checked_within-requires : goal.checked_within-requires
checked_within-requires c = record {
  memory = (let r : 512 ≤ 512 = omega arith in r, let b : 1536 ≤ 1536 = omega arith in b);
  room = λ h. let g = given_of c.args.kind _ _ _ h in (g.rows, let b : 6 * c.args.b ≤ 1536 = omega (arith, g.bodies) in b);
}
