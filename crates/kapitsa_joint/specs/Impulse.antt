-- Document 01: "Impulses (six doubles a body)", linear then angular (solver.rs, GeneralizedImpulse).
use Rattle.std.specs.Prelude.{ℕ, ◌+◌, ◌*◌, List, Float}
use Rattle.kapitsa_math.specs.Lent.{vec_of, put_vec_of, spread_of, put_spread_of}
use Rattle.kapitsa_joint.specs.declared.impulse.GeneralizedImpulse.{GeneralizedImpulse}

unfoldable pub impulse_of : List Float → ℕ → GeneralizedImpulse
impulse_of l b = record { linear = vec_of l (6 * b); angular = vec_of l (6 * b + 3) }

unfoldable pub put_impulse_of : List Float → ℕ → GeneralizedImpulse → List Float
put_impulse_of l b g = put_vec_of (put_vec_of l (6 * b) g.linear) (6 * b + 3) g.angular

-- in work memory, which is nobody's but the port's: of a body linear x, angular x, linear y, angular y, linear z, angular z
unfoldable pub paired_of : List Float → ℕ → GeneralizedImpulse
paired_of l b = record { linear = spread_of l (6 * b); angular = spread_of l (6 * b + 1) }

unfoldable pub put_paired_of : List Float → ℕ → GeneralizedImpulse → List Float
put_paired_of l b g = put_spread_of (put_spread_of l (6 * b) g.linear) (6 * b + 1) g.angular
