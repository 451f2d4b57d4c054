-- The centres of the links. Document 02, d: "The mass gains its centre, three doubles at its end". In memory they are lent apart from the ten mass numbers.
use Rattle.std.specs.Prelude.{ℕ, zero, suc, ◌*◌, ◌/◌, ◌%◌, List, [], Float}
use Rattle.loops.specs.Tabulate.{tabulate}
use Rattle.kapitsa_math.specs.declared.vector.Vec3.{Vec3}
use Rattle.kapitsa_math.specs.Lent.{vec_of}

pub record Centres : Type 0 where
  pub bodies : ℕ  -- how many bodies have one: all of a table, or none where none are lent
  pub at : ℕ → Vec3

abbrev pub centres_in : ℕ → List Float → Centres
centres_in bodies l = record { bodies = bodies; at = λ b. vec_of l (3 * b) }

abbrev pub no_centres : Centres
no_centres = centres_in 0 []

-- number k of a vector's three
unfoldable pub part_of : Vec3 → ℕ → Float
part_of v zero = v.x
part_of v (suc zero) = v.y
part_of v (suc (suc k)) = v.z

-- as a lent slice holds them, three doubles a body
unfoldable pub flat_centres : Centres → List Float
flat_centres c = tabulate (λ k. part_of (c.at (k / 3)) (k % 3)) (3 * c.bodies)
