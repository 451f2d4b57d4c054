-- Nine lent doubles as a matrix by columns, and the inverse of one told to C: 0 with nine numbers, or the refusal's number, and then nothing is written.
use Rattle.std.specs.Prelude.{ℕ, ◌≡◌, Bool, ◌&&◌, List, [], ◌∷◌, ◌↔◌, eqb, length, Float}
use Rattle.loops.specs.Run.{Run, going, ended, next, Goes}
use Rattle.loops.specs.Judge.{test}
use Rattle.kapitsa_math.specs.Lent.{vec_of}
use Rattle.kapitsa_math.specs.declared.matrix.Mat3.{Mat3}
use Rattle.inertia.specs.Inverse.{inverse_run}
use Rattle.inertia.specs.MinusZero.{MatrixMeaning}
use Rattle.inertia.specs.Order.{InPlace}

unfoldable pub mat_of : List Float → Mat3
mat_of l = record { x = vec_of l 0; y = vec_of l 3; z = vec_of l 6 }

unfoldable pub nine_of : Mat3 → List Float
nine_of m = m.x.x ∷ m.x.y ∷ m.x.z ∷ m.y.x ∷ m.y.y ∷ m.y.z ∷ m.z.x ∷ m.z.y ∷ m.z.z ∷ []

-- "3. … a lent slice has not the length the counts call for"
unfoldable pub nines_fit : List Float → List Float → Bool
nines_fit inertia inverse = eqb (length inertia) 9 && eqb (length inverse) 9

-- 3, then 21, 22, 23 and 12
unfoldable pub lent_run : List Float → List Float → Run Mat3 ℕ
lent_run inertia inverse = next (test (nines_fit inertia inverse) 3) (λ _. inverse_run (mat_of inertia))

pub record InverseLent : Type 0 where
  pub number : ℕ
  pub inverse : List Float

unfoldable pub inverse_lent_of : Run Mat3 ℕ → List Float → InverseLent
inverse_lent_of (going m) inverse = record { number = 0; inverse = nine_of m }
inverse_lent_of (ended n) inverse = record { number = n; inverse = inverse }

-- What is told is the definition's, 0 is told for an inverse alone, which is finite and has no -0.0, and past 3 each number has its place.
pub record InverseTold (inertia inverse : List Float) (told : InverseLent) : Type 0 where
  pub answered : told ≡ inverse_lent_of (lent_run inertia inverse) inverse
  pub zero : (told.number ≡ 0) ↔ Goes (lent_run inertia inverse)
  pub means : (m : Mat3) → lent_run inertia inverse ≡ going m → MatrixMeaning m
  pub in_place : InPlace (mat_of inertia)
