-- A step in the parts that its functions make. Together they are `advance_of` and `renew_from` (proofs/Together.antt).
use Rattle.std.specs.Prelude.{ℕ, List, Float}
use Rattle.loops.specs.Run.{Run, going, next}
use Rattle.loops.specs.Judge.{test}
use Rattle.mass_operator.specs.System.{System}
use Rattle.mass_operator.specs.Flat.{coefficients, product_of}
use Rattle.mass_operator.specs.Applied.{all_finite_of}
use Rattle.preconditioner.specs.Apply.{diagonal_solve_of}
use Rattle.recurrence.specs.Vectors.{dot_product_of, plus_scaled, less_scaled}
use Rattle.recurrence.specs.Step.{Iterate, Carried, alpha_of, product_fit, beta_of, turned_of}

-- "Product is the operator on direction", and alpha: 16, 15
unfoldable pub length_of : System → Carried → Run Float ℕ
length_of s c = let product = product_of s (coefficients c.direction) in next (test (all_finite_of product) 16) (λ _. alpha_of c.s (dot_product_of c.direction product))

-- "solution gains alpha × direction and residual loses alpha × product": 16 for the solution. The residual is not tested yet: what follows does (proofs/Residual.antt)
unfoldable pub moved_of : Iterate → List Float → List Float → Float → Run Iterate ℕ
moved_of v direction product alpha =
    let x = plus_scaled v.solution alpha direction in
    next (test (all_finite_of x) 16) (λ _. going (record { solution = x; residual = less_scaled v.residual alpha product }))

-- mode 0: with z, the residual by the diagonal, and s = residual · z
abbrev pub with_diagonal : List Float → Iterate → Run (Iterate × List Float × Float) ℕ
with_diagonal diagonal w = let z = diagonal_solve_of w.residual diagonal in going (w, z, dot_product_of w.residual z)

-- where the step misses, from z and its s on: 14, 16
unfoldable pub next_from : List Float → Carried → Float → Run Carried ℕ
next_from z c s = next (product_fit s) (λ s. next (beta_of s c.s) (turned_of z c.direction s))
