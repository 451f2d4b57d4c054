-- Nine numbers put into a slice of nine are all that it holds, and what an inverse tells. Assumes nothing.
use Prim.Native.Nat.{ℕ, ◌<◌}
use mathlib.Core.Path.{◌≡◌, refl, sym, ap, ◌∙◌, subst}
use mathlib.Core.Bool.{Bool, true, false, not}
use mathlib.Core.List.{List, [], ◌∷◌}
use native.Mathlib.Omega.{arith}
use lib.Dec.{eqb}
use lib.ListN.{length}
use lib.Ieee.{Float}
use borrow.Author.Tests.{not-false, eqb-true}
use Rattle.std.specs.Prelude.{Result, Ok, Err}
use Rattle.loops.specs.Run.{ended}
use Rattle.loops.proofs.Judge.{test_pass, test_fail}
use Rattle.loops.proofs.Inverse.{apart, going_inj}
use Rattle.loops.proofs.Both.{both}
use Rattle.kapitsa_math.specs.Lent.{put_vec_of}
use Rattle.kapitsa_math.specs.declared.matrix.Mat3.{Mat3}
use Rattle.inertia.specs.Inverse.{inverse_run}
use Rattle.inertia.specs.Answers.{number_of, cholesky_out}
use Rattle.inertia.specs.MinusZero.{MatrixMeaning, InverseMeaning}
use Rattle.inertia.proofs.InOrder.{inverse_in_place}
use Rattle.inertia.specs.Lent.{mat_of, nine_of, nines_fit, lent_run, inverse_lent_of, InverseTold}
use Rattle.inertia.specs.declared.triangle.CholeskyError.{CholeskyError}
use Rattle.inertia.specs.declared.triangle.CholeskyError.TheVariants.{NonFiniteInput, NotSymmetric, NotPositiveDefinite, ResultOutOfRange}

-- ---- the matrix
nine_put : (l : List Float) (m : Mat3) → length l ≡ 9 → put_vec_of (put_vec_of (put_vec_of l 0 m.x) 3 m.y) 6 m.z ≡ nine_of m
unfolding put_vec_of nine_of
nine_put (a ∷ b ∷ c ∷ d ∷ e ∷ f ∷ g ∷ h ∷ i ∷ []) m n = refl
nine_put [] m n = absurd (omega arith)
nine_put (a ∷ []) m n = absurd (omega arith)
nine_put (a ∷ b ∷ []) m n = absurd (omega arith)
nine_put (a ∷ b ∷ c ∷ []) m n = absurd (omega arith)
nine_put (a ∷ b ∷ c ∷ d ∷ []) m n = absurd (omega arith)
nine_put (a ∷ b ∷ c ∷ d ∷ e ∷ []) m n = absurd (omega arith)
nine_put (a ∷ b ∷ c ∷ d ∷ e ∷ f ∷ []) m n = absurd (omega arith)
nine_put (a ∷ b ∷ c ∷ d ∷ e ∷ f ∷ g ∷ []) m n = absurd (omega arith)
nine_put (a ∷ b ∷ c ∷ d ∷ e ∷ f ∷ g ∷ h ∷ []) m n = absurd (omega arith)
nine_put (a ∷ b ∷ c ∷ d ∷ e ∷ f ∷ g ∷ h ∷ i ∷ j ∷ l) m n = absurd (omega arith)

pub nine_is : (l : List Float) (m : Mat3) {a b c : List Float} → length l ≡ 9 → a ≡ put_vec_of l 0 m.x → b ≡ put_vec_of a 3 m.y → c ≡ put_vec_of b 6 m.z → c ≡ nine_of m
nine_is l m n p q r = rw (r, q, p) (nine_put l m n)

-- ---- the lengths
module _ (inertia inverse : List Float) {r : Bool} (e : r ≡ nines_fit inertia inverse) where
  nines : not r ≡ false → (length inertia ≡ 9) × (length inverse ≡ 9)
  unfolding nines_fit
  nines h =
      let (p, q) = both (eqb (length inertia) 9) (eqb (length inverse) 9) (sym e ∙ not-false r h) in
      (eqb-true (length inertia) 9 p, eqb-true (length inverse) 9 q)

  pub nine_in : not r ≡ false → length inertia ≡ 9
  nine_in h = (nines h).0

  pub nine_out : not r ≡ false → length inverse ≡ 9
  nine_out h = (nines h).1

  -- ---- what is told
  number_above : (x : CholeskyError) → 0 < number_of x
  number_above NonFiniteInput = omega arith
  number_above NotSymmetric = omega arith
  number_above NotPositiveDefinite = omega arith
  number_above ResultOutOfRange = omega arith

  refused : (n : ℕ) → 0 < n → lent_run inertia inverse ≡ ended n → InverseTold inertia inverse record { number = n; inverse = inverse }
  unfolding inverse_lent_of
  refused n h k = record { answered = rw k; zero = (λ z. absurd (omega arith), λ g. absurd (apart _ g.1 k)); means = λ m g. absurd (apart _ g k); in_place = inverse_in_place (mat_of inertia) }

  pub lent_3 : not r ≡ true → InverseTold inertia inverse record { number = 3; inverse = inverse }
  unfolding lent_run
  lent_3 h = refused 3 (omega arith) (test_fail _ 3 _ e h)

  module _ (h : not r ≡ false) {m : Mat3} (q : m ≡ mat_of inertia) (a : Result Mat3 CholeskyError) (k : inverse_run m ≡ cholesky_out a) where
    runs : lent_run inertia inverse ≡ cholesky_out a
    unfolding lent_run
    runs = test_pass _ 3 _ e h (subst (λ (m : Mat3). inverse_run m ≡ cholesky_out a) q k)

    pub lent_refused : {x : CholeskyError} {n : ℕ} → a ≡ Err x → n ≡ number_of x → InverseTold inertia inverse record { number = n; inverse = inverse }
    lent_refused {x} v w = rw w (refused (number_of x) (number_above x) (runs ∙ ap cholesky_out v))

    pub lent_told : {i : Mat3} {out : List Float} → InverseMeaning a → a ≡ Ok i → out ≡ nine_of i → InverseTold inertia inverse record { number = 0; inverse = out }
    unfolding inverse_lent_of
    lent_told {i} t v w =
        let g = runs ∙ ap cholesky_out v in
        record {
          answered = rw (g, w);
          zero = (λ _. (i, g), λ _. refl);
          means = λ m h. subst MatrixMeaning (going_inj (sym g ∙ h)) (t.accepted i v);
          in_place = inverse_in_place (mat_of inertia);
        }
