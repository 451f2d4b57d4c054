-- Each number of `inverse_spd` in its place, and no other. Assumes nothing.
use Prim.Native.Nat.{ℕ}
use mathlib.Core.Path.{◌≡◌, refl, sym, ap, ◌∙◌, subst}
use mathlib.Core.Bool.{Bool, true}
use mathlib.Core.Logic.{◌⊎◌, inl, inr}
use native.Mathlib.Omega.{arith}
use lib.Ieee.{Float, of_bits}
use Rattle.loops.specs.Run.{Run, going, ended, next}
use Rattle.loops.specs.Judge.{test, judge, AllPass, FirstToFail}
use Rattle.loops.proofs.Judge.{test_going, test_ended, judge_going, judge_ended}
use Rattle.loops.proofs.Inverse.{next_ended, apart, saw}
use Rattle.loops.proofs.Loop.{on_going, on_ended}
use Rattle.kapitsa_math.specs.Vector.{is_finite_of}
use Rattle.kapitsa_math.specs.declared.vector.Vec3.{Vec3}
use Rattle.kapitsa_math.specs.declared.matrix.Mat3.{Mat3}
use Rattle.inertia.specs.Divided.{scale_of, divided_of}
use Rattle.inertia.specs.Triangle.{passes_pivot, pivot_run, first_run, second_run, second_pivot, third_run, third_pivot, triangle_run}
use Rattle.inertia.specs.Factor.{matrix_tests, factor_run}
use Rattle.inertia.specs.Solve.{solve_run}
use Rattle.inertia.specs.Inverse.{unit_x, unit_y, unit_z, columns_run, inverse_run}
use Rattle.inertia.specs.Order.{Met21, Met22, Met23, Met12, InPlace}
use Rattle.inertia.specs.declared.triangle.Cholesky3.{Cholesky3}

-- ---- a run whose parts end in one number ends in that number
Only : {S : Type 0} → ℕ → Run S ℕ → Type 0
Only k r = (n : ℕ) → r ≡ ended n → n ≡ k

only_next : {S T : Type 0} (k : ℕ) (r : Run S ℕ) (f : S → Run T ℕ) → Only k r → ((s : S) → Only k (f s)) → Only k (next r f)
unfolding Only
only_next k r f h g n e = elim ((next_ended r f n).0 e) [ inl p ↦ h n p | inr p ↦ g p.0 n p.2 ]

only_going : {S : Type 0} (k : ℕ) (s : S) → Only k (going s)
unfolding Only
only_going k s n e = absurd (apart _ refl e)

only_test : (k : ℕ) (b : Bool) → Only k (test b k)
unfolding Only
only_test k b n e = sym ((test_ended b k n).0 e).1

pivot_only : (x : Float) → Only 23 (pivot_run x)
unfolding pivot_run
pivot_only x = only_next 23 (test (passes_pivot x) 23) _ (only_test 23 (passes_pivot x)) (λ _. only_going 23 _)

triangle_only : (n : Mat3) (s : Float) → Only 23 (triangle_run n s)
unfolding triangle_run first_run second_run third_run
triangle_only n s =
    only_next 23 (first_run n) _ (only_next 23 _ _ (pivot_only _) (λ p. only_going 23 _)) (λ a.
    only_next 23 (second_run n a) _ (only_next 23 _ _ (pivot_only (second_pivot n a)) (λ p. only_going 23 _)) (λ b.
    only_next 23 (third_run n a b) _ (only_next 23 _ _ (pivot_only (third_pivot n a b)) (λ p. only_going 23 _)) (λ c. only_going 23 _)))

-- a unit vector is finite, so 21 is not met
solve_only : (f : Cholesky3) (u : Vec3) → is_finite_of u ≡ true → Only 12 (solve_run f u)
unfolding solve_run
solve_only f u h = only_next 12 _ _ (first (is_finite_of u) h) (λ _. only_next 12 _ _ (only_test 12 _) (λ _. only_next 12 _ _ (only_test 12 _) (λ _. only_going 12 _)))
  where
    first : (b : Bool) → b ≡ true → Only 12 (test b 21)
    first b h = subst (λ (b : Bool). Only 12 (test b 21)) (sym h) (subst (λ (r : Run Unit ℕ). Only 12 r) (sym ((test_going true 21).1 refl)) (only_going 12 tt))

columns_only : (f : Cholesky3) → Only 12 (columns_run f)
unfolding columns_run is_finite_of of_bits
columns_only f = only_next 12 _ _ (solve_only f unit_x refl) (λ a. only_next 12 _ _ (solve_only f unit_y refl) (λ b. only_next 12 _ _ (solve_only f unit_z refl) (λ c. only_going 12 _)))

-- ---- which number it is
record Place (m : Mat3) (n : ℕ) : Type 0 where
  place : ((n ≡ 21) × Met21 m) ⊎ ((n ≡ 22) × Met22 m) ⊎ ((n ≡ 23) × Met23 m) ⊎ ((n ≡ 12) × Met12 m)

module _ (m : Mat3) where
  abbrev Judged : ℕ → Type 0
  Judged n = FirstToFail (matrix_tests m) n

  by_tests : (n : ℕ) → Judged n → Place m n
  unfolding matrix_tests FirstToFail Met21 Met22 Met23
  by_tests n (inl h) = record { place = inl (sym h.1, h.0) }
  by_tests n (inr (f, inl h)) = record { place = inr (inl (sym h.1, (f, h.0))) }
  by_tests n (inr (f, inr (y, inl h))) = record { place = inr (inr (inl (sym h.1, (f, y, inl h.0)))) }
  by_tests n (inr (f, inr (y, inr h))) = absurd h.1

  by_pivots : (n : ℕ) → AllPass (matrix_tests m) → triangle_run (divided_of m (scale_of m)) (scale_of m) ≡ ended n → Place m n
  unfolding matrix_tests AllPass Met23 Only
  by_pivots n (f, (y, (z, _))) e =
      let k = triangle_only (divided_of m (scale_of m)) (scale_of m) n e in
      record { place = inr (inr (inl (k, (f, y, inr (z, e ∙ ap ended k))))) }

  by_columns : (n : ℕ) (f : Cholesky3) → factor_run m ≡ going f → columns_run f ≡ ended n → inverse_run m ≡ ended n → Place m n
  unfolding Met12 Only
  by_columns n f g e r = record { place = inr (inr (inr (columns_only f n e, ((f, g), λ i h. apart _ h r)))) }

  placed : (n : ℕ) → inverse_run m ≡ ended n → Place m n
  unfolding inverse_run factor_run
  placed n r = elim ((next_ended (factor_run m) columns_run n).0 r) [ inl p ↦ by_factor p | inr p ↦ by_columns n p.0 p.1 p.2 r ]
    where
      by_factor : factor_run m ≡ ended n → Place m n
      by_factor p = elim ((next_ended (judge (matrix_tests m)) _ n).0 p) [ inl q ↦ by_tests n ((judge_ended (matrix_tests m) n).0 q) | inr q ↦ by_pivots n ((judge_going (matrix_tests m)).0 q.1) q.2 ]

  -- ---- and back
  of_factor : (n : ℕ) → factor_run m ≡ ended n → inverse_run m ≡ ended n
  unfolding inverse_run
  of_factor n e = on_ended _ _ _ e

  of_tests : (n : ℕ) → Judged n → inverse_run m ≡ ended n
  unfolding factor_run
  of_tests n h = of_factor n (on_ended _ _ _ ((judge_ended (matrix_tests m) n).1 h))

  of_21 : Met21 m → inverse_run m ≡ ended 21
  unfolding matrix_tests FirstToFail Met21
  of_21 h = of_tests 21 (inl (h, refl))

  of_22 : Met22 m → inverse_run m ≡ ended 22
  unfolding matrix_tests FirstToFail Met22
  of_22 h = of_tests 22 (inr (h.0, inl (h.1, refl)))

  of_23 : Met23 m → inverse_run m ≡ ended 23
  unfolding matrix_tests FirstToFail AllPass factor_run Met23
  of_23 (f, y, inl z) = of_tests 23 (inr (f, inr (y, inl (z, refl))))
  of_23 (f, y, inr (z, e)) = of_factor 23 (on_going _ _ _ ((judge_going (matrix_tests m)).1 (f, (y, (z, tt)))) ∙ e)

  of_12 : Met12 m → inverse_run m ≡ ended 12
  unfolding inverse_run Met12 Only
  of_12 ((f, g), h) = on_going _ _ _ g ∙ elim (saw (columns_run f)) [ inl p ↦ absurd (h p.0 (on_going _ _ _ g ∙ p.1)) | inr p ↦ p.1 ∙ ap ended (columns_only f p.0 p.1) ]

  -- ---- together
  only_at : (n : ℕ) → Place m n → (n ≡ 21) ⊎ (n ≡ 22) ⊎ (n ≡ 23) ⊎ (n ≡ 12)
  only_at n p = elim p.place [ inl h ↦ inl h.0 | inr q ↦ elim q [ inl h ↦ inr (inl h.0) | inr r ↦ elim r [ inl h ↦ inr (inr (inl h.0)) | inr h ↦ inr (inr (inr h.0)) ] ] ]

  abbrev Places : ℕ → Type 0
  Places n = ((n ≡ 21) × Met21 m) ⊎ ((n ≡ 22) × Met22 m) ⊎ ((n ≡ 23) × Met23 m) ⊎ ((n ≡ 12) × Met12 m)

  to_21 : (n : ℕ) → n ≡ 21 → Places n → Met21 m
  to_21 n e (inl h) = h.1
  to_21 n e (inr (inl h)) = let z = h.0 in absurd (omega arith)
  to_21 n e (inr (inr (inl h))) = let z = h.0 in absurd (omega arith)
  to_21 n e (inr (inr (inr h))) = let z = h.0 in absurd (omega arith)

  to_22 : (n : ℕ) → n ≡ 22 → Places n → Met22 m
  to_22 n e (inl h) = let z = h.0 in absurd (omega arith)
  to_22 n e (inr (inl h)) = h.1
  to_22 n e (inr (inr (inl h))) = let z = h.0 in absurd (omega arith)
  to_22 n e (inr (inr (inr h))) = let z = h.0 in absurd (omega arith)

  to_23 : (n : ℕ) → n ≡ 23 → Places n → Met23 m
  to_23 n e (inl h) = let z = h.0 in absurd (omega arith)
  to_23 n e (inr (inl h)) = let z = h.0 in absurd (omega arith)
  to_23 n e (inr (inr (inl h))) = h.1
  to_23 n e (inr (inr (inr h))) = let z = h.0 in absurd (omega arith)

  to_12 : (n : ℕ) → n ≡ 12 → Places n → Met12 m
  to_12 n e (inl h) = let z = h.0 in absurd (omega arith)
  to_12 n e (inr (inl h)) = let z = h.0 in absurd (omega arith)
  to_12 n e (inr (inr (inl h))) = let z = h.0 in absurd (omega arith)
  to_12 n e (inr (inr (inr h))) = h.1

  pub inverse_in_place : InPlace m
  inverse_in_place = record {
    at_21 = (λ e. to_21 21 refl (placed 21 e).place, of_21);
    at_22 = (λ e. to_22 22 refl (placed 22 e).place, of_22);
    at_23 = (λ e. to_23 23 refl (placed 23 e).place, of_23);
    at_12 = (λ e. to_12 12 refl (placed 12 e).place, of_12);
    no_other = λ n e. only_at n (placed n e);
  }
