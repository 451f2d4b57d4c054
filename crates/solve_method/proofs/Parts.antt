-- The numbers of each part of a solve: alpha, s, beta, a step, its renewal, and what is delivered. Assumes nothing.
use Prim.Native.Nat.{ℕ, zero, suc}
use mathlib.Core.Path.{◌≡◌, refl}
use mathlib.Core.Bool.{Bool}
use mathlib.Core.List.{List}
use lib.Ieee.{Float}
use Rattle.loops.specs.Run.{Run}
use Rattle.loops.specs.Judge.{test}
use Rattle.loops.proofs.Ranges.{Among, among_going, among_next, among_test}
use Rattle.kapitsa_joint.specs.Table.{Table}
use Rattle.kapitsa_joint.specs.Centre.{Centres}
use Rattle.mass_operator.specs.System.{System}
use Rattle.recurrence.specs.Step.{Iterate, Carried, alpha_of, updated_of, advance_of, product_fit, first_from, beta_of, turned_of, renew_from}
use Rattle.solve_method.specs.Method.{finish_of}

-- ---- 14 and 16: s at first, and anew
module _ (P : ℕ → Type 0) (p14 : P 14) (p16 : P 16) where
  product_numbers : (s : Float) → Among P (product_fit s)
  unfolding product_fit
  product_numbers s = among_next P _ _ (among_test P _ 16 p16) (λ _ _. among_next P _ _ (among_test P _ 14 p14) (λ _ _. among_going P _))

  pub first_numbers : (z : Run (List Float) ℕ) (residual : List Float) → Among P z → Among P (first_from z residual)
  unfolding first_from
  first_numbers z residual q = among_next P _ _ q (λ _ _. among_next P _ _ (product_numbers _) (λ _ _. among_going P _))

  pub renew_numbers : (z : Run (List Float) ℕ) (residual : List Float) (c : Carried) → Among P z → Among P (renew_from z residual c)
  unfolding renew_from beta_of turned_of
  renew_numbers z residual c q =
      among_next P _ _ q
      (λ _ _. among_next P _ _ (product_numbers _) (λ _ _. among_next P _ _ (among_next P _ _ (among_test P _ 16 p16) (λ _ _. among_going P _)) (λ _ _. among_next P _ _ (among_test P _ 16 p16) (λ _ _. among_going P _))))

-- ---- 15 and 16: a step
module _ (P : ℕ → Type 0) (p15 : P 15) (p16 : P 16) where
  alpha_numbers : (s d : Float) → Among P (alpha_of s d)
  unfolding alpha_of
  alpha_numbers s d = among_next P _ _ (among_test P _ 16 p16) (λ _ _. among_next P _ _ (among_test P _ 15 p15) (λ _ _. among_next P _ _ (among_test P _ 16 p16) (λ _ _. among_going P _)))

  pub advance_numbers : (s : System) (v : Iterate) (c : Carried) → Among P (advance_of s v c)
  unfolding advance_of updated_of
  advance_numbers s v c = among_next P _ _ (among_test P _ 16 p16) (λ _ _. among_next P _ _ (alpha_numbers _ _) (λ _ _. among_next P _ _ (among_test P _ 16 p16) (λ _ _. among_going P _)))

-- ---- 17: what is delivered
abbrev Seventeen : ℕ → Type 0
Seventeen n = n ≡ 17

pub finish_numbers : (t : Table) (accumulated : ℕ → Float) (c : Centres) (count : ℕ) (v : Iterate) → Among (λ n. n ≡ 17) (finish_of t accumulated c count v)
unfolding finish_of
finish_numbers t accumulated c zero v = among_going Seventeen _
finish_numbers t accumulated c (suc count) v = among_next Seventeen _ _ (tested _) (λ _ _. among_next Seventeen _ _ (tested _) (λ _ _. among_next Seventeen _ _ (tested _) (λ _ _. among_going Seventeen _)))
  where
    tested : (b : Bool) → Among Seventeen (test b 17)
    tested b = among_test Seventeen b 17 refl
