-- Where the numbers of a mass stand in its section, and the centre of a file with centres and of one without. Assumes nothing.
use Prim.Native.Nat.{ℕ, ◌+◌, ◌*◌, ◌<◌, ◌≤◌}
use mathlib.Core.Path.{◌≡◌, ap}
use mathlib.Core.List.{List}
use mathlib.Core.Logic.{◌≢◌}
use native.Mathlib.Nat.{mul-le-mul_left, mul-le-mul_right}
use native.Mathlib.Omega.{arith}
use lib.Ieee.{binary64, of_bits}
use borrow.Author.Tests.{eq-eqb, ne_eqb}
use Rattle.loops.specs.Cleared.{plus_zero}
use Rattle.job_file.specs.Layout.{mass_bytes, mass_place, masses_end}
use Rattle.job_file.specs.File.{mass_bits, mass_number, centre_bits, centre_number}

-- 104 bytes at the most
pub masses_most : (spare bodies : ℕ) → spare ≤ 1 → mass_bytes spare * bodies ≤ 104 * bodies
masses_most spare bodies h = let m : spare * bodies ≤ 1 * bodies = mul-le-mul_right bodies h in omega arith

module _ (offset spare bodies b : ℕ) {n : ℕ} (h : b < bodies) (e : masses_end offset spare bodies ≤ n) where
  pub mass_ends : masses_end offset spare (b + 1) ≤ n
  mass_ends = let m : spare * (b + 1) ≤ spare * bodies = mul-le-mul_left spare (omega arith) in omega arith

  pub mass_inside : {j : ℕ} → j < 10 → mass_place offset spare b j + 8 ≤ n
  mass_inside g = let m = mass_ends in omega arith

pub centre_inside : (offset spare b : ℕ) {n j : ℕ} → spare ≡ 1 → j < 3 → masses_end offset spare (b + 1) ≤ n → mass_place offset 1 b (10 + j) + 8 ≤ n
centre_inside offset spare b s g e = let m = rw s at e in omega arith

module _ (file : List ℕ) (offset spare b j : ℕ) where
  pub bits_there : spare ≡ 1 → mass_bits file offset 1 b (10 + j) ≡ centre_bits file offset spare b j
  unfolding mass_bits centre_bits
  bits_there s = rw (eq-eqb spare 1 s)

  pub bits_none : spare ≢ 1 → 0 ≡ centre_bits file offset spare b j
  unfolding centre_bits
  bits_none s = rw (ne_eqb spare 1 s)

  pub centre_there : spare ≡ 1 → mass_number file offset 1 b (10 + j) ≡ centre_number file offset spare b j
  unfolding mass_number centre_number
  centre_there s = ap (of_bits binary64) (bits_there s)

  pub centre_none : spare ≢ 1 → plus_zero ≡ centre_number file offset spare b j
  unfolding centre_number
  centre_none s = ap (of_bits binary64) (bits_none s)
