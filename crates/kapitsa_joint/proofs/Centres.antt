-- The flat list of centres holds them, three doubles a body, and is the only list of its length that does. Assumes nothing.
use Prim.Native.Nat.{ℕ, zero, suc, ◌+◌, ◌*◌, ◌/◌, ◌%◌, ◌<◌}
use mathlib.Core.Path.{◌≡◌, refl, sym, ap, ◌∙◌}
use mathlib.Core.List.{List}
use native.Mathlib.Omega.{arith}
use lib.ListN.{length, get_or}
use lib.Ieee.{Float, nan}
use Rattle.loops.proofs.Tabulate.{length_tabulate, get_d_tabulate, tabulated}
use Rattle.kapitsa_math.specs.declared.vector.Vec3.{Vec3}
use Rattle.kapitsa_math.specs.Lent.{vec_of}
use Rattle.kapitsa_joint.specs.Centre.{Centres, centres_in, part_of, flat_centres}

-- ---- the list holds the centres
module _ (c : Centres) where
  pub flat_centres_long : length (flat_centres c) ≡ 3 * c.bodies
  unfolding flat_centres
  flat_centres_long = length_tabulate (λ k. part_of (c.at (k / 3)) (k % 3)) (3 * c.bodies)

  number : (b r : ℕ) {k : ℕ} → b < c.bodies → r < 3 → k ≡ 3 * b + r → get_or (flat_centres c) k nan ≡ part_of (c.at b) r
  unfolding flat_centres
  number b r {k} h s e =
      let p : k / 3 ≡ b = omega arith in
      let q : k % 3 ≡ r = omega arith in
      get_d_tabulate (λ k. part_of (c.at (k / 3)) (k % 3)) (3 * c.bodies) k nan (omega arith) ∙ rw (p, q)

  pub flat_centres_at : (b : ℕ) → b < c.bodies → vec_of (flat_centres c) (3 * b) ≡ c.at b
  unfolding vec_of part_of
  flat_centres_at b h = rw (number b 0 {k = 3 * b} h (omega arith) (omega arith), number b 1 {k = 3 * b + 1} h (omega arith) refl, number b 2 {k = 3 * b + 2} h (omega arith) refl)

-- ---- and no other list does
part_of_lem : (l : List Float) (v : Vec3) (b r : ℕ) {k : ℕ} → vec_of l (3 * b) ≡ v → r < 3 → k ≡ 3 * b + r → get_or l k nan ≡ part_of v r
unfolding vec_of part_of
part_of_lem l v b zero {k} e h q = let p : k ≡ 3 * b = omega arith in rw p (ap (λ (w : Vec3). w.x) e)
part_of_lem l v b (suc zero) e h q = rw q (ap (λ (w : Vec3). w.y) e)
part_of_lem l v b (suc (suc zero)) e h q = rw q (ap (λ (w : Vec3). w.z) e)
part_of_lem l v b (suc (suc (suc r))) e h q = absurd (omega arith)

pub centres_flat : (c : Centres) (l : List Float) → length l ≡ 3 * c.bodies → ((b : ℕ) → b < c.bodies → vec_of l (3 * b) ≡ c.at b) → l ≡ flat_centres c
unfolding flat_centres
centres_flat c l e h = tabulated nan (λ k. part_of (c.at (k / 3)) (k % 3)) (3 * c.bodies) l e (λ k p. part_of_lem l (c.at (k / 3)) (k / 3) (k % 3) (h (k / 3) (omega arith)) (omega arith) (omega arith))

pub flat_centres_in : (n : ℕ) (l : List Float) → length l ≡ 3 * n → flat_centres (centres_in n l) ≡ l
flat_centres_in n l e = sym (centres_flat (centres_in n l) l e (λ b h. refl))

pub flat_centres_same : (c d : Centres) → c.bodies ≡ d.bodies → ((b : ℕ) → b < c.bodies → c.at b ≡ d.at b) → flat_centres c ≡ flat_centres d
flat_centres_same c d n h = centres_flat d (flat_centres c) (flat_centres_long c ∙ ap (λ n. 3 * n) n) (λ b p. let q : b < c.bodies = omega arith in flat_centres_at c b q ∙ h b q)
