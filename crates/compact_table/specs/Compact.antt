-- The compact table: of each row twelve doubles, of body a and then of body b linear x, angular x, linear y, angular y, linear z, angular z; and body_a and body_b, two words.
use Rattle.std.specs.Prelude.{ℕ, ◌+◌, ◌*◌, ◌<◌, ◌≡◌, false, List, eqb, length, get_or, set, Float}
use Rattle.kapitsa_math.specs.Lent.{spread_of, put_spread_of}
use Rattle.kapitsa_joint.specs.declared.row.RowJacobian.{RowJacobian}

unfoldable pub compact_of : List Float → List ℕ → ℕ → RowJacobian
compact_of jacobians links i = record {
  linear_a = spread_of jacobians (12 * i);
  angular_a = spread_of jacobians (12 * i + 1);
  linear_b = spread_of jacobians (12 * i + 6);
  angular_b = spread_of jacobians (12 * i + 7);
  body_a = get_or links (2 * i) 0;
  body_b = get_or links (2 * i + 1) 0;
}

unfoldable pub put_jacobian_of : List Float → ℕ → RowJacobian → List Float
put_jacobian_of l i j = put_spread_of (put_spread_of (put_spread_of (put_spread_of l (12 * i) j.linear_a) (12 * i + 1) j.angular_a) (12 * i + 6) j.linear_b) (12 * i + 7) j.angular_b

unfoldable pub put_link_of : List ℕ → ℕ → RowJacobian → List ℕ
put_link_of l i j = set (set l (2 * i) j.body_a) (2 * i + 1) j.body_b

-- the slices hold the rows g 0 .. g (n - 1), and are as long as they were
pub record Gathered (g : ℕ → RowJacobian) (n : ℕ) (jacobians₀ : List Float) (links₀ : List ℕ) (jacobians : List Float) (links : List ℕ) : Type 0 where
  pub long_jacobians : length jacobians ≡ length jacobians₀
  pub long_links : length links ≡ length links₀
  pub at : (i : ℕ) → i < n → compact_of jacobians links i ≡ g i

-- every body number of the compact table is below the body count, and the two of a row differ: what refusal 7 has passed
pub record Linked (links : List ℕ) (rows bodies : ℕ) : Type 0 where
  pub a : (i : ℕ) → i < rows → get_or links (2 * i) 0 < bodies
  pub b : (i : ℕ) → i < rows → get_or links (2 * i + 1) 0 < bodies
  pub apart : (i : ℕ) → i < rows → eqb (get_or links (2 * i) 0) (get_or links (2 * i + 1) 0) ≡ false
