-- What the functions of src/ hand to one another about the two bodies that the rows are on.
use Rattle.std.specs.Prelude.{ℕ, ◌+◌, ◌*◌, ◌<◌, ◌≤◌, ◌≡◌, Bool, ◌&&◌, List, eqb, length, get_or, Float}
use Rattle.std.specs.Float.{nan}
use Rattle.loops.specs.Tabulate.{tabulate}
use Rattle.kapitsa_joint.specs.Impulse.{paired_of, put_paired_of}
use Rattle.kapitsa_joint.specs.declared.row.RowJacobian.{RowJacobian}
use Rattle.compact_table.specs.Compact.{compact_of, Linked}
use Rattle.mass_operator.specs.Operator.{add_impulse_of, impulse_at}
use Rattle.mass_operator.specs.Dot.{dot_to}
use Rattle.mass_operator.specs.Lent.{Summing}
use Rattle.mass_operator.specs.declared.body_pair.BodyPair.{BodyPair}
use Rattle.mass_operator.specs.declared.impulse.Run.{Run}

-- the bodies of row i, with what the slice l has for them
unfoldable pub body_pair_of : List ℕ → ℕ → List Float → BodyPair
body_pair_of links i l = record {
  body_a = get_or links (2 * i) 0;
  body_b = get_or links (2 * i + 1) 0;
  of_a = paired_of l (get_or links (2 * i) 0);
  of_b = paired_of l (get_or links (2 * i + 1) 0);
}

unfoldable pub put_body_pair_of : List Float → BodyPair → List Float
put_body_pair_of l p = put_paired_of (put_paired_of l p.body_a p.of_a) p.body_b p.of_b

-- whether row i is on them
unfoldable pub on_bodies : List ℕ → ℕ → BodyPair → Bool
on_bodies links i p = eqb (get_or links (2 * i) 0) p.body_a && eqb (get_or links (2 * i + 1) 0) p.body_b

-- one more term for each
unfoldable pub added_row : BodyPair → RowJacobian → Float → BodyPair
added_row p j c = record {
  body_a = p.body_a;
  body_b = p.body_b;
  of_a = add_impulse_of p.of_a j.linear_a j.angular_a c;
  of_b = add_impulse_of p.of_b j.linear_b j.angular_b c;
}

-- after the rows 0 .. i - 1 the impulses of the two bodies are held, and the slice l has those of the others
pub record Holding (j : ℕ → RowJacobian) (x : ℕ → Float) (bodies i : ℕ) (l : List Float) (p : BodyPair) : Type 0 where
  pub long : length l ≡ 6 * bodies
  pub below_a : p.body_a < bodies
  pub below_b : p.body_b < bodies
  pub apart : p.body_a ≡ p.body_b → ⊥
  pub of_a : p.of_a ≡ impulse_at j x p.body_a i
  pub of_b : p.of_b ≡ impulse_at j x p.body_b i
  pub others : (c : ℕ) → c < bodies → (p.body_a ≡ c → ⊥) → (p.body_b ≡ c → ⊥) → paired_of l c ≡ impulse_at j x c i

-- a run that row `first` begins: a slice l with the impulses of the rows before it has, with what is held, those of the rows up to its end
pub record RunAdded (jacobians : List Float) (links : List ℕ) (x : ℕ → Float) (rows first : ℕ) (l : List Float) (r : Run) : Type 0 where
  pub more : first < r.end
  pub within : r.end ≤ rows
  pub held : (bodies : ℕ) → Linked links rows bodies → Summing (compact_of jacobians links) x bodies first l → Holding (compact_of jacobians links) x bodies r.end l r.pair

-- the rows below i have their value g, and `sum` is the vector times these
pub record Valued (g : ℕ → Float) (vector : List Float) (i : ℕ) (product : List Float) (sum : Float) : Type 0 where
  pub within : i ≤ length vector
  pub long : length product ≡ length vector
  pub at : (k : ℕ) → k < i → get_or product k nan ≡ g k
  pub summed : sum ≡ dot_to vector (tabulate g (length vector)) i
