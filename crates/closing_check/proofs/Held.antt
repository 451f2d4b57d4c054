-- The numbers of the lent lists are doubles. Assumes nothing.
use Prim.Native.Nat.{ℕ, ◌+◌, ◌*◌, ◌<◌}
use mathlib.Core.Bool.{Bool}
use mathlib.Core.List.{List, [], ◌∷◌}
use native.Mathlib.Omega.{arith}
use lib.Dec.{T}
use lib.ListN.{get_or}
use lib.Ieee.{Float, nan, binary64, fits}
use lib.Ieee.Fits.{neg-fits}
use Rattle.loops.proofs.Ranges.{Listed}
use Rattle.kapitsa_math.specs.Lent.{vec_of}
use Rattle.kapitsa_joint.specs.Row.{scalars_of, row_of, jacobian_of}
use Rattle.kapitsa_joint.specs.Mass.{mass_of}
use Rattle.kapitsa_joint.specs.Table.{table_of}
use Rattle.kapitsa_joint.specs.Kind.{by_kind}
use Rattle.kapitsa_joint.specs.declared.kind.Kind.{Kind}
use Rattle.kapitsa_joint.specs.declared.kind.Kind.TheVariants as kinds
use Rattle.joint_refusals.specs.Refusals.{passes20}
use Rattle.rules.specs.Rules.{rule_of}
use Rattle.rules.specs.Rows.{rules_in}
use Rattle.rules.proofs.Ruled.{ruled_finite, rules_above}
use Rattle.mass_operator.specs.Flat.{coefficients}
use Rattle.check_range.specs.Closing.{closing_for, error_in}
use Rattle.check_answer.proofs.Meaning.{HeldVec, Held}

-- ---- what either kind has of its own
module _ (numbers given : List Float) (n : (k : ℕ) → T (fits binary64 (get_or numbers k nan))) (g : (k : ℕ) → T (fits binary64 (get_or given k nan))) where
  held_error : (kind : Kind) (i : ℕ) → T (fits binary64 (error_in kind numbers given i))
  held_error kinds.Position i = n (27 * i + 15)
  held_error kinds.Velocity i = neg-fits binary64 (get_or given i nan) (g i)

pub lent_above : (kind : Kind) (p : Bool) → Listed (λ n. 1 < n) (by_kind kind [] ((20, p) ∷ []))
unfolding Listed
lent_above kinds.Position p = tt
lent_above kinds.Velocity p = (omega arith, tt)

-- ---- the check of a kind
module _ (kind : Kind) (rows bodies : ℕ) (numbers : List Float) (words : List ℕ) (masses given multipliers : List Float) (rule_words : List ℕ) (rule_tolerances : List Float) (placed : Bool) where
  held_vec : (l : List Float) → ((k : ℕ) → T (fits binary64 (get_or l k nan))) → (at : ℕ) → HeldVec (vec_of l at)
  unfolding vec_of
  held_vec l h at = record { x = h at; y = h (at + 1); z = h (at + 2) }

  pub held_of : ((k : ℕ) → T (fits binary64 (get_or numbers k nan))) → ((k : ℕ) → T (fits binary64 (get_or masses k nan))) → ((k : ℕ) → T (fits binary64 (get_or given k nan))) → ((k : ℕ) → T (fits binary64 (get_or multipliers k nan)))
      → ((k : ℕ) → T (fits binary64 (get_or rule_tolerances k nan))) → Held (closing_for kind (table_of rows bodies numbers words masses) (coefficients multipliers) (rules_in rule_words rule_tolerances) (coefficients given) placed)
  unfolding row_of jacobian_of scalars_of mass_of
  held_of n m g x r = record {
    row = λ i. record { linear_a = held_vec numbers n (27 * i); angular_a = held_vec numbers n (27 * i + 3); linear_b = held_vec numbers n (27 * i + 9); angular_b = held_vec numbers n (27 * i + 12) };
    error = held_error numbers given n g kind;
    mass = λ b. record { mass = m (10 * b); x = held_vec masses m (10 * b + 1); y = held_vec masses m (10 * b + 4); z = held_vec masses m (10 * b + 7) };
    list = x;
    tolerance = λ i. r (rule_of (rules_in rule_words rule_tolerances) (table_of rows bodies numbers words masses) i);
    numbers = rules_above _ _;
    lent = lent_above kind (passes20 (coefficients given) rows);
    sure = ruled_finite (rules_in rule_words rule_tolerances) (table_of rows bodies numbers words masses);
  }
