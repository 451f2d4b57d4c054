-- What a closing check is given: the table, of each row its error, its number in the list and its tolerance, and whether the centres lent with the table are finite.
use Rattle.std.specs.Prelude.{ℕ, ◌+◌, ◌*◌, ◌≤◌, ◌≡◌, Bool, true, List, [], ◌∷◌, get_or, Float}
use Rattle.std.specs.Float.{nan}
use Rattle.std.specs.Float.Ieee.{neg}
use Rattle.kapitsa_joint.specs.Table.{Table}
use Rattle.kapitsa_joint.specs.Kind.{by_kind}
use Rattle.kapitsa_joint.specs.declared.kind.Kind.{Kind}
use Rattle.kapitsa_joint.specs.declared.kind.Kind.TheVariants as kinds
use Rattle.joint_refusals.specs.Refusals.{passes20}
use Rattle.rules.specs.Rules.{Rules, ruled_by}

pub record Closing : Type 0 where
  pub table : Table
  pub error : ℕ → Float
  pub listed : ℕ → Float
  pub tolerance : ℕ → Float
  pub rule : ℕ → ℕ  -- the number of the rule that row i is judged by
  pub tolerance_tests : List (ℕ × Bool)  -- what is judged of the tolerances, right after 4
  pub lent : List (ℕ × Bool)  -- what is judged, after 6, of numbers that are lent to this kind of check alone
  pub placed : Bool  -- the centres are finite: 6 judges them with the masses, and nothing else looks at them (document 02, d)

-- document 01: the rows' own errors
abbrev pub row_error : Table → ℕ → Float
row_error t i = (t.row i).scalars.error

-- of positions, with each row's tolerance by its rule (document 02, k)
abbrev pub closing_of : Table → (ℕ → Float) → Rules → Bool → Closing
closing_of t listed rules placed =
    let limits = ruled_by rules t in
    record { table = t; error = row_error t; listed = listed; tolerance = limits.row; rule = limits.rule; tolerance_tests = limits.tests; lent = []; placed = placed }

-- ---- document 02, a: "The closing check takes the negated residual for the error, so a closed verdict means the same for speeds"; "20, a lent residual is not finite, judged right after 6, in the closing check too"
abbrev pub speeds_of : Table → (ℕ → Float) → Rules → (ℕ → Float) → Closing
speeds_of t listed rules residual =
    let limits = ruled_by rules t in
    record { table = t; error = λ i. neg (residual i); listed = listed; tolerance = limits.row; rule = limits.rule; tolerance_tests = limits.tests; lent = (20, passes20 residual t.rows) ∷ []; placed = true }

-- ---- `closing_of` or `speeds_of`, part by part: what they share is there whatever the kind. Positions do not look at the residual.
abbrev pub closing_for : Kind → Table → (ℕ → Float) → Rules → (ℕ → Float) → Bool → Closing
closing_for kind t listed rules residual placed =
    let limits = ruled_by rules t in
    record {
      table = t;
      error = λ i. by_kind kind (row_error t i) (neg (residual i));
      listed = listed;
      tolerance = limits.row;
      rule = limits.rule;
      tolerance_tests = limits.tests;
      lent = by_kind kind [] ((20, passes20 residual t.rows) ∷ []);
      placed = placed;
    }

-- over the lent lists: the first of a row's scalars, or the negated residual
abbrev pub error_in : Kind → List Float → List Float → ℕ → Float
error_in kind numbers given i = by_kind kind (get_or numbers (27 * i + 15) nan) (neg (get_or given i nan))

-- 20
abbrev pub given_finite : Kind → (ℕ → Float) → ℕ → Bool
given_finite kind residual rows = by_kind kind true (passes20 residual rows)

-- a residual of so many rows is lent, where it is looked at
pub record GivenFrom (kind : Kind) (given rows : ℕ) : Type 0 where
  pub long : kind ≡ kinds.Velocity → rows ≤ given
