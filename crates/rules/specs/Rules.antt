-- Document 02, k: "take a table of up to 64 rules, numbered from 0 (more is refusal 3): dimension, first key, last key, tolerance. Each row of the job must fall under one rule and no second".
use Rattle.std.specs.Prelude.{ℕ, zero, suc, ◌+◌, ◌*◌, ◌<◌, ◌≡◌, Bool, true, not, ◌&&◌, cond, List, [], ◌∷◌, leb, ltb, eqb, length, get_or, Float}
use Rattle.std.specs.Float.{nan}
use Rattle.loops.specs.Every.{every}
use Rattle.kapitsa_joint.specs.Table.{Table}
use Rattle.kapitsa_joint.specs.declared.tolerance.JointTolerance.{JointTolerance}
use Rattle.joint_refusals.specs.Tolerances.{Tolerances, tolerance_fits}

pub record Rules : Type 0 where
  pub words : List ℕ  -- three a rule: dimension, first key, last key
  pub tolerances : List Float  -- one a rule

abbrev pub rule_count : Rules → ℕ
rule_count s = length s.tolerances

abbrev pub rule_dimension : Rules → ℕ → ℕ
rule_dimension s r = get_or s.words (3 * r) 0

abbrev pub first_key : Rules → ℕ → ℕ
first_key s r = get_or s.words (3 * r + 1) 0

abbrev pub last_key : Rules → ℕ → ℕ
last_key s r = get_or s.words (3 * r + 2) 0

abbrev pub tolerance_at : Rules → ℕ → Float
tolerance_at s r = get_or s.tolerances r nan

-- ---- 3, of the lengths of words and tolerances
unfoldable pub rule_lengths_fit : ℕ → ℕ → Bool
rule_lengths_fit words tolerances = leb tolerances 64 && eqb words (3 * tolerances)

-- ---- 27, "a rule has first above last, a dimension over 1, a last key over 255 or a tolerance that 26 would turn back"
unfoldable pub rule_fits : Rules → ℕ → Bool
rule_fits s r = ((leb (first_key s r) (last_key s r) && leb (rule_dimension s r) 1) && leb (last_key s r) 255) && tolerance_fits (tolerance_at s r)

unfoldable pub passes27 : Rules → Bool
passes27 s = every (rule_fits s) (rule_count s)

-- ---- 28, "a row is under no rule or several"
-- a rule applies where its dimension is the row's and first ≤ key ≤ last
unfoldable pub applies : Rules → ℕ → ℕ → ℕ → Bool
applies s dimension key r = (eqb (rule_dimension s r) dimension && leb (first_key s r) key) && leb key (last_key s r)

-- r is the one number below n of which p is true
pub record Only (p : ℕ → Bool) (n r : ℕ) : Type 0 where
  pub below : r < n
  pub holds : p r ≡ true
  pub alone : (q : ℕ) → q < n → p q ≡ true → q ≡ r

-- it, where there is such a number, and else n (`only_below_lem`)
unfoldable pub only_below : (ℕ → Bool) → ℕ → ℕ
only_below p zero = zero
only_below p (suc n) = let r = only_below p n in cond (p n) (cond (every (λ q. not (p q)) n) n (suc n)) (cond (ltb r n) r (suc n))

-- the one rule that a row of this dimension and key falls under, or their count
unfoldable pub rule_for : Rules → ℕ → ℕ → ℕ
rule_for s dimension key = only_below (applies s dimension key) (rule_count s)

abbrev pub rule_of : Rules → Table → ℕ → ℕ
rule_of s t i = let w = (t.row i).words in rule_for s w.dimension w.key

unfoldable pub passes28 : Rules → Table → Bool
passes28 s t = every (λ i. ltb (rule_of s t i) (rule_count s)) t.rows

-- each row is under the rule that is named for it, and under no second
pub record Ruled (s : Rules) (t : Table) : Type 0 where
  pub under : (i : ℕ) → i < t.rows → let w = (t.row i).words in Only (applies s w.dimension w.key) (rule_count s) (rule_of s t i)

-- ---- what a table is to meet: each row its rule's tolerance
abbrev pub ruled_by : Rules → Table → Tolerances
ruled_by s t = record { row = λ i. tolerance_at s (rule_of s t i); rule = rule_of s t; tests = (27, passes27 s) ∷ ((28, passes28 s t) ∷ []) }

-- ---- the program: "takes them as two rules over keys 0 to 255"
abbrev pub two_rules : JointTolerance → Rules
two_rules tolerance = record { words = 0 ∷ 0 ∷ 255 ∷ 1 ∷ 0 ∷ 255 ∷ []; tolerances = tolerance.linear_m ∷ tolerance.angular_rad ∷ [] }
