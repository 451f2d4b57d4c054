-- A shift of 0, of either sign, gives the factor that is not shifted, bit for bit; and modes 0 and 2 pay no heed to the shift. Assumes nothing.
use Prim.Native.Nat.{ℕ, zero, suc, ◌+◌, ◌*◌, ◌<◌}
use mathlib.Core.Path.{◌≡◌, refl, sym, ap, ◌∙◌, subst}
use mathlib.Core.Bool.{Bool, true, false, cond, true≢false}
use mathlib.Core.List.{[], ◌∷◌}
use lib.Dec.{T}
use lib.IntN.{ℤ, pos}
use native.Mathlib.Nat.{mul-pos}
use native.Mathlib.Omega.{arith}
use borrow.Author.Tests.{lt-ltb}
use lib.ListN.{get_or}
use lib.Ieee.{Float, nan, inf, fin, binary64, mul, le, lt, fits, of_bits, of_fields, up, down}
use lib.Ieee.Fits.{add-fits, up_pos, down_pos}
use lib.Ieee.Scale.{finite}
use Rattle.loops.specs.Run.{check, going, next}
use Rattle.loops.specs.Judge.{judged, AllPass}
use Rattle.loops.specs.Tabulate.{tabulate}
use Rattle.loops.proofs.Inverse.{next_going}
use Rattle.loops.proofs.Judge.{judge_going}
use Rattle.loops.proofs.Same.{judged_each}
use Rattle.loops.proofs.Tabulate.{length_tabulate, tabulate_same, get_d_tabulate}
use Rattle.binary64.specs.SquareRoot.{unsigned}
use Rattle.binary64.specs.Order.{min_positive}
use Rattle.kapitsa_math.specs.declared.vector.Vec3.{Vec3}
use Rattle.kapitsa_joint.specs.Table.{Table}
use Rattle.kapitsa_joint.specs.Centre.{Centres, no_centres}
use Rattle.joint_refusals.specs.Refusals.{centres_finite}
use Rattle.joint_refusals.specs.Tolerances.{Tolerances}
use Rattle.mass_operator.specs.System.{System, system_of}
use Rattle.incomplete_cholesky.specs.Build.{cholesky_run}
use Rattle.preconditioner.specs.Mode.{mode_of}
use Rattle.preconditioner.specs.declared.mode.Mode.{Mode}
use Rattle.position.specs.Problem.{Problem, position_problem, velocity_problem, with_tests}
use Rattle.preconditioner.specs.Shift.{one, shifted_by, shifted, passes25}
use Rattle.position.specs.Prepare.{row_diagonal, passes8, is_low, diagonal_tests, valid_test, row_judged, valid_judged, diagonals_judged, rows_judged, prepared_diagonal, diagonals}
use Rattle.steps.specs.Solve.{solve}
use Rattle.solve_method.specs.Method.{method_of}
use Rattle.solve_method.specs.Position.{shift_tests, shifted_problem, moving_problem}
use Rattle.rounding.proofs.TimesOne.{times_one, one_more}
use Rattle.theorems.proofs.Centres.{centres_of}

-- ---- d × (1 + 0) is d
one_fits : T (fits binary64 one)
unfolding of_bits fits
one_fits = tt

once_more : (s : Bool) (d : Float) → T (fits binary64 d) → T (unsigned d) → shifted_by (fin s 0 (pos 0)) d ≡ d
unfolding shifted_by
once_more s d f u = ap (mul binary64 d) (one_more s) ∙ times_one binary64 d f u

-- what is not at most MIN is above zero
under : (m : ℕ) (k : ℤ) (n : ℕ) (d : ℤ) → 0 < n → le (fin true m k) (fin false n d) ≡ true
unfolding le lt
under m k n d p = let h : 0 < n * up d * down k = mul-pos (mul-pos p (up_pos d)) (down_pos k) in rw (lt-ltb 0 (m * up k * down d + n * up d * down k) (omega arith))

negative : (m : ℕ) (k : ℤ) → le (fin true m k) min_positive ≡ true
unfolding of_bits of_fields
negative m k = under m k _ _ (omega arith)

above_unsigned : (d : Float) → T (finite d) → le d min_positive ≡ false → T (unsigned d)
unfolding unsigned
above_unsigned nan f h = absurd f
above_unsigned (inf s) f h = absurd f
above_unsigned (fin false m e) f h = tt
above_unsigned (fin true m e) f h = absurd (true≢false (sym (negative m e) ∙ h))

one_unsigned : T (unsigned one)
unfolding of_bits unsigned
one_unsigned = tt

-- ---- a (replaced) diagonal that 8 passes
module _ (t : Table) (s : Bool) (i : ℕ) (eight : passes8 (row_diagonal t.mass (t.row i)) ≡ true) where
  kept : shifted_by (fin s 0 (pos 0)) (prepared_diagonal t i) ≡ prepared_diagonal t i
  unfolding prepared_diagonal is_low passes8
  kept = go (le (row_diagonal t.mass (t.row i)) min_positive) refl
    where
      held : T (fits binary64 (row_diagonal t.mass (t.row i)))
      held = unfold row_diagonal in add-fits binary64 _ _

      go : (b : Bool) → le (row_diagonal t.mass (t.row i)) min_positive ≡ b → shifted_by (fin s 0 (pos 0)) (cond b one (row_diagonal t.mass (t.row i))) ≡ cond b one (row_diagonal t.mass (t.row i))
      go true e = once_more s one one_fits one_unsigned
      go false e = once_more s (row_diagonal t.mass (t.row i)) held (above_unsigned _ (subst T (sym eight) tt) e)

-- document 02, f: "With shift 0 the Rust remains the measure"
pub unshifted : (t : Table) (s : Bool) → ((i : ℕ) → i < t.rows → passes8 (row_diagonal t.mass (t.row i)) ≡ true) → shifted (fin s 0 (pos 0)) (diagonals t) ≡ diagonals t
unfolding shifted diagonals
unshifted t s eight =
    ap (tabulate (λ i. shifted_by (fin s 0 (pos 0)) (get_or (tabulate (prepared_diagonal t) t.rows) i nan))) (length_tabulate (prepared_diagonal t) t.rows)
    ∙ tabulate_same _ _ t.rows (λ i h. ap (shifted_by (fin s 0 (pos 0))) (get_d_tabulate (prepared_diagonal t) t.rows i nan h) ∙ kept t s i (eight i h))

-- so the factor is that of the diagonal itself
pub unshifted_factor : (a : System) (t : Table) (s : Bool) → ((i : ℕ) → i < t.rows → passes8 (row_diagonal t.mass (t.row i)) ≡ true) → cholesky_run a (shifted (fin s 0 (pos 0)) (diagonals t)) ≡ cholesky_run a (diagonals t)
unshifted_factor a t s eight = ap (cholesky_run a) (unshifted t s eight)

-- ---- of a problem of either kind, past 7 to 9: no row's diagonal overflows
module _ (p : Problem) where
  abbrev passed8 : ℕ → Type 0
  passed8 i = passes8 (row_diagonal p.table.mass (p.table.row i)) ≡ true

  by_diagonals : diagonals_judged p ≡ going tt → (i : ℕ) → i < p.table.rows → passed8 i
  unfolding diagonals_judged AllPass
  by_diagonals h i k = ((judge_going (diagonal_tests p i)).0 (judged_each _ p.table.rows h i k)).0

  by_rows : judged (row_judged p) p.table.rows ≡ going tt → (i : ℕ) → i < p.table.rows → passed8 i
  unfolding row_judged AllPass
  by_rows h i k = ((judge_going (valid_test p i ∷ diagonal_tests p i)).0 (judged_each (row_judged p) p.table.rows h i k)).1.0

  no_overflow : rows_judged p ≡ going tt → (i : ℕ) → i < p.table.rows → passed8 i
  unfolding rows_judged check
  no_overflow h = go p.valid_first h
    where
      go : (b : Bool) → check b (next (valid_judged p) (λ _. diagonals_judged p)) (judged (row_judged p) p.table.rows) ≡ going tt → (i : ℕ) → i < p.table.rows → passed8 i
      go true e = let (_, _, q) = (next_going (valid_judged p) _ tt).0 e in by_diagonals q
      go false e = by_rows e

  -- its factor in mode 1 is that of the diagonal itself
  pub unshifted_step0 : (s : Bool) → rows_judged p ≡ going tt → cholesky_run (system_of p.table) (shifted (fin s 0 (pos 0)) (diagonals p.table)) ≡ cholesky_run (system_of p.table) (diagonals p.table)
  unshifted_step0 s h = unshifted_factor (system_of p.table) p.table s (no_overflow h)

-- ---- "Past 25, modes 0 and 2 pay no heed to it"
pub no_heed : (word : ℕ) (a b : Float) → (word ≡ 1 → ⊥) → mode_of word a ≡ mode_of word b
unfolding mode_of
no_heed zero a b h = refl
no_heed (suc zero) a b h = absurd (h refl)
no_heed (suc (suc n)) a b h = refl

-- whatever else the problem is
unheeded : (fits : Bool) (p : Problem) (limits : Tolerances) (placed : Bool) (centres : Centres) (word limit : ℕ) (a b : Float) → (word ≡ 1 → ⊥) → passes25 a ≡ true → passes25 b ≡ true
    → solve (method_of fits (with_tests (shift_tests a) limits placed centres p) (mode_of word a)) limit ≡ solve (method_of fits (with_tests (shift_tests b) limits placed centres p) (mode_of word b)) limit
unheeded fits p limits placed centres word limit a b h ea eb =
    ap (λ (m : Mode). solve (method_of fits (with_tests (shift_tests a) limits placed centres p) m) limit) (no_heed word a b h)
    ∙ ap (λ (x : Bool). solve (method_of fits (with_tests ((25, x) ∷ []) limits placed centres p) (mode_of word b)) limit) (ea ∙ sym eb)

pub shift_unheeded : (fits : Bool) (t : Table) (tolerances : Tolerances) (centre : ℕ → Vec3) (word limit : ℕ) (a b : Float) → (word ≡ 1 → ⊥) → passes25 a ≡ true → passes25 b ≡ true
    → solve (method_of fits (shifted_problem t tolerances a centre) (mode_of word a)) limit ≡ solve (method_of fits (shifted_problem t tolerances b centre) (mode_of word b)) limit
shift_unheeded fits t tolerances centre = unheeded fits (position_problem t tolerances.row) tolerances (centres_finite (centres_of t centre)) (centres_of t centre)

pub moving_unheeded : (fits : Bool) (t : Table) (tolerances : Tolerances) (residual : ℕ → Float) (word limit : ℕ) (a b : Float) → (word ≡ 1 → ⊥) → passes25 a ≡ true → passes25 b ≡ true
    → solve (method_of fits (moving_problem t tolerances a residual) (mode_of word a)) limit ≡ solve (method_of fits (moving_problem t tolerances b residual) (mode_of word b)) limit
moving_unheeded fits t tolerances residual = unheeded fits (velocity_problem t tolerances.row residual) tolerances true no_centres
