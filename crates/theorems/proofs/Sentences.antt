-- Sentences of documents 01 and 02 about a solve and its check, of positions and of velocities, from their definitions. Assumes nothing.
use Prim.Native.Nat.{ℕ, zero, suc, ◌*◌, ◌<◌}
use mathlib.Core.Path.{◌≡◌, refl, sym, ap, ◌∙◌, subst}
use mathlib.Core.Bool.{Bool, true, false}
use mathlib.Core.List.{List, []}
use mathlib.Core.Logic.{◌⊎◌, inl, inr}
use lib.IntN.{pos}
use lib.ListN.{length}
use lib.Ieee.{Float, nan, inf, fin, le, lt, eq, of_bits}
use Rattle.loops.specs.Run.{going, ended, on, check, turns}
use Rattle.loops.specs.Every.{every}
use Rattle.loops.specs.Judge.{judge, judged, test}
use Rattle.loops.specs.Tabulate.{tabulate}
use Rattle.loops.specs.Cleared.{plus_zero, zeros}
use Rattle.loops.proofs.Inverse.{saw_bool, going_inj, next_going}
use Rattle.kapitsa_math.specs.declared.vector.Vec3.{Vec3}
use Rattle.kapitsa_math.specs.Lent.{vec_of}
use Rattle.kapitsa_joint.specs.Table.{Table}
use Rattle.kapitsa_joint.specs.Centre.{Centres, no_centres, flat_centres}
use Rattle.kapitsa_joint.specs.Impulse.{impulse_of}
use Rattle.kapitsa_joint.specs.Maxima.{maxima_by}
use Rattle.kapitsa_joint.specs.declared.row.ConstraintRow.{ConstraintRow}
use Rattle.kapitsa_joint.specs.declared.row.RowJacobian.{RowJacobian}
use Rattle.kapitsa_joint.specs.declared.mass.SolverMass.{SolverMass}
use Rattle.kapitsa_joint.specs.declared.impulse.GeneralizedImpulse.{GeneralizedImpulse}
use Rattle.kapitsa_joint.specs.declared.maxima.Maxima.{Maxima}
use Rattle.kapitsa_joint.proofs.Centres.{flat_centres_at}
use Rattle.joint_refusals.specs.Refusals.{passes4, passes6, passes20, centres_finite}
use Rattle.joint_refusals.specs.Tolerances.{Tolerances, tolerance_fits}
use Rattle.rules.specs.Rules.{Rules, passes27, passes28, ruled_by}
use Rattle.mass_operator.specs.System.{System, system_of}
use Rattle.mass_operator.specs.Operator.{impulse_at}
use Rattle.mass_operator.specs.Flat.{impulses_of}
use Rattle.mass_operator.proofs.Flat.{flat_length, flat_holds}
use Rattle.sparse.specs.Cholesky.{factor_run}
use Rattle.pairs.specs.Pairs.{pair_count, finite_pairs}
use Rattle.pairs.specs.Answers.{judged_pairs, pairs_run}
use Rattle.incomplete_cholesky.specs.Build.{cholesky_run}
use Rattle.preconditioner.specs.Factor.{factor_judged}
use Rattle.preconditioner.specs.declared.mode.Mode.{Mode}
use Rattle.preconditioner.specs.declared.mode.Mode.TheVariants as modes
use Rattle.recurrence.specs.Step.{Iterate}
use Rattle.preconditioner.specs.Shift.{shifted, passes25}
use Rattle.position.specs.Problem.{Problem, multipliers, accumulated_impulses, velocity_opens, position_problem, velocity_problem, with_tests}
use Rattle.position.specs.Centres.{still_of, moved_at, moved_by}
use Rattle.position.specs.Prepare.{row_judged, valid_judged, diagonals_judged, rows_judged, diagonals, residuals}
use Rattle.position.specs.Residual.{meets_of, maxima_of}
use Rattle.steps.specs.Solve.{solve, counting}
use Rattle.steps.proofs.Answer.{accepted_iff}
use Rattle.solve_method.specs.Position.{shift_tests, placed_problem, shifted_problem, moving_problem}
use Rattle.solve_method.specs.Counting.{counted_of}
use Rattle.solve_method.specs.Method.{owner_of, Delivered, passes5, opening_of, factor_here, begin_of, maxima_in, finish_of, method_of}
use Rattle.check_range.specs.Closing.{closing_of, speeds_of}
use Rattle.check_answer.specs.Answer.{check_of, CheckAnswer}
use Rattle.theorems.proofs.Centres.{centres_of}

-- ---- "No rows, and no refusal 1 to 4 or 6: accepted, converged, count 0, whatever the limit."; and no 25 or 27, "in a job without rows too"
pub no_rows : (bodies : ℕ) (row : ℕ → ConstraintRow) (mass : ℕ → SolverMass) (rules : Rules) (shift : Float) (centre : ℕ → Vec3) (mode : Mode) (limit : ℕ)
    → let t : Table = record { rows = 0; bodies = bodies; row = row; mass = mass } in passes25 shift ≡ true → passes27 rules ≡ true → passes6 t ≡ true → centres_finite (centres_of t centre) ≡ true
    → solve (method_of true (shifted_problem t (ruled_by rules t) shift centre) mode) limit
    ≡ going ((true, 0, record { solution = []; residual = [] }), record { accumulated = []; impulses = zeros (6 * bodies); centres = flat_centres (centres_of t centre); maxima = record { linear = plus_zero; angular = plus_zero } })
unfolding solve opening_of judge test check on counting begin_of rows_judged judged turns factor_here meets_of every residuals tabulate passes4 passes28 passes5 finish_of maxima_in maxima_of maxima_by
no_rows bodies row mass rules shift centre mode limit p q r s = rw (p, q, r, s)

-- of velocities: without rows there is no residual that 20 could meet, and no factor is refused
no_rows_factor : (s : System) (owner : ℕ → ℕ) (mode : Mode) → s.rows ≡ 0 → factor_judged mode s owner [] ≡ going tt
unfolding factor_judged judged turns cholesky_run pairs_run judged_pairs pair_count finite_pairs every factor_run shifted tabulate check on
no_rows_factor s owner modes.Diagonal e = refl
no_rows_factor s owner (modes.IncompleteCholesky shift) e = rw e
no_rows_factor s owner modes.BlockJacobi e = rw e

pub no_rows_moving : (bodies : ℕ) (row : ℕ → ConstraintRow) (mass : ℕ → SolverMass) (rules : Rules) (shift : Float) (residual : ℕ → Float) (mode : Mode) (limit : ℕ)
    → let t : Table = record { rows = 0; bodies = bodies; row = row; mass = mass } in passes25 shift ≡ true → passes27 rules ≡ true → passes6 t ≡ true
    → solve (method_of true (moving_problem t (ruled_by rules t) shift residual) mode) limit
    ≡ going ((true, 0, record { solution = []; residual = [] }), record { accumulated = []; impulses = zeros (6 * bodies); centres = []; maxima = record { linear = plus_zero; angular = plus_zero } })
unfolding solve opening_of judge test check on counting begin_of rows_judged valid_judged diagonals_judged judged turns factor_here meets_of every diagonals residuals tabulate passes4 passes28 passes5 passes20 finish_of flat_centres maxima_in maxima_of maxima_by
no_rows_moving bodies row mass rules shift residual mode limit p q r =
    let t : Table = record { rows = 0; bodies = bodies; row = row; mass = mass } in
    rw (p, q, r, no_rows_factor (system_of t) (owner_of t) mode refl)

-- ---- "If every |residual| ≤ its row's tolerance: accepted with count 0, before any factor is built": the answer has no mode in it, and no step
abbrev start : Problem → Iterate
start p = record { solution = zeros p.table.rows; residual = residuals p.table p.start }

abbrev untouched : Problem → Delivered
untouched p = record { accumulated = tabulate p.accumulated p.table.rows; impulses = zeros (6 * p.table.bodies); centres = flat_centres p.centres; maxima = maxima_in p.table (start p) }

pub count_zero : (fits : Bool) (t : Table) (tolerances : Tolerances) (shift : Float) (centre : ℕ → Vec3) (mode : Mode) (limit : ℕ) → let p = shifted_problem t tolerances shift centre in opening_of fits p limit ≡ going tt → rows_judged p ≡ going tt
    → meets_of tolerances.row (start p).residual t.rows ≡ true → solve (method_of fits p mode) limit ≡ going ((true, 0, start p), untouched p)
unfolding solve counting begin_of factor_here finish_of check on
count_zero fits t tolerances shift centre mode limit o r m = rw (o, r, m)

-- document 02, a: "factors are built before the first convergence test": where the factor is there the answer is the same, and a factor that is refused is the answer, within tolerance or not
module _ (fits : Bool) (t : Table) (tolerances : Tolerances) (shift : Float) (residual : ℕ → Float) (mode : Mode) (limit : ℕ) where
  abbrev moving : Problem
  moving = moving_problem t tolerances shift residual

  module _ (o : opening_of fits moving limit ≡ going tt) (r : rows_judged moving ≡ going tt) where
    pub count_zero_moving : factor_judged mode (system_of t) (owner_of t) (diagonals t) ≡ going tt → meets_of tolerances.row (start moving).residual t.rows ≡ true → solve (method_of fits moving mode) limit ≡ going ((true, 0, start moving), untouched moving)
    unfolding solve counting begin_of factor_here finish_of check on
    count_zero_moving f m = rw (o, r, f, m)

    pub factor_first_lem : (n : ℕ) → factor_judged mode (system_of t) (owner_of t) (diagonals t) ≡ ended n → solve (method_of fits moving mode) limit ≡ ended n
    unfolding solve counting begin_of factor_here check on
    factor_first_lem n f = rw (o, r, f)

-- ---- document 02, j: "26, a tolerance is negative, NaN or infinite"; "−0.0 passes"
pub odd_tolerances : (tolerance_fits nan ≡ false) × ((s : Bool) → tolerance_fits (inf s) ≡ false) × ((x : Float) → le plus_zero x ≡ false → tolerance_fits x ≡ false)
unfolding tolerance_fits
odd_tolerances = (unfold le lt eq of_bits in refl, infinite, λ x h. rw h)
  where
    infinite : (s : Bool) → tolerance_fits (inf s) ≡ false
    infinite true = unfold le lt eq of_bits in refl
    infinite false = unfold le lt eq of_bits in refl

pub zero_tolerances : (s : Bool) → tolerance_fits (fin s 0 (pos 0)) ≡ true
unfolding tolerance_fits le lt eq of_bits
zero_tolerances true = refl
zero_tolerances false = refl

-- ---- document 02, k: "both right after 26", "A table refused by 27 or 28 gets no verdict"
-- of a problem of either kind
module _ (p : Problem) (rules : Rules) (shift : Float) (placed : Bool) (centres : Centres) (mode : Mode) (limit : ℕ) (four : passes4 p.table ≡ true) (small : passes25 shift ≡ true) where
  abbrev ruled : Problem
  ruled = with_tests (shift_tests shift) (ruled_by rules p.table) placed centres p

  odd_refused : passes27 rules ≡ false → solve (method_of true ruled mode) limit ≡ ended 27
  unfolding solve opening_of judge test check on
  odd_refused odd = rw (small, four, odd)

  stray_refused : passes27 rules ≡ true → passes28 rules p.table ≡ false → solve (method_of true ruled mode) limit ≡ ended 28
  unfolding solve opening_of judge test check on
  stray_refused fit stray = rw (small, four, fit, stray)

module _ (t : Table) (rules : Rules) (four : passes4 t ≡ true) where
  module _ (odd : passes27 rules ≡ false) where
    pub odd_not_solved : (shift : Float) (centre : ℕ → Vec3) (mode : Mode) (limit : ℕ) → passes25 shift ≡ true → solve (method_of true (shifted_problem t (ruled_by rules t) shift centre) mode) limit ≡ ended 27
    odd_not_solved shift centre mode limit p = odd_refused (position_problem t (ruled_by rules t).row) rules shift (centres_finite (centres_of t centre)) (centres_of t centre) mode limit four p odd

    pub odd_not_moved : (shift : Float) (residual : ℕ → Float) (mode : Mode) (limit : ℕ) → passes25 shift ≡ true → solve (method_of true (moving_problem t (ruled_by rules t) shift residual) mode) limit ≡ ended 27
    odd_not_moved shift residual mode limit p = odd_refused (velocity_problem t (ruled_by rules t).row residual) rules shift true no_centres mode limit four p odd

    pub odd_not_checked : (listed : ℕ → Float) (placed : Bool) → check_of true (closing_of t listed rules placed) ≡ ended 27
    unfolding check_of judge test check on
    odd_not_checked listed placed = rw (four, odd)

    pub odd_speeds : (listed residual : ℕ → Float) → check_of true (speeds_of t listed rules residual) ≡ ended 27
    unfolding check_of judge test check on
    odd_speeds listed residual = rw (four, odd)

  module _ (fit : passes27 rules ≡ true) (stray : passes28 rules t ≡ false) where
    pub stray_not_solved : (shift : Float) (centre : ℕ → Vec3) (mode : Mode) (limit : ℕ) → passes25 shift ≡ true → solve (method_of true (shifted_problem t (ruled_by rules t) shift centre) mode) limit ≡ ended 28
    stray_not_solved shift centre mode limit p = stray_refused (position_problem t (ruled_by rules t).row) rules shift (centres_finite (centres_of t centre)) (centres_of t centre) mode limit four p fit stray

    pub stray_not_moved : (shift : Float) (residual : ℕ → Float) (mode : Mode) (limit : ℕ) → passes25 shift ≡ true → solve (method_of true (moving_problem t (ruled_by rules t) shift residual) mode) limit ≡ ended 28
    stray_not_moved shift residual mode limit p = stray_refused (velocity_problem t (ruled_by rules t).row residual) rules shift true no_centres mode limit four p fit stray

    pub stray_not_checked : (listed : ℕ → Float) (placed : Bool) → check_of true (closing_of t listed rules placed) ≡ ended 28
    unfolding check_of judge test check on
    stray_not_checked listed placed = rw (four, fit, stray)

    pub stray_speeds : (listed residual : ℕ → Float) → check_of true (speeds_of t listed rules residual) ≡ ended 28
    unfolding check_of judge test check on
    stray_speeds listed residual = rw (four, fit, stray)

  -- ---- document 02, a: "20, a lent residual is not finite, judged right after 6, in the closing check too"
  module _ (fit : passes27 rules ≡ true) (each : passes28 rules t ≡ true) (six : passes6 t ≡ true) (residual : ℕ → Float) (twenty : passes20 residual t.rows ≡ false) where
    pub residual_refused : (shift : Float) (mode : Mode) (limit : ℕ) → passes25 shift ≡ true → passes5 t.rows (velocity_opens t) limit ≡ true → solve (method_of true (moving_problem t (ruled_by rules t) shift residual) mode) limit ≡ ended 20
    unfolding solve opening_of judge test check on
    residual_refused shift mode limit p five = rw (p, four, fit, each, five, six, twenty)

    pub residual_unchecked : (listed : ℕ → Float) → check_of true (speeds_of t listed rules residual) ≡ ended 20
    unfolding check_of judge test check on
    residual_unchecked listed = rw (four, fit, each, six, twenty)

-- ---- document 02, d: "A centre that comes in not finite is refusal 6"; "the residual, the gap and 18 never read it"
module _ (t : Table) (listed : ℕ → Float) (rules : Rules) where
  abbrev answer : Bool → Bool → CheckAnswer
  answer fits placed = check_of fits (closing_of t listed rules placed)

  pub centres_refused : passes4 t ≡ true → passes27 rules ≡ true → passes28 rules t ≡ true → answer true false ≡ ended 6
  unfolding check_of judge test check on
  centres_refused four fit ruled = go (saw_bool (passes6 t))
    where
      go : (passes6 t ≡ true) ⊎ (passes6 t ≡ false) → answer true false ≡ ended 6
      go (inl h) = rw (four, fit, ruled, h)
      go (inr h) = rw (four, fit, ruled, h)

  -- all that centres can do: the answer, its gap too, is that of finite ones, or they are not finite and it is 6
  pub centres_unmeasured : (fits placed : Bool) → (answer fits placed ≡ answer fits true) ⊎ ((placed ≡ false) × (answer fits placed ≡ ended 6))
  unfolding check_of judge test check on
  centres_unmeasured fits true = inl refl
  centres_unmeasured false false = inl refl
  centres_unmeasured true false = go (saw_bool (passes4 t)) (saw_bool (passes27 rules)) (saw_bool (passes28 rules t))
    where
      go : (passes4 t ≡ true) ⊎ (passes4 t ≡ false) → (passes27 rules ≡ true) ⊎ (passes27 rules ≡ false) → (passes28 rules t ≡ true) ⊎ (passes28 rules t ≡ false) → (answer true false ≡ answer true true) ⊎ ((false ≡ false) × (answer true false ≡ ended 6))
      go (inr a) b c = inl (rw a)
      go (inl a) (inr b) c = inl (rw (a, b))
      go (inl a) (inl b) (inr c) = inl (rw (a, b, c))
      go (inl a) (inl b) (inl c) = inr (refl, centres_refused a b c)

-- of a solve: with other centres, where both are finite or neither is, only 17 and the centres delivered can differ
-- what is delivered beside them
abbrev besides : Delivered → List Float × List Float × Maxima
besides f = (f.accumulated, f.impulses, f.maxima)

finish_besides : (t : Table) (accumulated : ℕ → Float) (c d : Centres) (count : ℕ) (v : Iterate) (f g : Delivered) → finish_of t accumulated c count v ≡ going f → finish_of t accumulated d count v ≡ going g → besides f ≡ besides g
unfolding finish_of
finish_besides t accumulated c d zero v f g x y = sym (ap besides (going_inj x)) ∙ ap besides (going_inj y)
finish_besides t accumulated c d (suc count) v f g x y =
    let (_, _, x₁) = (next_going _ _ f).0 x in
    let (_, _, x₂) = (next_going _ _ f).0 x₁ in
    let (_, _, x₃) = (next_going _ _ f).0 x₂ in
    let (_, _, y₁) = (next_going _ _ g).0 y in
    let (_, _, y₂) = (next_going _ _ g).0 y₁ in
    let (_, _, y₃) = (next_going _ _ g).0 y₂ in
    sym (ap besides (going_inj x₃)) ∙ ap besides (going_inj y₃)

module _ (t : Table) (tolerances : Tolerances) (shift : Float) (mode : Mode) (limit : ℕ) where
  abbrev with : (ℕ → Vec3) → Problem
  with = shifted_problem t tolerances shift

  -- an accepted answer is the step counted and what is delivered of it
  parts : (centre : ℕ → Vec3) (a : Bool × ℕ × Iterate) (f : Delivered) → solve (method_of true (with centre) mode) limit ≡ going (a, f) → (counted_of mode (with centre) limit ≡ going a) × (finish_of t (multipliers t) (centres_of t centre) a.1 a.2 ≡ going f)
  unfolding solve counted_of
  parts centre a f h =
      let (o, p, q) = (next_going (opening_of true (with centre) limit) _ _).0 h in
      let (b, r, s) = (next_going (counting (method_of true (with centre) mode) limit) _ _).0 q in
      let (g, u, e) = (next_going (finish_of t (multipliers t) (centres_of t centre) b.1 b.2) _ _).0 s in
      subst (λ (x : (Bool × ℕ × Iterate) × Delivered). (counted_of mode (with centre) limit ≡ going x.0) × (finish_of t (multipliers t) (centres_of t centre) x.0.1 x.0.2 ≡ going x.1)) (going_inj e) ((next_going (opening_of true (with centre) limit) _ b).1 (o, p, r), u)

  module _ (c d : ℕ → Vec3) (finite : centres_finite (centres_of t c) ≡ centres_finite (centres_of t d)) where
    -- the step counted, and so flag, count, solution and residual, or the refusal before it
    pub centres_unread : counted_of mode (with c) limit ≡ counted_of mode (with d) limit
    unfolding counted_of counting opening_of begin_of rows_judged valid_judged diagonals_judged row_judged
    centres_unread = ap (λ (x : Bool). counted_of mode (placed_problem t tolerances shift x (centres_of t c)) limit) finite

    -- of two accepted answers all but the centres
    pub centres_apart : (a b : Bool × ℕ × Iterate) (f g : Delivered) → solve (method_of true (with c) mode) limit ≡ going (a, f) → solve (method_of true (with d) mode) limit ≡ going (b, g) → (a ≡ b) × (besides f ≡ besides g)
    centres_apart a b f g x y =
        let (p, q) = parts c a f x in
        let (r, s) = parts d b g y in
        let e : a ≡ b = going_inj (sym p ∙ centres_unread ∙ r) in
        (e, finish_besides t (multipliers t) (centres_of t c) (centres_of t d) b.1 b.2 f g (subst (λ (z : Bool × ℕ × Iterate). finish_of t (multipliers t) (centres_of t c) z.1 z.2 ≡ going f) e q) s)

-- ---- document 02, d: "A body whose six impulses are all zero keeps its centre's bits"
module _ (mass : ℕ → SolverMass) (impulse : ℕ → GeneralizedImpulse) where
  pub still_stays : (centre : ℕ → Vec3) (b : ℕ) → still_of (impulse b) ≡ true → moved_at mass impulse centre b ≡ centre b
  unfolding moved_at
  still_stays centre b h = rw h

  -- as the centres are lent
  pub still_lent : (c : Centres) (b : ℕ) → b < c.bodies → still_of (impulse b) ≡ true → vec_of (flat_centres (moved_by mass impulse c)) (3 * b) ≡ c.at b
  still_lent c b l h = flat_centres_at (moved_by mass impulse c) b l ∙ still_stays c.at b h

-- and "With count 0, solution and impulses are +0.0": then every centre delivered is the one given
pub centres_kept : (fits : Bool) (p : Problem) (mode : Mode) (limit : ℕ) (flag : Bool) (v : Iterate) (f : Delivered) → solve (method_of fits p mode) limit ≡ going ((flag, 0, v), f) → f.centres ≡ flat_centres p.centres
unfolding finish_of
centres_kept fits p mode limit flag v f h = sym (ap (λ (d : Delivered). d.centres) (going_inj ((accepted_iff (method_of fits p mode) limit flag 0 v f).0 h).finished))

-- document 02, d: "Velocity solves give no centres"
pub no_centres_lem : (fits : Bool) (t : Table) (tolerances : Tolerances) (shift : Float) (residual : ℕ → Float) (mode : Mode) (limit : ℕ) (flag : Bool) (count : ℕ) (v : Iterate) (f : Delivered) → solve (method_of fits (moving_problem t tolerances shift residual) mode) limit ≡ going ((flag, count, v), f) → f.centres ≡ []
unfolding finish_of flat_centres tabulate
no_centres_lem fits t tolerances shift residual mode limit flag count v f h = none count ((accepted_iff (method_of fits (moving_problem t tolerances shift residual) mode) limit flag count v f).0 h).finished
  where
    none : (k : ℕ) → finish_of t (accumulated_impulses t) no_centres k v ≡ going f → f.centres ≡ []
    none zero e = sym (ap (λ (d : Delivered). d.centres) (going_inj e))
    none (suc k) e =
        let (_, _, a) = (next_going _ _ f).0 e in
        let (_, _, b) = (next_going _ _ f).0 a in
        let (_, _, c) = (next_going _ _ f).0 b in
        sym (ap (λ (d : Delivered). d.centres) (going_inj c))

-- ---- "Impulses (six doubles a body) come from global_velocity_impulse, for every body"
pub impulses_long : (j : ℕ → RowJacobian) (x : ℕ → Float) (rows bodies : ℕ) → length (impulses_of j x rows bodies) ≡ 6 * bodies
unfolding impulses_of
impulses_long j x rows bodies = flat_length _ bodies

pub impulses_each : (j : ℕ → RowJacobian) (x : ℕ → Float) (rows bodies b : ℕ) → b < bodies → impulse_of (impulses_of j x rows bodies) b ≡ impulse_at j x b rows
unfolding impulses_of
impulses_each j x rows bodies b h = (flat_holds (λ b. impulse_at j x b rows) bodies).at b h
