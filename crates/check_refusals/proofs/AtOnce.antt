-- Where all is passed at once, every test in the order passes. Assumes nothing.
use Prim.Native.Nat.{ℕ, ◌<◌}
use mathlib.Core.Path.{◌≡◌, refl, sym, ◌∙◌}
use mathlib.Core.Bool.{Bool, true, ◌&&◌, true≢false}
use mathlib.Core.List.{List}
use lib.Ieee.{Float, nan, inf, fin, eq, le, lt, of_bits}
use lib.Ieee.Scale.{finite}
use Rattle.loops.specs.Run.{going}
use Rattle.loops.specs.Every.{every}
use Rattle.loops.specs.Judge.{judge}
use Rattle.loops.proofs.Both.{both}
use Rattle.loops.proofs.Every.{every_iff}
use Rattle.loops.proofs.Judge.{judge_done, judge_pass}
use Rattle.binary64.specs.Order.{absolute}
use Rattle.kapitsa_math.specs.Vector.{is_finite_of}
use Rattle.kapitsa_math.specs.Matrix.{finite_columns_of}
use Rattle.kapitsa_math.specs.declared.vector.Vec3.{Vec3}
use Rattle.kapitsa_joint.specs.Row.{row_of, jacobian_of}
use Rattle.kapitsa_joint.specs.Mass.{mass_of}
use Rattle.kapitsa_joint.specs.Table.{Table, table_of}
use Rattle.kapitsa_joint.specs.declared.kind.Kind.{Kind}
use Rattle.kapitsa_joint.specs.declared.row.ConstraintRow.{ConstraintRow}
use Rattle.kapitsa_joint.specs.declared.mass.SolverMass.{SolverMass}
use Rattle.joint_refusals.specs.Refusals.{words_fit_of, bodies_below_of, jacobians_finite_of, scalars_finite_of, scalars_in_range_of, is_valid_of, mass_finite_of, passes4, passes6, passes7}
use Rattle.rules.specs.Rules.{Rules, passes27}
use Rattle.rules.specs.Rows.{rows_ruled}
use Rattle.mass_operator.specs.Flat.{coefficients}
use Rattle.check_range.specs.Closing.{Closing, closing_for, error_in, given_finite}
use Rattle.check_range.specs.Range.{in_range, vec_in_range, mat_in_range, jacobian_in_range, mass_in_range, row_in_range, table_in_range}
use Rattle.check_refusals.specs.Judged.{table_tests}
use Rattle.check_refusals.specs.Sound.{row_sound}
use Rattle.check_refusals.proofs.Judgement.{rows_pass, given_pass, range_pass}

all : {a b : Bool} → a ≡ true → b ≡ true → (a && b) ≡ true
all p q = rw (p, q)

-- ---- a number in range is finite
number_finite : (x : Float) → in_range x ≡ true → finite x ≡ true
unfolding in_range eq le lt absolute of_bits
number_finite nan h = absurd (true≢false (sym h))
number_finite (inf s) h = absurd (true≢false (sym h))
number_finite (fin s m e) h = refl

vec_finite : (v : Vec3) → vec_in_range v ≡ true → is_finite_of v ≡ true
unfolding vec_in_range is_finite_of
vec_finite v h =
    let (xy, z) = both (in_range v.x && in_range v.y) (in_range v.z) h in
    let (x, y) = both (in_range v.x) (in_range v.y) xy in
    all (all (number_finite v.x x) (number_finite v.y y)) (number_finite v.z z)

mass_finite : (m : SolverMass) → mass_in_range m ≡ true → mass_finite_of m ≡ true
unfolding mass_in_range mass_finite_of mat_in_range finite_columns_of
mass_finite m h =
    let n = m.inverse_inertia in
    let (w, i) = both (in_range m.inverse_mass) ((vec_in_range n.x && vec_in_range n.y) && vec_in_range n.z) h in
    let (xy, z) = both (vec_in_range n.x && vec_in_range n.y) (vec_in_range n.z) i in
    let (x, y) = both (vec_in_range n.x) (vec_in_range n.y) xy in
    all (number_finite m.inverse_mass w) (all (all (vec_finite n.x x) (vec_finite n.y y)) (vec_finite n.z z))

-- ---- a sound row passes 4, 7 and 18
pub record Passes (bodies : ℕ) (r : ConstraintRow) (error multiplier : Float) : Type 0 where
  pub words : words_fit_of r.words ≡ true
  pub valid : is_valid_of bodies r ≡ true
  pub ranged : row_in_range (jacobian_of r) error multiplier ≡ true

module _ (bodies : ℕ) (r : ConstraintRow) (error multiplier : Float) where
  vectors_finite : is_finite_of r.position_angular_a ≡ true → row_in_range (jacobian_of r) error multiplier ≡ true → jacobians_finite_of r ≡ true
  unfolding row_in_range jacobian_in_range jacobian_of jacobians_finite_of
  vectors_finite p h =
      let j = jacobian_in_range (jacobian_of r) in
      let (je, _) = both (j && in_range error) (in_range multiplier) h in
      let (v, _) = both j (in_range error) je in
      let (abc, d) = both ((vec_in_range r.linear_a && vec_in_range r.angular_a) && vec_in_range r.linear_b) (vec_in_range r.angular_b) v in
      let (ab, c) = both (vec_in_range r.linear_a && vec_in_range r.angular_a) (vec_in_range r.linear_b) abc in
      let (a, b) = both (vec_in_range r.linear_a) (vec_in_range r.angular_a) ab in
      all (all (all (all (vec_finite r.linear_a a) (vec_finite r.angular_a b)) p) (vec_finite r.linear_b c)) (vec_finite r.angular_b d)

  passes : row_sound bodies r error multiplier ≡ true → Passes bodies r error multiplier
  unfolding row_sound is_valid_of
  passes h =
      let w = words_fit_of r.words in
      let b = bodies_below_of bodies r.words in
      let p = is_finite_of r.position_angular_a in
      let f = scalars_finite_of r.scalars in
      let s = scalars_in_range_of r.scalars in
      let (wbpfs, ranged) = both ((((w && b) && p) && f) && s) (row_in_range (jacobian_of r) error multiplier) h in
      let (wbpf, in_range_lem) = both (((w && b) && p) && f) s wbpfs in
      let (wbp, finites) = both ((w && b) && p) f wbpf in
      let (wb, position) = both (w && b) p wbp in
      let (words, below) = both w b wb in
      record { words = words; valid = all (all (all below (vectors_finite position ranged)) finites) in_range_lem; ranged = ranged }

-- ---- a sound table passes all
module _ (kind : Kind) (given : List Float) (rows bodies : ℕ) (numbers : List Float) (words : List ℕ) (masses multipliers : List Float) (s : Rules) (placed : Bool) where
  abbrev t : Table
  t = table_of rows bodies numbers words masses

  abbrev c : Closing
  c = closing_for kind t (coefficients multipliers) s (coefficients given) placed

  abbrev sound_row : ℕ → Bool
  sound_row i = row_sound bodies (row_of numbers words i) (error_in kind numbers given i) (coefficients multipliers i)

  module _ (sound : every sound_row rows ≡ true) (ranged : every (λ b. mass_in_range (mass_of masses b)) bodies ≡ true) where
    row : (i : ℕ) → i < rows → Passes bodies (row_of numbers words i) (error_in kind numbers given i) (coefficients multipliers i)
    row i h = passes bodies (row_of numbers words i) (error_in kind numbers given i) (coefficients multipliers i) ((every_iff sound_row rows).0 sound i h)

    words_4 : passes4 t ≡ true
    unfolding passes4
    words_4 = (every_iff (λ i. words_fit_of (row_of numbers words i).words) rows).1 (λ i h. (row i h).words)

    masses_6 : passes6 t ≡ true
    unfolding passes6
    masses_6 = (every_iff (λ b. mass_finite_of (mass_of masses b)) bodies).1 (λ b h. mass_finite (mass_of masses b) ((every_iff (λ b. mass_in_range (mass_of masses b)) bodies).0 ranged b h))

    rows_7 : passes7 t ≡ true
    unfolding passes7
    rows_7 = (every_iff (λ i. is_valid_of bodies (row_of numbers words i)) rows).1 (λ i h. (row i h).valid)

    range_18 : table_in_range t (error_in kind numbers given) (coefficients multipliers) ≡ true
    unfolding table_in_range
    range_18 = all ((every_iff (λ i. row_in_range (jacobian_of (row_of numbers words i)) (error_in kind numbers given i) (coefficients multipliers i)) rows).1 (λ i h. (row i h).ranged)) ranged

    pub sound_judged : passes27 s ≡ true → rows_ruled s words rows ≡ true → placed ≡ true → given_finite kind (coefficients given) rows ≡ true → judge (table_tests c) ≡ going tt
    sound_judged p27 p28 p g =
        judge_pass 4 (passes4 t) _ (sym words_4) refl
        (judge_pass 27 (passes27 s) _ (sym p27) refl
        (judge_pass 28 _ _ (rows_pass s rows bodies numbers words masses (sym p28)) refl
        (judge_pass 6 (passes6 t && placed) _ (sym (all masses_6 p)) refl
        (given_pass kind (coefficients given) rows _ (sym g) refl
        (judge_pass 7 (passes7 t) _ (sym rows_7) refl
        (judge_pass 18 _ _ (range_pass kind given rows bodies numbers words masses (coefficients multipliers) (sym range_18)) refl judge_done))))))

  pub all_at_once : {r27 r28 r20 r6 r7 : Bool} → r27 ≡ passes27 s → r28 ≡ rows_ruled s words rows → r20 ≡ given_finite kind (coefficients given) rows → r6 ≡ every (λ b. mass_in_range (mass_of masses b)) bodies → r7 ≡ every sound_row rows
      → ((((r27 && r28) && placed) && r20) && (r6 && r7)) ≡ true → judge (table_tests c) ≡ going tt
  all_at_once {r27} {r28} {r20} {r6} {r7} e27 e28 e20 e6 e7 h =
      let (front, back) = both (((r27 && r28) && placed) && r20) (r6 && r7) h in
      let (m, r) = both r6 r7 back in
      let (ruled, g) = both ((r27 && r28) && placed) r20 front in
      let (rules, p) = both (r27 && r28) placed ruled in
      let (p27, p28) = both r27 r28 rules in
      sound_judged (sym e7 ∙ r) (sym e6 ∙ m) (sym e27 ∙ p27) (sym e28 ∙ p28) p (sym e20 ∙ g)
