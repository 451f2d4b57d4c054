-- Document 02, n, of lent lists: the table in the renumbered lists agrees below its counts with the renumbered table, and a solve and a check look only there. Assumes nothing.
use Prim.Native.Nat.{ℕ, ◌*◌, ◌<◌}
use mathlib.Core.Path.{◌≡◌, refl, sym, ap, ◌∙◌}
use mathlib.Core.Bool.{Bool, true, false}
use mathlib.Core.List.{List}
use lib.ListN.{length}
use lib.Ieee.{Float}
use Rattle.loops.specs.Run.{ended, on, check}
use Rattle.loops.specs.Judge.{judge, test}
use Rattle.loops.proofs.Every.{every_same}
use Rattle.kapitsa_math.specs.Lent.{vec_of}
use Rattle.kapitsa_math.specs.Vector.{is_finite_of}
use Rattle.kapitsa_joint.specs.Table.{Table}
use Rattle.kapitsa_joint.specs.Centre.{centres_in}
use Rattle.kapitsa_joint.specs.Kind.{by_kind}
use Rattle.kapitsa_joint.specs.declared.kind.Kind.{Kind}
use Rattle.kapitsa_joint.specs.declared.kind.Kind.TheVariants as kinds
use Rattle.kapitsa_joint.specs.declared.row.ConstraintRow.{ConstraintRow}
use Rattle.joint_refusals.specs.Refusals.{centres_finite, passes4, passes6, passes7}
use Rattle.rules.specs.Rules.{passes28, rule_of, ruled_by}
use Rattle.mass_operator.specs.Flat.{coefficients}
use Rattle.preconditioner.specs.declared.mode.Mode.{Mode}
use Rattle.position.specs.Problem.{Problem}
use Rattle.steps.specs.Alike.{delivering}
use Rattle.steps.specs.Solve.{solve}
use Rattle.solve_method.specs.Method.{opening_of, method_of}
use Rattle.solve_method.specs.Position.{solve_for}
use Rattle.check_range.specs.Closing.{Closing, closing_for}
use Rattle.check_measure.specs.Verdict.{reach}
use Rattle.margins_list.specs.Margins.{dimension_word}
use Rattle.check_answer.specs.Answer.{check_of}
use Rattle.theorems.specs.Below.{AgreeBelow, TablesAlike, ClosingsAgree}
use Rattle.theorems.proofs.Tables.{BodiesBelow}
use Rattle.theorems.proofs.Tables as below
use Rattle.theorems.proofs.Checks.{check_below, reach_below}
use Rattle.theorems.proofs.Below.{ruled_alike, ruled_tests, closings_agree, speeds_agree, tables_alike, rule_below, looks_below}
use Rattle.renumbered.specs.Renumber.{Renumbering, InRange, bodies_by, renumbered_row, renumber}
use Rattle.renumbered.specs.Moved.{moved_centres, moved}
use Rattle.renumbered.specs.Lists.{LentJob, table_in, solve_in, check_in, Long, renumbered_job}
use Rattle.renumbered.specs.Claims.{CheckedAlike}
use Rattle.renumbered.specs.Calls.{RenumbersJob}
use Rattle.renumbered.proofs.Permuted.{every_old}
use Rattle.renumbered.proofs.Along.{along_long, mass_along, centre_along}
use Rattle.renumbered.proofs.Words.{words_kept, row_renumbered}
use Rattle.renumbered.proofs.Tables.{fours, sixes, sevens}
use Rattle.renumbered.proofs.Margins.{list_same}
use Rattle.renumbered.proofs.Proved.{renumbers}

-- ---- refusal 3, before anything else
pub solve_three : (x : Problem) (mode : Mode) (limit : ℕ) → solve (method_of false x mode) limit ≡ ended 3
unfolding solve opening_of judge test check on
solve_three x mode limit = refl

pub check_three : (c : Closing) → check_of false c ≡ ended 3
unfolding check_of judge test check on
check_three c = refl

-- ---- where it passes
module _ (p q : ℕ → ℕ) (j : LentJob) (r : Renumbering j.bodies p q) (inside : InRange (table_in j)) where
  -- the table under its new numbers, and as the renumbered lists hold it
  abbrev new : Table
  new = renumber p q (table_in j)

  abbrev held : Table
  held = table_in (renumbered_job p q j)

  inside_new : (i : ℕ) → i < j.rows → BodiesBelow new i
  unfolding renumbered_row bodies_by
  inside_new i h = (r.new_below ((table_in j).row i).words.body_a (inside.a_below i h), r.new_below ((table_in j).row i).words.body_b (inside.b_below i h))

  -- the centres are finite where they were
  pub placed_same : (kind : Kind) → (kind ≡ kinds.Position → length j.centres ≡ 3 * j.bodies) → by_kind kind (centres_finite (centres_in j.bodies (moved_centres q j.centres))) true ≡ by_kind kind (centres_finite (centres_in j.bodies j.centres)) true
  unfolding centres_finite
  placed_same kinds.Position long = every_same _ _ j.bodies (λ b h. ap is_finite_of (centre_along q j.bodies j.centres (long refl) b h)) ∙ every_old j.bodies p q r (λ b. is_finite_of (vec_of j.centres (3 * b)))
  placed_same kinds.Velocity long = refl

  module _ (words_long : length j.words ≡ 8 * j.rows) (masses_long : length j.masses ≡ 10 * j.bodies) where
    pub agree : AgreeBelow new held
    agree = record {
      rows = refl;
      bodies = refl;
      row = λ i h. row_renumbered p j.words i j.rows h words_long j.numbers;
      mass = λ b h. mass_along q j.bodies j.masses masses_long b h;
    }

    pub alike : TablesAlike new held
    alike = tables_alike new held agree

    pub same_rule : (i : ℕ) → i < j.rows → rule_of j.rules held i ≡ rule_of j.rules new i
    same_rule = rule_below new held agree j.rules

    -- ---- what is judged of the table
    pub held_four : passes4 held ≡ passes4 (table_in j)
    held_four = below.fours new held alike ∙ fours p q (table_in j)

    pub held_six : passes6 held ≡ passes6 (table_in j)
    held_six = below.sixes new held alike ∙ sixes p q (table_in j) r

    pub held_seven : passes7 held ≡ passes7 (table_in j)
    held_seven = below.sevens new held alike ∙ sevens p q (table_in j) r inside

    pub held_rules : passes28 j.rules held ≡ passes28 j.rules (table_in j)
    unfolding passes28 renumbered_row bodies_by
    held_rules = every_same _ _ j.rows (λ i h. rw (same_rule i h))

    -- ---- solves of either kind
    solve_fitted : (kind : Kind) → (kind ≡ kinds.Position → length j.centres ≡ 3 * j.bodies) → (shift : Float) (mode : Mode) (limit : ℕ)
        → let k = renumbered_job p q j in
        solve (method_of true (solve_for kind k.rows k.bodies k.numbers k.words k.masses k.centres k.residual k.rules shift) mode) limit
        ≡ delivering (moved q) (solve (method_of true (solve_for kind j.rows j.bodies j.numbers j.words j.masses j.centres j.residual j.rules shift) mode) limit)
    solve_fitted kinds.Position long shift mode limit =
        (looks_below new held agree).solves (ruled_by j.rules new) (ruled_by j.rules held) (ruled_tests new held alike j.rules same_rule) (ruled_alike new held alike j.rules same_rule) (λ b. vec_of j.centres (3 * q b)) (λ b. vec_of (moved_centres q j.centres) (3 * b)) (centre_along q j.bodies j.centres (long refl)) true shift mode limit
        ∙ (renumbers p q (table_in j) r inside).positions j.rules shift (λ b. vec_of j.centres (3 * b)) true mode limit
    solve_fitted kinds.Velocity long shift mode limit =
        (looks_below new held agree).moving (ruled_by j.rules new) (ruled_by j.rules held) (ruled_tests new held alike j.rules same_rule) (ruled_alike new held alike j.rules same_rule) (coefficients j.residual) (coefficients j.residual) (λ i h. refl) true shift mode limit
        ∙ (renumbers p q (table_in j) r inside).velocities j.rules shift (coefficients j.residual) true mode limit

    -- ---- checks of either kind
    module _ (listed : List Float) where
      -- of a table, with any centres
      abbrev closing : Kind → Table → Bool → Closing
      closing kind t b = closing_for kind t (coefficients listed) j.rules (coefficients j.residual) (by_kind kind b true)

      closing_agree : (kind : Kind) (b : Bool) → ClosingsAgree (closing kind new b) (closing kind held b)
      closing_agree kinds.Position b = closings_agree new held alike j.rules same_rule (coefficients listed) (coefficients listed) (λ i h. refl) (λ i h. ap (λ (x : ConstraintRow). x.scalars.error) (agree.row i h)) b
      closing_agree kinds.Velocity b = speeds_agree new held alike j.rules same_rule (coefficients listed) (coefficients listed) (λ i h. refl) (coefficients j.residual) (coefficients j.residual) (λ i h. refl)

      dimension_kept : (i : ℕ) → i < j.rows → dimension_word held i ≡ dimension_word (table_in j) i
      unfolding renumbered_row bodies_by
      dimension_kept i h = ap (λ (x : ConstraintRow). x.words.dimension) (agree.row i h)

      check_fitted : (kind : Kind) (b : Bool) → CheckedAlike (closing kind (table_in j) b) (closing kind held b)
      unfolding renumbered_row bodies_by
      check_fitted kind b =
          let old = (renumbers p q (table_in j) r inside).closings kind j.rules (coefficients listed) (coefficients j.residual) (by_kind kind b true) in
          let reaches : (i : ℕ) → i < j.rows → reach (closing kind held b) i ≡ reach (closing kind (table_in j) b) i = λ i h. reach_below (closing kind new b) (closing kind held b) (closing_agree kind b) inside_new i h ∙ old.reaches i h in
          record {
            checks = λ fits. check_below (closing kind new b) (closing kind held b) (closing_agree kind b) fits ∙ old.checks fits;
            rules = λ i h. same_rule i h;
            reaches = reaches;
            margins = list_same (closing kind (table_in j) b) (closing kind held b) refl dimension_kept reaches;
          }

  -- ---- whether 3 passes or not
  measures : (fits : Bool) → Long fits j → fits ≡ true → (listed : List Float) → CheckedAlike (check_in j listed) (check_in (renumbered_job p q j) listed)
  measures fits long e listed =
      rw (placed_same j.kind (long.centres_long e))
      (check_fitted (long.words_long e) (long.masses_long e) listed j.kind (centres_finite (centres_in j.bodies j.centres)))

  checks : (fits : Bool) → Long fits j → (listed : List Float) → check_of fits (check_in (renumbered_job p q j) listed) ≡ check_of fits (check_in j listed)
  checks true long listed = (measures true long refl listed).checks true
  checks false long listed = check_three (check_in (renumbered_job p q j) listed) ∙ sym (check_three (check_in j listed))

  solves : (fits : Bool) → Long fits j → (shift : Float) (mode : Mode) (limit : ℕ) → solve (method_of fits (solve_in (renumbered_job p q j) shift) mode) limit ≡ delivering (moved q) (solve (method_of fits (solve_in j shift) mode) limit)
  unfolding on
  solves true long shift mode limit = solve_fitted (long.words_long refl) (long.masses_long refl) j.kind (long.centres_long refl) shift mode limit
  solves false long shift mode limit = solve_three (solve_in (renumbered_job p q j) shift) mode limit ∙ ap (delivering (moved q)) (sym (solve_three (solve_in j shift) mode limit))

  pub renumbers_job : (fits : Bool) → Long fits j → RenumbersJob p q fits j
  renumbers_job fits long = record {
    words_kept = words_kept p j.words;
    masses_kept = along_long 10 q j.masses;
    centres_kept = along_long 3 q j.centres;
    solves = solves fits long;
    checks = checks fits long;
    measures = measures fits long;
  }
