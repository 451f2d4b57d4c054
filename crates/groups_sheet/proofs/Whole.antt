-- The ways through the whole table's tests, and what they tell of its rows. Assumes nothing.
use Prim.Native.Nat.{ℕ, ◌<◌}
use mathlib.Core.Path.{◌≡◌, refl, sym, ap, subst, ◌∙◌}
use mathlib.Core.Bool.{Bool, true, false, not, ◌&&◌, true≢false}
use mathlib.Core.List.{List}
use lib.Ieee.{Float}
use borrow.Author.Tests.{not-true, not-false}
use Rattle.loops.specs.Run.{Run, going, ended, on, check}
use Rattle.loops.specs.Judge.{judge, test}
use Rattle.loops.specs.Every.{every}
use Rattle.loops.proofs.Every.{every_iff}
use Rattle.kapitsa_joint.specs.Row.{row_of, words_of}
use Rattle.kapitsa_joint.specs.Mass.{mass_of}
use Rattle.kapitsa_joint.specs.Centre.{centres_in}
use Rattle.joint_refusals.specs.Refusals.{mass_finite_of, is_valid_of, passes6, passes7, centres_finite}
use Rattle.joint_refusals.specs.Tolerances.{passes26}
use Rattle.joint_refusals.proofs.Valid.{valid_bodies}
use Rattle.groups.specs.Together.{links_in, joins_in, Linked, Grouped}
use Rattle.job_file.specs.Job.{Job, tests, job_with, judged_of, answer_of}
use Rattle.job_file.specs.File.{trailer_of, section_numbers, section_words, section_masses, section_centres}
use Rattle.job_file.specs.declared.trailer.Trailer.{Trailer}
use Rattle.job_file.proofs.Meaning.{passed_job}
use Rattle.groups_sheet.specs.Bench.{job_tests, JobGrouped, BenchRead}

-- ---- the answers

abbrev is_groups : Run ℕ ℕ → Bool
is_groups (going count) = true
is_groups (ended number) = false

abbrev count_in : Run ℕ ℕ → ℕ
count_in (going count) = count
count_in (ended number) = 0

refused : (j : Job) (groups : List ℕ) (n : ℕ) → judge (job_tests j) ≡ ended n → JobGrouped j groups groups (ended n)
refused j groups n e = record { judged = e; kept = λ number q. refl; grouped = λ count q. absurd (true≢false (sym (ap is_groups q))) }

module _ (t : Trailer) (numbers : List Float) (words : List ℕ) (masses centres : List Float) (groups : List ℕ) {fit : Bool} (p : fit ≡ passes26 t.tolerance) where
  -- 26
  pub odd : not fit ≡ true → JobGrouped (job_with t numbers words masses centres) groups groups (ended 26)
  odd n = refused _ groups 26 (unfold judge test check on in rw (← p, not-true fit n))

  module _ (u : not fit ≡ false) {bodies : ℕ} (eb : bodies ≡ t.bodies) {m c : Bool} (em : m ≡ every (λ b. mass_finite_of (mass_of masses b)) bodies) (ec : c ≡ centres_finite (centres_in bodies centres)) where
    six : (passes6 (record { rows = t.rows; bodies = t.bodies; row = row_of numbers words; mass = mass_of masses }) && centres_finite (centres_in t.bodies centres)) ≡ (m && c)
    unfolding passes6
    six = rw (em, ec, eb)

    -- 6
    pub unmassed : not (m && c) ≡ true → JobGrouped (job_with t numbers words masses centres) groups groups (ended 6)
    unmassed n = refused _ groups 6 (unfold judge test check on in rw (← p, not-false fit u, six, not-true (m && c) n))

    module _ (v : not (m && c) ≡ false) {rows : ℕ} (er : rows ≡ t.rows) {valid : Bool} (ev : valid ≡ every (λ i. is_valid_of t.bodies (row_of numbers words i)) rows) where
      seven : passes7 (record { rows = t.rows; bodies = t.bodies; row = row_of numbers words; mass = mass_of masses }) ≡ valid
      unfolding passes7
      seven = rw (ev, er)

      -- 7
      pub invalid : not valid ≡ true → JobGrouped (job_with t numbers words masses centres) groups groups (ended 7)
      invalid n = refused _ groups 7 (unfold judge test check on in rw (← p, not-false fit u, six, not-false (m && c) v, seven, not-true valid n))

      module _ (n : not valid ≡ false) where
        -- every row's bodies are there
        pub linked : Linked (links_in words) rows bodies
        unfolding row_of words_of
        linked = record { a = λ i l. rw eb (valid_bodies t.bodies (row_of numbers words i) (row i l)).a; b = λ i l. rw eb (valid_bodies t.bodies (row_of numbers words i) (row i l)).b }
          where
            row : (i : ℕ) → i < rows → is_valid_of t.bodies (row_of numbers words i) ≡ true
            row = (every_iff (λ i. is_valid_of t.bodies (row_of numbers words i)) rows).0 (sym ev ∙ not-false valid n)

        -- all pass
        pub passes : {after : List ℕ} {count : ℕ} → Grouped (links_in words) (joins_in masses) rows after count → JobGrouped (job_with t numbers words masses centres) groups after (going count)
        passes {after} {count} g = record {
          kept = λ number q. absurd (true≢false (ap is_groups q));
          judged = unfold judge test check on in rw (← p, not-false fit u, six, not-false (m && c) v, seven, not-false valid n);
          grouped = λ k q. subst (λ n. Grouped (links_in words) (joins_in masses) t.rows after n) (ap count_in q) (subst (λ n. Grouped (links_in words) (joins_in masses) n after count) er g);
        }

-- ---- the file

trailer_is : (file : List ℕ) (t : Trailer) → judged_of file ≡ going t → t ≡ trailer_of file
unfolding judged_of answer_of on
trailer_is file t h = go (judge (tests file)) h
  where
    go : (r : Run Unit ℕ) → on r (λ _. going (trailer_of file)) ended ≡ going t → t ≡ trailer_of file
    go (going _) e = cc
    go (ended number) e = cc

module _ (file : List ℕ) (t : Trailer) (h : judged_of file ≡ going t) {numbers : List Float} {words : List ℕ} {masses centres : List Float}
    (p : numbers ≡ section_numbers file t.row_offset t.rows) (q : words ≡ section_words file t.row_offset t.rows) (r : masses ≡ section_masses file t.mass_offset t.spare t.bodies) (c : centres ≡ section_centres file t.mass_offset t.spare t.bodies) where
  -- what the sections decode to is the file's job
  pub read_is : {before groups : List ℕ} {answer : Run ℕ ℕ} → JobGrouped (job_with t numbers words masses centres) before groups answer → BenchRead file (job_with t numbers words masses centres) before groups answer
  read_is g = record {
    read = passed_job file h
        ∙ ap (λ (u : Trailer). going (job_with t (section_numbers file u.row_offset u.rows) (section_words file u.row_offset u.rows) (section_masses file u.mass_offset u.spare u.bodies) (section_centres file u.mass_offset u.spare u.bodies))) (sym (trailer_is file t h))
        ∙ rw (p, q, r, c);
    answered = g;
  }
