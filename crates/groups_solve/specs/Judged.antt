-- The order in which a whole table is judged before its groups, as one list. Document 02, g: "Refusals 3, 4, 6, 7, 20 and 25 judge the whole table first"; f: 25 "judged right after 3"; k: 27 and 28 "right after 26", "in groups over the whole table"; a: 20 "judged right after 6". 5 is each group's own.
use Rattle.std.specs.Prelude.{ℕ, ◌*◌, Bool, true, ◌&&◌, List, [], ◌∷◌, ◌++◌, eqb, Float}
use Rattle.loops.specs.Run.{Run, going, ended}
use Rattle.kapitsa_joint.specs.Centre.{centres_in}
use Rattle.kapitsa_joint.specs.Kind.{by_kind}
use Rattle.kapitsa_joint.specs.declared.kind.Kind.{Kind}
use Rattle.joint_refusals.specs.Refusals.{passes4, passes6, passes7, centres_finite}
use Rattle.position.specs.Problem.{Problem}

-- once 3 has passed: 25, 4, 27, 28, 6, of velocities 20, and 7
abbrev pub bench_tests : Problem → List (ℕ × Bool)
bench_tests p = let t = p.table in p.options ++ ((4, passes4 t) ∷ (p.tolerance_tests ++ ((6, passes6 t && p.placed) ∷ (p.lent ++ ((7, passes7 t) ∷ [])))))

-- fits is whether 3 passes
abbrev pub whole_tests : Bool → Problem → List (ℕ × Bool)
whole_tests fits p = (3, fits) ∷ bench_tests p

-- 3, of the slices that take the groups: a word a row, three words and two numbers a group, of which there are at most as many as rows
unfoldable pub groups_lent : ℕ → ℕ → ℕ → ℕ → Bool
groups_lent rows numbers answers maxima = (eqb numbers rows && eqb answers (3 * rows)) && eqb maxima (2 * rows)

-- how many groups there are, or the whole table's refusal
abbrev pub grouping_out : Run ℕ ℕ → Run Unit ℕ
grouping_out (going count) = going tt
grouping_out (ended number) = ended number

abbrev pub centres_pass : Kind → ℕ → List Float → Bool
centres_pass kind bodies centres = by_kind kind (centres_finite (centres_in bodies centres)) true
