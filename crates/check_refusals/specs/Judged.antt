-- The order of the check's refusals, as one list. Document 01: "Refusals here: 3, 4, 6, 7, 18"; what document 02 adds of the tolerances, right after 4.
use Rattle.std.specs.Prelude.{ℕ, Bool, ◌&&◌, List, [], ◌∷◌, ◌++◌}
use Rattle.joint_refusals.specs.Refusals.{passes4, passes6, passes7}
use Rattle.check_range.specs.Closing.{Closing}
use Rattle.check_range.specs.Range.{passes18}

-- once 3 has passed
abbrev pub table_tests : Closing → List (ℕ × Bool)
table_tests c = let t = c.table in (4, passes4 t) ∷ (c.tolerance_tests ++ ((6, passes6 t && c.placed) ∷ (c.lent ++ ((7, passes7 t) ∷ (18, passes18 c) ∷ []))))

-- `fits` is refusal 3's
abbrev pub judgements : Bool → Closing → List (ℕ × Bool)
judgements fits c = (3, fits) ∷ table_tests c
