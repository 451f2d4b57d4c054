-- A file that 1 to 4 have passed has passed 1 to 3. Assumes nothing.
use Prim.Native.Nat.{ℕ}
use mathlib.Core.Path.{◌≡◌}
use mathlib.Core.Bool.{Bool, true, false}
use mathlib.Core.List.{List, [], ◌∷◌}
use Rattle.loops.specs.Run.{going, on, check}
use Rattle.loops.specs.Judge.{judge, test}
use Rattle.job_file.specs.Job.{answer_of, opened_of, judged_of}
use Rattle.job_file.specs.declared.trailer.Trailer.{Trailer}

opened_too : (t u : Trailer) (a b c d : Bool) → answer_of t ((1, a) ∷ (2, b) ∷ (3, c) ∷ (4, d) ∷ []) ≡ going u → answer_of t ((1, a) ∷ (2, b) ∷ (3, c) ∷ []) ≡ going u
unfolding answer_of judge test check on
opened_too t u false b c d h = h
opened_too t u true false c d h = h
opened_too t u true true false d h = h
opened_too t u true true true true h = h
opened_too t u true true true false h = cc

pub opened_first : (file : List ℕ) (t : Trailer) → judged_of file ≡ going t → opened_of file ≡ going t
unfolding judged_of opened_of
opened_first file t h = opened_too _ _ _ _ _ _ h
