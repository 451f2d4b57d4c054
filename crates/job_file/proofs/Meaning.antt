-- What the answers of `judge_file` and `read_job` say of the job that a file holds: `passed_job`, `refused_job`, `refused_first`, `read_job`. Assumes nothing.
use Prim.Native.Nat.{ℕ, ◌≤◌}
use mathlib.Core.Path.{◌≡◌, refl, sym, ap, ◌∙◌}
use mathlib.Core.Bool.{Bool, true, false, ◌&&◌}
use mathlib.Core.List.{List, [], ◌∷◌}
use mathlib.Core.Logic.{◌↔◌}
use native.Mathlib.Omega.{arith}
use lib.Ieee.{Float}
use Rattle.loops.specs.Run.{Run, going, ended, on, check}
use Rattle.loops.specs.Judge.{judge, test, Fails, Rising}
use Rattle.loops.proofs.Loop.{on_going, on_ended}
use Rattle.loops.proofs.Inverse.{apart, ended_inj}
use Rattle.loops.proofs.Judge.{judge_least}
use Rattle.job_file.specs.File.{trailer_of}
use Rattle.job_file.specs.Job.{Job, job_with, file_numbers, file_words, file_masses, file_centres, tests, job_of, answer_of, judged_of, read_of, lent_after, Reads}
use Rattle.job_file.specs.declared.trailer.Trailer.{Trailer}

-- ---- the answer and the judgement

answer_passed : (t u : Trailer) (l : List (ℕ × Bool)) → answer_of t l ≡ going u → (judge l ≡ going tt) × (u ≡ t)
unfolding answer_of on
answer_passed t u l h = go (judge l) h
  where
    go : (r : Run Unit ℕ) → on r (λ _. going t) ended ≡ going u → (r ≡ going tt) × (u ≡ t)
    go (going s) h = (refl, cc)
    go (ended n) h = cc

answer_refused : (t : Trailer) (l : List (ℕ × Bool)) (n : ℕ) → (answer_of t l ≡ ended n) ↔ (judge l ≡ ended n)
unfolding answer_of on
answer_refused t l n = (there (judge l), λ h. on_ended _ _ _ h)
  where
    there : (r : Run Unit ℕ) → on r (λ _. going t) ended ≡ ended n → r ≡ ended n
    there (going s) h = cc
    there (ended k) h = ap ended (cc)

-- ---- a file that passes holds the job that the definition gives

job_going : (file : List ℕ) → judge (tests file) ≡ going tt → job_of file ≡ going (job_with (trailer_of file) (file_numbers file) (file_words file) (file_masses file) (file_centres file))
unfolding job_of
job_going file h = on_going _ _ _ h

pub passed_job : (file : List ℕ) {t : Trailer} → judged_of file ≡ going t → job_of file ≡ going (job_with t (file_numbers file) (file_words file) (file_masses file) (file_centres file))
unfolding judged_of
passed_job file {t} h = let (j, e) = answer_passed (trailer_of file) t (tests file) h in job_going file j ∙ ap (λ t. going (job_with t (file_numbers file) (file_words file) (file_masses file) (file_centres file))) (sym e)

-- one that is refused holds none, and the numbers are the same
pub refused_job : (file : List ℕ) (n : ℕ) → (judged_of file ≡ ended n) ↔ (job_of file ≡ ended n)
unfolding judged_of job_of on
refused_job file n = (λ h. on_ended _ _ _ ((answer_refused _ _ n).0 h), λ h. (answer_refused _ _ n).1 (back _ (judge (tests file)) h))
  where
    back : (J : Job) (r : Run Unit ℕ) → on r (λ _. going J) ended ≡ ended n → r ≡ ended n
    back J (going s) h = absurd (apart _ refl h)
    back J (ended k) h = ap ended (ended_inj h)

-- refused with n exactly where n's own test fails and none before it does
pub refused_first : (file : List ℕ) (n : ℕ) → (judged_of file ≡ ended n) ↔ (Fails (tests file) n × ((i : ℕ) → Fails (tests file) i → n ≤ i))
unfolding judged_of Rising
refused_first file n =
    let least = judge_least (tests file) n (omega arith, (omega arith, (omega arith, (omega arith, tt)))) in
    let same = answer_refused (trailer_of file) (tests file) n in
    (λ h. least.0 (same.0 h), λ h. same.1 (least.1 h))

-- ---- what `read_job` leaves is that job

lent_passed : (t : Trailer) (a b c e d : Bool) → judge ((1, a) ∷ (2, b) ∷ (3, c && e) ∷ (4, d) ∷ []) ≡ going tt → judge ((1, a) ∷ (2, b) ∷ (3, c) ∷ (4, d) ∷ []) ≡ going tt
unfolding judge test check on
lent_passed t false b c e d h = h
lent_passed t true false c e d h = h
lent_passed t true true false e d h = h
lent_passed t true true true true d h = h
lent_passed t true true true false d h = absurd (apart _ h refl)

pub read_job : (file : List ℕ) (numbers : List Float) (words : List ℕ) (masses centres : List Float) (t : Trailer) (numbers' : List Float) (words' : List ℕ) (masses' centres' : List Float) → Reads file numbers words masses centres (going t) numbers' words' masses' centres' → job_of file ≡ going (job_with t numbers' words' masses' centres')
unfolding read_of lent_after
read_job file numbers words masses centres t numbers' words' masses' centres' h =
    let (j, e) = answer_passed (trailer_of file) t _ (sym h.answer) in
    rw (e, h.of_numbers, h.of_words, h.of_masses, h.of_centres) (job_going file (lent_passed t _ _ _ _ _ j))
