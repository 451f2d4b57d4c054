-- The job that the reader's definition makes of a written file, in doubles: `doubles_back`. Assumes nothing.
use Prim.Native.Nat.{ℕ, zero, suc}
use mathlib.Core.Path.{◌≡◌, refl, ap, ◌∙◌}
use mathlib.Core.List.{List, [], ◌∷◌, map, map-append}
use lib.Ieee.{Float, binary64, of_bits}
use Rattle.loops.specs.Run.{going}
use Rattle.loops.specs.Tabulate.{tabulate}
use Rattle.job_file.specs.File.{row_number, mass_number, centre_number, section_numbers, section_masses, section_centres}
use Rattle.job_file.specs.Job.{job_with, file_numbers, file_masses, file_centres, job_of}
use Rattle.job_writer.specs.JobBits.{JobBits, section_number_bits, section_mass_bits, section_centre_bits, file_number_bits, file_mass_bits, file_centre_bits}
use Rattle.job_writer.specs.Written.{written}
use Rattle.job_writer.specs.Fits.{Fits}
use Rattle.job_writer.proofs.Back.{trailer_written, numbers_back, file_words_back, masses_back, centres_back}
use Rattle.job_writer.proofs.Judged.{written_job}

map_tabulate : {X Y : Type 0} (f : X → Y) (g : ℕ → X) (n : ℕ) → tabulate (λ k. f (g k)) n ≡ map f (tabulate g n)
unfolding tabulate
map_tabulate f g zero = refl
map_tabulate f g (suc n) = rw (map-append f (tabulate g n) (g n ∷ []), map_tabulate f g n)

-- the doubles that have these bits
abbrev pub doubles_of : List ℕ → List Float
doubles_of l = map (of_bits binary64) l

module _ (file : List ℕ) where
  pub numbers_doubles : file_numbers file ≡ doubles_of (file_number_bits file)
  unfolding section_numbers section_number_bits row_number
  numbers_doubles = map_tabulate (of_bits binary64) _ _

  pub masses_doubles : file_masses file ≡ doubles_of (file_mass_bits file)
  unfolding section_masses section_mass_bits mass_number
  masses_doubles = map_tabulate (of_bits binary64) _ _

  pub centres_doubles : file_centres file ≡ doubles_of (file_centre_bits file)
  unfolding section_centres section_centre_bits centre_number
  centres_doubles = map_tabulate (of_bits binary64) _ _

pub doubles_back : (job : JobBits) (f : Fits job) → job_of (written job) ≡ going (job_with (trailer_written job f) (doubles_of job.numbers) job.words (doubles_of job.masses) (doubles_of job.centres))
doubles_back job f =
    let file = written job in
    let n = numbers_doubles file ∙ ap doubles_of (numbers_back job f) in
    let m = masses_doubles file ∙ ap doubles_of (masses_back job f) in
    let c = centres_doubles file ∙ ap doubles_of (centres_back job f) in
    written_job job f ∙ (λ i. going (job_with (trailer_written job f) (n i) (file_words_back job f i) (m i) (c i)))
