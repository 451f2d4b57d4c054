-- What a solve gave beside what is recorded, bit for bit.
use Rattle.std.specs.Prelude.{ℕ, ◌+◌, ◌*◌, ◌/◌, ◌%◌, Bool, true, cond, ◌&&◌, List, eqb, get_or, length, Float}
use Rattle.std.specs.Float.{nan, binary64}
use Rattle.std.specs.Float.Ieee.{of_bits, to_bits}
use Rattle.loops.specs.Every.{every}

-- x has these bits
unfoldable pub same_double : Float → ℕ → Bool
same_double x bits = eqb (to_bits binary64 x) bits

-- x is the number that these bits were read as: a NaN's payload is not kept
unfoldable pub same_number : Float → ℕ → Bool
same_number x bits = eqb (to_bits binary64 x) (to_bits binary64 (of_bits binary64 bits))

unfoldable pub same_doubles : List Float → List ℕ → Bool
same_doubles numbers words = every (λ i. same_double (get_or numbers i nan) (get_or words i 0)) (length numbers)

-- number i of the rows is as it was read; an accepted answer writes each row's number at this place: 24, the accumulated multiplier, or of velocities 25, the accumulated impulse
unfoldable pub kept_number : ℕ → Bool → List Float → List ℕ → ℕ → Bool
kept_number place accepted numbers words i = cond (accepted && eqb (i % 27) place) true (same_number (get_or numbers i nan) (get_or words (35 * (i / 27) + i % 27) 0))

unfoldable pub kept_numbers : ℕ → Bool → List Float → List ℕ → Bool
kept_numbers place accepted numbers words = every (kept_number place accepted numbers words) (length numbers)

-- "solution, new multiplier; of velocities the new accumulated impulse" of row i
unfoldable pub same_answer : ℕ → List Float → List Float → List ℕ → ℕ → Bool
same_answer place solution numbers words i = same_double (get_or solution i nan) (get_or words (2 * i) 0) && same_double (get_or numbers (27 * i + place) nan) (get_or words (2 * i + 1) 0)

unfoldable pub same_answers : ℕ → List Float → List Float → List ℕ → Bool
same_answers place solution numbers words = every (same_answer place solution numbers words) (length solution)

-- every number has the bits of 0.5
unfoldable pub unwritten_of : List Float → Bool
unwritten_of numbers = every (λ i. same_double (get_or numbers i nan) 4602678819172646912) (length numbers)
