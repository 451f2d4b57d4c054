-- The line of a job: its name, and that there is room for it and for the sheet behind it. Assumes nothing.
use Prim.Native.Nat.{ℕ, ◌+◌, ◌<◌, ◌≤◌}
use mathlib.Core.Path.{◌≡◌, refl}
use mathlib.Core.List.{List, [], ◌∷◌, ◌++◌}
use native.Mathlib.Omega.{arith}
use lib.ListN.{length, length-append}
use Rattle.listing.specs.Written.{Room, Wrote}
use Rattle.listing.specs.Digits.{number}
use Rattle.listing.specs.Lines.{newline}
use Rattle.listing.proofs.Length.{number_short}
use Rattle.job_stream.specs.Stream.{job_name, job_line}

pub job_name_lem : 106 ∷ 111 ∷ 98 ∷ [] ≡ job_name
unfolding job_name
job_name_lem = refl

job_short : (n : ℕ) → n < 4294967296 → length (job_line n) ≤ 15
unfolding job_line job_name
job_short n h =
    let a = number_short n h in
    let b = length-append job_name (number n) in
    let c = length-append (job_name ++ number n) newline in
    omega arith

pub job_room : (out : List ℕ) (n : ℕ) → n < 4294967296 → 16399 ≤ length out → Room out 0 (job_line n)
job_room out n h l = let s = job_short n h in record { fits = omega arith }

pub sheet_room : (out out' : List ℕ) (n at : ℕ) → n < 4294967296 → 16399 ≤ length out → length out' ≡ length out → Wrote out 0 (job_line n) out' at → at + 16384 ≤ length out'
sheet_room out out' n at h l e w = let s = job_short n h in let p = w.after in omega arith
