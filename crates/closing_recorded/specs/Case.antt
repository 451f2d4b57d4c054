-- A recorded check in its bytes. oracle/closing/record.py: "A check is a run of 64-bit words, little end first: its length in bytes, rows n, bodies b, the linear and the angular tolerance, the answer (0 open, 1 closed, else the refusal's number), the linear and the angular gap, 27n row numbers, 8n row words, 10b mass numbers, 3b centre numbers, n multipliers."
use Rattle.std.specs.Prelude.{◌≡◌, ℕ, ◌+◌, ◌*◌, ◌≤◌, Bool, false, ◌&&◌, List, length, replicate, ◌==◌, nat_le, to_bits, Float}
use Rattle.std.specs.Float.{binary64}
use Rattle.loops.specs.Run.{check}
use Rattle.little_endian.specs.Words.{word_at, double_at, doubles_at, halves_at}
use Rattle.kapitsa_joint.specs.declared.tolerance.JointTolerance.{JointTolerance}
use Rattle.kapitsa_joint.specs.declared.maxima.Maxima.{Maxima}
use Rattle.kapitsa_joint.specs.Table.{table_of}
use Rattle.kapitsa_joint.specs.declared.kind.Kind.TheVariants.{Position}
use Rattle.kapitsa_joint.specs.Centre.{centres_in}
use Rattle.joint_refusals.specs.Refusals.{centres_finite}
use Rattle.rules.specs.Rules.{Rules, two_rules}
use Rattle.mass_operator.specs.Flat.{coefficients}
use Rattle.check_range.specs.Closing.{closing_of}
use Rattle.check_refusals.specs.Refusals.{given_fits, table_lengths}
use Rattle.check_answer.specs.Answer.{number_of, gap_of, check_of, CheckAnswer}
use Rattle.closing_recorded.specs.Tally.{malformed}
use Rattle.closing_recorded.specs.declared.tally.Seen.{Seen}

-- at most 513 rows and 257 bodies, one more than a check may have, and as long as they make it
unfoldable pub well_formed : List ℕ → Bool
well_formed case = check (nat_le 64 (length case)) (check (nat_le (word_at case 8) 513) (check (nat_le (word_at case 16) 257) (length case == 64 + 288 * word_at case 8 + 104 * word_at case 16) false) false) false

-- the same as facts, of the counts n and b
pub record Formed (case : List ℕ) (n b : ℕ) : Type 0 where
  pub rows : n ≤ 513
  pub bodies : b ≤ 257
  pub long : length case ≡ 64 + 288 * n + 104 * b

abbrev pub tolerance_in : List ℕ → JointTolerance
tolerance_in case = record { linear_m = double_at case 24; angular_rad = double_at case 32 }

-- bit for bit
unfoldable pub same_gap : Maxima → ℕ → ℕ → Bool
same_gap gap linear angular = to_bits binary64 gap.linear == linear && to_bits binary64 gap.angular == angular

-- beside the recorded answer and the bits of the recorded gap
unfoldable pub compared_of : CheckAnswer → ℕ → ℕ → ℕ → Seen
compared_of answer recorded linear angular = record { answer = number_of answer; same = number_of answer == recorded && same_gap (gap_of answer) linear angular }

-- the check by two rules, with a number for each row's
abbrev pub checked_in : ℕ → ℕ → List Float → List ℕ → List Float → List Float → List Float → Rules → CheckAnswer
checked_in n b numbers words masses centres multipliers rules =
    check_of (given_fits Position n b (table_lengths numbers words masses centres multipliers rules.words rules.tolerances (replicate n 0)))
    (closing_of (table_of n b numbers words masses) (coefficients multipliers) rules (centres_finite (centres_in b centres)))

-- what a case of n rows and b bodies shows: the definition's answer beside the recorded one
unfoldable pub seen_in : List ℕ → ℕ → ℕ → Seen
seen_in case n b =
    compared_of
    (checked_in n b (doubles_at case 64 (27 * n)) (halves_at case (64 + 216 * n) (8 * n)) (doubles_at case (64 + 280 * n) (10 * b)) (doubles_at case (64 + 280 * n + 80 * b) (3 * b)) (doubles_at case (64 + 280 * n + 104 * b) n) (two_rules (tolerance_in case)))
    (word_at case 40)
    (word_at case 48)
    (word_at case 56)

unfoldable pub seen_of : List ℕ → Seen
seen_of case = check (well_formed case) (seen_in case (word_at case 8) (word_at case 16)) malformed
