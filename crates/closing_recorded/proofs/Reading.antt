-- A case as read: the table that its bytes hold, checked and compared. Assumes nothing.
use Rattle.std.proofs.Common.{◌≡◌, ℕ, ◌+◌, ◌*◌, List, length, ◌∙◌}
use lib.ListN.{length-replicate}
use lib.Ieee.{Float}
use Rattle.little_endian.specs.Words.{word_at, double_at, doubles_at, halves_at}
use Rattle.kapitsa_joint.specs.Table.{table_of}
use Rattle.kapitsa_joint.specs.declared.kind.Kind.TheVariants.{Position}
use Rattle.kapitsa_joint.specs.Centre.{centres_in}
use Rattle.joint_refusals.specs.Refusals.{centres_finite}
use Rattle.rules.specs.Rules.{two_rules}
use Rattle.mass_operator.specs.Flat.{coefficients}
use Rattle.check_range.specs.Closing.{closing_of}
use Rattle.check_refusals.specs.Refusals.{given_fits, table_lengths}
use Rattle.check_answer.specs.Answer.{check_of, CheckAnswer}
use Rattle.closing_recorded.specs.Case.{compared_of, seen_in}
use Rattle.closing_recorded.specs.declared.tally.Seen.{Seen}

module _ (case : List ℕ) (n b : ℕ) {k₁ k₂ k₃ k₄ k₅ : ℕ} {numbers : List Float} {words : List ℕ} {masses centres multipliers : List Float} (rule_numbers : List ℕ) where
  -- each slice is as long as the table and holds the words from its place on
  pub seen_in_lem : k₁ ≡ 27 * n → k₂ ≡ 8 * n → k₃ ≡ 10 * b → k₄ ≡ 3 * b → k₅ ≡ n
      → numbers ≡ doubles_at case 64 k₁ → words ≡ halves_at case (64 + 216 * n) k₂ → masses ≡ doubles_at case (64 + 280 * n) k₃ → centres ≡ doubles_at case (64 + 280 * n + 80 * b) k₄ → multipliers ≡ doubles_at case (64 + 280 * n + 104 * b) k₅
      → {linear angular : Float} → linear ≡ double_at case 24 → angular ≡ double_at case 32
      → {answer : CheckAnswer}
      → answer ≡ (let rules = two_rules (record { linear_m = linear; angular_rad = angular }) in check_of (given_fits Position n b (table_lengths numbers words masses centres multipliers rules.words rules.tolerances rule_numbers)) (closing_of (table_of n b numbers words masses) (coefficients multipliers) rules (centres_finite (centres_in b centres))))
      → length rule_numbers ≡ n
      → {recorded : ℕ} → recorded ≡ word_at case 40 → {bits₁ : ℕ} → bits₁ ≡ word_at case 48 → {bits₂ : ℕ} → bits₂ ≡ word_at case 56
      → {s : Seen} → s ≡ compared_of answer recorded bits₁ bits₂ → s ≡ seen_in case n b
  unfolding seen_in
  seen_in_lem l1 l2 l3 l4 l5 e1 e2 e3 e4 e5 p q f l6 r x y h = h ∙ rw (r, x, y, f, l6, length-replicate {A = ℕ} n 0, p, q, e1, e2, e3, e4, e5, l1, l2, l3, l4, l5)
