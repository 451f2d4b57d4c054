-- What the functions that replay a job answer is what the definitions say. Assumes nothing.
use Prim.Native.Nat.{ℕ, ◌+◌, ◌*◌, ◌<◌, ◌≤◌}
use mathlib.Core.Path.{◌≡◌, refl, sym, ap, ◌∙◌}
use mathlib.Core.Bool.{Bool, true, false, not, cond, ◌&&◌}
use mathlib.Core.List.{List}
use native.Mathlib.Omega.{arith}
use lib.Dec.{leb}
use lib.ListN.{length, replicate}
use lib.Ieee.{Float}
use borrow.Author.Tests.{leb-true, not-true, not-false}
use Rattle.kapitsa_joint.specs.Kind.{place_of, placed_of}
use Rattle.kapitsa_joint.specs.declared.kind.Kind.{Kind}
use Rattle.kapitsa_joint.specs.declared.tolerance.JointTolerance.{JointTolerance}
use Rattle.rules.specs.Rules.{two_rules}
use Rattle.position_delivery.specs.Outcome.{Lent, Outcome}
use Rattle.position_delivery.specs.declared.answer.PositionPcgResult.{PositionPcgResult}
use Rattle.packed_list.specs.Packed.{group_of}
use Rattle.solve_replay.specs.Job.{header_of, doubles_of, row_numbers, row_words}
use Rattle.solve_replay.specs.Compare.{same_doubles, kept_numbers, same_answers}
use Rattle.solve_replay.specs.Seen.{row_group, mass_group, beside_size, beside_group, centre_group, answer_group, impulse_group, flag_of, same_result, accepted_seen, refused_seen, outcome_seen, tolerance_in, centres_of, solved_of, solved_seen, marked, table_seen, malformed_in, job_seen, TableRead}
use Rattle.solve_replay.specs.declared.header.Header.{Header}
use Rattle.loops.specs.Run.{Run, going, ended}
use Rattle.solve_replay.specs.declared.answer.Seen.{Seen}

-- ---- the groups, one straight after the other
module _ (list : List ℕ) (k : ℕ) where
  -- as it is unpacked into memory that is lent as zeros; w stands for n
  pub unpacked : (at : ℕ) {n w end : ℕ} {a₀ a : List ℕ} → a₀ ≡ replicate (k * n) 0 → w ≡ n → (end, a) ≡ group_of list at k a₀ w → (end, a) ≡ group_of list at k (replicate (k * n) 0) n
  unpacked at ea ew e = e ∙ rw (ea, ew)

  -- from where the one before it ends
  following : (n : ℕ) {at from end : ℕ} {a : List ℕ} → at ≡ from → (end, a) ≡ group_of list at k (replicate (k * n) 0) n → (end, a) ≡ group_of list from k (replicate (k * n) 0) n
  following n p e = e ∙ rw p

-- and what is lent beside the table
following_beside : (kind : Kind) (list : List ℕ) (n b : ℕ) {at from : ℕ} {x : ℕ × List ℕ} → at ≡ from → x ≡ beside_group kind list at n b → x ≡ beside_group kind list from n b
following_beside kind list n b p e = e ∙ ap (λ (k : ℕ). beside_group kind list k n b) p

abbrev end_of : {end : ℕ} {a : List ℕ} {g : ℕ × List ℕ} → (end, a) ≡ g → end ≡ g.0
end_of = ap (λ (x : ℕ × List ℕ). x.0)

abbrev words_of : {end : ℕ} {a : List ℕ} {g : ℕ × List ℕ} → (end, a) ≡ g → a ≡ g.1
words_of = ap (λ (x : ℕ × List ℕ). x.1)

-- ---- `answers_seen`
pub accepted_shown : (kind : Kind) (list : List ℕ) (at : ℕ) (h : Header) (rows : List ℕ) (r : PositionPcgResult) (l : Lent) {place bodiesAt centresAt end : ℕ} {a b c : List ℕ} {f : ℕ} {s t u v k : Bool}
    → place ≡ place_of kind → (bodiesAt, a) ≡ answer_group list at h.rows → (centresAt, b) ≡ impulse_group list bodiesAt h.bodies → (end, c) ≡ centre_group list centresAt (placed_of kind h.bodies)
    → f ≡ flag_of r.converged → s ≡ same_result h r → t ≡ same_answers place l.solution l.numbers a → u ≡ same_doubles l.impulses b → v ≡ same_doubles l.centres c → k ≡ kept_numbers place true l.numbers rows
    → record { outcome = 1 + f; same = ((((s && t) && u) && v) && k) && leb end (length list); end = end } ≡ accepted_seen kind list at h rows r l
unfolding accepted_seen
accepted_shown kind list at h rows r l ep e f g ef es et eu ev ek =
    let p = following list 6 h.bodies (end_of e) f in
    let q = following list 3 (placed_of kind h.bodies) (end_of p) g in
    rw (ef, es, et, eu, ev, ek, ep, words_of e, words_of p, words_of q, end_of q)

-- ---- `solved_seen`
module _ (kind : Kind) (list : List ℕ) (at : ℕ) (h : Header) (rows words : List ℕ) (masses centres beside : List Float) (before : Lent) (tolerance : JointTolerance) (named : ℕ) (answer : Run PositionPcgResult ℕ) (after : Lent) (r : Seen)
    (t : tolerance ≡ tolerance_in h) (l : named ≡ h.rows) (p : centres ≡ centres_of kind h.bodies beside) (e : solved_of kind h (two_rules tolerance) named words masses centres beside before ≡ record { answer = answer; lent = after }) where
  shown : outcome_seen kind list at h rows answer after ≡ solved_seen kind list at h rows words masses beside before
  unfolding solved_seen
  shown = ap (λ (o : Outcome). outcome_seen kind list at h rows o.answer o.lent)
      (sym e ∙ ap (λ (k : ℕ). solved_of kind h (two_rules tolerance) k words masses centres beside before) l ∙ ap (λ (x : JointTolerance). solved_of kind h (two_rules x) h.rows words masses centres beside before) t ∙ ap (λ (c : List Float). solved_of kind h (two_rules (tolerance_in h)) h.rows words masses c beside before) p)

  pub solved_accepted : (result : PositionPcgResult) → answer ≡ going result → r ≡ accepted_seen kind list at h rows result after → r ≡ solved_seen kind list at h rows words masses beside before
  unfolding outcome_seen
  solved_accepted result a q = q ∙ ap (λ (x : Run PositionPcgResult ℕ). outcome_seen kind list at h rows x after) (sym a) ∙ shown

  pub solved_refused : (number : ℕ) → answer ≡ ended number → r ≡ refused_seen kind list at h rows number after → r ≡ solved_seen kind list at h rows words masses beside before
  unfolding outcome_seen
  solved_refused number a q = q ∙ ap (λ (x : Run PositionPcgResult ℕ). outcome_seen kind list at h rows x after) (sym a) ∙ shown

-- ---- `read_table`
pub table_read : (kind : Kind) {list : List ℕ} {at n b massesAt besideAt end : ℕ} {rows massWords besideWords : List ℕ} {i : ℕ} {numbers : List Float} {j : ℕ} {words : List ℕ} {k : ℕ} {masses : List Float} {l : ℕ} {beside : List Float}
    → (massesAt, rows) ≡ row_group list at n → (besideAt, massWords) ≡ mass_group list massesAt b → (end, besideWords) ≡ beside_group kind list besideAt n b
    → numbers ≡ row_numbers rows i → i ≡ 27 * n → words ≡ row_words rows j → j ≡ 8 * n → masses ≡ doubles_of massWords k → k ≡ 10 * b → beside ≡ doubles_of besideWords l → l ≡ beside_size kind n b → end < 3000000000
    → TableRead kind list at n b end rows numbers words masses beside
table_read kind {list} {n = n} {b = b} e f g en ln ew lw em lm ec lc near =
    let p = following list 10 b (end_of e) f in
    let q = following_beside kind list n b (end_of p) g in
    record { ended = end_of q; rowed = words_of e; numbered = en ∙ rw (words_of e, ln); worded = ew ∙ rw (words_of e, lw); massed = em ∙ rw (words_of p, lm); placed = ec ∙ rw (words_of q, lc); near = near }

-- ---- `table_seen`
pub table_shown : (kind : Kind) (h : Header) {list : List ℕ} {at end : ℕ} {rows : List ℕ} {numbers : List Float} {words : List ℕ} {masses beside solution impulses newCentres : List Float} {r : Seen}
    → TableRead kind list at h.rows h.bodies end rows numbers words masses beside → solution ≡ replicate h.rows marked → impulses ≡ replicate (6 * h.bodies) marked → newCentres ≡ replicate (3 * placed_of kind h.bodies) marked
    → r ≡ solved_seen kind list end h rows words masses beside (record { numbers = numbers; solution = solution; impulses = impulses; centres = newCentres }) → r ≡ table_seen kind list at h
unfolding table_seen
table_shown kind h t es ei ec e = e ∙ rw (t.numbered, t.worded, t.massed, t.placed, t.ended, t.rowed, es, ei, ec)

-- ---- `job_seen`
and_both : (a b : Bool) → (a && b) ≡ true → (a ≡ true) × (b ≡ true)
and_both true b e = (refl, e)
and_both false b e = absurd (let z : ◌≡◌ {A = ℕ} 0 1 = cc in omega arith)

pub job_counts : (n b : ℕ) → not (leb n 513 && leb b 257) ≡ false → (n ≤ 513) × (b ≤ 257)
job_counts n b t = let c = and_both (leb n 513) (leb b 257) (not-false (leb n 513 && leb b 257) t) in (leb-true n 513 c.0, leb-true b 257 c.1)

module _ (kind : Kind) (list : List ℕ) (at : ℕ) (h : Header) (r : Seen) (e : h ≡ header_of list at) where
  opened : r ≡ cond (leb h.rows 513 && leb h.bodies 257) (table_seen kind list (at + 64) h) (malformed_in list) → r ≡ job_seen kind list at
  unfolding job_seen
  opened q = q ∙ ap (λ (x : Header). cond (leb x.rows 513 && leb x.bodies 257) (table_seen kind list (at + 64) x) (malformed_in list)) e

  pub job_malformed : not (leb h.rows 513 && leb h.bodies 257) ≡ true → r ≡ malformed_in list → r ≡ job_seen kind list at
  job_malformed t q = opened (q ∙ rw (not-true (leb h.rows 513 && leb h.bodies 257) t))

  pub job_shown : not (leb h.rows 513 && leb h.bodies 257) ≡ false → r ≡ table_seen kind list (at + 64) h → r ≡ job_seen kind list at
  job_shown t q = opened (q ∙ rw (not-false (leb h.rows 513 && leb h.bodies 257) t))
