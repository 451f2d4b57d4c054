-- The ways of `well_formed`, and what it tells of a case. Assumes nothing.
use Rattle.std.proofs.Common.{◌≡◌, ℕ, ◌+◌, ◌*◌, ◌<◌, ◌≤◌, Bool, true, false, not, eqb, leb, List, length, sym, refl, ◌∙◌, true≢false, rules, eqb-true, le-leb, leb-true}
use borrow.Author.Tests.{not-true, not-false, lt-leb}
use Rattle.loops.specs.Run.{check}
use Rattle.little_endian.specs.Words.{word_at}
use Rattle.closing_recorded.specs.Case.{well_formed, Formed, seen_in, seen_of}
use Rattle.closing_recorded.specs.Tally.{malformed}
use Rattle.closing_recorded.specs.declared.tally.Seen.{Seen}

module _ (case : List ℕ) where
  pub short_case : length case < 64 → false ≡ well_formed case
  unfolding well_formed check
  short_case h = rw (lt-leb 64 (length case) h)

  module _ (h : 64 ≤ length case) {n b : ℕ} (p : n ≡ word_at case 8) (q : b ≡ word_at case 16) where
    pub many_rows : 513 < n → false ≡ well_formed case
    unfolding well_formed check
    many_rows l = rw (le-leb 64 (length case) h, ← p, lt-leb n 513 l)

    pub many_bodies : n ≤ 513 → 257 < b → false ≡ well_formed case
    unfolding well_formed check
    many_bodies l m = rw (le-leb 64 (length case) h, ← p, le-leb n 513 l, ← q, lt-leb b 257 m)

    pub whole_case : n ≤ 513 → b ≤ 257 → eqb (length case) (64 + 288 * n + 104 * b) ≡ well_formed case
    unfolding well_formed check
    whole_case l m = rw (le-leb 64 (length case) h, ← p, le-leb n 513 l, ← q, le-leb b 257 m)

pub ruleset forming = (short_case, many_rows, many_bodies, whole_case, rules)

-- ---- a well-formed case
both : (a b : Bool) → check a b false ≡ true → (a ≡ true) × (b ≡ true)
unfolding check
both true b h = (refl, h)
both false b h = absurd (true≢false (sym h))

pub formed_of : (case : List ℕ) {r : Bool} {n b : ℕ} → r ≡ well_formed case → not r ≡ false → n ≡ word_at case 8 → b ≡ word_at case 16 → Formed case n b
unfolding well_formed
formed_of case {r} {n} {b} e t p q =
    let long = eqb (length case) (64 + 288 * word_at case 8 + 104 * word_at case 16) in
    let (_, x) = both (leb 64 (length case)) (check (leb (word_at case 8) 513) (check (leb (word_at case 16) 257) long false) false) (sym e ∙ not-false r t) in
    let (y, z) = both (leb (word_at case 8) 513) (check (leb (word_at case 16) 257) long false) x in
    let (u, v) = both (leb (word_at case 16) 257) long z in
    rw (p, q) (record { rows = leb-true (word_at case 8) 513 y; bodies = leb-true (word_at case 16) 257 u; long = eqb-true (length case) (64 + 288 * word_at case 8 + 104 * word_at case 16) v })

-- at least its first eight words
pub formed_head : (case : List ℕ) {r : Bool} → r ≡ well_formed case → not r ≡ false → 64 ≤ length case
unfolding well_formed
formed_head case {r} e t = leb-true 64 (length case) (both (leb 64 (length case)) _ (sym e ∙ not-false r t)).0

module _ (case : List ℕ) {r : Bool} (e : r ≡ well_formed case) {s : Seen} where
  pub replay_none : not r ≡ true → s ≡ malformed → s ≡ seen_of case
  unfolding seen_of check
  replay_none t p = rw (← e, not-true r t) p

  pub replay_seen : not r ≡ false → {n b : ℕ} → n ≡ word_at case 8 → b ≡ word_at case 16 → s ≡ seen_in case n b → s ≡ seen_of case
  unfolding seen_of check
  replay_seen t {n} {b} p q h = rw (← e, not-false r t, ← p, ← q) h
