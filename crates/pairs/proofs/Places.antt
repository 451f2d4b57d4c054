-- The values of the pairs at their places, and what the slices then keep: the triangle of pairs, with refusals 10 and 12 where document 01 has them. Assumes nothing.
use Prim.Native.Nat.{ℕ, zero, suc, ◌+◌, ◌*◌, ◌-◌, ◌/◌, ◌<◌, ◌≤◌}
use mathlib.Core.Path.{◌≡◌, refl, sym, ap, ◌∙◌, fun_ext}
use mathlib.Core.Bool.{Bool, true, false, not, ◌&&◌, ◌||◌, cond, true≢false}
use mathlib.Core.List.{List}
use mathlib.Core.Option.{Option, none, some}
use native.Mathlib.Decide.{ℕ_discrete, dec_le}
use native.Mathlib.Numerals.{add-one}
use native.Mathlib.Omega.{arith}
use lib.Dec.{eqb, ltb}
use lib.ListN.{get_or, set, length, take, get_or-eq_default}
use lib.Seq.{get_or-set_same, get_or-set_other}
use lib.Ieee.{Float, nan}
use lib.Ieee.Scale.{finite}
use borrow.Author.Tests.{lt-ltb, le-ltb, not-true, not-false, ltb-false}
use Rattle.std.specs.Prelude.{Result, Ok, Err}
use Rattle.loops.specs.Run.{going, ended, on, check}
use Rattle.loops.specs.Every.{every}
use Rattle.loops.specs.Cleared.{cleared_words}
use Rattle.loops.proofs.Every.{every_iff, every_same}
use Rattle.kapitsa_math.specs.declared.vector.Vec3.{Vec3}
use Rattle.kapitsa_joint.specs.Mass.{mass_of}
use Rattle.kapitsa_joint.specs.declared.row.RowJacobian.{RowJacobian}
use Rattle.kapitsa_joint.specs.declared.mass.SolverMass.{SolverMass}
use Rattle.compact_table.specs.Compact.{compact_of}
use Rattle.mass_operator.specs.System.{System, compact_system}
use Rattle.sparse.specs.Triangle.{Sparse}
use Rattle.sparse.specs.Kept.{start, Kept, Row, seek, pick, numbers}
use Rattle.sparse.proofs.Rows.{row_of, one_row, seek_found, seek_none, numbers_some}
use Rattle.sparse.proofs.Left.{free_past}
use Rattle.pairs.specs.Pairs.{shares_of, pattern_of, row_pairs, pair_count, pair_limit, pair_room, arm_of, cross_at, sum_of, pair_of, pairs_of, finite_pair, finite_pairs}
use Rattle.pairs.specs.Pattern.{starts_in, columns_in}
use Rattle.pairs.specs.Gather.{number_of, value_in, Valued, finite_below, shares_in, share_in, Stored, Gathering}
use Rattle.pairs.specs.Answers.{judged_pairs, pairs_run, paired_of, Collected, PairsHeld, PairsFree}
use Rattle.pairs.proofs.Parted.{rest_of, starts_long, columns_long, starts_lent, columns_lent, starts_cleared, columns_cleared}
use Rattle.refusals.specs.declared.Refusal.{Refusal}
use Rattle.refusals.specs.Told.{told}

-- ---- values, place by place
pub valued_none : (value : ℕ → ℕ → Float) (starts columns : List ℕ) (values : List Float) → Kept starts columns → Valued value starts columns values (start starts 0)
valued_none value starts columns values k = record { at = λ x q q1 q2 q3. absurd (omega (arith, k.begin)) }

module _ {starts columns : List ℕ} {i a b : ℕ} (row : Row starts columns i a b) (value : ℕ → ℕ → Float) where
  pub valued_first : (values : List Float) → Valued value starts columns values (start starts i) → Valued value starts columns values a
  valued_first values h = rw row.from h

  pub valued_last : (values : List Float) (p : ℕ) → Valued value starts columns values p → b ≤ p → Valued value starts columns values (start starts (i + 1))
  valued_last values p h l = record { at = λ x q q1 q2 q3. h.at x q q1 q2 (omega (arith, row.to)) }

  -- a row without pairs
  pub valued_empty : (values : List Float) → Valued value starts columns values (start starts i) → a ≡ b → Valued value starts columns values (start starts (i + 1))
  valued_empty values h e = valued_last values a (valued_first values h) (omega arith)

  pub valued_more : (values values' : List Float) (p j : ℕ) (v : Float) → Valued value starts columns values p → a ≤ p → p < b → length values ≡ length columns → j ≡ get_or columns p 0 → v ≡ value i j
      → values' ≡ set values p v → Valued value starts columns values' (p + 1)
  valued_more values values' p j v h p1 p2 l ej ev e = rw e (record { at = λ x q q1 q2 q3. go x q q1 q2 q3 (ℕ_discrete q p) })
    where
      go : (x q : ℕ) → start starts x ≤ q → q < start starts (x + 1) → q < p + 1 → Dec (q ≡ p) → get_or (set values p v) q nan ≡ value x (get_or columns q 0)
      go x q q1 q2 q3 (yes z) =
          let o : x ≡ i = one_row row x p p1 p2 (omega arith) (omega arith) in
          rw (z, o, ← ej, ← ev) (get_or-set_same values p v nan (omega (arith, row.inside)))
      go x q q1 q2 q3 (no z) = get_or-set_other values p q v nan z ∙ h.at x q q1 q2 (omega arith)

-- ---- and whether they are finite
pub fine_none : (starts columns : List ℕ) (values : List Float) → Kept starts columns → true ≡ finite_below values (start starts 0)
unfolding finite_below every
fine_none starts columns values k = rw k.begin

pub fine_end : (starts : List ℕ) (values : List Float) (i n : ℕ) (b : Bool) → b ≡ finite_below values (start starts i) → i ≤ n → n ≤ i → b ≡ finite_below values (start starts n)
fine_end starts values i n b h l l' = let e : i ≡ n = omega arith in rw e at h

check_and : (b t : Bool) → (b && t) ≡ check b t false
unfolding check
check_and true t = refl
check_and false t = refl

module _ {starts columns : List ℕ} {i a b : ℕ} (row : Row starts columns i a b) (values : List Float) (f : Bool) where
  pub fine_first : f ≡ finite_below values (start starts i) → f ≡ finite_below values a
  fine_first h = rw row.from h

  pub fine_last : (p : ℕ) → f ≡ finite_below values p → p ≤ b → b ≤ p → f ≡ finite_below values (start starts (i + 1))
  fine_last p h l l' = let e : p ≡ b = omega arith in rw (← row.to, ← e) h

  pub fine_empty : f ≡ finite_below values (start starts i) → a ≡ b → f ≡ finite_below values (start starts (i + 1))
  fine_empty h e = fine_last a (fine_first h) (omega arith) (omega arith)

  pub fine_more : (values' : List Float) (p : ℕ) (v : Float) (t : Bool) → f ≡ finite_below values p → p < b → length values ≡ length columns → t ≡ finite v → values' ≡ set values p v → (f && t) ≡ finite_below values' (p + 1)
  unfolding finite_below every
  fine_more values' p v t h l long et e =
      let below : f ≡ every (λ q. finite (get_or (set values p v) q nan)) p = h ∙ every_same _ _ p (λ q lq. ap finite (sym (get_or-set_other values p q v nan (λ z. absurd (omega arith))))) in
      let last : t ≡ finite (get_or (set values p v) p nan) = et ∙ ap finite (sym (get_or-set_same values p v nan (omega (arith, row.inside)))) in
      rw (e, add-one p) (check_and f t ∙ rw (← below, ← last) refl)

pub valued_end : (value : ℕ → ℕ → Float) (starts columns : List ℕ) (values : List Float) (i n : ℕ) → Valued value starts columns values (start starts i) → i ≤ n → n ≤ i → Valued value starts columns values (start starts n)
valued_end value starts columns values i n h l l' = let e : i ≡ n = omega arith in rw e at h

-- ---- a pair has a value exactly where its rows share a body
abbrev present : Option Float → Bool
present (some x) = true
present none = false

present_some : (o : Option Float) → present o ≡ true → o ≡ some (number_of o)
unfolding number_of
present_some (some x) h = refl
present_some none h = absurd (true≢false (sym h))

present_none : (o : Option Float) → present o ≡ false → o ≡ none
present_none (some x) h = absurd (true≢false h)
present_none none h = refl

present_sum : (x y : Option Float) → present (sum_of x y) ≡ (present x || present y)
unfolding sum_of
present_sum (some x) (some y) = refl
present_sum (some x) none = refl
present_sum none y = refl

present_arm : (m : SolverMass) (l a : Vec3) (q : RowJacobian) (body : ℕ) → present (cross_at m l a (arm_of q body)) ≡ (eqb q.body_a body || eqb q.body_b body)
unfolding cross_at arm_of
present_arm m l a q body = go (eqb q.body_a body) (eqb q.body_b body)
  where
    go : (s t : Bool) → present (cross_at m l a (cond s (some (q.linear_a, q.angular_a)) (cond t (some (q.linear_b, q.angular_b)) none))) ≡ (s || t)
    go true t = refl
    go false true = refl
    go false false = refl

present_pair : (mass : ℕ → SolverMass) (p q : RowJacobian) → present (pair_of mass p q) ≡ shares_of q p
unfolding pair_of shares_of
present_pair mass p q = present_sum A B ∙ rw (a, b) (mix (eqb q.body_a p.body_a) (eqb q.body_b p.body_a) (eqb q.body_a p.body_b) (eqb q.body_b p.body_b))
  where
    A : Option Float
    A = cross_at (mass p.body_a) p.linear_a p.angular_a (arm_of q p.body_a)

    B : Option Float
    B = cross_at (mass p.body_b) p.linear_b p.angular_b (arm_of q p.body_b)

    a : present A ≡ (eqb q.body_a p.body_a || eqb q.body_b p.body_a)
    a = present_arm (mass p.body_a) p.linear_a p.angular_a q p.body_a

    b : present B ≡ (eqb q.body_a p.body_b || eqb q.body_b p.body_b)
    b = present_arm (mass p.body_b) p.linear_b p.angular_b q p.body_b

    mix : (s t u v : Bool) → ((s || t) || (u || v)) ≡ ((s || u) || (t || v))
    mix true t u v = refl
    mix false true true v = refl
    mix false true false v = refl
    mix false false true v = refl
    mix false false false v = refl

-- ---- the slices keep the triangle
pub stored_kept : {share : ℕ → ℕ → Bool} {starts columns : List ℕ} {n p : ℕ} → Stored share starts columns n p → length starts ≡ n + 1 → Kept starts columns
stored_kept {share} {starts} {columns} {n} {p} h l = record {
  begin = h.begin;
  order = λ x y xy yl. h.order x y xy (omega arith);
  inside = λ x. inside x (dec_le x n);
  row = λ x xl. (h.parts x (omega arith)).rising;
}
  where
    inside : (x : ℕ) → Dec (x ≤ n) → start starts x ≤ length columns
    inside x (yes g) = omega (arith, h.order x n g (omega arith), h.last, h.room)
    inside x (no g) = omega (arith, get_or-eq_default starts 0 {n = x} (omega arith))

module _ (n bodies : ℕ) (jacobians : List Float) (links : List ℕ) (masses : List Float) (starts columns : List ℕ) (values : List Float) (p : ℕ)
    (h : Stored (share_in links) starts columns n p) (l : length starts ≡ n + 1) (v : Valued (value_in jacobians links masses) starts columns values (start starts n)) where
  s : System
  s = compact_system n bodies jacobians links masses

  pattern_same : pattern_of (compact_system n bodies jacobians links masses) ≡ share_in links
  unfolding pattern_of shares_of share_in shares_in compact_of
  pattern_same = fun_ext (λ i. fun_ext (λ j. refl))

  shared : (i j : ℕ) → present (pair_of (mass_of masses) (compact_of jacobians links j) (compact_of jacobians links i)) ≡ share_in links i j
  unfolding pattern_of
  shared i j = present_pair (mass_of masses) (compact_of jacobians links j) (compact_of jacobians links i) ∙ ap (λ (f : ℕ → ℕ → Bool). f i j) pattern_same

  stored_pairs : numbers starts columns values ≡ pairs_of (compact_system n bodies jacobians links masses)
  unfolding numbers pick pairs_of
  stored_pairs = fun_ext (λ i. fun_ext (λ j. at i j (dec_le n i) (seek columns j (start starts i) (start starts (i + 1) - start starts i)) refl))
    where
      at : (i j : ℕ) → Dec (n ≤ i) → (o : Option ℕ) → seek columns j (start starts i) (start starts (i + 1) - start starts i) ≡ o
          → pick values o ≡ cond (ltb i n && ltb j i) (pair_of (mass_of masses) (compact_of jacobians links j) (compact_of jacobians links i)) none
      at i j (yes g) none e = rw (le-ltb i n g)
      at i j (yes g) (some q) e =
          let w = seek_found columns j (start starts i) (start starts (i + 1) - start starts i) q e in
          absurd (omega (arith, w.0, w.1.0, get_or-eq_default starts 0 {n = i + 1} (omega arith)))
      at i j (no g) (some q) e =
          let w = seek_found columns j (start starts i) (start starts (i + 1) - start starts i) q e in
          let r = h.parts i (omega arith) in
          let u : q < start starts (i + 1) = omega (arith, w.1.0, w.0) in
          let lt : j < i = rw w.1.1 at (r.rising.below q w.0 u) in
          let t : share_in links i j ≡ true = rw w.1.1 at (r.right q w.0 u) in
          let x : get_or values q nan ≡ value_in jacobians links masses i j = rw w.1.1 at (v.at i q w.0 u (omega (arith, h.order (i + 1) n (omega arith) (omega arith)))) in
          rw (lt-ltb i n (omega arith), lt-ltb j i lt, x) (sym (present_some _ (shared i j ∙ t) ∙ ap some (unfold value_in in refl)))
      at i j (no g) none e = below (dec_le i j)
        where
          below : Dec (i ≤ j) → none ≡ cond (ltb i n && ltb j i) (pair_of (mass_of masses) (compact_of jacobians links j) (compact_of jacobians links i)) none
          below (yes u) = rw (lt-ltb i n (omega arith), le-ltb j i u)
          below (no u) =
              let t = (h.parts i (omega arith)).all j (omega arith) (seek_none columns (start starts i) (start starts (i + 1)) j e) in
              rw (lt-ltb i n (omega arith), lt-ltb j i (omega arith)) (sym (present_none _ (shared i j ∙ t)))

  collected : Collected (compact_system n bodies jacobians links masses) starts columns values
  collected = record { kept = stored_kept h l; pairs = stored_pairs; places = rw pattern_same (h.last ∙ h.counted) }

-- ---- all places are finite exactly where all pairs are
same_bool : (b c : Bool) → (b ≡ true → c ≡ true) → (c ≡ true → b ≡ true) → b ≡ c
same_bool true c f g = sym (f refl)
same_bool false true f g = g refl
same_bool false false f g = refl

module _ (L : Sparse) (starts columns : List ℕ) (values : List Float) (n : ℕ) (k : Kept starts columns) (l : length starts ≡ n + 1) (e : numbers starts columns values ≡ L) where
  home : (q m : ℕ) → m ≤ n → q < start starts m → (i : ℕ) × (i < m) × (start starts i ≤ q) × (q < start starts (i + 1))
  home q zero lm h = absurd (omega (arith, k.begin))
  home q (suc m) lm h = go (dec_le (start starts m) q) (home q m (omega arith))
    where
      go : Dec (start starts m ≤ q) → (q < start starts m → (i : ℕ) × (i < m) × (start starts i ≤ q) × (q < start starts (i + 1))) → (i : ℕ) × (i < suc m) × (start starts i ≤ q) × (q < start starts (i + 1))
      go (yes g) ih = (m, omega arith, g, rw (add-one m) h)
      go (no g) ih = let (i, a, b, c) = ih (omega arith) in (i, omega arith, b, c)

  finite_same : finite_below values (start starts n) ≡ finite_pairs L n
  unfolding finite_below finite_pairs finite_pair pick numbers
  finite_same = same_bool _ _ there back
    where
      pick_finite : (o : Option ℕ) → ((q : ℕ) → o ≡ some q → finite (get_or values q nan) ≡ true) → finite_pair (pick values o) ≡ true
      pick_finite none f = refl
      pick_finite (some q) f = f q refl

      there : every (λ q. finite (get_or values q nan)) (start starts n) ≡ true → every (λ i. every (λ j. finite_pair (L i j)) i) n ≡ true
      there a = (every_iff (λ i. every (λ j. finite_pair (L i j)) i) n).1 (λ i li. (every_iff (λ j. finite_pair (L i j)) i).1 (λ j lj. rw (← e)
          (pick_finite (seek columns j (start starts i) (start starts (i + 1) - start starts i)) (λ q s.
          let w = seek_found columns j (start starts i) (start starts (i + 1) - start starts i) q s in
          (every_iff (λ q. finite (get_or values q nan)) (start starts n)).0 a q (omega (arith, w.0, w.1.0, k.order (i + 1) n (omega arith) (omega arith)))))))

      back : every (λ i. every (λ j. finite_pair (L i j)) i) n ≡ true → every (λ q. finite (get_or values q nan)) (start starts n) ≡ true
      back a = (every_iff (λ q. finite (get_or values q nan)) (start starts n)).1 (λ q lq.
          let (i, li, q1, q2) = home q n (omega arith) lq in
          let row = row_of starts columns i (start starts i) (start starts (i + 1)) k (omega arith) refl refl in
          let o : L i (get_or columns q 0) ≡ some (get_or values q nan) = ap (λ (f : Sparse). f i (get_or columns q 0)) (sym e) ∙ numbers_some row values q q1 q2 in
          rw o at ((every_iff (λ j. finite_pair (L i j)) i).0 ((every_iff (λ i. every (λ j. finite_pair (L i j)) i) n).0 a i li) (get_or columns q 0) (row.rising.below q q1 q2)))

-- ---- refusal 10: the room is full exactly where the limit is passed

row_few : (share : ℕ → ℕ → Bool) (i m : ℕ) → row_pairs share i m ≤ m
unfolding row_pairs
row_few share i zero = omega arith
row_few share i (suc m) = go (share i m) (row_few share i m)
  where
    go : (b : Bool) → row_pairs share i m ≤ m → row_pairs share i m + cond b 1 0 ≤ suc m
    go true h = omega arith
    go false h = omega arith

-- twice the pairs of n rows are at most n * (n - 1)
few_more : (share : ℕ → ℕ → Bool) (n : ℕ) → 2 * pair_count share (suc n) ≤ suc n * n
unfolding pair_count
few_more share zero = omega (arith, row_few share 0 0)
few_more share (suc n) =
    let a = few_more share n in
    let b = row_few share (suc n) (suc n) in
    let c : suc (suc n) * suc n ≡ suc n * n + 2 * suc n = omega arith in
    omega arith

few : (share : ℕ → ℕ → Bool) (n : ℕ) → 2 * pair_count share n ≤ n * (n - 1)
unfolding pair_count
few share zero = omega arith
few share (suc n) = let e : suc n - 1 ≡ n = omega arith in rw e (few_more share n)

pub within_limit : (share : ℕ → ℕ → Bool) (n : ℕ) → pair_count share n ≤ pair_room n → pair_count share n ≤ pair_limit
unfolding pair_room
within_limit share n h = go (ltb pair_limit (n * (n - 1) / 2)) (ltb-false pair_limit (n * (n - 1) / 2)) h
  where
    go : (t : Bool) → (t ≡ false → n * (n - 1) / 2 ≤ pair_limit) → pair_count share n ≤ cond t pair_limit (n * (n - 1) / 2) → pair_count share n ≤ pair_limit
    go true f b = b
    go false f b = omega (arith, f refl)

pub past_limit : (share : ℕ → ℕ → Bool) (n : ℕ) → pair_room n < pair_count share n → pair_limit < pair_count share n
unfolding pair_room
past_limit share n h = go (ltb pair_limit (n * (n - 1) / 2)) h
  where
    go : (t : Bool) → cond t pair_limit (n * (n - 1) / 2) < pair_count share n → pair_limit < pair_count share n
    go true b = b
    go false b = let f = few share n in absurd (omega arith)

-- ---- `fill`; w is n in 64 bits
pub valued_lent : (w n : ℕ) → w ≡ n → (value : ℕ → ℕ → Float) (pattern : List ℕ) (values : List Float) → Valued value (take (w + 1) pattern) (rest_of (w + 1) pattern) values (start (take (w + 1) pattern) w)
    → Valued value (starts_in n pattern) (columns_in n pattern) values (start (starts_in n pattern) n)
valued_lent w n ew value pattern values h = rw (starts_lent w n ew pattern, columns_lent w n ew pattern, ew) at h

pub fine_lent : (w n : ℕ) → w ≡ n → (pattern : List ℕ) (values : List Float) (b : Bool) → b ≡ finite_below values (start (take (w + 1) pattern) w) → b ≡ finite_below values (start (starts_in n pattern) n)
fine_lent w n ew pattern values b h = rw (starts_lent w n ew pattern, ew) at h

-- ---- the ways through `pairs`; pattern₀ is the pattern at entry
pub pairs_free : (rows count : ℕ) (pattern₀ pattern : List ℕ) (values₀ values : List Float) → length pattern ≡ length pattern₀ → length values ≡ length values₀ → PairsFree rows count pattern₀ pattern values₀ values
pairs_free rows count pattern₀ pattern values₀ values a b = record { columns_past = free_past (rows + 1 + count) pattern₀ pattern a; values_past = free_past count values₀ values b }

module _ {share : ℕ → ℕ → Bool} (n : ℕ) (pattern : List ℕ) (room : ℕ) (r : Result ℕ Refusal) (g : Gathering (told r) share (starts_in n pattern) (columns_in n pattern) n room)
    (pattern₀ : List ℕ) (same-long : length pattern ≡ length pattern₀) (long : length pattern₀ ≡ n + 1 + pair_room n) (c : ℕ) (t : r ≡ Ok c) where
  pub pairs_kept : Kept (starts_in n pattern) (columns_in n pattern)
  pairs_kept = stored_kept (g.done c (ap told t)) (starts_long n pattern (omega arith))

  pub pairs_room : c ≤ pair_room n
  pairs_room = omega (arith, (g.done c (ap told t)).room, columns_long n (pair_room n) pattern (omega arith))

module _ (n bodies : ℕ) (jacobians : List Float) (links : List ℕ) (masses : List Float) (pattern : List ℕ) (room : ℕ) (r : Result ℕ Refusal)
    (g : Gathering (told r) (share_in links) (starts_in n pattern) (columns_in n pattern) n room) (er : room ≡ pair_room n)
    (pattern₀ : List ℕ) (same-long : length pattern ≡ length pattern₀) (long : length pattern₀ ≡ n + 1 + pair_room n) where
  same : pattern_of (compact_system n bodies jacobians links masses) ≡ share_in links
  unfolding pattern_of shares_of share_in shares_in compact_of
  same = fun_ext (λ i. fun_ext (λ j. refl))

  pub pairs_ten : (pattern' : List ℕ) (values : List Float) {x : Refusal} → r ≡ Err x → pattern' ≡ cleared_words pattern
      → PairsHeld (compact_system n bodies jacobians links masses) (ended 10) values (starts_in n pattern') (columns_in n pattern') values
  unfolding paired_of pairs_run judged_pairs on
  pairs_ten pattern' values t e = record {
    answered = rw (same, lt-ltb pair_limit (pair_count (share_in links) n) (past_limit (share_in links) n (omega (arith, g.full _ (ap told t)))));
    ten = λ _. refl;
    ten_words = λ _. (starts_cleared n (pair_room n) pattern pattern' (omega arith) e, columns_cleared n (pair_room n) pattern pattern' (omega arith) e);
    twelve = λ e. absurd (let z : ◌≡◌ {A = ℕ} 10 12 = cc in omega arith);
    done = λ c e. absurd (let z : ◌≡◌ {A = ℕ} 0 1 = cc in omega arith);
  }

  module _ (values₀ values : List Float) (c : ℕ) (b : Bool) (t : r ≡ Ok c)
      (v : Valued (value_in jacobians links masses) (starts_in n pattern) (columns_in n pattern) values (start (starts_in n pattern) n)) (eb : b ≡ finite_below values (start (starts_in n pattern) n)) where
    held : Collected (compact_system n bodies jacobians links masses) (starts_in n pattern) (columns_in n pattern) values
    held = collected n bodies jacobians links masses (starts_in n pattern) (columns_in n pattern) values c (g.done c (ap told t)) (starts_long n pattern (omega arith)) v

    few_enough : ltb pair_limit (pair_count (share_in links) n) ≡ false
    few_enough = le-ltb pair_limit (pair_count (share_in links) n) (within_limit (share_in links) n (omega (arith, (g.done c (ap told t)).counted, pairs_room n pattern room r g pattern₀ same-long long c t)))

    judged : b ≡ finite_pairs (pairs_of (compact_system n bodies jacobians links masses)) n
    judged =
        eb
        ∙ finite_same (pairs_of (compact_system n bodies jacobians links masses)) (starts_in n pattern) (columns_in n pattern) values n (pairs_kept n pattern room r g pattern₀ same-long long c t) (starts_long n pattern (omega arith)) held.pairs

    pub pairs_twelve : not b ≡ true → PairsHeld (compact_system n bodies jacobians links masses) (ended 12) values₀ (starts_in n pattern) (columns_in n pattern) values
    unfolding paired_of pairs_run judged_pairs on check
    pairs_twelve f = record {
      answered = rw (same, few_enough, ← judged, not-true b f);
      ten = λ e. absurd (let z : ◌≡◌ {A = ℕ} 12 10 = cc in omega arith);
      ten_words = λ e. absurd (let z : ◌≡◌ {A = ℕ} 12 10 = cc in omega arith);
      twelve = λ _. held;
      done = λ c e. absurd (let z : ◌≡◌ {A = ℕ} 0 1 = cc in omega arith);
    }

    pub pairs_done : not b ≡ false → PairsHeld (compact_system n bodies jacobians links masses) (going c) values₀ (starts_in n pattern) (columns_in n pattern) values
    unfolding paired_of pairs_run judged_pairs on check
    pairs_done f = record {
      answered = rw (same, few_enough, ← judged, not-false b f, ← (g.done c (ap told t)).counted);
      ten = λ e. absurd (let z : ◌≡◌ {A = ℕ} 0 1 = cc in omega arith);
      ten_words = λ e. absurd (let z : ◌≡◌ {A = ℕ} 0 1 = cc in omega arith);
      twelve = λ e. absurd (let z : ◌≡◌ {A = ℕ} 0 1 = cc in omega arith);
      done = λ _ _. held;
    }
