-- The pattern while it is gathered: columns tried one by one, rows put one behind the other. Assumes nothing.
use Prim.Native.Nat.{ℕ, zero, suc, ◌+◌, ◌*◌, ◌-◌, ◌%◌, ◌<◌, ◌≤◌}
use mathlib.Core.Path.{◌≡◌, refl, sym, ap, ◌∙◌}
use mathlib.Core.Bool.{Bool, true, false, not, cond, ◌||◌}
use mathlib.Core.List.{List}
use native.Mathlib.Decide.{ℕ_discrete, le_ind}
use native.Mathlib.Numerals.{add-one}
use native.Mathlib.Omega.{arith}
use lib.Dec.{eqb, ltb}
use lib.ListN.{get_or, set, length, length-set}
use lib.Seq.{get_or-set_same, get_or-set_other}
use borrow.Author.Tests.{lt-ltb, le-ltb, ltb-true, ltb-false}
use Rattle.std.specs.Prelude.{Result, Ok, Err}
use Rattle.loops.specs.Run.{Run, going, ended, check}
use Rattle.loops.proofs.Inverse.{apart as never}
use Rattle.sparse.specs.Kept.{start, Missing}
use Rattle.pairs.specs.Pairs.{row_pairs, pair_count}
use Rattle.pairs.specs.Pattern.{starts_in, columns_in}
use Rattle.pairs.specs.Gather.{shares_in, any_share, eight_apart, share_in, tried_of, tried_columns, Begin, Part, RowPart, RowDone, Stored, Gathering, gather_run}
use Rattle.pairs.proofs.Parted.{rest_of, with_rest, starts_long, columns_long, starts_set, columns_stay, columns_lent, starts_stay, columns_come}
use Rattle.refusals.specs.declared.Refusal.{Refusal}
use Rattle.refusals.specs.Told.{told}

-- ---- counting

row_mono : (share : ℕ → ℕ → Bool) (i m n : ℕ) → m ≤ n → row_pairs share i m ≤ row_pairs share i n
unfolding row_pairs
row_mono share i m n h = le_ind (λ k. row_pairs share i m ≤ row_pairs share i k) (omega arith) (λ k _ ih. omega arith) n h

pub count_mono : (share : ℕ → ℕ → Bool) (m n : ℕ) → m ≤ n → pair_count share m ≤ pair_count share n
unfolding pair_count
count_mono share m n h = le_ind (λ k. pair_count share m ≤ pair_count share k) (omega arith) (λ k _ ih. omega arith) n h

row_yes : (share : ℕ → ℕ → Bool) (i m : ℕ) → share i m ≡ true → row_pairs share i (m + 1) ≡ row_pairs share i m + 1
unfolding row_pairs
row_yes share i m e = rw (add-one m, e)

row_past : (share : ℕ → ℕ → Bool) (i m n : ℕ) → m ≤ n → ((k : ℕ) → m ≤ k → k < n → share i k ≡ false) → row_pairs share i n ≡ row_pairs share i m
unfolding row_pairs
row_past share i m n h = le_ind (λ n. ((k : ℕ) → m ≤ k → k < n → share i k ≡ false) → row_pairs share i n ≡ row_pairs share i m) (λ e. refl) (λ k l ih e. rw (e k l (omega arith)) (omega (arith, ih (λ q q1 q2. e q q1 (omega arith))))) n h

-- ---- a part of a row
module _ {share : ℕ → ℕ → Bool} where
  part_none : (columns : List ℕ) (i a : ℕ) → Part share columns i a a 0
  unfolding row_pairs
  part_none columns i a = record {
    rising = record { forward = omega arith; below = λ q q1 q2. absurd (omega arith); ascending = λ p q p1 p2 p3. absurd (omega arith) };
    right = λ q q1 q2. absurd (omega arith);
    all = λ k h _. absurd (omega arith);
    counted = omega arith;
  }

  -- columns that share nothing are passed over
  part_past : {columns : List ℕ} {i a b m : ℕ} (n : ℕ) → m ≤ n → Part share columns i a b m → ((k : ℕ) → m ≤ k → k < n → share i k ≡ false) → Part share columns i a b n
  part_past {columns} {i} {a} {b} {m} n l h e = record {
    rising = record { forward = h.rising.forward; below = λ q q1 q2. omega (arith, h.rising.below q q1 q2); ascending = h.rising.ascending };
    right = h.right;
    all = λ k lt g. at k lt g (ltb k m) refl;
    counted = h.counted ∙ ap (λ x. a + x) (sym (row_past share i m n l e));
  }
    where
      at : (k : ℕ) → k < n → Missing columns a b k → (t : Bool) → ltb k m ≡ t → share i k ≡ false
      at k lt g true t = h.all k (ltb-true k m t) g
      at k lt g false t = e k (ltb-false k m t) lt

  -- what stands behind a part does not matter to it
  part_frame : {columns : List ℕ} (columns' : List ℕ) {i a b m : ℕ} → Part share columns i a b m → ((q : ℕ) → q < b → get_or columns' q 0 ≡ get_or columns q 0) → Part share columns' i a b m
  part_frame {columns} columns' {i} {a} {b} {m} h col = record {
    rising = record { forward = h.rising.forward; below = λ q q1 q2. rw (col q q2) (h.rising.below q q1 q2); ascending = λ s t s1 s2 s3. rw (col s (omega arith), col t s3) (h.rising.ascending s t s1 s2 s3) };
    right = λ q q1 q2. rw (col q q2) (h.right q q1 q2);
    all = λ k lt g. h.all k lt (record { nowhere = λ q q1 q2 e. g.nowhere q q1 q2 (col q q2 ∙ e) });
    counted = h.counted;
  }

  part_more : {columns : List ℕ} {i a b m : ℕ} → Part share columns i a b m → share i m ≡ true → b < length columns → Part share (set columns b m) i a (b + 1) (m + 1)
  part_more {columns} {i} {a} {b} {m} h e lc = record {
    rising = record { forward = omega (arith, h.rising.forward); below = λ q q1 q2. below q q1 q2 (ℕ_discrete q b); ascending = λ s t s1 s2 s3. up s t s1 s2 s3 (ℕ_discrete t b) };
    right = λ q q1 q2. right q q1 q2 (ℕ_discrete q b);
    all = λ k lt g. all k lt g (ℕ_discrete k m);
    counted = omega (arith, h.counted, row_yes share i m e);
  }
    where
      old : Part share (set columns b m) i a b m
      old = part_frame (set columns b m) h (λ q q2. get_or-set_other columns b q m 0 (λ z. omega arith))

      new : (q : ℕ) → q ≡ b → get_or (set columns b m) q 0 ≡ m
      new q z = rw z (get_or-set_same columns b m 0 lc)

      below : (q : ℕ) → a ≤ q → q < b + 1 → Dec (q ≡ b) → get_or (set columns b m) q 0 < m + 1
      below q q1 q2 (yes z) = omega (arith, new q z)
      below q q1 q2 (no z) = omega (arith, old.rising.below q q1 (omega arith))

      up : (s t : ℕ) → a ≤ s → s < t → t < b + 1 → Dec (t ≡ b) → get_or (set columns b m) s 0 < get_or (set columns b m) t 0
      up s t s1 s2 s3 (yes z) = omega (arith, new t z, old.rising.below s s1 (omega arith))
      up s t s1 s2 s3 (no z) = old.rising.ascending s t s1 s2 (omega arith)

      right : (q : ℕ) → a ≤ q → q < b + 1 → Dec (q ≡ b) → share i (get_or (set columns b m) q 0) ≡ true
      right q q1 q2 (yes z) = rw (new q z) e
      right q q1 q2 (no z) = old.right q q1 (omega arith)

      all : (k : ℕ) → k < m + 1 → Missing (set columns b m) a (b + 1) k → Dec (k ≡ m) → share i k ≡ false
      all k lt g (yes z) = absurd (g.nowhere b h.rising.forward (omega arith) (new b refl ∙ sym z))
      all k lt g (no z) = old.all k (omega arith) (record { nowhere = λ q q1 q2 w. g.nowhere q q1 (omega arith) w })

  -- ---- a turn of `gather_row`
  turn : {columns₀ columns : List ℕ} {i a p m room q : ℕ} (s t : Bool) → share i m ≡ s → ltb p room ≡ t → RowPart share columns₀ columns i a p m → room ≡ length columns₀
      → ◌≡◌ {A = Run ℕ ℕ} (cond s (check t (going (p + 1)) (ended 10)) (going p)) (going q) → RowPart share columns₀ (cond s (check t (set columns p m) columns) columns) i a q (m + 1)
  unfolding check
  turn {p = p} {m = m} {q = q} false t e el h l d = let u : p ≡ q = cc in rw (← u) (record { long = h.long; before = h.before; part = part_past (m + 1) (omega arith) h.part (λ k k1 k2. let z : k ≡ m = omega arith in rw z e); room = h.room })
  turn {p = p} {room = room} {q = q} true false e el h l d = absurd (let z : ◌≡◌ {A = ℕ} 0 1 = cc in omega arith)
  turn {columns₀} {columns} {p = p} {m = m} {room = room} {q = q} true true e el h l d =
      let u : p + 1 ≡ q = cc in
      let lt : p < room = ltb-true p room el in
      rw (← u) (record {
        long = length-set columns p m ∙ h.long;
        before = λ k b. get_or-set_other columns p k m 0 (λ z. omega (arith, h.part.rising.forward)) ∙ h.before k b;
        part = part_more h.part e (omega (arith, h.long));
        room = rw length-set (omega (arith, h.long));
      })

  spilled : {columns₀ columns : List ℕ} {i a p m room n : ℕ} (s t : Bool) → share i m ≡ s → ltb p room ≡ t → RowPart share columns₀ columns i a p m → m < i
      → ◌≡◌ {A = Run ℕ ℕ} (cond s (check t (going (p + 1)) (ended 10)) (going p)) (ended n) → (n ≡ 10) × (room < a + row_pairs share i i)
  unfolding check
  spilled false t e el h l d = absurd (let z : ◌≡◌ {A = ℕ} 0 1 = cc in omega arith)
  spilled true true e el h l d = absurd (let z : ◌≡◌ {A = ℕ} 0 1 = cc in omega arith)
  spilled {i = i} {p = p} {m = m} {room = room} {n = n} true false e el h l d =
      (cc, omega (arith, ltb-false p room el, h.part.counted, row_yes share i m e, row_mono share i (m + 1) i (omega arith)))

-- the bodies of row i
pub record Bodies (links : List ℕ) (i a b : ℕ) : Type 0 where
  pub a_is : a ≡ get_or links (2 * i) 0
  pub b_is : b ≡ get_or links (2 * i + 1) 0

pub bodies_of : (links : List ℕ) (i w : ℕ) → w ≡ i → Bodies links i (get_or links (2 * w) 0) (get_or links (2 * w + 1) 0)
bodies_of links i w e = rw e (record { a_is = refl; b_is = refl })

shares_same : (links : List ℕ) (i a b j : ℕ) → Bodies links i a b → share_in links i j ≡ shares_in links a b j
unfolding share_in
shares_same links i a b j h = rw (h.a_is, h.b_is)

pub row_begin : (links columns : List ℕ) (i from first : ℕ) → first ≤ length columns → Begin (share_in links) i from → RowPart (share_in links) columns columns i first first from
row_begin links columns i from first l h = record {
  long = refl;
  before = λ q _. refl;
  part = part_past from (omega arith) (part_none columns i first) (λ k _ k2. h.none k k2);
  room = l;
}

module _ (links columns₀ columns : List ℕ) (i a b first p m room : ℕ) (r : Result ℕ Refusal) (h : RowPart (share_in links) columns₀ columns i first p m) (z : Bodies links i a b)
    (e : told r ≡ tried_of (shares_in links a b m) room p) where
  pub row_more : (columns' : List ℕ) (q : ℕ) → room ≡ length columns₀ → columns' ≡ tried_columns (shares_in links a b m) room columns p m → r ≡ Ok q → RowPart (share_in links) columns₀ columns' i first q (m + 1)
  unfolding tried_of tried_columns
  row_more columns' q l ec t = rw ec (turn (shares_in links a b m) (ltb p room) (shares_same links i a b m z) refl h l (sym e ∙ ap told t))

  pub row_full : (columns' : List ℕ) {x : Refusal} → m < i → r ≡ Err x → (r' : Result ℕ Refusal) → r' ≡ Err x → RowDone (told r') (share_in links) columns₀ columns' i first room
  unfolding tried_of
  row_full columns' l t r' t' = record {
    done = λ q u. absurd (never _ u (ap told t'));
    full = λ n u. spilled (shares_in links a b m) (ltb p room) (shares_same links i a b m z) refl h l (sym e ∙ ap told (t ∙ sym t') ∙ u);
  }

-- ---- eight columns passed over
or_none : (x y : Bool) → (x || y) ≡ false → (x ≡ false) × (y ≡ false)
or_none false y e = (refl, e)
or_none true y e = absurd (let v : ◌≡◌ {A = ℕ} 0 1 = cc in omega arith)

any_none : (links : List ℕ) (a b j c : ℕ) → any_share links a b j c ≡ false → (k : ℕ) → j ≤ k → k < j + c → shares_in links a b k ≡ false
unfolding any_share
any_none links a b j zero e k l u = absurd (omega arith)
any_none links a b j (suc c) e k l u =
    let (x, y) = or_none (any_share links a b j c) (shares_in links a b (j + c)) e in
    at y (λ v. any_none links a b j c x k l v) (ℕ_discrete k (j + c))
  where
    at : shares_in links a b (j + c) ≡ false → (k < j + c → shares_in links a b k ≡ false) → Dec (k ≡ j + c) → shares_in links a b k ≡ false
    at y f (yes z) = rw z y
    at y f (no z) = f (omega arith)

pub eight_long : (i m : ℕ) → (not (eqb (m % 8) 0) || ltb (i - m) 8) ≡ false → 8 ≤ i - m
eight_long i m e = ltb-false (i - m) 8 (or_none (not (eqb (m % 8) 0)) (ltb (i - m) 8) e).1

module _ (links : List ℕ) (i a b m : ℕ) where
  pub eight_few : (not (eqb (m % 8) 0) || ltb (i - m) 8) ≡ true → false ≡ eight_apart links i a b m
  unfolding eight_apart
  eight_few l = rw l

  pub eight_more : (w : ℕ) (r s : Bool) → w ≡ m → (not (eqb (m % 8) 0) || ltb (i - m) 8) ≡ false → r ≡ any_share links a b w 4 → s ≡ any_share links a b (w + 4) 4 → not (r || s) ≡ eight_apart links i a b m
  unfolding eight_apart
  eight_more w r s ew l e f = rw (l, ← ew, e, f)

  apart_test : (s t : Bool) → (not (eqb (m % 8) 0) || ltb (i - m) 8) ≡ s → (any_share links a b m 4 || any_share links a b (m + 4) 4) ≡ t → eight_apart links i a b m ≡ true → (s ≡ false) × (t ≡ false)
  unfolding eight_apart
  apart_test s t es et e = both s t (rw (es, et) at e)
    where
      both : (s t : Bool) → cond s false (not t) ≡ true → (s ≡ false) × (t ≡ false)
      both true t e = absurd (let v : ◌≡◌ {A = ℕ} 0 1 = cc in omega arith)
      both false true e = absurd (let v : ◌≡◌ {A = ℕ} 0 1 = cc in omega arith)
      both false false e = (refl, refl)

  module _ (r : Bool) (e : r ≡ eight_apart links i a b m) (t : r ≡ true) where
    test : ((not (eqb (m % 8) 0) || ltb (i - m) 8) ≡ false) × ((any_share links a b m 4 || any_share links a b (m + 4) 4) ≡ false)
    test = apart_test (not (eqb (m % 8) 0) || ltb (i - m) 8) (any_share links a b m 4 || any_share links a b (m + 4) 4) refl refl (sym e ∙ t)

    pub eight_within : m + 8 ≤ i
    eight_within = let l = eight_long i m test.0 in omega arith

    apart : (k : ℕ) → m ≤ k → k < m + 8 → shares_in links a b k ≡ false
    apart k l u = at (ltb k (m + 4)) refl (or_none (any_share links a b m 4) (any_share links a b (m + 4) 4) test.1)
      where
        at : (x : Bool) → ltb k (m + 4) ≡ x → (any_share links a b m 4 ≡ false) × (any_share links a b (m + 4) 4 ≡ false) → shares_in links a b k ≡ false
        at true x both = any_none links a b m 4 both.0 k l (ltb-true k (m + 4) x)
        at false x both = any_none links a b (m + 4) 4 both.1 k (ltb-false k (m + 4) x) (omega arith)

    pub row_eight : (columns₀ columns : List ℕ) (first p : ℕ) → Bodies links i a b → RowPart (share_in links) columns₀ columns i first p m → RowPart (share_in links) columns₀ columns i first p (m + 8)
    row_eight columns₀ columns first p z h = record { long = h.long; before = h.before; part = part_past (m + 8) (omega arith) h.part (λ k k1 k2. shares_same links i a b k z ∙ apart k k1 k2); room = h.room }

pub row_done : (links columns₀ columns : List ℕ) (i first p j room : ℕ) → RowPart (share_in links) columns₀ columns i first p j → j ≤ i → i ≤ j → RowDone (going p) (share_in links) columns₀ columns i first room
row_done links columns₀ columns i first p j room h l l' = let e : j ≡ i = omega arith in record {
  done = λ q u. let v : p ≡ q = cc in rw (← v) (rw e at h);
  full = λ n u. absurd (never _ refl u);
}

-- ---- rows behind one another
module _ {share : ℕ → ℕ → Bool} where
  stored_none : (starts columns : List ℕ) → 0 < length starts → Stored share (set starts 0 0) columns 0 0
  unfolding pair_count
  stored_none starts columns l = let e = get_or-set_same starts 0 0 0 l in record {
    begin = e;
    last = e;
    order = λ x y p q. let ex : x ≡ y = omega arith in rw ex (omega arith);
    parts = λ x h. absurd (omega arith);
    counted = refl;
    room = omega arith;
  }

  stored_more : {starts columns columns' : List ℕ} {i p b : ℕ} → Stored share starts columns i p → RowPart share columns columns' i p b i → i + 1 < length starts → Stored share (set starts (i + 1) b) columns' (i + 1) b
  unfolding pair_count
  stored_more {starts} {columns} {columns'} {i} {p} {b} h r l = record {
    begin = old 0 (omega arith) ∙ h.begin;
    last = new;
    order = λ x y xy yi. order x y xy yi (ℕ_discrete y (i + 1)) (ℕ_discrete x (i + 1));
    parts = λ x lt. parts x lt (ℕ_discrete x i);
    counted = rw (add-one i) (omega (arith, r.part.counted, h.counted));
    room = r.room;
  }
    where
      fresh : List ℕ
      fresh = set starts (i + 1) b

      old : (x : ℕ) → x < i + 1 → start fresh x ≡ start starts x
      old x lt = get_or-set_other starts (i + 1) x b 0 (λ e. omega arith)

      new : start fresh (i + 1) ≡ b
      new = get_or-set_same starts (i + 1) b 0 l

      order : (x y : ℕ) → x ≤ y → y ≤ i + 1 → Dec (y ≡ i + 1) → Dec (x ≡ i + 1) → start fresh x ≤ start fresh y
      order x y xy yi (yes e) (yes z) = rw (e, z) (omega arith)
      order x y xy yi (yes e) (no z) = rw (e, new, old x (omega arith)) (omega (arith, h.order x i (omega arith) (omega arith), h.last, r.part.rising.forward))
      order x y xy yi (no e) z = rw (old x (omega arith), old y (omega arith)) (h.order x y xy (omega arith))

      parts : (x : ℕ) → x < i + 1 → Dec (x ≡ i) → Part share columns' x (start fresh x) (start fresh (x + 1)) x
      parts x lt (yes z) = rw (z, new, old i (omega arith), h.last) r.part
      parts x lt (no z) = rw (old x lt, old (x + 1) (omega arith))
          (part_frame columns' (h.parts x (omega arith)) (λ q q2. r.before q (omega (arith, h.order (x + 1) i (omega arith) (omega arith), h.last))))

  -- ---- the ways through `gather_rows`; w is n in 64 bits
  pub rows_none : (n room : ℕ) (pattern : List ℕ) → length pattern ≡ n + 1 + room → Stored share (starts_in n (set pattern 0 0)) (columns_in n (set pattern 0 0)) 0 0
  rows_none n room pattern long =
      rw (starts_set n 0 0 pattern (omega arith), columns_stay n 0 0 pattern (omega arith)) (stored_none (starts_in n pattern) (columns_in n pattern) (omega (arith, starts_long n pattern (omega arith))))

  module _ (n w i p room : ℕ) (ew : w ≡ n) (pattern : List ℕ) (h : Stored share (starts_in n pattern) (columns_in n pattern) i p) (long : length pattern ≡ n + 1 + room) where
    pub rows_within : p ≤ room
    rows_within = omega (arith, h.room, columns_long n room pattern long)

    module _ (columns : List ℕ) (r : Result ℕ Refusal) (d : RowDone (told r) share (rest_of (w + 1) pattern) columns i p room) where
      pub rows_more : (pattern' : List ℕ) (q : ℕ) → i < n → pattern' ≡ set (with_rest (w + 1) pattern columns) (i + 1) q → r ≡ Ok q → Stored share (starts_in n pattern') (columns_in n pattern') (i + 1) q
      rows_more pattern' q l e t =
          let row : RowPart share (columns_in n pattern) columns i p q i = rw (columns_lent w n ew pattern) at (d.done q (ap told t)) in
          rw (e, starts_set n (i + 1) q (with_rest (w + 1) pattern columns) (omega arith), columns_stay n (i + 1) q (with_rest (w + 1) pattern columns) (omega arith), starts_stay w n ew pattern columns (omega arith), columns_come w n ew pattern columns (omega arith))
          (stored_more h row (omega (arith, starts_long n pattern (omega arith))))

      pub rows_full : (starts' columns' : List ℕ) {x : Refusal} → i < n → r ≡ Err x → (r' : Result ℕ Refusal) → r' ≡ Err x → Gathering (told r') share starts' columns' n room
      unfolding pair_count gather_run
      rows_full starts' columns' l t r' t' =
          let spill = d.full _ (ap told t) in
          let past : room < pair_count share n = omega (arith, spill.1, h.counted, count_mono share (suc i) n (omega arith)) in
          record {
            done = λ k u. absurd (never _ u (ap told t'));
            full = λ _ _. past;
            told = rw (lt-ltb room (pair_count share n) past) (ap ended (sym spill.0) ∙ sym (ap told t'));
          }

  pub rows_end : (starts columns : List ℕ) (i n room p : ℕ) → Stored share starts columns i p → length columns ≡ room → i ≤ n → n ≤ i → Gathering (going p) share starts columns n room
  unfolding gather_run
  rows_end starts columns i n room p h long l l' =
      let e : i ≡ n = omega arith in
      let all : pair_count share n ≡ p = ap (pair_count share) (sym e) ∙ sym h.counted in
      let fits : pair_count share n ≤ room = omega (arith, h.room, all) in
      record {
        done = λ k u. let v : p ≡ k = cc in rw (← v) (rw e at h);
        full = λ _ u. absurd (never _ refl u);
        told = rw (le-ltb room (pair_count share n) fits, all);
      }
