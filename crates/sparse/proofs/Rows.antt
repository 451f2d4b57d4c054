-- Reading and writing one place of the flat slices, as the triangle that they keep sees it. Assumes nothing.
use Prim.Native.Nat.{ℕ, zero, suc, ◌+◌, ◌-◌, ◌<◌, ◌≤◌}
use mathlib.Core.Path.{◌≡◌, refl, ap, fun_ext}
use mathlib.Core.Bool.{Bool, true, false, ◌&&◌, cond}
use mathlib.Core.List.{List}
use mathlib.Core.Option.{Option, none, some}
use native.Mathlib.Decide.{dec_le}
use native.Mathlib.Omega.{arith}
use borrow.Author.Tests.{eq-eqb, ne_eqb, eqb-true, eqb-false}
use lib.Dec.{eqb}
use lib.ListN.{get_or, set, length, get_or-eq_default}
use lib.Seq.{get_or-set_same, get_or-set_other}
use lib.Ieee.{Float, nan}
use Rattle.sparse.specs.Triangle.{put}
use Rattle.sparse.specs.Kept.{Rising, Missing, start, Kept, Row, seek, pick, numbers}

module _ {l : List ℕ} {a b n : ℕ} (r : Rising l a b n) where
  seek_hit : (p c : ℕ) → a ≤ p → p < a + c → a + c ≤ b → seek l (get_or l p 0) a c ≡ some p
  unfolding seek
  seek_hit p zero p1 p2 p3 = absurd (omega arith)
  seek_hit p (suc c) p1 p2 p3 = by_place (dec_le (a + c) p) (λ h. seek_hit p c p1 h (omega arith))
    where
      by_place : Dec (a + c ≤ p) → (p < a + c → seek l (get_or l p 0) a c ≡ some p) → cond (eqb (get_or l (a + c) 0) (get_or l p 0)) (some (a + c)) (seek l (get_or l p 0) a c) ≡ some p
      by_place (yes g) ih = let e : a + c ≡ p = omega arith in rw (e, eq-eqb (get_or l p 0) (get_or l p 0) refl)
      by_place (no g) ih = rw (ne_eqb (get_or l (a + c) 0) (get_or l p 0) (λ e. omega (arith, r.ascending p (a + c) p1 (omega arith) (omega arith)))) (ih (omega arith))

seek_miss : (l : List ℕ) (a b k c : ℕ) → Missing l a b k → a + c ≤ b → seek l k a c ≡ none
unfolding seek
seek_miss l a b k zero m h = refl
seek_miss l a b k (suc c) m h = rw (ne_eqb (get_or l (a + c) 0) k (m.nowhere (a + c) (omega arith) (omega arith))) (seek_miss l a b k c m (omega arith))

pub seek_found : (l : List ℕ) (k a c q : ℕ) → seek l k a c ≡ some q → (a ≤ q) × ((q < a + c) × (get_or l q 0 ≡ k))
unfolding seek
seek_found l k a zero q h = absurd (let z : ◌≡◌ {A = ℕ} 0 1 = cc in omega arith)
seek_found l k a (suc c) q h = by_test (eqb (get_or l (a + c) 0) k) refl h (seek_found l k a c q)
  where
    by_test : (t : Bool) → eqb (get_or l (a + c) 0) k ≡ t → cond t (some (a + c)) (seek l k a c) ≡ some q → (seek l k a c ≡ some q → (a ≤ q) × ((q < a + c) × (get_or l q 0 ≡ k)))
        → (a ≤ q) × ((q < a + suc c) × (get_or l q 0 ≡ k))
    by_test true e g ih = let u : a + c ≡ q = cc in (omega arith, (omega arith, rw u at (eqb-true (get_or l (a + c) 0) k e)))
    by_test false e g ih = let u = ih g in (u.0, (omega arith, u.1.1))

seek_gone : (l : List ℕ) (k a c q : ℕ) → seek l k a c ≡ none → a ≤ q → q < a + c → get_or l q 0 ≡ k → ⊥
unfolding seek
seek_gone l k a zero q h q1 q2 e = omega arith
seek_gone l k a (suc c) q h q1 q2 e = by_test (eqb (get_or l (a + c) 0) k) refl h (λ g lt. seek_gone l k a c q g q1 lt e)
  where
    by_test : (t : Bool) → eqb (get_or l (a + c) 0) k ≡ t → cond t (some (a + c)) (seek l k a c) ≡ none → (seek l k a c ≡ none → q < a + c → ⊥) → ⊥
    by_test true et g ih = let z : ◌≡◌ {A = ℕ} 0 1 = cc in omega arith
    by_test false et g ih = at (dec_le (a + c) q)
      where
        at : Dec (a + c ≤ q) → ⊥
        at (yes w) = let z : q ≡ a + c = omega arith in eqb-false (get_or l (a + c) 0) k et (rw z at e)
        at (no w) = ih g (omega arith)

pub seek_none : (l : List ℕ) (a b k : ℕ) → seek l k a (b - a) ≡ none → Missing l a b k
seek_none l a b k h = record { nowhere = λ q q1 q2 e. seek_gone l k a (b - a) q h q1 (omega arith) e }

pub row_of : (starts columns : List ℕ) (i a b : ℕ) → Kept starts columns → i + 1 < length starts → a ≡ start starts i → b ≡ start starts (i + 1) → Row starts columns i a b
row_of starts columns i a b k h p q = rw (p, q) (record { kept = k; one = h; from = refl; to = refl; rising = k.row i h; inside = k.inside (i + 1) })

module _ {starts columns : List ℕ} {i a b : ℕ} (row : Row starts columns i a b) where
  -- a place is in one row only
  pub one_row : (x p : ℕ) → a ≤ p → p < b → start starts x ≤ p → p < start starts (x + 1) → x ≡ i
  one_row x p p1 p2 p3 p4 = by_order (dec_le (x + 1) i) (dec_le (i + 1) x)
    where
      known : Dec (length starts ≤ x + 1) → x + 1 < length starts
      known (yes g) = absurd (omega (arith, get_or-eq_default starts 0 {n = x + 1} g))
      known (no g) = omega arith

      by_order : Dec (x + 1 ≤ i) → Dec (i + 1 ≤ x) → x ≡ i
      by_order (yes g) o = absurd (omega (arith, row.kept.order (x + 1) i g (let u = row.one in omega arith), row.from))
      by_order (no g) (yes g') = absurd (omega (arith, row.kept.order (i + 1) x g' (let u = known (dec_le (length starts) (x + 1)) in omega arith), row.to))
      by_order (no g) (no g') = omega arith

  found : (p : ℕ) → a ≤ p → p < b → seek columns (get_or columns p 0) (start starts i) (start starts (i + 1) - start starts i) ≡ some p
  found p p1 p2 = rw (← row.from, ← row.to) (seek_hit row.rising p (b - a) p1 (omega arith) (omega arith))

  pub numbers_some : (values : List Float) (p : ℕ) → a ≤ p → p < b → numbers starts columns values i (get_or columns p 0) ≡ some (get_or values p nan)
  unfolding numbers pick
  numbers_some values p p1 p2 = rw (found p p1 p2)

  pub numbers_none : (values : List Float) (k : ℕ) → Missing columns a b k → numbers starts columns values i k ≡ none
  unfolding numbers pick
  numbers_none values k m = rw (← row.from, ← row.to, seek_miss columns a b k (b - a) m (omega (arith, row.rising.forward)))

  pub numbers_set : (values : List Float) (p : ℕ) (x : Float) → a ≤ p → p < b → p < length values
      → numbers starts columns (set values p x) ≡ put (numbers starts columns values) i (get_or columns p 0) x
  unfolding numbers pick put
  numbers_set values p x p1 p2 p3 = fun_ext (λ y. fun_ext (λ z. at y z (eqb y i) refl (eqb z (get_or columns p 0)) refl))
    where
      place : ℕ → ℕ → Option ℕ
      place y z = seek columns z (start starts y) (start starts (y + 1) - start starts y)

      other : (o : Option ℕ) → ((q : ℕ) → o ≡ some q → q ≡ p → ⊥) → pick (set values p x) o ≡ pick values o
      other none g = refl
      other (some q) g = ap some (get_or-set_other values p q x nan (g q refl))

      apart : (y z q : ℕ) → (y ≡ i → z ≡ get_or columns p 0 → ⊥) → place y z ≡ some q → q ≡ p → ⊥
      apart y z q g f u = let w = seek_found columns z (start starts y) (start starts (y + 1) - start starts y) q f in
          g (one_row y p p1 p2 (omega (arith, w.0)) (omega (arith, w.1.0))) (cc w.1.1)

      at : (y z : ℕ) (s : Bool) → eqb y i ≡ s → (t : Bool) → eqb z (get_or columns p 0) ≡ t
          → pick (set values p x) (place y z) ≡ cond (eqb y i && eqb z (get_or columns p 0)) (some x) (pick values (place y z))
      at y z true e1 true e2 = let u : place y z ≡ some p = rw (eqb-true y i e1, eqb-true z (get_or columns p 0) e2) (found p p1 p2) in
          rw (e1, e2, u) (ap some (get_or-set_same values p x nan p3))
      at y z true e1 false e2 = rw (e1, e2) (other (place y z) (λ q f. apart y z q (λ _. eqb-false z (get_or columns p 0) e2) f))
      at y z false e1 t e2 = rw e1 (other (place y z) (λ q f. apart y z q (λ w _. eqb-false y i e1 w) f))
