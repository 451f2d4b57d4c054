-- `Grouped` leaves no choice: the numbers and their count are fixed by which rows belong together. Assumes nothing.
use Prim.Native.Nat.{ℕ, zero, suc, ◌<◌, ◌≤◌}
use mathlib.Core.Path.{◌≡◌, refl, sym, ◌∙◌}
use mathlib.Core.Bool.{Bool}
use mathlib.Core.List.{List}
use native.Mathlib.Omega.{arith}
use native.Mathlib.Decide.{dec_lt}
use borrow.Author.Count.{below_none, below_more}
use lib.ListN.{get_or}
use Rattle.groups.specs.Together.{Links, First, Grouped}

module _ (links : Links) (joining : ℕ → Bool) (rows : ℕ) (u v : List ℕ) (m n : ℕ) (p : Grouped links joining rows u m) (q : Grouped links joining rows v n) where
  -- a row's number, where those before it agree
  one : (i : ℕ) → i < rows → ((j : ℕ) → j < i → get_or u j 0 ≡ get_or v j 0) → get_or u i 0 ≡ get_or v i 0
  one i h before = let (f, r) = p.first (get_or u i 0) (p.below i h) in let (e, s) = q.first (get_or v i 0) (q.below i h) in go f r e s (dec_lt f i) (dec_lt (get_or u i 0) (get_or v i 0)) (dec_lt (get_or v i 0) (get_or u i 0))
    where
      -- where v has the higher number there, a row before i has u's number
      lower : (f : ℕ) → First u rows (get_or u i 0) f → (f < i → ⊥) → (e : ℕ) → First v rows (get_or v i 0) e → get_or u i 0 < get_or v i 0 → ⊥
      lower f r a e s l =
          let (j, t) = q.first (get_or u i 0) (omega (arith, q.below i h)) in
          let b : j < e = q.ordered (get_or u i 0) (get_or v i 0) j e l t s in
          early j t (dec_lt j i) (dec_lt i e) b
        where
          early : (j : ℕ) → First v rows (get_or u i 0) j → Dec (j < i) → Dec (i < e) → j < e → ⊥
          early j t (yes b) z c = r.none j (omega (arith, r.within)) (before j b ∙ t.here)
          early j t (no b) (yes z) c = s.none i z refl
          early j t (no b) (no z) c = omega arith

      -- where u has the higher number there, so has a row before i, that has v's
      higher : (f : ℕ) → First u rows (get_or u i 0) f → (f < i → ⊥) → get_or v i 0 < get_or u i 0 → ⊥
      higher f r a l =
          let (j, t) = p.first (get_or v i 0) (omega (arith, p.below i h)) in
          let b : j < f = p.ordered (get_or v i 0) (get_or u i 0) j f l t r in
          late j t (dec_lt i f) b
        where
          late : (j : ℕ) → First u rows (get_or v i 0) j → Dec (i < f) → j < f → ⊥
          late j t (yes z) b = r.none i z refl
          late j t (no z) b =
              let c : j < i = omega arith in
              let d : get_or v j 0 ≡ get_or v i 0 = sym (before j c) ∙ t.here in
              let k : get_or u j 0 ≡ get_or u i 0 = (p.together j i t.within h).1 ((q.together j i t.within h).0 d) in
              omega (arith, k, t.here)

      go : (f : ℕ) → First u rows (get_or u i 0) f → (e : ℕ) → First v rows (get_or v i 0) e → Dec (f < i) → Dec (get_or u i 0 < get_or v i 0) → Dec (get_or v i 0 < get_or u i 0) → get_or u i 0 ≡ get_or v i 0
      go f r e s (yes a) b c = sym r.here ∙ before f a ∙ (q.together f i r.within h).1 ((p.together f i r.within h).0 r.here)
      go f r e s (no a) (yes b) c = absurd (lower f r a e s b)
      go f r e s (no a) (no b) (yes c) = absurd (higher f r a c)
      go f r e s (no a) (no b) (no c) = omega arith

  all : (k : ℕ) → k ≤ rows → (i : ℕ) → i < k → get_or u i 0 ≡ get_or v i 0
  all zero h = below_none _
  all (suc k) h = let r = all k (omega arith) in λ i l. below_more (λ i. get_or u i 0 ≡ get_or v i 0) k r (one k (omega arith) r) i (omega arith)

  pub grouped_only : (i : ℕ) → i < rows → get_or u i 0 ≡ get_or v i 0
  grouped_only = all rows (omega arith)

  pub grouped_count : m ≡ n
  grouped_count = go (dec_lt m n) (dec_lt n m)
    where
      go : Dec (m < n) → Dec (n < m) → m ≡ n
      go (yes a) b = let (i, t) = q.first m a in absurd (omega (arith, t.here, grouped_only i t.within, p.below i t.within))
      go (no a) (yes b) = let (i, t) = p.first n b in absurd (omega (arith, t.here, grouped_only i t.within, q.below i t.within))
      go (no a) (no b) = omega arith
