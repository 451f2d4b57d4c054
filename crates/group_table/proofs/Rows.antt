-- The rows of one group, as a list. Assumes nothing.
use Prim.Native.Nat.{ℕ, zero, suc, ◌+◌, ◌<◌, ◌≤◌}
use mathlib.Core.Path.{◌≡◌, refl, sym, ap, ◌∙◌}
use mathlib.Core.List.{List, [], ◌∷◌, ◌++◌, append-nil}
use native.Mathlib.Omega.{arith}
use native.Mathlib.Decide.{ℕ_discrete, dec_lt, le_ind}
use native.Mathlib.Numerals.{add-one}
use borrow.Author.Tests.{eq-eqb, ne_eqb}
use lib.ListN.{length, get_or, length-append, get_or-append}
use lib.Seq.{get_or_at}
use Rattle.group_table.specs.Pick.{rows_of, InOrder}

module _ (groups : List ℕ) (g n : ℕ) where
  -- row n is of the group, or it is not
  pub rows_more : get_or groups n 0 ≡ g → rows_of groups g (n + 1) ≡ rows_of groups g n ++ (n ∷ [])
  unfolding rows_of
  rows_more e = rw (add-one, eq-eqb (get_or groups n 0) g e)

  pub rows_same : (get_or groups n 0 ≡ g → ⊥) → rows_of groups g (n + 1) ≡ rows_of groups g n
  unfolding rows_of
  rows_same e = rw (add-one, ne_eqb (get_or groups n 0) g e) (append-nil (rows_of groups g n))

-- a list with one more at its end
module _ (l : List ℕ) (x : ℕ) where
  pub snoc_length : length (l ++ (x ∷ [])) ≡ length l + 1
  snoc_length = length-append l (x ∷ [])

  pub snoc_old : (k : ℕ) → k < length l → get_or (l ++ (x ∷ [])) k 0 ≡ get_or l k 0
  snoc_old k h = get_or-append l (x ∷ []) 0 k h

  pub snoc_new : get_or (l ++ (x ∷ [])) (length l) 0 ≡ x
  snoc_new = get_or_at l x [] 0 (length l) refl

in_order_more : (groups : List ℕ) (g n : ℕ) (rows : List ℕ) → InOrder groups g n rows → get_or groups n 0 ≡ g → InOrder groups g (n + 1) (rows ++ (n ∷ []))
in_order_more groups g n rows h e = record { below = λ k l. below k (dec_lt k (length rows)) l; group = λ k l. group k (dec_lt k (length rows)) l; rising = λ k l p q. rising k l (dec_lt l (length rows)) p q; all = all }
  where
    last : (k : ℕ) → k < length (rows ++ (n ∷ [])) → (k < length rows → ⊥) → get_or (rows ++ (n ∷ [])) k 0 ≡ n
    last k l m = let q : k ≡ length rows = omega (arith, snoc_length rows n) in ap (λ j. get_or (rows ++ (n ∷ [])) j 0) q ∙ snoc_new rows n

    below : (k : ℕ) → Dec (k < length rows) → k < length (rows ++ (n ∷ [])) → get_or (rows ++ (n ∷ [])) k 0 < n + 1
    below k (yes m) l = omega (arith, snoc_old rows n k m, h.below k m)
    below k (no m) l = omega (arith, last k l m)

    group : (k : ℕ) → Dec (k < length rows) → k < length (rows ++ (n ∷ [])) → get_or groups (get_or (rows ++ (n ∷ [])) k 0) 0 ≡ g
    group k (yes m) l = ap (λ j. get_or groups j 0) (snoc_old rows n k m) ∙ h.group k m
    group k (no m) l = ap (λ j. get_or groups j 0) (last k l m) ∙ e

    rising : (k l : ℕ) → Dec (l < length rows) → k < l → l < length (rows ++ (n ∷ [])) → get_or (rows ++ (n ∷ [])) k 0 < get_or (rows ++ (n ∷ [])) l 0
    rising k l (yes m) p q = omega (arith, snoc_old rows n k (omega arith), snoc_old rows n l m, h.rising k l p m)
    rising k l (no m) p q =
        let b : k < length rows = omega (arith, snoc_length rows n) in
        omega (arith, snoc_old rows n k b, last l q m, h.below k b)

    all : (i : ℕ) → i < n + 1 → get_or groups i 0 ≡ g → (k : ℕ) × (k < length (rows ++ (n ∷ []))) × (get_or (rows ++ (n ∷ [])) k 0 ≡ i)
    all i l d = go (dec_lt i n)
      where
        go : Dec (i < n) → (k : ℕ) × (k < length (rows ++ (n ∷ []))) × (get_or (rows ++ (n ∷ [])) k 0 ≡ i)
        go (yes m) = let (k, b, q) = h.all i m d in (k, omega (arith, snoc_length rows n), snoc_old rows n k b ∙ q)
        go (no m) = (length rows, omega (arith, snoc_length rows n), snoc_new rows n ∙ omega arith)

in_order_same : (groups : List ℕ) (g n : ℕ) (rows : List ℕ) → InOrder groups g n rows → (get_or groups n 0 ≡ g → ⊥) → InOrder groups g (n + 1) rows
in_order_same groups g n rows h e = record { below = λ k l. omega (arith, h.below k l); group = h.group; rising = h.rising; all = λ i l d. all i l d (ℕ_discrete i n) }
  where
    all : (i : ℕ) → i < n + 1 → get_or groups i 0 ≡ g → Dec (i ≡ n) → (k : ℕ) × (k < length rows) × (get_or rows k 0 ≡ i)
    all i l d (yes q) = absurd (e (ap (λ j. get_or groups j 0) (sym q) ∙ d))
    all i l d (no q) = h.all i (omega arith) d

pub in_order : (groups : List ℕ) (g n : ℕ) → InOrder groups g n (rows_of groups g n)
in_order groups g zero = unfold rows_of in record { below = λ k l. absurd (omega arith); group = λ k l. absurd (omega arith); rising = λ k l p q. absurd (omega arith); all = λ i l d. absurd (omega arith) }
in_order groups g (suc n) = rw (← add-one n) (go (ℕ_discrete (get_or groups n 0) g) (in_order groups g n))
  where
    go : Dec (get_or groups n 0 ≡ g) → InOrder groups g n (rows_of groups g n) → InOrder groups g (n + 1) (rows_of groups g (n + 1))
    go (yes e) h = rw (rows_more groups g n e) (in_order_more groups g n (rows_of groups g n) h e)
    go (no e) h = rw (rows_same groups g n e) (in_order_same groups g n (rows_of groups g n) h e)

-- the rows of a group among the first ones are no more than among all, and fewer where one follows
rows_grow : (groups : List ℕ) (g i n : ℕ) → i ≤ n → length (rows_of groups g i) ≤ length (rows_of groups g n)
rows_grow groups g i n h = le_ind (λ m. length (rows_of groups g i) ≤ length (rows_of groups g m)) (omega arith) (λ m _ p. step m p (ℕ_discrete (get_or groups m 0) g)) n h
  where
    step : (m : ℕ) → length (rows_of groups g i) ≤ length (rows_of groups g m) → Dec (get_or groups m 0 ≡ g) → length (rows_of groups g i) ≤ length (rows_of groups g (suc m))
    step m p (yes e) = omega (arith, ap length (rows_more groups g m e), snoc_length (rows_of groups g m) m, ap (λ j. length (rows_of groups g j)) (add-one m))
    step m p (no e) = omega (arith, ap length (rows_same groups g m e), ap (λ j. length (rows_of groups g j)) (add-one m))

pub rows_few : (groups : List ℕ) (g i n : ℕ) → get_or groups i 0 ≡ g → i < n → length (rows_of groups g i) < length (rows_of groups g n)
rows_few groups g i n e h = omega (arith, ap length (rows_more groups g i e), snoc_length (rows_of groups g i) i, rows_grow groups g (i + 1) n (omega arith))

-- and no more than all rows
pub rows_within : (groups : List ℕ) (g n : ℕ) → length (rows_of groups g n) ≤ n
rows_within groups g zero = unfold rows_of in omega arith
rows_within groups g (suc n) = go (ℕ_discrete (get_or groups n 0) g) (rows_within groups g n)
  where
    go : Dec (get_or groups n 0 ≡ g) → length (rows_of groups g n) ≤ n → length (rows_of groups g (suc n)) ≤ suc n
    go (yes e) h = omega (arith, ap length (rows_more groups g n e), snoc_length (rows_of groups g n) n, ap (λ j. length (rows_of groups g j)) (add-one n))
    go (no e) h = omega (arith, ap length (rows_same groups g n e), ap (λ j. length (rows_of groups g j)) (add-one n))
