-- The group of each body: what the rows that have told it leave, and that each body has at most one. Assumes nothing.
use Prim.Native.Nat.{ℕ, ◌+◌, ◌<◌, ◌≤◌}
use mathlib.Core.Path.{◌≡◌, refl, sym, ap, ◌∙◌}
use mathlib.Core.Bool.{Bool, true, false, cond}
use mathlib.Core.List.{List}
use mathlib.Core.Logic.{◌⊎◌, inl, inr, ⊎_elim}
use native.Mathlib.Omega.{arith}
use native.Mathlib.Decide.{ℕ_discrete, dec_lt}
use lib.ListN.{length, get_or, set, length-set}
use lib.Seq.{get_or-set_same, get_or-set_other}
use lib.Ieee.{Float}
use Rattle.kapitsa_joint.specs.Mass.{mass_of}
use Rattle.groups.specs.Together.{massless, Links, joins_in, body_a, body_b, Has, Linked, Grouped}
use Rattle.groups.specs.Steps.{Marks, marked_by, RowMarked, Zeros}
use Rattle.groups.proofs.Least.{body_group}

-- ---- one body
module _ (joining : ℕ → Bool) (b mark : ℕ) (marks : List ℕ) where
  marked_long : length (marked_by joining b mark marks) ≡ length marks
  unfolding marked_by
  marked_long = go (joining b)
    where
      go : (j : Bool) → length (cond j (set marks b mark) marks) ≡ length marks
      go true = length-set marks b mark
      go false = refl

  marked_other : (x : ℕ) → (x ≡ b → ⊥) → get_or (marked_by joining b mark marks) x 0 ≡ get_or marks x 0
  unfolding marked_by
  marked_other x n = go (joining b)
    where
      go : (j : Bool) → get_or (cond j (set marks b mark) marks) x 0 ≡ get_or marks x 0
      go true = get_or-set_other marks b x mark 0 n
      go false = refl

  marked_here : joining b ≡ true → b < length marks → get_or (marked_by joining b mark marks) b 0 ≡ mark
  unfolding marked_by
  marked_here e h = rw e (get_or-set_same marks b mark 0 h)

  marked_not : joining b ≡ false → marked_by joining b mark marks ≡ marks
  unfolding marked_by
  marked_not e = rw e

-- ---- the ways through `mark_body`
module _ (masses : List Float) (body mark : ℕ) (marks : List ℕ) (t : Bool) (e : t ≡ massless (mass_of masses body)) where
  pub mark_none : t ≡ true → marks ≡ marked_by (joins_in masses) body mark marks
  unfolding marked_by
  mark_none h = rw (← e, h)

  pub mark_one : t ≡ false → set marks body mark ≡ marked_by (joins_in masses) body mark marks
  unfolding marked_by
  mark_one h = rw (← e, h)

-- ---- both bodies of a row: the first, then the second
module _ (links : Links) (joining : ℕ → Bool) (i : ℕ) (groups marks₀ : List ℕ) where
  abbrev mark : ℕ
  mark = get_or groups i 0 + 1

  abbrev once : List ℕ
  once = marked_by joining (body_a links i) mark marks₀

  abbrev twice : List ℕ
  twice = marked_by joining (body_b links i) mark once

  pub row_marked : RowMarked links joining i groups marks₀ twice
  row_marked = record { long = marked_long joining (body_b links i) mark once ∙ marked_long joining (body_a links i) mark marks₀; more = more }
    where
      more : (rows count bodies : ℕ) → i < rows → bodies ≤ length marks₀ → Linked links rows bodies → Grouped links joining rows groups count → Marks links joining i groups marks₀ → Marks links joining (i + 1) groups twice
      more rows count bodies l room linked grouped h = record { some = some; none = none }
        where
          -- a body that is not of the row keeps its mark
          away : (b : ℕ) → ¬ Has links i b → get_or twice b 0 ≡ get_or marks₀ b 0
          away b n = marked_other joining (body_b links i) mark once b (λ e. n (inr (sym e))) ∙ marked_other joining (body_a links i) mark marks₀ b (λ e. n (inl (sym e)))

          -- a body of the row that joins has the row's
          of_b : joining (body_b links i) ≡ true → get_or twice (body_b links i) 0 ≡ mark
          of_b j = marked_here joining (body_b links i) mark once j (omega (arith, linked.b i l, marked_long joining (body_a links i) mark marks₀))

          of_a : joining (body_a links i) ≡ true → Dec (body_a links i ≡ body_b links i) → get_or twice (body_a links i) 0 ≡ mark
          of_a j (yes e) = ap (λ x. get_or twice x 0) e ∙ of_b (ap joining (sym e) ∙ j)
          of_a j (no e) = marked_other joining (body_b links i) mark once (body_a links i) e ∙ marked_here joining (body_a links i) mark marks₀ j (omega (arith, linked.a i l))

          here : (b : ℕ) → Has links i b → joining b ≡ true → get_or twice b 0 ≡ mark
          here b (inl e) j = ap (λ x. get_or twice x 0) (sym e) ∙ of_a (ap joining e ∙ j) (ℕ_discrete (body_a links i) (body_b links i))
          here b (inr e) j = ap (λ x. get_or twice x 0) (sym e) ∙ of_b (ap joining e ∙ j)

          has? : (b : ℕ) → Dec (body_a links i ≡ b) → Dec (body_b links i ≡ b) → Has links i b ⊎ (¬ Has links i b)
          has? b (yes e) q = inl (inl e)
          has? b (no e) (yes q) = inl (inr q)
          has? b (no e) (no q) = inr (λ h. ⊎_elim e q h)

          some : (r b : ℕ) → r < i + 1 → Has links r b → joining b ≡ true → get_or twice b 0 ≡ get_or groups r 0 + 1
          some r b p q j = go (has? b (ℕ_discrete (body_a links i) b) (ℕ_discrete (body_b links i) b)) (dec_lt r i)
            where
              go : Has links i b ⊎ (¬ Has links i b) → Dec (r < i) → get_or twice b 0 ≡ get_or groups r 0 + 1
              go (inl a) d = here b a j ∙ ap (λ x. x + 1) (body_group grouped i r b l (omega arith) a q j)
              go (inr a) (yes d) = away b a ∙ h.some r b d q j
              go (inr a) (no d) = let s : r ≡ i = omega arith in absurd (a (rw s at q))

          none : (b : ℕ) → ((r : ℕ) → r < i + 1 → Has links r b → joining b ≡ true → ⊥) → get_or twice b 0 ≡ 0
          none b n = go (joining b) refl
            where
              before : get_or marks₀ b 0 ≡ 0
              before = h.none b (λ r p. n r (omega arith))

              still : joining b ≡ false → (x : ℕ) (m : List ℕ) → get_or (marked_by joining x mark m) b 0 ≡ get_or m b 0
              still e x m = at (ℕ_discrete b x)
                where
                  at : Dec (b ≡ x) → get_or (marked_by joining x mark m) b 0 ≡ get_or m b 0
                  at (yes q) = ap (λ y. get_or y b 0) (marked_not joining x mark m (ap joining (sym q) ∙ e))
                  at (no q) = marked_other joining x mark m b q

              go : (j : Bool) → joining b ≡ j → get_or twice b 0 ≡ 0
              go true e = away b (λ a. n i (omega arith) a e) ∙ before
              go false e = still e (body_b links i) once ∙ still e (body_a links i) marks₀ ∙ before

-- `mark_row`, whose two calls answer so
pub marked_row : (links : Links) (joining : ℕ → Bool) (i : ℕ) (groups marks₀ marks₁ marks₂ : List ℕ) (a b mark : ℕ) → a ≡ body_a links i → b ≡ body_b links i → mark ≡ get_or groups i 0 + 1 → marks₁ ≡ marked_by joining a mark marks₀ → marks₂ ≡ marked_by joining b mark marks₁
    → RowMarked links joining i groups marks₀ marks₂
marked_row links joining i groups marks₀ marks₁ marks₂ a b mark ea eb em e d = rw (d, e, ea, eb, em) (row_marked links joining i groups marks₀)

-- ---- the loop over the rows
pub record Telling (links : Links) (joining : ℕ → Bool) (rows bodies count : ℕ) (groups : List ℕ) (i : ℕ) (marks₀ marks : List ℕ) : Type 0 where
  pub within : i ≤ rows
  pub linked : Linked links rows bodies
  pub grouped : Grouped links joining rows groups count
  pub room : bodies ≤ length marks₀
  pub long : length marks ≡ length marks₀
  pub told : Marks links joining i groups marks

module _ {links : Links} {joining : ℕ → Bool} {rows bodies count : ℕ} {groups marks₀ : List ℕ} where
  pub telling_none : Linked links rows bodies → Grouped links joining rows groups count → bodies ≤ length marks₀ → Zeros marks₀ → Telling links joining rows bodies count groups 0 marks₀ marks₀
  telling_none t g r z = record { within = omega arith; linked = t; grouped = g; room = r; long = refl; told = record { some = λ i b l. absurd (omega arith); none = λ b n. z.at b } }

  pub telling_more : {i : ℕ} {m m' : List ℕ} → Telling links joining rows bodies count groups i marks₀ m → i < rows → RowMarked links joining i groups m m' → Telling links joining rows bodies count groups (i + 1) marks₀ m'
  telling_more h l r = record { within = omega arith; linked = h.linked; grouped = h.grouped; room = h.room; long = r.long ∙ h.long; told = r.more rows count bodies l (omega (arith, h.long, h.room)) h.linked h.grouped h.told }

  pub telling_end : {i : ℕ} {m : List ℕ} → Telling links joining rows bodies count groups i marks₀ m → rows ≤ i → Marks links joining rows groups m
  telling_end {i} {m} h l = let e : i ≡ rows = omega (arith, h.within) in rw e at h.told

  pub telling_a : {i : ℕ} {m : List ℕ} → Telling links joining rows bodies count groups i marks₀ m → i < rows → body_a links i < bodies
  telling_a {i} h l = h.linked.a i l

  pub telling_b : {i : ℕ} {m : List ℕ} → Telling links joining rows bodies count groups i marks₀ m → i < rows → body_b links i < bodies
  telling_b {i} h l = h.linked.b i l

  pub telling_number : {i : ℕ} {m : List ℕ} → Telling links joining rows bodies count groups i marks₀ m → i < rows → get_or groups i 0 < count
  telling_number {i} h l = h.grouped.below i l
