-- A definition that counts through all of 0 .. n - 1, and code that visits only the numbers that a stretch of a list holds, ascending: the turns in between change nothing. Assumes nothing.
use Prim.Native.Nat.{ℕ, zero, suc, ◌+◌, ◌<◌, ◌≤◌}
use mathlib.Core.Path.{◌≡◌, refl, ◌∙◌}
use mathlib.Core.List.{List}
use mathlib.Core.Logic.{◌⊎◌, inl, inr}
use native.Mathlib.Decide.{le_ind, dec_le}
use native.Mathlib.Nat.{eq-or-lt_of_le, le_refl}
use native.Mathlib.Omega.{arith}
use lib.ListN.{get_or}
use Rattle.loops.specs.Run.{Run, going, ended, turns}
use Rattle.loops.proofs.Loop.{on_going, on_ended, loops}
use Rattle.sparse.specs.Count.{count}
use Rattle.sparse.specs.Kept.{Rising, Missing}

-- the same as a run
unfoldable pub plain : {S : Type 0} → (ℕ → S → S) → ℕ → S → Run S Unit
plain f k s = going (f k s)

-- f leaves t as it is at each number that is missing there
pub record Skips {S A : Type 0} (f : ℕ → S → Run S A) (l : List ℕ) (a b : ℕ) (t : S) : Type 0 where
  pub skip : (k : ℕ) → Missing l a b k → f k t ≡ going t

-- the invariant of a loop over the places a .. b - 1: those before p were visited, and led to t
pub record Hops {S A : Type 0} (f : ℕ → S → Run S A) (s : S) (l : List ℕ) (a b n p : ℕ) (t : S) : Type 0 where
  pub from : a ≤ p
  pub to : p ≤ b
  pub row : Rising l a b n
  pub led : (m : ℕ) → m ≤ n → ((q : ℕ) → a ≤ q → q < p → get_or l q 0 < m) → ((q : ℕ) → p ≤ q → q < b → m ≤ get_or l q 0) → turns f s m ≡ going t

pub rising_le : {l : List ℕ} {a b n : ℕ} → Rising l a b n → (p q : ℕ) → a ≤ p → p ≤ q → q < b → get_or l p 0 ≤ get_or l q 0
rising_le {l} r p q p1 p2 p3 = by_order (eq-or-lt_of_le p2)
  where
    by_order : (p ≡ q) ⊎ (p < q) → get_or l p 0 ≤ get_or l q 0
    by_order (inl e) = rw e (le_refl _)
    by_order (inr h) = omega (arith, r.ascending p q p1 h p3)

pub glide : {S A : Type 0} (f : ℕ → S → Run S A) (s : S) {u : S} (c : ℕ) → turns f s c ≡ going u → (m : ℕ) → c ≤ m
    → ((x : ℕ) → c ≤ x → x < m → f x u ≡ going u) → turns f s m ≡ going u
unfolding turns
glide f s {u} c h m l g =
    le_ind (λ x. x ≤ m → turns f s x ≡ going u) (λ _. h) (λ x b ih e. on_going _ _ _ (ih (omega arith)) ∙ g x b e) m l (omega arith)

module _ {S A : Type 0} {f : ℕ → S → Run S A} {s : S} {l : List ℕ} {a b n : ℕ} where
  pub hop_none : Rising l a b n → Skips f l a b s → Hops f s l a b n a s
  unfolding turns
  hop_none r k = record {
    from = omega arith;
    to = r.forward;
    row = r;
    led = λ m le before after. glide f s 0 refl m (omega arith)
        (λ x _ lt. k.skip x (record { nowhere = λ q p1 p2 e. omega (arith, after q p1 p2) }));
  }

  -- at p the turns up to the number there have been made
  here : {p : ℕ} {t : S} → Hops f s l a b n p t → p < b → turns f s (get_or l p 0) ≡ going t
  here {p = p} h lt =
      h.led _ (omega (arith, h.row.below p h.from lt)) (λ q p1 p2. h.row.ascending q p p1 p2 lt)
      (λ q p1 p2. rising_le h.row p q h.from p1 p2)

  pub hop_more : {p : ℕ} {t u : S} → Hops f s l a b n p t → p < b → f (get_or l p 0) t ≡ going u → Skips f l a b u → Hops f s l a b n (p + 1) u
  unfolding turns
  hop_more {p} {t} {u} h lt e sk = record {
    from = omega (arith, h.from);
    to = omega arith;
    row = h.row;
    led = λ m le before after. glide f s (suc (get_or l p 0)) (on_going _ _ _ (here h lt) ∙ e) m (before p h.from (omega arith))
        (λ x lo hi. sk.skip x (record { nowhere = λ q p1 p2 eq. apart m before after x lo hi q p1 p2 eq }));
  }
    where
      apart : (m : ℕ) → ((q : ℕ) → a ≤ q → q < p + 1 → get_or l q 0 < m) → ((q : ℕ) → p + 1 ≤ q → q < b → m ≤ get_or l q 0)
          → (x : ℕ) → get_or l p 0 < x → x < m → (q : ℕ) → a ≤ q → q < b → get_or l q 0 ≡ x → ⊥
      apart m before after x lo hi q p1 p2 eq = by_order (dec_le q p)
        where
          by_order : Dec (q ≤ p) → ⊥
          by_order (yes g) = omega (arith, rising_le h.row q p p1 g lt)
          by_order (no g) = omega (arith, after q (omega arith) p2)

  pub hop_stop : {p : ℕ} {t : S} {r : A} → Hops f s l a b n p t → p < b → f (get_or l p 0) t ≡ ended r → turns f s n ≡ ended r
  unfolding turns
  hop_stop {p} {t} {r} h lt e =
      le_ind (λ m. turns f s m ≡ ended r) (on_going _ _ _ (here h lt) ∙ e) (λ m _ q. on_ended _ _ _ q) n (h.row.below p h.from lt)

  pub hop_end : {p : ℕ} {t : S} → Hops f s l a b n p t → b ≤ p → turns f s n ≡ going t
  hop_end {p} h ge = h.led n (omega arith) (λ q p1 p2. h.row.below q p1 (omega (arith, h.to))) (λ q p1 p2. absurd (omega arith))

-- turns that agree on every index below m
pub turns_same : {S A : Type 0} (f g : ℕ → S → Run S A) (s : S) (m : ℕ) → ((k : ℕ) → k < m → f k ≡ g k) → turns f s m ≡ turns g s m
unfolding turns
turns_same f g s zero e = refl
turns_same f g s (suc m) e = rw (turns_same f g s m (λ k l. e k (omega arith)), e m (omega arith))

pub counted : {S : Type 0} (f : ℕ → S → S) (s v : S) (n : ℕ) → turns (plain f) s n ≡ going v → v ≡ count f s n
unfolding turns plain count
counted f s v n h = let g = as_count n in cc
  where
    as_count : (m : ℕ) → turns (plain f) s m ≡ going (count f s m)
    as_count zero = refl
    as_count (suc m) = on_going _ _ _ (as_count m)

pub ruleset hops = (hop_none, hop_more, hop_stop, hop_end, counted, loops)
