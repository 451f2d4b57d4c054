-- A run that is built from parts refuses with the numbers of its parts: P holds of each number that a run may end with. Assumes nothing.
use Prim.Native.Nat.{ℕ, zero, suc}
use mathlib.Core.Path.{◌≡◌, refl, subst}
use mathlib.Core.Bool.{Bool, true, false, cond}
use mathlib.Core.List.{List, [], ◌∷◌, ◌++◌}
use mathlib.Core.Logic.{⊎_elim}
use Rattle.loops.specs.Run.{Run, going, ended, on, next, check, turns}
use Rattle.loops.specs.Judge.{test, judge, judged}
use Rattle.loops.proofs.Inverse.{apart, ended_inj, next_ended}

-- every number that r ends with is in P
abbrev pub Among : {S : Type 0} → (ℕ → Type 0) → Run S ℕ → Type 0
Among P r = (n : ℕ) → r ≡ ended n → P n

-- and every number of a list of tests
unfoldable pub Listed : (ℕ → Type 0) → List (ℕ × Bool) → Type 0
Listed P [] = Unit
Listed P (t ∷ l) = P t.0 × Listed P l

pub listed_after : (P : ℕ → Type 0) (l m : List (ℕ × Bool)) → Listed P l → Listed P m → Listed P (l ++ m)
unfolding Listed
listed_after P [] m p q = q
listed_after P (t ∷ l) m p q = (p.0, listed_after P l m p.1 q)

module _ {S : Type 0} (P : ℕ → Type 0) where
  pub among_going : (s : S) → Among {S = S} P (going s)
  among_going s n h = absurd (apart _ refl h)

  pub among_ended : (k : ℕ) → P k → Among {S = S} P (ended k)
  among_ended k p n h = subst P (ended_inj h) p

  -- the rest is looked at only where the first part goes on
  pub among_next : {T : Type 0} (r : Run T ℕ) (f : T → Run S ℕ) → Among P r → ((t : T) → r ≡ going t → Among P (f t)) → Among P (next r f)
  among_next r f p q n h = ⊎_elim (λ e. p n e) (λ e. q e.0 e.1 n e.2) ((next_ended r f n).0 h)

  pub among_check : (b : Bool) (x e : Run S ℕ) → Among P x → Among P e → Among P (check b x e)
  unfolding check
  among_check true x e p q = p
  among_check false x e p q = q

  pub among_cond : (b : Bool) (x y : Run S ℕ) → Among P x → Among P y → Among P (cond b x y)
  among_cond true x y p q = p
  among_cond false x y p q = q

  -- a refusal of any kind, answered with k
  pub among_answered : {A : Type 0} (k : ℕ) (r : Run S A) → P k → Among {S = S} P (on r going (λ _. ended k))
  unfolding on
  among_answered k (going s) p = among_going s
  among_answered k (ended a) p = among_ended k p

  pub among_turns : (f : ℕ → S → Run S ℕ) (s : S) (k : ℕ) → ((i : ℕ) (t : S) → Among P (f i t)) → Among P (turns f s k)
  unfolding turns
  among_turns f s zero p = among_going s
  among_turns f s (suc k) p = among_next (turns f s k) (f k) (among_turns f s k p) (λ t _. p k t)

module _ (P : ℕ → Type 0) where
  pub among_test : (b : Bool) (k : ℕ) → P k → Among P (test b k)
  unfolding test
  among_test b k p = among_check P b (going tt) (ended k) (among_going P tt) (among_ended P k p)

  pub among_judge : (l : List (ℕ × Bool)) → Listed P l → Among P (judge l)
  unfolding judge Listed
  among_judge [] p = among_going P tt
  among_judge (t ∷ l) p = among_next P (test t.1 t.0) (λ _. judge l) (among_test t.1 t.0 p.0) (λ _ _. among_judge l p.1)

  pub among_judged : (f : ℕ → Run Unit ℕ) (k : ℕ) → ((i : ℕ) → Among P (f i)) → Among P (judged f k)
  unfolding judged
  among_judged f k p = among_turns P (λ i _. f i) tt k (λ i _. p i)
