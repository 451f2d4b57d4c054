-- Runs whose parts agree are the same run, and what a run of judgements that refuses nothing tells of each. Assumes nothing.
use Prim.Native.Nat.{◌<◌, suc, zero, ℕ}
use mathlib.Core.Bool.{Bool, false, true}
use mathlib.Core.List.{List, ◌∷◌}
use mathlib.Core.Path.{◌≡◌, ap, refl, subst}
use native.Mathlib.Omega.{arith}
use borrow.Author.Count.{below_more, below_none}
use Rattle.loops.specs.Judge.{judge, judged, test}
use Rattle.loops.specs.Run.{Run, check, ended, going, next, on, turns}
use Rattle.loops.proofs.Inverse.{going_inj, next_going}

-- what follows a run that is refused is not looked at
pub next_same : {S T A : Type 0} (r : Run S A) (f g : S → Run T A) → ((s : S) → r ≡ going s → f s ≡ g s) → next r f ≡ next r g
unfolding on
next_same (going s) f g e = e s refl
next_same (ended a) f g e = refl

-- nor are the tests after one that fails
pub judge_first : (k : ℕ) (b : Bool) (l m : List (ℕ × Bool)) → (b ≡ true → l ≡ m) → judge ((k, b) ∷ l) ≡ judge ((k, b) ∷ m)
unfolding judge test check on
judge_first k true l m e = ap judge (e refl)
judge_first k false l m e = refl

-- ---- loops whose turns agree below their count
pub turns_same : {S A : Type 0} (f g : ℕ → S → Run S A) (s : S) (n : ℕ) → ((i : ℕ) (t : S) → i < n → f i t ≡ g i t) → turns f s n ≡ turns g s n
unfolding turns
turns_same f g s zero e = refl
turns_same f g s (suc n) e = rw (turns_same f g s n (λ i t h. e i t (omega arith))) (next_same (turns g s n) (f n) (g n) (λ t _. e n t (omega arith)))

-- and on the states that they come through, of which Q holds
pub turns_kept : {S A : Type 0} (f g : ℕ → S → Run S A) (Q : S → Type 0) (s : S) → Q s → ((i : ℕ) (t : S) → Q t → g i t ≡ f i t) → ((i : ℕ) (t u : S) → Q t → f i t ≡ going u → Q u)
    → (n : ℕ) → (turns g s n ≡ turns f s n) × ((t : S) → turns f s n ≡ going t → Q t)
unfolding turns
turns_kept f g Q s h e k zero = (refl, λ t l. subst Q (going_inj l) h)
turns_kept f g Q s h e k (suc n) =
    let (a, b) = turns_kept f g Q s h e k n in
    (rw a (next_same (turns f s n) (g n) (f n) (λ t l. e n t (b t l))), λ t l. let (u, x, y) = (next_going (turns f s n) (f n) t).0 l in k n u t (b u x) y)

-- ---- judgements, row by row
pub judged_same : (f g : ℕ → Run Unit ℕ) (n : ℕ) → ((i : ℕ) → i < n → f i ≡ g i) → judged f n ≡ judged g n
unfolding judged
judged_same f g n e = turns_same (λ i _. f i) (λ i _. g i) tt n (λ i _ h. e i h)

pub judged_each : (f : ℕ → Run Unit ℕ) (n : ℕ) → judged f n ≡ going tt → (i : ℕ) → i < n → f i ≡ going tt
unfolding judged turns
judged_each f zero e = below_none _
judged_each f (suc n) e =
    let (u, x, y) = (next_going (turns (λ i _. f i) tt n) (λ _. f n) tt).0 e in
    λ i h. below_more (λ i. f i ≡ going tt) n (judged_each f n x) y i (omega arith)
