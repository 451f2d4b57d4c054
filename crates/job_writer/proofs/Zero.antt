-- A test of every item of a list is a test of every place. Assumes nothing.
use Rattle.std.proofs.Common.{ℕ, zero, suc, ◌≡◌, Bool, true, false, ◌&&◌, List, [], ◌∷◌, length, get_or, refl, sym, ap, ◌∙◌}
use Rattle.std.specs.List.{list_all}
use Rattle.loops.specs.Run.{check}
use Rattle.loops.specs.Every.{every}

-- `every` goes from the end, and the list's test from the front
front : (p : ℕ → Bool) (n : ℕ) → every p (suc n) ≡ check (p 0) (every (λ k. p (suc k)) n) false
unfolding every check
front p zero = go (p 0)
  where
    go : (b : Bool) → check true b false ≡ check b true false
    go true = refl
    go false = refl
front p (suc n) = ap (λ b. check b (p (suc n)) false) (front p n) ∙ go (p 0) (every (λ k. p (suc k)) n) (p (suc n))
  where
    go : (a b d : Bool) → check (check a b false) d false ≡ check a (check b d false) false
    go true b d = refl
    go false b d = refl

and_check : (a b : Bool) → (a && b) ≡ check a b false
unfolding check
and_check true b = refl
and_check false b = refl

pub all_every : (p : ℕ → Bool) (l : List ℕ) → list_all p l ≡ every (λ k. p (get_or l k 0)) (length l)
unfolding every
all_every p [] = refl
all_every p (x ∷ l) =
    and_check (p x) (list_all p l) ∙ ap (λ b. check (p x) b false) (all_every p l) ∙ sym (front (λ k. p (get_or (x ∷ l) k 0)) (length l))
