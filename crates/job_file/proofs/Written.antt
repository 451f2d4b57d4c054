-- A loop that writes a row into a list of all rows leaves the list that `written` defines (`writes`), and a list whose rows below i are read has those below i + 1 after it (`fills_row`). Assumes nothing.
use Prim.Native.Nat.{ℕ, zero, suc, ◌+◌, ◌<◌, ◌≤◌}
use mathlib.Core.Path.{◌≡◌, refl, ap, subst, ◌∙◌}
use mathlib.Core.List.{List}
use native.Mathlib.Nat.{add-zero}
use native.Mathlib.Numerals.{add-one}
use native.Mathlib.Omega.{arith}
use lib.ListN.{length, set, length-set}
use Rattle.loops.proofs.Fill.{Fills, fills_put}
use Rattle.loops.proofs.Loop.{loops}
use Rattle.job_file.specs.File.{written}

pub length_written : {X : Type 0} (f : ℕ → X) (at n : ℕ) (l : List X) → length (written f at n l) ≡ length l
unfolding written
length_written f at zero l = refl
length_written f at (suc n) l = length-set (written f at n l) (at + n) (f n) ∙ length_written f at n l

-- ---- one row: of its n elements j are written
pub record Writes {X : Type 0} (f : ℕ → X) (at n : ℕ) (l₀ : List X) (j : ℕ) (l : List X) : Type 0 where
  pub within : j ≤ n
  pub long : length l ≡ length l₀
  pub is : l ≡ written f at j l₀

module _ {X : Type 0} {f : ℕ → X} {at n : ℕ} {l₀ : List X} where
  pub writes_none : Writes f at n l₀ 0 l₀
  unfolding written
  writes_none = record { within = omega arith; long = refl; is = refl }

  pub writes_put : {j : ℕ} {l l' : List X} {v : X} → Writes f at n l₀ j l → j < n → v ≡ f j → l' ≡ set l (at + j) v → Writes f at n l₀ (j + 1) l'
  unfolding written
  writes_put {j} {l} {l'} {v} h b p e = record {
    within = omega arith;
    long = ap length e ∙ length-set l (at + j) v ∙ h.long;
    is = rw add-one (e ∙ ap (λ m. set m (at + j) v) h.is ∙ ap (set (written f at j l₀) (at + j)) p);
  }

  pub writes_end : {j : ℕ} {l : List X} → Writes f at n l₀ j l → n ≤ j → l ≡ written f at n l₀
  writes_end {j} {l} h b = let e : j ≡ n = omega arith in h.is ∙ ap (λ j. written f at j l₀) e

pub ruleset writes = (writes_none, writes_put, writes_end, loops)

-- ---- the rows below i, and the next
module _ {X : Type 0} {d : X} {g : ℕ → X} {n at : ℕ} (f : ℕ → X) where
  fills_part : (c j : ℕ) {l : List X} → Fills d g n at l → at + c ≤ n → j ≤ c → ((k : ℕ) → k < c → f k ≡ g (at + k)) → Fills d g n (at + j) (written f at j l)
  unfolding written
  fills_part c zero h b p e = rw (add-zero at) h
  fills_part c (suc j) {l} h b p e =
      let place : (at + j) + 1 ≡ at + suc j = omega arith in
      let below : at + j < n = omega arith in
      let own : j < c = omega arith in
      subst (λ m. Fills d g n m (written f at (suc j) l)) place (fills_put (fills_part c j h b (omega arith) e) below (e j own) refl)

  pub fills_row : (c : ℕ) {l : List X} → Fills d g n at l → at + c ≤ n → ((k : ℕ) → k < c → f k ≡ g (at + k)) → Fills d g n (at + c) (written f at c l)
  fills_row c h b e = fills_part c c h b (omega arith) e
