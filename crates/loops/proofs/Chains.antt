-- What `all` answers over a range of indices: `every` of the closure's test. Assumes nothing.
use Prim.Native.Nat.{ℕ, zero, suc, ◌+◌, ◌<◌}
use mathlib.Core.Path.{◌≡◌, refl, sym, subst, ◌∙◌}
use mathlib.Core.Bool.{Bool, true, false, ◌&&◌, false≢true}
use mathlib.Core.List.{List}
use native.Mathlib.Omega.{arith}
use denote.Param.Members.{Mut}
use Rattle.std.specs.Prelude.{Option}
use Rattle.std.specs.Fn.{Called}
use Rattle.std.specs.Iterator.{YieldsThen}
use Rattle.std.specs.List.{FoldsTo, list_all, range_with_len}
use Rattle.std.specs.Option.{MatchOption}
use Rattle.std.specs.declared.ops.Range.{Range}
use Rattle.std.proofs.Common.{add-zero}
use Rattle.std.proofs.iter.Yields.{nat_range_steps}
use Rattle.std.proofs.lemmas.Iterator.{YieldsList-from_range}
use Rattle.std.proofs.lemmas.Iterator.Search.{all_from_yields_List}
use Rattle.loops.specs.Every.{every}
use Rattle.loops.proofs.Every.{every_iff}

both_true : (a b : Bool) → (a && b) ≡ true → (a ≡ true) × (b ≡ true)
both_true true b h = (refl, h)
both_true false b h = absurd (false≢true h)

front : (p : ℕ → Bool) (a n : ℕ) → list_all p (range_with_len a n) ≡ true → (i : ℕ) → i < n → p (a + i) ≡ true
front p a zero h i l = absurd (omega (arith, l))
front p a (suc n) h zero l = rw add-zero (both_true _ _ h).0
front p a (suc n) h (suc k) l = subst (λ (j : ℕ). p j ≡ true) (omega arith) (front p (a + 1) n (both_true _ _ h).1 k (omega arith))

rear : (p : ℕ → Bool) (a n : ℕ) → ((i : ℕ) → i < n → p (a + i) ≡ true) → list_all p (range_with_len a n) ≡ true
rear p a zero h = refl
rear p a (suc n) h =
    let e : p a ≡ true = subst (λ (j : ℕ). p j ≡ true) (omega arith) (h 0 (omega arith)) in
    rw e (rear p (a + 1) n (λ i l. subst (λ (j : ℕ). p j ≡ true) (omega arith) (h (i + 1) (omega arith))))

equal : (a b : Bool) → (a ≡ true → b ≡ true) → (b ≡ true → a ≡ true) → a ≡ b
equal true b there back = sym (there refl)
equal false true there back = back refl
equal false false there back = refl

-- the list's test goes from the front, `every` from the end
all_of_range : (p : ℕ → Bool) (n : ℕ) → list_all p (range_with_len 0 n) ≡ every p n
all_of_range p n = equal _ _
    (λ h. (every_iff p n).1 (λ i l. subst (λ (j : ℕ). p j ≡ true) (omega arith) (front p 0 n h i l)))
    (λ h. rear p 0 n (λ i l. subst (λ (j : ℕ). p j ≡ true) (omega arith) ((every_iff p n).0 h i l)))

pub every_from_all : {F : Type 0} {g : Mut F (ℕ × Unit {0}) Bool} {s : Range ℕ} (p : ℕ → Bool) {n : ℕ} {u : Range ℕ} {f : F} {r : Bool}
    → s ≡ record { start = 0; end = n }
    → (xs : List ℕ) × (o : Option ℕ) × (j : F) × YieldsThen nat_range_steps s xs o u × FoldsTo (λ q x h. Called g q (x, tt) true h) f xs j × MatchOption o (r ≡ true) (λ x. (r ≡ false) × ((h : F) × Called g j (x, tt) false h))
    → ((x : ℕ) (b : Bool) (h : F) → Called g f (x, tt) b h → (h ≡ f) × (b ≡ p x))
    → r ≡ every p n
every_from_all p {n} {u} {f} {r} e ran called = all_from_yields_List p u f r ran (YieldsList-from_range 0 n n e (omega arith)) called ∙ all_of_range p n
