-- The parts `plus` and `less` of a number, and of what `round` makes. Assumes nothing.
use Prim.Native.Nat.{◌*◌, ◌+◌, ◌<◌, ◌^◌, suc, ℕ}
use mathlib.Core.Bool.{Bool, cond, false, true}
use mathlib.Core.Logic.{◌⊎◌, inl, inr}
use mathlib.Core.Path.{◌∙◌, ◌≡◌, ap, refl, subst, sym}
use native.Mathlib.Nat.{add-zero, zero-add}
use lib.Dec.{T, ltb, ltb→lt}
use lib.Ieee.{Float, Format, fin, fits, inf, low, nan, neg, odd, prec, round, units}
use lib.Ieee.Exact.{HasValue, units_val}
use lib.Ieee.Fits.{round_is}
use lib.Ieee.Order.{drop, kept}
use lib.Ieee.Scale.{finite, grid, overflow}
use lib.IntN.{pos, ℤ}
use lib.Pow.{pow_pos}
use Rattle.binary64.proofs.Units.{shape, units_of_lem}
use Rattle.binary64.specs.Units.{units_of}
use Rattle.rounding.proofs.Grid.{grid_exact}
use Rattle.rounding.proofs.Integers.{above, neg_above, neg_under, under}
use Rattle.rounding.specs.Value.{less, plus, val}

-- what the parts of x are
pub record Parts (f : Format) (x : Float) (p q : ℕ) : Type 0 where
  pub is_plus : plus f x ≡ p
  pub is_less : less f x ≡ q

-- one of the two is 0
pub one_side : (f : Format) (x : Float) → (plus f x ≡ 0) ⊎ (less f x ≡ 0)
unfolding plus less
one_side f nan = inl refl
one_side f (inf s) = inl refl
one_side f (fin true m e) = inl refl
one_side f (fin false m e) = inr refl

-- so rounding does not change it
pub units_kept : (f : Format) (s : Bool) (m : ℕ) (e : ℤ) → T (fits f (fin s m e)) → grid f (units_of f (fin s m e)) (2 ^ low f) ≡ units_of f (fin s m e)
units_kept f s m e t =
    let r = shape f (fin s m e) t tt in
    grid_exact f (units_of f (fin s m e)) (2 ^ low f) r.m r.j (pow_pos (low f)) r.few (ap (λ (n : ℕ). n * 2 ^ low f) r.is) ∙ sym r.is

-- the size takes no notice of the sign
pub same_units : (f : Format) (s r : Bool) (m : ℕ) (e : ℤ) → units_of f (fin s m e) ≡ units_of f (fin r m e)
unfolding units_of
same_units f s r m e = refl

either : (s : Bool) (n : ℕ) → cond s 0 n + cond s n 0 ≡ n
either true n = zero-add n
either false n = add-zero n

pub size_kept : (f : Format) (x : Float) → T (fits f x) → T (finite x) → grid f (plus f x + less f x) (2 ^ low f) ≡ plus f x + less f x
unfolding plus less
size_kept f nan t i = absurd i
size_kept f (inf s) t i = absurd i
size_kept f (fin s m e) t i =
    let M = units_of f (fin s m e) in
    ap (λ (n : ℕ). grid f n (2 ^ low f)) (either s M) ∙ units_kept f s m e t ∙ sym (either s M)

-- ---- what `round` makes, by its parts
value_finite : (x : Float) (s : Bool) (a c : ℕ) → HasValue x s a c → T (finite x)
value_finite nan s a c h = h
value_finite (inf t) s a c h = h
value_finite (fin t m e) s a c h = tt

value_parts : (f : Format) (x : Float) (s : Bool) (R : ℕ) → HasValue x s R (2 ^ low f) → Parts f x (cond s 0 R) (cond s R 0)
value_parts f nan s R h = absurd h
value_parts f (inf t) s R h = absurd h
value_parts f (fin t m e) s R h = unfold plus less in record {
  is_plus = ap (λ (u : Bool). cond u 0 (units_of f (fin t m e))) h.0 ∙ ap (λ (n : ℕ). cond s 0 n) (units_of_lem f t m e R h.1);
  is_less = ap (λ (u : Bool). cond u (units_of f (fin t m e)) 0) h.0 ∙ ap (λ (n : ℕ). cond s n 0) (units_of_lem f t m e R h.1);
}

pub round_val : (f : Format) (s : Bool) (a c : ℕ) → grid f a c < overflow f → HasValue (round f s a c) s (grid f a c) (2 ^ low f)
round_val f s a c h = subst (λ (z : Float). HasValue z s (grid f a c) (2 ^ low f)) (sym (round_is f s a c)) (units_val f s (kept (prec f) (a * 2 ^ low f) c) (drop (prec f) (a * 2 ^ low f) c) h)

units_under : (f : Format) (s : Bool) (q k : ℕ) → T (finite (units f s q k)) → q * 2 ^ k < overflow f
unfolding units
units_under f s q k = go (ltb (q * 2 ^ k) (overflow f)) (ltb→lt (q * 2 ^ k) (overflow f))
  where
    go : (b : Bool) → (T b → q * 2 ^ k < overflow f) → T (finite (cond b (odd (suc (prec f)) s q k (low f)) (inf s))) → q * 2 ^ k < overflow f
    go true h t = h tt
    go false h t = absurd t

pub round_under : (f : Format) (s : Bool) (a c : ℕ) → T (finite (round f s a c)) → grid f a c < overflow f
round_under f s a c t = units_under f s (kept (prec f) (a * 2 ^ low f) c) (drop (prec f) (a * 2 ^ low f) c) (subst (λ (z : Float). T (finite z)) (round_is f s a c) t)

pub round_finite : (f : Format) (s : Bool) (a c : ℕ) → grid f a c < overflow f → T (finite (round f s a c))
round_finite f s a c h = value_finite (round f s a c) s (grid f a c) (2 ^ low f) (round_val f s a c h)

pub round_parts : (f : Format) (s : Bool) (a c : ℕ) → T (finite (round f s a c)) → Parts f (round f s a c) (cond s 0 (grid f a c)) (cond s (grid f a c) 0)
round_parts f s a c t = value_parts f (round f s a c) s (grid f a c) (round_val f s a c (round_under f s a c t))

-- ---- negation
pub neg_parts : (f : Format) (x : Float) → Parts f (neg x) (less f x) (plus f x)
unfolding neg plus less units_of
neg_parts f nan = record { is_plus = refl; is_less = refl }
neg_parts f (inf s) = record { is_plus = refl; is_less = refl }
neg_parts f (fin true m e) = record { is_plus = refl; is_less = refl }
neg_parts f (fin false m e) = record { is_plus = refl; is_less = refl }

pub neg_finite : (x : Float) → T (finite x) → T (finite (neg x))
unfolding neg
neg_finite nan t = t
neg_finite (inf s) t = t
neg_finite (fin s m e) t = t

pub val_above : (f : Format) (x : Float) → above (val f x) ≡ plus f x
unfolding val plus
val_above f nan = refl
val_above f (inf s) = refl
val_above f (fin true m e) = neg_above (pos (units_of f (fin true m e)))
val_above f (fin false m e) = refl

pub val_under : (f : Format) (x : Float) → under (val f x) ≡ less f x
unfolding val less
val_under f nan = refl
val_under f (inf s) = refl
val_under f (fin true m e) = neg_under (pos (units_of f (fin true m e)))
val_under f (fin false m e) = refl
