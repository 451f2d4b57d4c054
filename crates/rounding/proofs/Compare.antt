-- Comparisons of finite numbers are comparisons of their parts. Assumes nothing.
use Prim.Native.Nat.{◌*◌, ◌+◌, ◌<◌, ◌^◌, ◌≤◌, ℕ}
use mathlib.Core.Bool.{Bool, ◌&&◌, ◌||◌, cond, false, not, true}
use mathlib.Core.Path.{◌∙◌, ◌≡◌, ap, refl, sym}
use native.Mathlib.Nat.{eq_of_mul-eq-mul_right, le_antisymm, le_of_eq, le_of_lt, lt_of_le_of_lt, lt_of_lt_of_le, lt_of_mul-lt-mul_right, mul_assoc, mul_comm, mul-lt-mul_of_pos_right, mul-pos, mul_right_comm, zero-mul}
use native.Mathlib.Omega.{arith}
use lib.Dec.{T, eqb, eqb→eq, leb, leb→le, le→leb, ltb, ltb→lt, lt→ltb, nltb→le}
use lib.Ieee.{Float, Format, below, down, eq, fin, fits, inf, le, level, low, lt, nan, up}
use lib.Ieee.Fits.{and_i, and_l, and_r, down_pos, eq→eqb}
use lib.Ieee.Scale.{finite}
use lib.Pow.{pow_pos}
use Rattle.binary64.proofs.Units.{units_exact}
use Rattle.binary64.specs.Units.{units_of}
use Rattle.rounding.specs.Value.{less, plus}

same_test : (a b : Bool) → (T a → T b) → (T b → T a) → a ≡ b
same_test true true h k = refl
same_test true false h k = absurd (h tt)
same_test false true h k = absurd (k tt)
same_test false false h k = refl

ltb_same : (a b c d : ℕ) → (a < b → c < d) → (c < d → a < b) → ltb a b ≡ ltb c d
ltb_same a b c d h k = same_test (ltb a b) (ltb c d) (λ t. lt→ltb c d (h (ltb→lt a b t))) (λ t. lt→ltb a b (k (ltb→lt c d t)))

lt_scale : (a b M N U c : ℕ) → 0 < U → 0 < c → a * U ≡ M * c → b * U ≡ N * c → a < b → M < N
lt_scale a b M N U c P C e h l = lt_of_mul-lt-mul_right c (lt_of_le_of_lt (le_of_eq (sym e)) (lt_of_lt_of_le (mul-lt-mul_of_pos_right l P) (le_of_eq h)))

pub lt_is : (f : Format) (x y : Float) → T (fits f x) → T (fits f y) → T (finite x) → T (finite y) → lt x y ≡ ltb (plus f x + less f y) (plus f y + less f x)
unfolding lt plus less
lt_is f nan y p q i j = absurd i
lt_is f (inf s) y p q i j = absurd i
lt_is f (fin s m e) nan p q i j = absurd j
lt_is f (fin s m e) (inf t) p q i j = absurd j
lt_is f (fin s m e) (fin t n d) p q i j =
    go s t (m * up e * down d) (n * up d * down e) (units_of f (fin s m e)) (units_of f (fin t n d)) (down e * down d) (mul-pos (down_pos e) (down_pos d))
    (mul_right_comm (m * up e) (down d) (2 ^ low f) ∙ ap (λ (k : ℕ). k * down d) (units_exact f s m e p) ∙ mul_assoc (units_of f (fin s m e)) (down e) (down d))
    (mul_right_comm (n * up d) (down e) (2 ^ low f) ∙ ap (λ (k : ℕ). k * down e) (units_exact f t n d q) ∙ mul_assoc (units_of f (fin t n d)) (down d) (down e) ∙ ap (λ (k : ℕ). units_of f (fin t n d) * k) (mul_comm (down d) (down e)))
  where
    go : (s t : Bool) (a b M N c : ℕ) → 0 < c → a * 2 ^ low f ≡ M * c → b * 2 ^ low f ≡ N * c → below s a t b ≡ ltb (cond s 0 M + cond t N 0) (cond t 0 N + cond s M 0)
    go false false a b M N c C A B = ltb_same a b (M + 0) (N + 0) (λ l. plain M N (lt_scale a b M N (2 ^ low f) c (pow_pos (low f)) C A B l)) (λ l. lt_scale M N a b c (2 ^ low f) C (pow_pos (low f)) (sym A) (sym B) (bare M N l))
      where
        plain : (M N : ℕ) → M < N → M + 0 < N + 0
        plain M N h = omega arith

        bare : (M N : ℕ) → M + 0 < N + 0 → M < N
        bare M N h = omega arith
    go false true a b M N c C A B = same_test false (ltb (M + N) (0 + 0)) (λ t. absurd t) (λ t. absurd (none_below (ltb→lt (M + N) (0 + 0) t)))
      where
        none_below : {n : ℕ} → n < 0 + 0 → ⊥
        none_below h = omega arith
    go true false a b M N c C A B = ltb_same 0 (a + b) (0 + 0) (N + M) (λ l. more (lt_scale 0 (a + b) 0 (N + M) (2 ^ low f) c (pow_pos (low f)) C (zero-mul (2 ^ low f) ∙ sym (zero-mul c)) both l)) (λ l. lt_scale 0 (N + M) 0 (a + b) c (2 ^ low f) C (pow_pos (low f)) (zero-mul c ∙ sym (zero-mul (2 ^ low f))) (sym both) (fewer l))
      where
        both : (a + b) * 2 ^ low f ≡ (N + M) * c
        both = omega arith

        more : {n : ℕ} → 0 < n → 0 + 0 < n
        more h = omega arith

        fewer : {n : ℕ} → 0 + 0 < n → 0 < n
        fewer h = omega arith
    go true true a b M N c C A B = ltb_same b a (0 + N) (0 + M) (λ l. plain N M (lt_scale b a N M (2 ^ low f) c (pow_pos (low f)) C B A l)) (λ l. lt_scale N M b a c (2 ^ low f) C (pow_pos (low f)) (sym B) (sym A) (bare N M l))
      where
        plain : (M N : ℕ) → M < N → 0 + M < 0 + N
        plain M N h = omega arith

        bare : (M N : ℕ) → 0 + M < 0 + N → M < N
        bare M N h = omega arith

eqb_same : (a b c d : ℕ) → (a ≡ b → c ≡ d) → (c ≡ d → a ≡ b) → eqb a b ≡ eqb c d
eqb_same a b c d h k = same_test (eqb a b) (eqb c d) (λ t. eq→eqb (h (eqb→eq a b t))) (λ t. eq→eqb (k (eqb→eq c d t)))

eq_scale : (a b M N U c : ℕ) → 0 < c → a * U ≡ M * c → b * U ≡ N * c → a ≡ b → M ≡ N
eq_scale a b M N U c C e h l = eq_of_mul-eq-mul_right c C M N (sym e ∙ ap (λ (n : ℕ). n * U) l ∙ h)

pub eq_is : (f : Format) (x y : Float) → T (fits f x) → T (fits f y) → T (finite x) → T (finite y) → eq x y ≡ eqb (plus f x + less f y) (plus f y + less f x)
unfolding eq plus less
eq_is f nan y p q i j = absurd i
eq_is f (inf s) y p q i j = absurd i
eq_is f (fin s m e) nan p q i j = absurd j
eq_is f (fin s m e) (inf t) p q i j = absurd j
eq_is f (fin s m e) (fin t n d) p q i j =
    go s t (m * up e * down d) (n * up d * down e) (units_of f (fin s m e)) (units_of f (fin t n d)) (down e * down d) (mul-pos (down_pos e) (down_pos d))
    (mul_right_comm (m * up e) (down d) (2 ^ low f) ∙ ap (λ (k : ℕ). k * down d) (units_exact f s m e p) ∙ mul_assoc (units_of f (fin s m e)) (down e) (down d))
    (mul_right_comm (n * up d) (down e) (2 ^ low f) ∙ ap (λ (k : ℕ). k * down e) (units_exact f t n d q) ∙ mul_assoc (units_of f (fin t n d)) (down d) (down e) ∙ ap (λ (k : ℕ). units_of f (fin t n d) * k) (mul_comm (down d) (down e)))
  where
    and_true : (b : Bool) → (b && true) ≡ b
    and_true true = refl
    and_true false = refl

    both_zero : (a b M N c : ℕ) → 0 < c → a * 2 ^ low f ≡ M * c → b * 2 ^ low f ≡ N * c → (eqb a b && eqb a 0) ≡ eqb (M + N) 0
    both_zero a b M N c C A B = same_test (eqb a b && eqb a 0) (eqb (M + N) 0)
        (λ t. eq→eqb (none (eqb→eq a b (and_l (eqb a b) (eqb a 0) t)) (eqb→eq a 0 (and_r (eqb a b) (eqb a 0) t))))
        (λ t. and_i (eqb a b) (eqb a 0) (eq→eqb (left (eqb→eq (M + N) 0 t) ∙ sym (right (eqb→eq (M + N) 0 t)))) (eq→eqb (left (eqb→eq (M + N) 0 t))))
      where
        zero_of : (a M : ℕ) → a * 2 ^ low f ≡ M * c → M ≡ 0 → a ≡ 0
        zero_of a M A z = eq_scale M 0 a 0 c (2 ^ low f) (pow_pos (low f)) (sym A) (zero-mul c ∙ sym (zero-mul (2 ^ low f))) z

        left : M + N ≡ 0 → a ≡ 0
        left z = zero_of a M A (omega arith)

        right : M + N ≡ 0 → b ≡ 0
        right z = zero_of b N B (omega arith)

        none : a ≡ b → a ≡ 0 → M + N ≡ 0
        none l z =
            let u : M ≡ 0 = eq_scale a 0 M 0 (2 ^ low f) c C A (zero-mul (2 ^ low f) ∙ sym (zero-mul c)) z in
            let v : N ≡ 0 = eq_scale b 0 N 0 (2 ^ low f) c C B (zero-mul (2 ^ low f) ∙ sym (zero-mul c)) (sym l ∙ z) in
            omega arith

    go : (s t : Bool) (a b M N c : ℕ) → 0 < c → a * 2 ^ low f ≡ M * c → b * 2 ^ low f ≡ N * c → level s a t b ≡ eqb (cond s 0 M + cond t N 0) (cond t 0 N + cond s M 0)
    go false false a b M N c C A B = and_true (eqb a b) ∙ eqb_same a b (M + 0) (N + 0) (λ l. ap (λ (n : ℕ). n + 0) (eq_scale a b M N (2 ^ low f) c C A B l)) (λ l. eq_scale M N a b c (2 ^ low f) (pow_pos (low f)) (sym A) (sym B) (bare M N l))
      where
        bare : (M N : ℕ) → M + 0 ≡ N + 0 → M ≡ N
        bare M N h = omega arith
    go false true a b M N c C A B = both_zero a b M N c C A B
    go true false a b M N c C A B = both_zero a b M N c C A B ∙ eqb_same (M + N) 0 (0 + 0) (N + M) (λ l. turn M N l) (λ l. back' M N l)
      where
        turn : (M N : ℕ) → M + N ≡ 0 → 0 + 0 ≡ N + M
        turn M N h = omega arith

        back' : (M N : ℕ) → 0 + 0 ≡ N + M → M + N ≡ 0
        back' M N h = omega arith
    go true true a b M N c C A B = and_true (eqb a b) ∙ eqb_same a b (0 + N) (0 + M) (λ l. ap (λ (n : ℕ). 0 + n) (sym (eq_scale a b M N (2 ^ low f) c C A B l))) (λ l. eq_scale M N a b c (2 ^ low f) (pow_pos (low f)) (sym A) (sym B) (bare M N l))
      where
        bare : (M N : ℕ) → 0 + N ≡ 0 + M → M ≡ N
        bare M N h = omega arith

lt_or_eq : (a b : ℕ) → (ltb a b || eqb a b) ≡ leb a b
lt_or_eq a b = same_test (ltb a b || eqb a b) (leb a b) (λ t. le→leb a b (there (ltb a b) (eqb a b) (ltb→lt a b) (eqb→eq a b) t)) (λ t. back' (ltb a b) (nltb→le a b) (leb→le a b t))
  where
    there : (u v : Bool) → (T u → a < b) → (T v → a ≡ b) → T (u || v) → a ≤ b
    there true v h k t = le_of_lt (h tt)
    there false v h k t = le_of_eq (k t)

    back' : (u : Bool) → (T (not u) → b ≤ a) → a ≤ b → T (u || eqb a b)
    back' true k l = tt
    back' false k l = eq→eqb (le_antisymm l (k tt))

pub le_is : (f : Format) (x y : Float) → T (fits f x) → T (fits f y) → T (finite x) → T (finite y) → le x y ≡ leb (plus f x + less f y) (plus f y + less f x)
unfolding le
le_is f x y p q i j =
    ap (λ (b : Bool). b || eq x y) (lt_is f x y p q i j)
    ∙ ap (λ (b : Bool). ltb (plus f x + less f y) (plus f y + less f x) || b) (eq_is f x y p q i j)
    ∙ lt_or_eq (plus f x + less f y) (plus f y + less f x)
