-- The ways through the functions that build the factor of mode 1. Assumes nothing.
use Prim.Native.Nat.{ℕ, ◌+◌, ◌*◌, ◌≤◌}
use mathlib.Core.Path.{◌≡◌, refl, sym, ap, ◌∙◌}
use mathlib.Core.Bool.{Bool, true, false, cond}
use mathlib.Core.List.{List, ◌++◌}
use native.Mathlib.Decide.{dec_le}
use native.Mathlib.Omega.{arith}
use lib.Dec.{ltb}
use lib.ListN.{length, get_or, take, drop, get_or-replicate, length-replicate, length-take, get_or-eq_default}
use lib.Seq.{drop_at, length-take-le}
use lib.Ieee.{Float}
use Rattle.std.specs.Prelude.{Result, Ok, Err}
use Rattle.loops.specs.Run.{Run, going, ended, on, check}
use Rattle.loops.specs.Cleared.{cleared_words}
use Rattle.mass_operator.specs.System.{System}
use Rattle.sparse.specs.Triangle.{Sparse}
use Rattle.sparse.specs.Cholesky.{factor_run, or_thirteen}
use Rattle.sparse.proofs.Left.{free, free_past, numbered_out}
use Rattle.sparse.specs.Kept.{Kept, numbers}
use Rattle.sparse.specs.Marks.{AtMost}
use Rattle.sparse.specs.Answers.{factor_out, factored_out}
use Rattle.refusals.specs.declared.Refusal.{Refusal}
use Rattle.refusals.specs.Number.{number_of}
use Rattle.refusals.specs.Told.{told}
use Rattle.loops.proofs.Inverse.{apart, ended_inj}
use Rattle.triangular.specs.Column.{Indexed}
use Rattle.pairs.specs.Pairs.{pattern_of, pair_count, pair_limit, pairs_of, finite_pairs}
use Rattle.pairs.specs.Pattern.{starts_in, columns_in}
use Rattle.pairs.specs.Answers.{judged_pairs, pairs_run, paired_in, paired_of, PairsHeld}
use Rattle.pairs.proofs.Places.{pairs_free}
use Rattle.pairs.proofs.Parted.{rest_of, columns_lent_long, starts_lent, columns_lent}
use Rattle.incomplete_cholesky.specs.Build.{cholesky_run, build_out, finish_out, Finished, FactorHeld, FactorPast}

-- ---- `factor_afresh`
pub marks_clear : (marks₀ marks : List ℕ) → marks ≡ cleared_words marks₀ → AtMost marks 0
marks_clear marks₀ marks e = rw e (record { most = λ k. go k (dec_le (length marks₀) k) })
  where
    go : (k : ℕ) → Dec (length marks₀ ≤ k) → get_or (cleared_words marks₀) k 0 ≤ 0
    go k (yes h) = let z : length (cleared_words marks₀) ≤ k = rw length-replicate h in omega (arith, get_or-eq_default (cleared_words marks₀) 0 {n = k} z)
    go k (no h) = omega (arith, get_or-replicate {A = ℕ} (length marks₀) k 0 0 (omega arith))

-- ---- `finish`; w is the number of rows in 64 bits

-- the lengths of what it lends
module _ (w rows : ℕ) (ew : w ≡ rows) where
  pub starts_fit : (pattern : List ℕ) (diagonal : List Float) (k : ℕ) → length pattern ≡ rows + 1 + k → length diagonal ≡ rows → length (take (w + 1) pattern) ≡ length diagonal + 1
  starts_fit pattern diagonal k h e = length-take-le (w + 1) pattern (omega arith) ∙ omega arith

  pub marks_fit : (order : List ℕ) (diagonal : List Float) (k : ℕ) → length order ≡ rows + k → length diagonal ≡ rows → length (take w order) ≡ length diagonal
  marks_fit order diagonal k h e = length-take-le w order (omega arith) ∙ omega arith

  pub order_fit : (pattern order₀ order : List ℕ) (k : ℕ) → length pattern ≡ rows + 1 + k → length order₀ ≡ rows + 2 * k → length order ≡ length order₀ → length order ≡ rows + 2 * length (rest_of (w + 1) pattern)
  order_fit pattern order₀ order k h h₀ e = omega (arith, columns_lent_long w rows ew pattern k h)

module _ (w rows : ℕ) (ew : w ≡ rows) (pattern : List ℕ) (diagonal₀ values₀ values diagonal : List Float) (f : Result Unit Refusal)
    (called : factor_run (numbers (take (w + 1) pattern) (rest_of (w + 1) pattern) values₀) diagonal₀ ≡ factor_out f (numbers (take (w + 1) pattern) (rest_of (w + 1) pattern) values) diagonal) where
  made : factor_run (numbers (starts_in rows pattern) (columns_in rows pattern) values₀) diagonal₀ ≡ factor_out f (numbers (starts_in rows pattern) (columns_in rows pattern) values) diagonal
  made = rw (starts_lent w rows ew pattern, columns_lent w rows ew pattern) at called

  -- `&mut order[..w]` came back as marks
  module _ (numbered : or_thirteen (factor_run (numbers (take (w + 1) pattern) (rest_of (w + 1) pattern) values₀) diagonal₀) ≡ factored_out f (numbers (take (w + 1) pattern) (rest_of (w + 1) pattern) values) diagonal) where
    thirteen : {e : Refusal} → f ≡ Err e → number_of e ≡ 13
    thirteen t = ended_inj (sym (numbered ∙ rw t) ∙ numbered_out {s = (numbers (take (w + 1) pattern) (rest_of (w + 1) pattern) values, diagonal)} (called ∙ rw t))

    pub finish_refused : (order marks : List ℕ) (k : ℕ) → length order ≡ rows + k → length marks ≡ length (take w order) → {e : Refusal} → f ≡ Err e → (f' : Result ℕ Refusal) → f' ≡ Err e
        → Finished rows diagonal₀ (told f') (starts_in rows pattern) (columns_in rows pattern) order (marks ++ drop w order) values₀ values diagonal
    finish_refused order marks k l g {e} t f' t' = rw t' (record {
      answered = made ∙ rw t;
      indexed = λ c u. absurd (apart _ u refl);
      refused = λ c u. (sym (ended_inj u) ∙ thirteen t, rw (← ew) (drop_at marks (drop w order) w (g ∙ length-take-le w order (omega arith))));
    })

  pub finish_done : (order₀ order : List ℕ) (count : ℕ) → {x : Unit} → f ≡ Ok x → Indexed (take (w + 1) pattern) (rest_of (w + 1) pattern) order rows count
      → Finished rows diagonal₀ (going count) (starts_in rows pattern) (columns_in rows pattern) order₀ order values₀ values diagonal
  finish_done order₀ order count t h = record {
    answered = made ∙ rw t;
    indexed = λ c e. let z : count ≡ c = cc in rw (starts_lent w rows ew pattern, columns_lent w rows ew pattern, z) at h;
    refused = λ k e. absurd (apart _ refl e);
  }

-- ---- `build_incomplete_cholesky_preconditioner`
module _ (s : System) (starts columns : List ℕ) (values₀ values : List Float) (q : Result ℕ Refusal) (held : PairsHeld s (told q) values₀ starts columns values) where
  pub paired_kept : (count : ℕ) → q ≡ Ok count → Kept starts columns
  paired_kept count t = (held.done count (ap told t)).kept

  -- what the answer says of the pairs' own run
  refused_run : (x : Run Sparse ℕ) → paired_in s x ≡ told q → (k : ℕ) → told q ≡ ended k → x ≡ ended k
  unfolding on
  refused_run (going L) e k t = absurd (let z : ◌≡◌ {A = ℕ} 0 1 = cc in omega arith)
  refused_run (ended a) e k t = let z : a ≡ k = cc in rw z

  done_run : (a b : Bool) (L : Sparse) (x : Run Sparse ℕ) → x ≡ cond a (ended 10) (check b (going L) (ended 12)) → paired_in s x ≡ told q → (c : ℕ) → told q ≡ going c → x ≡ going L
  unfolding on check
  done_run true b L x h e c t = absurd (let z : ◌≡◌ {A = ℕ} 0 1 = cc in omega arith)
  done_run false true L x h e c t = h
  done_run false false L x h e c t = absurd (let z : ◌≡◌ {A = ℕ} 0 1 = cc in omega arith)

  -- a refusal is 10 or 12
  ten_or_twelve : (a b : Bool) (L : Sparse) (k : ℕ) → cond a (ended 10) (check b (going L) (ended 12)) ≡ ended k → (k ≡ 10 → ⊥) → k ≡ 12
  unfolding check
  ten_or_twelve true b L k e n = absurd (n (cc))
  ten_or_twelve false true L k e n = absurd (let z : ◌≡◌ {A = ℕ} 0 1 = cc in omega arith)
  ten_or_twelve false false L k e n = cc

  pairs_refused : (k : ℕ) → told q ≡ ended k → pairs_run s ≡ ended k
  unfolding paired_of
  pairs_refused = refused_run (pairs_run s) (sym held.answered)

  pairs_done : (c : ℕ) → told q ≡ going c → pairs_run s ≡ going (pairs_of s)
  unfolding paired_of pairs_run judged_pairs
  pairs_done = done_run (ltb pair_limit (pair_count (pattern_of s) s.rows)) (finite_pairs (pairs_of s) s.rows) (pairs_of s) _ refl (sym held.answered)

  refused_as : (k : ℕ) → told q ≡ ended k → (k ≡ 10 → ⊥) → k ≡ 12
  unfolding pairs_run judged_pairs
  refused_as k t = ten_or_twelve (ltb pair_limit (pair_count (pattern_of s) s.rows)) (finite_pairs (pairs_of s) s.rows) (pairs_of s) k (pairs_refused k t)

  build_ended : (order : List ℕ) (diagonal : List Float) (k : ℕ) → told q ≡ ended k → FactorHeld s diagonal (ended k) starts columns order order values₀ values diagonal
  unfolding cholesky_run on
  build_ended order diagonal k t = record {
    answered = rw (pairs_refused k t);
    pattern = λ n. let z = refused_as k t (λ z. n (ap ended z)) in let c = held.twelve (rw z at t) in (c.kept, c.places);
    indexed = λ c e. absurd (let z : ◌≡◌ {A = ℕ} 0 1 = cc in omega arith);
    ten = λ e. let z : k ≡ 10 = cc in (refl, held.ten (rw z at t), refl);
    ten_words = λ e. let z : k ≡ 10 = cc in held.ten_words (rw z at t);
    twelve = λ e. let z : k ≡ 12 = cc in ((held.twelve (rw z at t)).pairs, refl, refl);
    thirteen = λ e. let z : k ≡ 13 = cc in absurd (let u = refused_as k t (λ u. omega arith) in omega arith);
  }

  pub build_refused : (order : List ℕ) (diagonal : List Float) {x : Refusal} → q ≡ Err x → (q' : Result ℕ Refusal) → q' ≡ Err x → FactorHeld s diagonal (told q') starts columns order order values₀ values diagonal
  build_refused order diagonal {x} t q' t' = rw t' (build_ended order diagonal (number_of x) (ap told t))

  module _ (diagonal₀ : List Float) (b : Run ℕ ℕ) (order₀ order : List ℕ) (values' diagonal : List Float) (count : ℕ) (t : q ≡ Ok count)
      (h : Finished s.rows diagonal₀ b starts columns order₀ order values values' diagonal) where
    made_of : factor_run (pairs_of s) diagonal₀ ≡ finish_out b (numbers starts columns values') diagonal
    made_of = ap (λ (L : Sparse). factor_run L diagonal₀) (sym (held.done count (ap told t)).pairs) ∙ h.answered

    as_thirteen : (a : Run ℕ ℕ) → ((k : ℕ) → a ≡ ended k → k ≡ 13) → or_thirteen (finish_out a (numbers starts columns values') diagonal) ≡ build_out a (numbers starts columns values') diagonal
    unfolding on
    as_thirteen (going c) n = refl
    as_thirteen (ended k) n = let z : k ≡ 13 = n k refl in rw z

    pub build_finished : FactorHeld s diagonal₀ b starts columns order₀ order values₀ values' diagonal
    unfolding cholesky_run on
    build_finished = record {
      answered = rw (pairs_done count (ap told t)) (ap or_thirteen made_of ∙ as_thirteen b (λ k e. (h.refused k e).0));
      pattern = λ _. ((held.done count (ap told t)).kept, (held.done count (ap told t)).places);
      indexed = h.indexed;
      ten = λ e. absurd (let z = (h.refused 10 e).0 in omega arith);
      ten_words = λ e. absurd (let z = (h.refused 10 e).0 in omega arith);
      twelve = λ e. absurd (let z = (h.refused 12 e).0 in omega arith);
      thirteen = λ e. (made_of ∙ rw e, (h.refused 13 e).1);
    }

pub factor_past : (rows count : ℕ) (pattern₀ pattern order₀ order : List ℕ) (values₀ values : List Float) → length pattern ≡ length pattern₀ → length order ≡ length order₀ → length values ≡ length values₀ → FactorPast rows count pattern₀ pattern order₀ order values₀ values
factor_past rows count pattern₀ pattern order₀ order values₀ values p o v = record {
  pairs = pairs_free rows count pattern₀ pattern values₀ values p v;
  index = free_past (rows + 2 * count) order₀ order o;
  marks = free (length-take rows order ∙ rw o (sym (length-take rows order₀)));
}
