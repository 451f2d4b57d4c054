-- The groups one after the other: each is solved as it would be first, since those before it have touched neither its rows nor its bodies. Assumes nothing.
use Prim.Native.Nat.{ℕ, ◌+◌, ◌*◌, ◌-◌, ◌<◌, ◌≤◌}
use mathlib.Core.Path.{◌≡◌, refl, ap, ◌∙◌}
use mathlib.Core.List.{List, ◌++◌}
use native.Mathlib.Omega.{arith}
use borrow.Author.Count.{below_more}
use lib.ListN.{length, get_or, take, drop, length-append, length-drop}
use lib.Seq.{length-take-le}
use lib.Ieee.{Float}
use Rattle.kapitsa_joint.specs.Kind.{placed_of}
use Rattle.kapitsa_joint.specs.declared.kind.Kind.{Kind}
use Rattle.position_delivery.specs.Outcome.{Lent}
use Rattle.group_table.specs.Pick.{rows_of}
use Rattle.group_step.specs.Bench.{Bench, Lending}
use Rattle.group_step.specs.Group.{GroupSolved}
use Rattle.group_step.specs.Step.{GroupStep, TableRoom, ToldRoom, OwnRoom}
use Rattle.group_step.proofs.Stepping.{group_from, group_on}
use Rattle.groups_solve.specs.Each.{EachSolved}

module _ (b : Bench) (marks groups : List ℕ) where
  -- what is lent, with these group numbers
  abbrev pub lending : Lent → List ℕ → List ℕ → List Float → Lending
  lending t r a m = record { table = t; rules = r; groups = groups; answers = a; maxima = m }

  -- the loop's invariant: the groups below g are solved
  pub record Round (count g : ℕ) (t₀ : Lent) (r₀ a₀ : List ℕ) (m₀ : List Float) (t : Lent) (r a : List ℕ) (m : List Float) : Type 0 where
    pub within : g ≤ count
    pub solved : EachSolved b marks g (lending t₀ r₀ a₀ m₀) (lending t r a m)
    pub table : TableRoom b.kind b.rows b.bodies t.numbers t.solution t.impulses t.centres r
    pub told : ToldRoom b.rows a m

  module _ {t₀ : Lent} {r₀ a₀ : List ℕ} {m₀ : List Float} where
    each_none : EachSolved b marks 0 (lending t₀ r₀ a₀ m₀) (lending t₀ r₀ a₀ m₀)
    each_none = record {
      each = λ h l. absurd (omega arith);
      numbers = record { same = λ h l. refl };
      solution = record { same = λ h l. refl };
      rules = record { same = λ h l. refl };
      impulses = record { same = λ body c l k n. refl };
      centres = record { same = λ body c l k n. refl };
      answers = record { same = λ k l. refl };
      maxima = record { same = λ k l. refl };
    }

    pub round_none : {count : ℕ} → TableRoom b.kind b.rows b.bodies t₀.numbers t₀.solution t₀.impulses t₀.centres r₀ → ToldRoom b.rows a₀ m₀ → Round count 0 t₀ r₀ a₀ m₀ t₀ r₀ a₀ m₀
    round_none x y = record { within = omega arith; solved = each_none; table = x; told = y }

    module _ {g : ℕ} {t : Lent} {r a : List ℕ} {m : List Float} {t' : Lent} {r' a' : List ℕ} {m' : List Float} (s : EachSolved b marks g (lending t₀ r₀ a₀ m₀) (lending t r a m)) (x : GroupStep b marks g (lending t r a m) (lending t' r' a' m')) where
      -- a group below g is not touched
      before : (h : ℕ) → h < g → GroupSolved (λ body. get_or marks body 0 ≡ h + 1) b h (rows_of groups h b.rows) (lending t₀ r₀ a₀ m₀) (lending t' r' a' m')
      before h l =
          group_on (λ body. get_or marks body 0 ≡ h + 1) b h (rows_of groups h b.rows) (s.each h l) (x.kept.numbers_else.same h (λ e. omega arith)) (x.kept.solution_else.same h (λ e. omega arith)) (x.kept.rules_else.same h (λ e. omega arith))
          (λ body c p q e. x.kept.impulses_else.same body c p q (λ d. omega arith)) (λ body c p q e. x.kept.centres_else.same body c p q (λ d. omega arith))
          (λ k p q. x.words_else.below k (omega arith)) (λ k p q. x.maxima_else.below k (omega arith))

      -- and group g has not been touched before
      this : GroupSolved (λ body. get_or marks body 0 ≡ g + 1) b g (rows_of groups g b.rows) (lending t₀ r₀ a₀ m₀) (lending t' r' a' m')
      this =
          group_from (λ body. get_or marks body 0 ≡ g + 1) b g (rows_of groups g b.rows) x.solved (s.numbers.same g (omega arith)) (s.solution.same g (omega arith)) (s.rules.same g (omega arith))
          (λ body c p q e. s.impulses.same body c p q (λ h l d. omega arith)) (λ body c p q e. s.centres.same body c p q (λ h l d. omega arith))
          (s.maxima.same (2 * g) (omega arith)) (s.maxima.same (2 * g + 1) (omega arith))

      each_more : EachSolved b marks (g + 1) (lending t₀ r₀ a₀ m₀) (lending t' r' a' m')
      each_more = record {
        each = below_more _ _ before this;
        numbers = record { same = λ h l. x.kept.numbers_else.same h (λ e. omega arith) ∙ s.numbers.same h (omega arith) };
        solution = record { same = λ h l. x.kept.solution_else.same h (λ e. omega arith) ∙ s.solution.same h (omega arith) };
        rules = record { same = λ h l. x.kept.rules_else.same h (λ e. omega arith) ∙ s.rules.same h (omega arith) };
        impulses = record { same = λ body c p q n. x.kept.impulses_else.same body c p q (n g (omega arith)) ∙ s.impulses.same body c p q (λ h l. n h (omega arith)) };
        centres = record { same = λ body c p q n. x.kept.centres_else.same body c p q (n g (omega arith)) ∙ s.centres.same body c p q (λ h l. n h (omega arith)) };
        answers = record { same = λ k l. x.words_else.above k (omega arith) ∙ s.answers.same k (omega arith) };
        maxima = record { same = λ k l. x.maxima_else.above k (omega arith) ∙ s.maxima.same k (omega arith) };
      }

    pub round_more : {count g : ℕ} {t : Lent} {r a : List ℕ} {m : List Float} {t' : Lent} {r' a' : List ℕ} {m' : List Float} → Round count g t₀ r₀ a₀ m₀ t r a m → g < count → GroupStep b marks g (lending t r a m) (lending t' r' a' m')
        → length t'.numbers ≡ length t.numbers → length t'.solution ≡ length t.solution → length t'.impulses ≡ length t.impulses → length t'.centres ≡ length t.centres → length r' ≡ length r → length a' ≡ length a → length m' ≡ length m
        → Round count (g + 1) t₀ r₀ a₀ m₀ t' r' a' m'
    round_more h l x e1 e2 e3 e4 e5 e6 e7 = record {
      within = omega arith;
      solved = each_more h.solved x;
      table = record { numbers_long = e1 ∙ h.table.numbers_long; solution_long = e2 ∙ h.table.solution_long; impulses_long = e3 ∙ h.table.impulses_long; centres_long = e4 ∙ h.table.centres_long; rules_long = e5 ∙ h.table.rules_long };
      told = record { answers_long = e6 ∙ h.told.answers_long; maxima_long = e7 ∙ h.told.maxima_long };
    }

    pub round_end : {count g : ℕ} {t : Lent} {r a : List ℕ} {m : List Float} → Round count g t₀ r₀ a₀ m₀ t r a m → count ≤ g → EachSolved b marks count (lending t₀ r₀ a₀ m₀) (lending t r a m)
    round_end {count} {g} h l = let e : g ≡ count = omega (arith, h.within) in rw e at h.solved

-- ---- the memory of a group of k rows, as parts of arrays for 512 rows and 256 bodies
pub own_room : (kind : Kind) (bodies k placed : ℕ) (numbers : List Float) (words : List ℕ) (given solution impulses centres : List Float) (rules : List ℕ) → k ≤ 512 → bodies ≤ 256 → placed ≤ 256 → placed ≡ placed_of kind bodies
    → length numbers ≡ 13824 → length words ≡ 4096 → length given ≡ 512 → length solution ≡ 512 → length impulses ≡ 1536 → length centres ≡ 768 → length rules ≡ 512
    → OwnRoom kind bodies k (take (27 * k) numbers) (take (8 * k) words) (take k given) (take k solution) (take (6 * bodies) impulses) (take (3 * placed) centres) (take k rules)
own_room kind bodies k placed numbers words given solution impulses centres rules hk hb hp e en ew eg es ei ec er = record {
  table = record {
    numbers_long = length-take-le (27 * k) numbers (omega arith);
    solution_long = length-take-le k solution (omega arith);
    impulses_long = length-take-le (6 * bodies) impulses (omega arith);
    centres_long = length-take-le (3 * placed) centres (omega arith) ∙ ap (λ x. 3 * x) e;
    rules_long = length-take-le k rules (omega arith);
  };
  words_long = length-take-le (8 * k) words (omega arith);
  given_long = length-take-le k given (omega arith);
}

-- ---- the same bounds, one by one; k rows are those of a group among at most 512
module _ {k l n : ℕ} (e : k ≡ l) (h : l ≤ n) (m : n ≤ 512) where
  pub fit_1 : k ≤ 512
  fit_1 = omega arith

  pub fit_8 : 8 * k ≤ 4096
  fit_8 = omega arith

  pub fit_27 : 27 * k ≤ 13824
  fit_27 = omega arith

pub fit_6 : {b : ℕ} → b ≤ 256 → 6 * b ≤ 1536
fit_6 h = omega arith

module _ {p q b : ℕ} (e : p ≡ q) (h : q ≤ b) (m : b ≤ 256) where
  pub fit_3 : 3 * p ≤ 768
  fit_3 = omega arith

  pub fit_placed : p ≤ 256
  fit_placed = omega arith

pub below_rows : {g count n : ℕ} → g < count → count ≤ n → g < n
below_rows h l = omega arith

-- ---- the arrays stay as long as they are, while their fronts are lent
pub record Arrays (numbers : List Float) (words : List ℕ) (given solution impulses centres : List Float) (rules : List ℕ) : Type 0 where
  pub numbers_long : length numbers ≡ 13824
  pub words_long : length words ≡ 4096
  pub given_long : length given ≡ 512
  pub solution_long : length solution ≡ 512
  pub impulses_long : length impulses ≡ 1536
  pub centres_long : length centres ≡ 768
  pub rules_long : length rules ≡ 512

pub within_long : {m n l : ℕ} → m ≤ n → l ≡ n → m ≤ l
within_long h e = omega arith

pub front_long : {X : Type 0} (n : ℕ) (l x : List X) {m : ℕ} → n ≤ m → length l ≡ m → length x ≡ length (take n l) → length (x ++ drop n l) ≡ m
front_long n l x h e d = length-append x (drop n l) ∙ omega (arith, length-take-le n l (omega arith), length-drop n l)

-- ---- the loop's count
pub next_below : {g count n : ℕ} → g < count → count ≤ n → n ≤ 512 → g + 1 < 514
next_below h l m = omega arith

pub nearer : {g count : ℕ} → g < count → count - (g + 1) < count - g
nearer h = omega arith
