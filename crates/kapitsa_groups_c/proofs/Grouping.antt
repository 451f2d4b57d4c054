-- What a solve by groups tells C, from the promise of its entry, of either kind. Assumes nothing.
use Prim.Native.Nat.{ℕ, ◌<◌}
use mathlib.Core.Path.{◌≡◌, refl, sym, ap, subst, ◌∙◌}
use mathlib.Core.Bool.{Bool, true, false, not, ◌&&◌}
use mathlib.Core.List.{List, [], ◌∷◌}
use mathlib.Core.Logic.{◌↔◌, inl}
use native.Mathlib.Omega.{arith}
use lib.ListN.{length, set}
use lib.Ieee.{Float}
use borrow.Author.Tests.{not-true, not-false, eqb-true}
use Rattle.loops.specs.Run.{Run, going, ended, Goes}
use Rattle.loops.specs.Judge.{judge, FirstToFail}
use Rattle.loops.proofs.Inverse.{apart}
use Rattle.loops.proofs.Judge.{judge_ended}
use Rattle.loops.proofs.Ranges.{Among, Listed, among_judge}
use Rattle.kapitsa_joint.specs.declared.kind.Kind.{Kind}
use Rattle.kapitsa_joint.specs.declared.kind.Kind.TheVariants.{Position, Velocity}
use Rattle.rules.specs.Rules.{Rules}
use Rattle.solve_method.specs.Position.{solve_for}
use Rattle.group_step.specs.Bench.{Bench, Lending, bench_problem}
use Rattle.groups_solve.specs.Judged.{whole_tests, grouping_out}
use Rattle.groups_solve.specs.Solved.{GroupsSolved}
use Rattle.kapitsa_groups_c.specs.Benches.{BenchTold, bench_told, count_fits, GroupsTold}

abbrev Above : ℕ → Type 0
Above n = 0 < n

-- no refusal of a whole table has the number 0
numbers_above : (kind : Kind) (fits : Bool) (rows bodies : ℕ) (numbers : List Float) (words : List ℕ) (masses centres given : List Float) (rules : Rules) (shift : Float) → Listed Above (whole_tests fits (solve_for kind rows bodies numbers words masses centres given rules shift))
unfolding Listed
numbers_above Position fits rows bodies numbers words masses centres given rules shift = (omega arith, (omega arith, (omega arith, (omega arith, (omega arith, (omega arith, (omega arith, tt)))))))
numbers_above Velocity fits rows bodies numbers words masses centres given rules shift = (omega arith, (omega arith, (omega arith, (omega arith, (omega arith, (omega arith, (omega arith, (omega arith, tt))))))))

module _ (b : Bench) (before : Lending) (count : List ℕ) where
  abbrev tests : Bool → List (ℕ × Bool)
  tests fits = whole_tests fits (bench_problem b before.table.numbers)

  not_zero : (fits : Bool) → Among Above (judge (tests fits))
  not_zero fits = among_judge Above (tests fits) (numbers_above b.kind fits b.rows b.bodies before.table.numbers b.words b.masses b.centres b.given b.rules b.shift)

  -- 0 is told exactly where the whole table's tests pass
  told_zero : (fits : Bool) (a : Run ℕ ℕ) → judge (tests fits) ≡ grouping_out a → ((bench_told a count).number ≡ 0) ↔ Goes (judge (tests fits))
  unfolding bench_told
  told_zero fits (going groups) e = (λ _. (tt, e), λ _. refl)
  told_zero fits (ended number) e = (λ z. let h = not_zero fits number e in absurd (omega arith), λ g. absurd (apart _ g.1 e))

  groups_told : (fits : Bool) {after : Lending} {a : Run ℕ ℕ} {told : BenchTold} → GroupsSolved fits b before after a → told ≡ bench_told a count → GroupsTold fits b before after count told
  groups_told fits {after} {a} {told} h w =
      record {
        answer = a;
        solved = h;
        answered = w;
        zero = subst (λ (x : ℕ). (x ≡ 0) ↔ Goes (judge (tests fits))) (sym (ap (λ (x : BenchTold). x.number) w)) (told_zero fits a h.answered);
      }

  -- refusal 3 touches nothing
  refused_3 : (fits : Bool) → fits ≡ false → GroupsSolved fits b before before (ended 3)
  unfolding FirstToFail
  refused_3 fits e = record {
    answered = (judge_ended (tests fits) 3).1 (inl (e, refl));
    kept = λ _ _. refl;
    solved = λ _ q. absurd (let z : ◌≡◌ {A = ℕ} 0 1 = cc in omega arith);
  }

  -- ---- the word that takes how many groups there are
  module _ {r : Bool} (rest : Bool) (e : r ≡ count_fits count) where
    pub bench_untold : not r ≡ true → GroupsTold (count_fits count && rest) b before before count (record { number = 3; count = count })
    unfolding bench_told
    bench_untold h = groups_told (count_fits count && rest) (refused_3 (count_fits count && rest) (ap (λ (x : Bool). x && rest) (sym e ∙ not-true r h))) refl

    pub bench_on : {after : Lending} {a : Run ℕ ℕ} {told : BenchTold} → not r ≡ false → GroupsSolved rest b before after a → told ≡ bench_told a count → GroupsTold (count_fits count && rest) b before after count told
    bench_on {after} {a} h k w = groups_told (count_fits count && rest) (subst (λ (x : Bool). GroupsSolved x b before after a) (sym (ap (λ (x : Bool). x && rest) (sym e ∙ not-false r h))) k) w

-- where it fits, it is one word
pub count_length : (count : List ℕ) {r : Bool} → r ≡ count_fits count → not r ≡ false → length count ≡ 1
unfolding count_fits
count_length count {r} e h = eqb-true (length count) 1 (sym e ∙ not-false r h)

-- ---- `tell_groups`
one_set : (xs : List ℕ) (x : ℕ) → length xs ≡ 1 → set xs 0 x ≡ x ∷ []
one_set [] x e = absurd (omega arith)
one_set (y ∷ []) x e = refl
one_set (y ∷ z ∷ zs) x e = absurd (omega arith)

module _ (a : Run ℕ ℕ) (count : List ℕ) where
  pub told_groups : (groups : ℕ) → a ≡ going groups → length count ≡ 1 → record { number = 0; count = set count 0 groups } ≡ bench_told a count
  unfolding bench_told
  told_groups groups e h = rw (e, one_set count groups h)

  pub told_whole : (number : ℕ) → a ≡ ended number → record { number = number; count = count } ≡ bench_told a count
  unfolding bench_told
  told_whole number e = rw e
