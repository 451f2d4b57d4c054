-- The whole table from its groups: the numbers of the rows, the bodies of no group, and each group. Assumes nothing.
use Prim.Native.Nat.{ℕ, ◌+◌, ◌*◌, ◌<◌, ◌≤◌}
use mathlib.Core.Path.{◌≡◌, refl, sym, ap, ◌∙◌}
use mathlib.Core.Bool.{true, false, true≢false}
use mathlib.Core.List.{List}
use mathlib.Core.Logic.{inl, inr}
use native.Mathlib.Omega.{arith}
use native.Mathlib.Decide.{dec_lt}
use lib.ListN.{length, get_or, replicate, get_or-replicate, length-replicate, get_or-eq_default}
use lib.Ieee.{Float, nan}
use Rattle.loops.specs.Cleared.{plus_zero, zeros}
use Rattle.kapitsa_joint.specs.Row.{row_of, words_of}
use Rattle.kapitsa_joint.specs.Kind.{placed_of}
use Rattle.kapitsa_joint.specs.declared.kind.Kind.{Kind}
use Rattle.position_delivery.specs.Outcome.{Lent}
use Rattle.groups.specs.Together.{links_in, joins_in, links_of, joins_of, Grouped, Member, Apart}
use Rattle.groups.specs.Steps.{Marks, Zeros}
use Rattle.group_table.specs.Pick.{rows_of}
use Rattle.group_step.specs.Bench.{Bench, Lending, bench_table}
use Rattle.group_step.specs.Group.{GroupSolved}
use Rattle.group_step.specs.Step.{BodiesPut, TableRoom}
use Rattle.group_step.proofs.Delivery.{placed_few}
use Rattle.group_step.proofs.Stepping.{group_from, group_mine}
use Rattle.groups_solve.specs.Each.{EachSolved}
use Rattle.groups_solve.specs.Solved.{StaysPut, SameLengths, BenchSolved}

-- an array of zeros
pub zeros_there : (n : ℕ) → Zeros (replicate n 0)
zeros_there n = record { at = λ x. go x (dec_lt x n) }
  where
    go : (x : ℕ) → Dec (x < n) → get_or {A = ℕ} (replicate n 0) x 0 ≡ 0
    go x (yes h) = get_or-replicate n x 0 0 h
    go x (no h) = get_or-eq_default (replicate n 0) 0 (omega (arith, length-replicate {A = ℕ} n 0))

-- ---- the rows and masses of the lent lists are those of the table
pub grouped_table : (b : Bench) (numbers : List Float) (groups : List ℕ) (count : ℕ) → Grouped (links_in b.words) (joins_in b.masses) b.rows groups count → Grouped (links_of (bench_table b numbers)) (joins_of (bench_table b numbers)) b.rows groups count
unfolding row_of words_of
grouped_table b numbers groups count h = h

pub marks_table : (b : Bench) (numbers : List Float) (groups marks : List ℕ) → Marks (links_in b.words) (joins_in b.masses) b.rows groups marks → Marks (links_of (bench_table b numbers)) (joins_of (bench_table b numbers)) b.rows groups marks
unfolding row_of words_of
marks_table b numbers groups marks h = h

module _ (b : Bench) (few : b.bodies ≤ 256) (groups marks : List ℕ) (count : ℕ) (t₀ : Lent) (r₀ g₀ a₀ : List ℕ) (m₀ : List Float) (impulses centres : List Float) (t : Lent) (r a : List ℕ) (m : List Float) where
  abbrev before : Lending
  before = record { table = t₀; rules = r₀; groups = g₀; answers = a₀; maxima = m₀ }

  -- once the bodies of no group have theirs
  abbrev now : Lending
  now = record { table = record { numbers = t₀.numbers; solution = t₀.solution; impulses = impulses; centres = centres }; rules = r₀; groups = groups; answers = a₀; maxima = m₀ }

  abbrev after : Lending
  after = record { table = t; rules = r; groups = groups; answers = a; maxima = m }

  module _ (marked : Marks (links_of (bench_table b t₀.numbers)) (joins_of (bench_table b t₀.numbers)) b.rows groups marks) (p : BodiesPut marks 0 b.bodies (placed_of b.kind b.bodies) (zeros 1536) b.centres t₀.impulses t₀.centres impulses centres) (s : EachSolved b marks count now after) where
    one : (g : ℕ) → g < count → GroupSolved (Member (links_of (bench_table b t₀.numbers)) (joins_of (bench_table b t₀.numbers)) b.rows groups g) b g (rows_of groups g b.rows) before after
    one g l =
        group_mine (λ body. get_or marks body 0 ≡ g + 1) (Member (links_of (bench_table b t₀.numbers)) (joins_of (bench_table b t₀.numbers)) b.rows groups g) (λ body _ x. marked.some x.row body x.within x.has x.joins ∙ ap (λ y. y + 1) x.group) (λ body k. omega (arith, placed_few b.kind b.bodies))
        (group_from (λ body. get_or marks body 0 ≡ g + 1) b g (rows_of groups g b.rows) (s.each g l) refl refl refl (λ body c k q e. p.impulses_put_lem.others body c q (λ _ d. omega arith)) (λ body c k q e. p.centres_put_lem.others body c q (λ _ d. omega arith)) refl refl)

    none : (body : ℕ) → Apart (links_of (bench_table b t₀.numbers)) (joins_of (bench_table b t₀.numbers)) b.rows body → get_or marks body 0 ≡ 0
    none body (inl e) = marked.none body (λ i l h j. true≢false (sym j ∙ e))
    none body (inr e) = marked.none body (λ i l h j. e i l h)

    still : (body : ℕ) → body < b.bodies → Apart (links_of (bench_table b t₀.numbers)) (joins_of (bench_table b t₀.numbers)) b.rows body → StaysPut b body after
    still body l x =
        let e = none body x in
        record {
          impulses = λ c k. s.impulses.same body c l k (λ h q d. omega arith) ∙ p.impulses_put_lem.at body c l k e ∙ get_or-replicate 1536 (6 * body + c) plus_zero nan (omega arith);
          centre = λ c q k. s.centres.same body c q k (λ h o d. omega arith) ∙ p.centres_put_lem.at body c q k e;
        }

    pub bench_solved : Grouped (links_of (bench_table b t₀.numbers)) (joins_of (bench_table b t₀.numbers)) b.rows groups count → SameLengths before after → BenchSolved b before after count
    bench_solved g l = record { grouped = g; each = one; apart = still; answers_behind = s.answers.same; maxima_behind = s.maxima.same; long = l }

-- `still_bodies`, which puts for as many as have a centre
pub still_put : (kind : Kind) {marks : List ℕ} {bodies placed : ℕ} {ownImpulses ownCentres impulses₀ centres₀ impulses centres : List Float} → placed ≡ placed_of kind bodies → BodiesPut marks 0 bodies placed ownImpulses ownCentres impulses₀ centres₀ impulses centres → BodiesPut marks 0 bodies (placed_of kind bodies) ownImpulses ownCentres impulses₀ centres₀ impulses centres
still_put kind e h = rw e at h

pub still_room : {kind : Kind} {n bodies : ℕ} {numbers solution impulses₀ centres₀ impulses centres : List Float} {rules : List ℕ} → TableRoom kind n bodies numbers solution impulses₀ centres₀ rules → length impulses ≡ length impulses₀ → length centres ≡ length centres₀ → TableRoom kind n bodies numbers solution impulses centres rules
still_room h e d = record { numbers_long = h.numbers_long; solution_long = h.solution_long; impulses_long = e ∙ h.impulses_long; centres_long = d ∙ h.centres_long; rules_long = h.rules_long }
