-- Refusal 3: what has passed it, and what calls ask for. Assumes nothing.
use Prim.Native.Nat.{ℕ, ◌*◌}
use mathlib.Core.Path.{◌≡◌, ◌∙◌}
use mathlib.Core.Bool.{Bool, true, ◌&&◌}
use mathlib.Core.List.{List}
use lib.Dec.{eqb}
use lib.ListN.{length}
use lib.Ieee.{Float}
use borrow.Author.Tests.{eqb-true}
use Rattle.loops.proofs.Both.{both}
use Rattle.loops.specs.Cleared.{plus_zero}
use Rattle.preconditioner.specs.Mode.{mode_of, room_mode}
use Rattle.preconditioner.proofs.Modes.{rooms_shift}
use Rattle.preconditioner.specs.Room.{pattern_room, order_room, values_room}
use Rattle.preconditioner.specs.declared.mode.Mode.{Mode}
use Rattle.work_memory.specs.Work.{TableMemory, WorkMemory}
use Rattle.joint_refusals.specs.Counts.{counts_fit}
use Rattle.work_memory.specs.Lengths.{table_fits, vectors_fit, factor_fits, passes3, TableRoom, WorkRoom, RowsRoom}

-- put together from its parts
pub fits_three : (n b mode : ℕ) (numbers : List Float) (words : List ℕ) (masses solution impulses : List Float) (w : WorkMemory) (m : Mode) (c t v f : Bool) → m ≡ room_mode mode → c ≡ counts_fit n b mode
    → t ≡ table_fits n b (length numbers) (length words) (length masses) (length solution) (length impulses)
    → v ≡ vectors_fit n b (length w.table.jacobians) (length w.table.links) (length w.steps.tolerances) (length w.table.residual) (length w.table.pending) (length w.steps.direction) (length w.steps.product) (length w.table.body_impulses)
    → f ≡ factor_fits m n (length w.steps.factor.diagonal) (length w.steps.factor.pattern) (length w.steps.factor.order) (length w.steps.factor.values)
    → (((c && t) && v) && f) ≡ passes3 n b mode numbers words masses solution impulses w
unfolding passes3
fits_three n b mode numbers words masses solution impulses w m c t v f em ec et ev ef = rw (ec, et, ev, ef, em)

-- ---- the lengths of rows, masses and what is delivered
module _ (n b numbers words masses solution impulses : ℕ) (h : table_fits n b numbers words masses solution impulses ≡ true) where
  pub table_lengths_lem : (numbers ≡ 27 * n) × (words ≡ 8 * n) × (masses ≡ 10 * b) × (solution ≡ n) × (impulses ≡ 6 * b)
  unfolding table_fits
  table_lengths_lem =
      let (p, i) = both (((eqb numbers (27 * n) && eqb words (8 * n)) && eqb masses (10 * b)) && eqb solution n) (eqb impulses (6 * b)) h in
      let (q, s) = both ((eqb numbers (27 * n) && eqb words (8 * n)) && eqb masses (10 * b)) (eqb solution n) p in
      let (r, m) = both (eqb numbers (27 * n) && eqb words (8 * n)) (eqb masses (10 * b)) q in
      let (x, y) = both (eqb numbers (27 * n)) (eqb words (8 * n)) r in
      (eqb-true numbers (27 * n) x, eqb-true words (8 * n) y, eqb-true masses (10 * b) m, eqb-true solution n s, eqb-true impulses (6 * b) i)

-- ---- of the compact table and the vectors
module _ (n b j l t r p d x i : ℕ) (h : vectors_fit n b j l t r p d x i ≡ true) where
  pub vector_lengths : (j ≡ 12 * n) × (l ≡ 2 * n) × (t ≡ n) × (r ≡ n) × (p ≡ n) × (d ≡ n) × (x ≡ n) × (i ≡ 6 * b)
  unfolding vectors_fit
  vector_lengths =
      let (h1, i1) = both ((((((eqb j (12 * n) && eqb l (2 * n)) && eqb t n) && eqb r n) && eqb p n) && eqb d n) && eqb x n) (eqb i (6 * b)) h in
      let (h2, x1) = both (((((eqb j (12 * n) && eqb l (2 * n)) && eqb t n) && eqb r n) && eqb p n) && eqb d n) (eqb x n) h1 in
      let (h3, d1) = both ((((eqb j (12 * n) && eqb l (2 * n)) && eqb t n) && eqb r n) && eqb p n) (eqb d n) h2 in
      let (h4, p1) = both (((eqb j (12 * n) && eqb l (2 * n)) && eqb t n) && eqb r n) (eqb p n) h3 in
      let (h5, r1) = both ((eqb j (12 * n) && eqb l (2 * n)) && eqb t n) (eqb r n) h4 in
      let (h6, t1) = both (eqb j (12 * n) && eqb l (2 * n)) (eqb t n) h5 in
      let (j1, l1) = both (eqb j (12 * n)) (eqb l (2 * n)) h6 in
      (eqb-true j (12 * n) j1, eqb-true l (2 * n) l1, eqb-true t n t1, eqb-true r n r1, eqb-true p n p1, eqb-true d n d1, eqb-true x n x1, eqb-true i (6 * b) i1)

-- ---- of the factor
module _ (mode : Mode) (n d p o v : ℕ) (h : factor_fits mode n d p o v ≡ true) where
  pub factor_lengths : (d ≡ n) × (p ≡ pattern_room mode n) × (o ≡ order_room mode n) × (v ≡ values_room mode n)
  unfolding factor_fits
  factor_lengths =
      let (h1, v1) = both ((eqb d n && eqb p (pattern_room mode n)) && eqb o (order_room mode n)) (eqb v (values_room mode n)) h in
      let (h2, o1) = both (eqb d n && eqb p (pattern_room mode n)) (eqb o (order_room mode n)) h1 in
      let (d1, p1) = both (eqb d n) (eqb p (pattern_room mode n)) h2 in
      (eqb-true d n d1, eqb-true p (pattern_room mode n) p1, eqb-true o (order_room mode n) o1, eqb-true v (values_room mode n) v1)

-- ---- what has passed 3
module _ (n b mode : ℕ) (numbers : List Float) (words : List ℕ) (masses solution impulses : List Float) (w : WorkMemory) (h : passes3 n b mode numbers words masses solution impulses w ≡ true) where
  abbrev counts : Bool
  counts = counts_fit n b mode

  abbrev table : Bool
  table = table_fits n b (length numbers) (length words) (length masses) (length solution) (length impulses)

  abbrev vectors : Bool
  vectors = vectors_fit n b (length w.table.jacobians) (length w.table.links) (length w.steps.tolerances) (length w.table.residual) (length w.table.pending) (length w.steps.direction) (length w.steps.product) (length w.table.body_impulses)

  abbrev factor : Bool
  factor = factor_fits (room_mode mode) n (length w.steps.factor.diagonal) (length w.steps.factor.pattern) (length w.steps.factor.order) (length w.steps.factor.values)

  parts : (table ≡ true) × (vectors ≡ true) × (factor ≡ true)
  unfolding passes3
  parts =
      let (p, f) = both ((counts && table) && vectors) factor h in
      let (q, v) = both (counts && table) vectors p in
      let (_, t) = both counts table q in
      (t, v, f)

  pub rows_room : RowsRoom n b numbers words masses
  rows_room = let l = table_lengths_lem n b _ _ _ _ _ parts.0 in record { numbers_long = l.0; words_long = l.1; masses_long = l.2 }

  pub lent_room : (length solution ≡ n) × (length impulses ≡ 6 * b)
  lent_room = let l = table_lengths_lem n b _ _ _ _ _ parts.0 in (l.3, l.4)

  pub work_room : (shift : Float) → WorkRoom (mode_of mode shift) n b w
  work_room shift =
      let v = vector_lengths n b _ _ _ _ _ _ _ _ parts.1 in
      let f = factor_lengths (room_mode mode) n _ _ _ _ parts.2 in
      let (p, o, x) = rooms_shift mode plus_zero shift n in
      record {
        steps = record { tolerances_long = v.2; direction_long = v.5; product_long = v.6; factor = record { diagonal_long = f.0; pattern_long = f.1 ∙ p; order_long = f.2 ∙ o; values_long = f.3 ∙ x } };
        table = record { jacobians_long = v.0; links_long = v.1; residual_long = v.3; pending_long = v.4; body_impulses_long = v.7 };
      }

-- memory that kept its lengths
pub table_room_same : (n b : ℕ) (m m' : TableMemory) → TableRoom n b m → length m'.jacobians ≡ length m.jacobians → length m'.links ≡ length m.links → length m'.residual ≡ length m.residual → length m'.pending ≡ length m.pending → length m'.body_impulses ≡ length m.body_impulses → TableRoom n b m'
table_room_same n b m m' r ej el er ep ei = record { jacobians_long = ej ∙ r.jacobians_long; links_long = el ∙ r.links_long; residual_long = er ∙ r.residual_long; pending_long = ep ∙ r.pending_long; body_impulses_long = ei ∙ r.body_impulses_long }
