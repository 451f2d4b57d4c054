-- The work memory after a call. Assumes nothing.
use Prim.Native.Nat.{ℕ}
use mathlib.Core.Path.{◌≡◌, refl, sym, ◌∙◌}
use mathlib.Core.Bool.{Bool, true, false, not}
use mathlib.Core.List.{List}
use native.Mathlib.Omega.{arith}
use lib.ListN.{length, replicate}
use lib.Ieee.{Float}
use borrow.Author.Tests.{not-true, not-false}
use Rattle.loops.specs.Cleared.{cleared, cleared_words, zeros}
use Rattle.work_memory.specs.Work.{StepMemory, TableMemory, WorkMemory, step_memory, table_memory, cleared_steps, cleared_table, cleared_work, After}

-- ---- `clear_steps`, `clear_table`
pub steps_cleared : (t t' d d' e e' p p' : List Float) (a a' o o' : List ℕ) (v v' : List Float) → t' ≡ cleared t → d' ≡ cleared d → e' ≡ cleared e → p' ≡ cleared p → a' ≡ cleared_words a → o' ≡ cleared_words o → v' ≡ cleared v
    → step_memory t' d' e' p' a' o' v' ≡ cleared_steps (step_memory t d e p a o v)
steps_cleared t t' d d' e e' p p' a a' o o' v v' e0 e1 e2 e3 e4 e5 e6 = rw (e0, e1, e2, e3, e4, e5, e6)

pub table_cleared : (j j' : List Float) (l l' : List ℕ) (r r' p p' i i' : List Float) → j' ≡ cleared j → l' ≡ cleared_words l → r' ≡ cleared r → p' ≡ cleared p → i' ≡ cleared i → table_memory j' l' r' p' i' ≡ cleared_table (table_memory j l r p i)
table_cleared j j' l l' r r' p p' i i' e0 e1 e2 e3 e4 = rw (e0, e1, e2, e3, e4)

-- ---- cleared memory depends on nothing but its lengths, which a call keeps
pub steps_since : (t d e p a o v : ℕ) (t₀ d₀ e₀ p₀ : List Float) (a₀ o₀ : List ℕ) (v₀ : List Float) (x : StepMemory)
    → x ≡ record { tolerances = zeros t; direction = zeros e; product = zeros p; factor = record { diagonal = zeros d; pattern = replicate a 0; order = replicate o 0; values = zeros v } }
    → t ≡ length t₀ → d ≡ length d₀ → e ≡ length e₀ → p ≡ length p₀ → a ≡ length a₀ → o ≡ length o₀ → v ≡ length v₀ → x ≡ cleared_steps (step_memory t₀ d₀ e₀ p₀ a₀ o₀ v₀)
steps_since t d e p a o v t₀ d₀ e₀ p₀ a₀ o₀ v₀ x h e0 e1 e2 e3 e4 e5 e6 = h ∙ rw (e0, e1, e2, e3, e4, e5, e6)

pub table_since : (j l r p i : ℕ) (j₀ : List Float) (l₀ : List ℕ) (r₀ p₀ i₀ : List Float) (x : TableMemory) → x ≡ record { jacobians = zeros j; links = replicate l 0; residual = zeros r; pending = zeros p; body_impulses = zeros i }
    → j ≡ length j₀ → l ≡ length l₀ → r ≡ length r₀ → p ≡ length p₀ → i ≡ length i₀ → x ≡ cleared_table (table_memory j₀ l₀ r₀ p₀ i₀)
table_since j l r p i j₀ l₀ r₀ p₀ i₀ x h e0 e1 e2 e3 e4 = h ∙ rw (e0, e1, e2, e3, e4)

pub work_cleared : (before after : WorkMemory) → after.steps ≡ cleared_steps before.steps → after.table ≡ cleared_table before.table → after ≡ cleared_work before
work_cleared before after es et = rw (← es, ← et)

-- ---- of the entry
module _ (b fits : Bool) (e : b ≡ fits) (before : WorkMemory) where
  pub after_three_lem : not b ≡ true → After fits before before
  after_three_lem h = record { emptied = λ t. absurd (let z : true ≡ false = sym t ∙ sym e ∙ not-true b h in let y : ◌≡◌ {A = ℕ} 0 1 = cc in omega arith); untouched = λ _. refl }

  pub after_cleared : (after : WorkMemory) → not b ≡ false → after ≡ cleared_work before → After fits before after
  after_cleared after h ew = record { emptied = λ _. ew; untouched = λ t. absurd (let z : true ≡ false = sym (not-false b h) ∙ e ∙ t in let y : ◌≡◌ {A = ℕ} 0 1 = cc in omega arith) }
