-- `first_refusal::run::run_length` meets its contract. Assumes nothing.
use Prim.Native.Nat.{◌+◌, ◌-◌}
use lib.Dec.{eqb}
use Rattle.first_refusal.specs.Run.{owner_at}
use Rattle.first_refusal.proofs.Led.{Led}
use Rattle.first_refusal.proofs.run.run_length.Given as goal

abbrev pub invariant-loop-k : goal.invariant-loop-k
invariant-loop-k l =
    Led (λ k. eqb (owner_at l.words (l.start + k)) (owner_at l.words l.start)) (l.rows - l.start) l.k
