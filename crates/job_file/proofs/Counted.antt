-- A loop that fills a lent list leaves the list that is defined by its count. Assumes nothing.
use Prim.Native.Nat.{ℕ, ◌≤◌}
use mathlib.Core.Path.{◌≡◌}
use mathlib.Core.List.{List}
use Rattle.loops.specs.Tabulate.{tabulate}
use Rattle.loops.proofs.Fill.{Fills}
use Rattle.loops.proofs.Tabulate.{filled_tabulate}

pub filled_count : {X : Type 0} {d : X} {g : ℕ → X} {n m i : ℕ} {l : List X} → Fills d g n i l → n ≤ i → n ≡ m → l ≡ tabulate g m
filled_count h b e = rw (← e) (filled_tabulate h b)
