-- The ways of `start_residual`. Assumes nothing.
use Prim.Native.Nat.{ℕ, ◌+◌, ◌*◌}
use mathlib.Core.Path.{◌≡◌, refl, sym, ◌∙◌}
use mathlib.Core.List.{List}
use lib.ListN.{length, get_or}
use lib.Ieee.{Float, nan, neg}
use Rattle.loops.specs.Tabulate.{tabulate}
use Rattle.loops.proofs.Tabulate.{tabulated}
use Rattle.position.specs.Kinds.{GivenRoom, start_in}
use Rattle.kapitsa_joint.specs.declared.kind.Kind.{Kind}
use Rattle.kapitsa_joint.specs.declared.kind.Kind.TheVariants as kinds

module _ (kind : Kind) (numbers given : List Float) (n : ℕ) where
  pub start_negated : {out : List Float} → kind ≡ kinds.Position → out ≡ tabulate (λ i. neg (get_or numbers (27 * i + 15) nan)) n → out ≡ tabulate (start_in kind numbers given) n
  start_negated k e = rw k e

  module _ (room : GivenRoom kind (length given) n) (k : kind ≡ kinds.Velocity) where
    pub given_long : n ≡ length given
    given_long = sym (room.long k)

    pub start_copied : {out : List Float} → out ≡ given → out ≡ tabulate (start_in kind numbers given) n
    start_copied e = rw k (e ∙ tabulated nan (λ i. get_or given i nan) n given (room.long k) (λ _ _. refl))
