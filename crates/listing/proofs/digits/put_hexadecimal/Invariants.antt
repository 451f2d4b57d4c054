-- `listing::digits::put_hexadecimal` meets its contract: the digits below k are written. Assumes nothing.
use Prim.Native.Nat.{◌-◌, ◌*◌, ◌/◌, ◌%◌, ◌^◌}
use mathlib.Core.List.{[], ◌∷◌}
use Rattle.listing.specs.Digits.{hexadecimal_digit}
use Rattle.listing.proofs.Pieces.{Writing}
use Rattle.listing.proofs.digits.put_hexadecimal.Given as goal

abbrev pub invariant-loop-k : goal.invariant-loop-k
invariant-loop-k l =
    Writing l.initial.out l.at (λ k. hexadecimal_digit (l.bits / 2 ^ (60 - 4 * k) % 16) ∷ []) 16 l.k l.out l.next
