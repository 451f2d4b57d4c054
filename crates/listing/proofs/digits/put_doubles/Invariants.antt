-- `listing::digits::put_doubles` meets its contract: the numbers below k are written. Assumes nothing.
use Prim.Native.Nat.{◌+◌}
use lib.ListN.{get_or}
use lib.Ieee.{nan}
use Rattle.listing.proofs.Pieces.{Writing}
use Rattle.listing.specs.Digits.{double}
use Rattle.listing.proofs.digits.put_doubles.Given as goal

abbrev pub invariant-loop-k : goal.invariant-loop-k
invariant-loop-k l =
    Writing l.initial.out l.at (λ k. double (get_or l.list (l.first + k) nan)) l.n l.k l.out l.next
