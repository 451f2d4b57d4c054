-- `listing::digits::hexadecimal_digit` meets its contract. Assumes nothing.
use borrow.Author.Tests.{lt-ltb, le-ltb}
use Rattle.listing.specs.Digits.{hexadecimal_digit}
use Rattle.listing.proofs.digits.hexadecimal_digit.Goals as goal

pub returns-then-d-lt10 : goal.returns-then-d-lt10
unfolding hexadecimal_digit
returns-then-d-lt10 c =
    rw (lt-ltb _ 10 c.if-d-lt10.true)

pub returns : goal.returns
unfolding hexadecimal_digit
returns c =
    rw (le-ltb _ 10 c.if-d-lt10.false)
