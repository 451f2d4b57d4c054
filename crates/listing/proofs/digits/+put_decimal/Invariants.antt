-- `listing::digits::put_decimal` ends: n / 10 is less than an n of more digits.
use Rattle.listing.proofs.digits.+put_decimal.Given as goal

abbrev pub decreases-put_decimal : goal.decreases-put_decimal
decreases-put_decimal l = l.n
