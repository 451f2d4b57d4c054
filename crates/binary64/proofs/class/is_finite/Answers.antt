-- `binary64::is_finite` meets its contract: the finite numbers are those between the infinities. Assumes nothing.
use mathlib.Core.Path.{◌≡◌, refl}
use mathlib.Core.Bool.{true, false}
use lib.Ieee.{Float, nan, inf, fin, lt, neg, of_bits, nan_bits}
use lib.Ieee.Scale.{finite}
use borrow.Author.Rules.{rules}
use Rattle.binary64.proofs.class.is_finite.Goals as goal

above : (x : Float) → lt x (inf false) ≡ true → lt (inf true) x ≡ finite x
unfolding lt
above nan h = refl
above (inf true) h = refl
above (inf false) h = cc
above (fin s m e) h = refl

not_below : (x : Float) → lt x (inf false) ≡ false → false ≡ finite x
unfolding lt
not_below nan h = refl
not_below (inf s) h = refl
not_below (fin s m e) h = cc

pub float_from_bits-inf : goal.float_from_bits-inf
unfolding nan_bits
float_from_bits-inf c = search rules

pub returns-then-x-inf : goal.returns-then-x-inf
unfolding of_bits neg
returns-then-x-inf c = above c.args.x c.if-x-inf.true

pub returns-else-x-inf : goal.returns-else-x-inf
unfolding of_bits neg
returns-else-x-inf c = not_below c.args.x c.if-x-inf.false
