-- `groups::group::key` meets its contract. Assumes nothing.
use borrow.Author.Rules.{rules}
use Rattle.groups.specs.Together.{links_in}
use Rattle.groups.proofs.Join.{key_a, key_b, key_own}
use Rattle.groups.proofs.group.key.Goals as goal

ruleset known = (key_a, key_b, key_own, rules)

pub returns-then-not-is_massless : goal.returns-then-not-is_massless
returns-then-not-is_massless c = search known

pub returns-then-not-is_massless-2 : goal.returns-then-not-is_massless-2
returns-then-not-is_massless-2 c = search known

pub returns : goal.returns
returns c =
    key_own (links_in c.args.words.now) c.args.masses.now _ _ _ _ _ c.wide-a.ensures _ c.is_massless.ensures c.if-not-is_massless.false-raw c.wide-b.ensures _ c.is_massless-2.ensures c.if-not-is_massless-2.false-raw
