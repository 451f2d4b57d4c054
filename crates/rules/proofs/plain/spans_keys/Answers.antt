-- `rules::plain::spans_keys` meets its contract. Assumes nothing.
use borrow.Author.Rules.{rules}
use Rattle.rules.specs.Plain.{spans_keys}
use Rattle.rules.proofs.plain.spans_keys.Goals as goal

pub returns : goal.returns
unfolding spans_keys
returns c =
    search rules
