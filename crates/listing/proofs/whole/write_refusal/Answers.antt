-- `listing::whole::write_refusal` meets its contract. Assumes nothing.
use Rattle.listing.specs.Listing.{refused_listing}
use Rattle.listing.proofs.whole.write_refusal.Goals as goal

pub solve_line-requires : goal.solve_line-requires
unfolding refused_listing
solve_line-requires c =
    c.requires

pub returns : goal.returns
unfolding refused_listing
returns c =
    c.solve_line.ensures
