-- `solve_replay::table::unpack_beside` meets its contract. Assumes nothing.
use Rattle.solve_replay.proofs.Beside.{beside_near, centres_fit_lem, centres_unpacked, residual_fits, residual_unpacked}
use Rattle.solve_replay.proofs.table.unpack_beside.Goals as goal

pub unpack-requires : goal.unpack-requires
unpack-requires c =
    centres_fit_lem c.args.kind c.args.at c.args.n c.args.b c.args.words.now c.requires.3 c.requires.0 c.requires.2 c.in-Position.is

pub unpack-requires-in-Velocity : goal.unpack-requires-in-Velocity
unpack-requires-in-Velocity c =
    residual_fits c.args.kind c.args.at c.args.n c.args.b c.args.words.now c.requires.3 c.requires.0 c.requires.1 c.in-Velocity.is

pub returns-in-Position : goal.returns-in-Position
returns-in-Position c =
    record { words_after = centres_unpacked c.args.kind c.args.at c.args.n c.args.b c.args.words.now c.requires.3 _ c.in-Position.is c.unpack.ensures.words_after; upper_bound = beside_near c.args.kind c.args.at c.args.n c.args.b c.args.words.now c.requires.3 c.requires.1 c.requires.2 _ c.unpack.ensures.upper_bound }

pub returns-in-Velocity : goal.returns-in-Velocity
returns-in-Velocity c =
    record { words_after = residual_unpacked c.args.kind c.args.at c.args.n c.args.b c.args.words.now c.requires.3 _ c.in-Velocity.is c.unpack-in-Velocity.ensures.words_after; upper_bound = beside_near c.args.kind c.args.at c.args.n c.args.b c.args.words.now c.requires.3 c.requires.1 c.requires.2 _ c.unpack-in-Velocity.ensures.upper_bound }
