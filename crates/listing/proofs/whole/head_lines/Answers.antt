-- `listing::whole::head_lines` meets its contract. Assumes nothing.
use Rattle.listing.specs.Listing.{head_lines}
use Rattle.listing.proofs.Joined.{room_first, room_rest, wrote_join, room_as, wrote_as}
use Rattle.listing.proofs.Names.{flag_line}
use Rattle.listing.proofs.whole.head_lines.Goals as goal

pub solve_line-solve-requires : goal.solve_line-solve-requires
unfolding head_lines
solve_line-solve-requires c =
    room_as (flag_line _ c.args.flag) (room_first _ (room_first _ (room_first _ c.requires)))

pub measured_line-measured-requires : goal.measured_line-measured-requires
unfolding head_lines
measured_line-measured-requires c =
    room_rest (room_first _ (room_first _ c.requires)) (wrote_as (flag_line _ c.args.flag) c.solve_line-solve.ensures)

pub carried_line-residual-requires : goal.carried_line-residual-requires
unfolding head_lines
carried_line-residual-requires c =
    let w1 = wrote_as (flag_line _ c.args.flag) c.solve_line-solve.ensures in
    let w2 = wrote_join w1 c.measured_line-measured.ensures in
    room_rest (room_first _ c.requires) w2

pub close_line-requires : goal.close_line-requires
unfolding head_lines
close_line-requires c =
    let w1 = wrote_as (flag_line _ c.args.flag) c.solve_line-solve.ensures in
    let w2 = wrote_join w1 c.measured_line-measured.ensures in
    let w3 = wrote_join w2 c.carried_line-residual.ensures in
    room_rest c.requires w3

pub returns : goal.returns
unfolding head_lines
returns c =
    let w1 = wrote_as (flag_line _ c.args.flag) c.solve_line-solve.ensures in
    let w2 = wrote_join w1 c.measured_line-measured.ensures in
    let w3 = wrote_join w2 c.carried_line-residual.ensures in
    wrote_join w3 c.close_line.ensures
