-- `job_converter::judge::file_centres_fit` meets its contract. Assumes nothing.
use Rattle.std.proofs.Common.{ap, ◌∙◌, arith, length-take-le}
use Rattle.job_writer.specs.Refusals.{centres_fit}
use Rattle.job_converter.proofs.Reading.{centres_read}
use Rattle.job_converter.proofs.judge.file_centres_fit.Goals as goal

pub read_centre_bits-requires : goal.read_centre_bits-requires
read_centre_bits-requires c =
    let bodies = c.requires.few_bodies in
    (c.requires.masses_inside, length-take-le _ _ (omega arith))

pub returns : goal.returns
returns c =
    c.centres_fit.ensures ∙ ap (λ l. centres_fit l c.args.layout) (centres_read c.requires c.read_centre_bits.ensures)
