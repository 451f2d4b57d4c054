-- `job_converter::read::read_bits` meets its contract. Assumes nothing.
use Rattle.job_converter.proofs.Reading.{numbers_read, words_read, masses_read, centres_read}
use Rattle.job_converter.proofs.read.read_bits.Goals as goal

pub read_number_bits-requires : goal.read_number_bits-requires
read_number_bits-requires c =
    (c.requires.0.rows_inside, c.requires.1.numbers_long)

pub read_words-requires : goal.read_words-requires
read_words-requires c =
    (c.requires.0.rows_inside, c.requires.1.words_long)

pub read_mass_bits-requires : goal.read_mass_bits-requires
read_mass_bits-requires c =
    (c.requires.0.masses_inside, c.requires.1.masses_long)

pub read_centre_bits-requires : goal.read_centre_bits-requires
read_centre_bits-requires c =
    (c.requires.0.masses_inside, c.requires.1.centres_long)

pub returns : goal.returns
returns c =
    (numbers_read c.requires.0 c.read_number_bits.ensures, words_read c.requires.0 c.read_words.ensures, masses_read c.requires.0 c.read_mass_bits.ensures, centres_read c.requires.0 c.read_centre_bits.ensures)
