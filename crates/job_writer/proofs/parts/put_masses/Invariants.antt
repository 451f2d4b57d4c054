-- `job_writer::parts::put_masses` meets its contract: the masses below b are written. Assumes nothing.
use Rattle.listing.proofs.Pieces.{Writing}
use Rattle.job_writer.specs.Written.{written_mass}
use Rattle.job_writer.proofs.parts.put_masses.Given as goal

abbrev pub invariant-loop-b : goal.invariant-loop-b
invariant-loop-b l =
    Writing l.initial.out l.at (written_mass l.masses l.centres l.layout) l.bodies l.b l.out l.next
