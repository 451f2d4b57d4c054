-- `job_sheets::input::print_sheets` stays within the space. Assumes nothing.
use Rattle.std.proofs.Common.{◌≡◌, length}
use Rattle.job_sheets.proofs.input.print_sheets.Given as goal

abbrev pub invariant-loop : goal.invariant-loop
invariant-loop l = (length l.space ≡ length l.initial.space) × (length l.text ≡ length l.initial.text)
