-- The lines so far.
use Rattle.std.proofs.Common.{◌*◌}
use Rattle.program_text.specs.Text.{line_size, lines, Puts}
use Rattle.program_text.proofs.put_pairs.Given as goal

abbrev pub invariant-loop-i : goal.invariant-loop-i
invariant-loop-i l = Puts (line_size * l.i) (lines l.out l.i) l.fn.text 0 l.at l.text
