-- The lines so far.
use Rattle.std.proofs.Common.{◌*◌}
use Rattle.program_text.specs.Text.{line_size, Puts}
use Rattle.program_turn.specs.Turn.{lines_from}
use Rattle.program_turn.proofs.put_lines.Given as goal

abbrev pub invariant-loop-i : goal.invariant-loop-i
invariant-loop-i l = Puts (line_size * l.i) (lines_from l.before l.out l.i) l.fn.text 0 l.at l.text
