-- How many bytes of a buffer are in use.
use Rattle.std.specs.Prelude.{ℕ, min, length}
use Rattle.replay_tape.specs.declared.Buffer.{Buffer}

-- the number that it keeps, or all of its bytes where there are fewer
abbrev pub in_use : Buffer → ℕ
in_use b = min b.used (length b.bytes.now)
