use Rattle.std.proofs.Common.{◌≡◌, ℕ, ◌≤◌, drop}
use Rattle.text.specs.Acceptor.{live, verdict}
use Rattle.text_parse.specs.inner.Went.{mode_of}
use Rattle.text_parse.proofs.inside.Given as goal

abbrev pub invariant-loop-next : goal.invariant-loop-next
invariant-loop-next l = (l.at ≤ l.next) × ((d : ℕ) → d ≤ 16 → verdict (live d (mode_of l.fn.from)) l.at (drop l.at l.text) ≡ verdict (live d (mode_of l.m)) l.next (drop l.next l.text))
