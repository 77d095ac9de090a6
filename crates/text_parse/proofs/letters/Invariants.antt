-- The letters so far are passed.
use Rattle.std.proofs.Common.{ℕ, ◌≡◌, ◌≤◌, drop}
use Rattle.text.specs.Acceptor.{fresh, live, verdict}
use Rattle.text_parse.proofs.letters.Given as goal

abbrev pub invariant-loop-next : goal.invariant-loop-next
invariant-loop-next l = (d : ℕ) → d ≤ 16 → verdict (live d fresh) l.at (drop l.at l.text) ≡ verdict (live d fresh) l.next (drop l.next l.text)
