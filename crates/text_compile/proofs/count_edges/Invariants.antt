use Rattle.std.proofs.Common.{◌≡◌, ◌≤◌, ◌*◌, suc, length}
use Rattle.text.specs.Exp.{size}
use Rattle.text.specs.Grammar.{Text}
use Rattle.text.specs.Records.{each, edges_to}
use Rattle.text_compile.specs.inner.Code.{exp_of, free_of, Walked}
use Rattle.text_compile.proofs.count_edges.Given as goal

abbrev pub invariant-loop-t : goal.invariant-loop-t
invariant-loop-t l =
    (l.total ≤ 262144 * l.t) × ((x : Text) → Walked l.rows l.shape l.bound x → l.m ≡ suc (size (exp_of x)) → l.total ≡ length (each (edges_to (free_of x) (exp_of x)) l.t))
