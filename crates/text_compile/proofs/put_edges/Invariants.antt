use Rattle.std.proofs.Common.{◌≡◌, suc}
use Rattle.text.specs.Exp.{size}
use Rattle.text.specs.Grammar.{Text}
use Rattle.text.specs.Records.{each, edges_to}
use Rattle.text_records.specs.inner.Front.{Writes}
use Rattle.text_compile.specs.inner.Code.{exp_of, free_of, Walked}
use Rattle.text_compile.proofs.put_edges.Given as goal

abbrev pub invariant-loop-t : goal.invariant-loop-t
invariant-loop-t l = (x : Text) → Walked l.rows l.shape l.bound x → l.m ≡ suc (size (exp_of x)) → Writes l.initial.list l.list 0 (each (edges_to (free_of x) (exp_of x)) l.t) l.k
