-- Pieces of a tree, as the second pass reads them.
use Rattle.text_marks.specs.inner.Marks.{Atom, byte, brackets}
use Rattle.text.specs.Exp.{Exp, one, eps, cat}
use Rattle.text.specs.Grammar.{Body, end, bar, leaf, group, leaf_has, marked, exp}

-- the expression of an item without its mark
abbrev pub exp_atom : Atom → Exp
exp_atom (byte l) = one (leaf_has l)
exp_atom (brackets x) = exp eps x

-- the first sequence of a body, with e for what was read of it; and what comes after it
unfoldable pub seq : Exp → Body → Exp
seq e end = e
seq e (bar b) = e
seq e (leaf l m b) = seq (cat e (marked m (one (leaf_has l)))) b
seq e (group x m b) = seq (cat e (marked m (exp eps x))) b

unfoldable pub rest : Body → Body
rest end = end
rest (bar b) = bar b
rest (leaf l m b) = rest b
rest (group x m b) = rest b
