-- `same_mark` compares four numbers. Assumes nothing.
use mathlib.Core.List.{[], ◌∷◌, ◌++◌}
use lib.ListN.{take}
use Rattle.list_fold.proofs.Coding.{marks-are}
use borrow.Author.Rules.{rules}
use Rattle.list_fold.proofs.same_mark.Statement.{statement}
use Rattle.list_fold.proofs.same_mark.Tie as tie

byte-of-requires : tie.Need-byte_of-requires
byte-of-requires c κs = search rules

byte-of-requires-2 : tie.Need-byte_of-requires-2
byte-of-requires-2 c κs = search rules

byte-of-requires-3 : tie.Need-byte_of-requires-3
byte-of-requires-3 c κs = search rules

byte-of-requires-4 : tie.Need-byte_of-requires-4
byte-of-requires-4 c κs = search rules

byte-of-requires-5 : tie.Need-byte_of-requires-5
byte-of-requires-5 c κs = search rules

byte-of-requires-6 : tie.Need-byte_of-requires-6
byte-of-requires-6 c κs = search rules

from-requires : tie.Need-from-requires
from-requires c κs = search rules

chief-of-requires : tie.Need-chief_of-requires
chief-of-requires c κs = search rules

from-requires-2 : tie.Need-from-requires-2
from-requires-2 c κs = search rules

chief-of-requires-2 : tie.Need-chief_of-requires-2
chief-of-requires-2 c κs = search rules

returns : tie.Need-returns
returns c =
    let a = c.args in
    let m = take a.s a.leads.now ++ (a.r ∷ []) in
    cc (marks-are m a.list.now a.i a.j)

pub same_mark_spec : {M : Type 1} → statement M
same_mark_spec =
    tie.close
    (tie.spec
    byte-of-requires
    byte-of-requires-2
    byte-of-requires-3
    byte-of-requires-4
    byte-of-requires-5
    byte-of-requires-6
    from-requires
    chief-of-requires
    from-requires-2
    chief-of-requires-2
    returns)
