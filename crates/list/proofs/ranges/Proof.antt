-- `ranges` is the definition's test of the range wherever low is at most high. Assumes nothing.
use borrow.Author.Rules.{rules}
use mathlib.Core.Path.{sym, ◌∙◌}
use borrow.Author.Tests.{eq-eqb, ne_eqb}
use Rattle.list.specs.List.{byte_of, low, high, either_case}
use Rattle.list.proofs.Quick.{either-near}
use Rattle.list.proofs.ranges.Statement.{statement}
use Rattle.list.proofs.ranges.Tie as tie

near-requires : tie.Need-near-requires
near-requires c κs = search rules

returns : tie.Need-returns-then-near
returns c =
    let a = c.args in
    let k = c.shared_slice_known-1.given in
    rw (sym c.near.ensures ∙ c.if-near.true) at
    (either-near (low a.list.now a.i) (high a.list.now a.i) a.c a.d (either_case a.list.now a.i) (k _).fits (k _).fits (search rules) (search rules))

byte-of-requires : tie.Need-byte_of-requires
byte-of-requires c κs = search rules

returns-2 : tie.Need-returns-then-byte_of-ne-EITHER_CASE
returns-2 c =
    let a = c.args in
    let k = c.shared_slice_known-1.given in
    let z = ne_eqb (byte_of a.list.now a.i 3) 1 (λ e. c.if-byte_of-ne-EITHER_CASE.true (c.byte_of.ensures ∙ e)) in
    rw z
    (rw (sym c.near.ensures ∙ c.if-near.false, z) at
    (either-near (low a.list.now a.i) (high a.list.now a.i) a.c a.d (either_case a.list.now a.i) (k _).fits (k _).fits (search rules) (search rules)))

byte-of-requires-2 : tie.Need-byte_of-requires-2
byte-of-requires-2 c κs = search rules

near-requires-2 : tie.Need-near-requires-2
near-requires-2 c κs = search rules

returns-3 : tie.Need-returns
returns-3 c =
    let s = c.before.before.before.before.before in
    let a = s.args in
    let k = s.shared_slice_known-1.given in
    let z = eq-eqb (byte_of a.list.now a.i 3) 1 (sym c.byte_of.ensures ∙ c.if-byte_of-ne-EITHER_CASE.false) in
    rw (c.near-2.ensures, c.byte_of-2.ensures, z)
    (rw (sym s.near.ensures ∙ c.if-near.false, z) at
    (either-near (low a.list.now a.i) (high a.list.now a.i) a.c a.d (either_case a.list.now a.i) (k _).fits (k _).fits (search rules) (search rules)))

pub ranges_spec : {M : Type 1} → statement M
ranges_spec = tie.close (tie.spec near-requires returns byte-of-requires returns-2 byte-of-requires-2 near-requires-2 returns-3)
