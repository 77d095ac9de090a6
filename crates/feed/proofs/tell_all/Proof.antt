-- `tell_all` tells the set where it fits, so what it leaves is all of it or nothing. Assumes nothing.
use borrow.Author.Rules.{rules}
use Prim.Native.Nat.{◌-◌, ◌/◌}
use mathlib.Core.Path.{sym, ◌∙◌}
use native.Mathlib.Omega.{arith}
use lib.ListN.{length}
use borrow.Author.Tests.{leb-true}
use Rattle.sets.specs.Set.{signatures, size, sigs_of}
use Rattle.feed.proofs.Fitting.{all-fits, all-not}
use Rattle.feed.proofs.tell_all.Statement.{statement}
use Rattle.feed.proofs.tell_all.Tie as tie

has-room-requires : tie.Need-has_room-requires
has-room-requires c κs = search rules

tell-requires : tie.Need-tell-end-requires
tell-requires c κs =
    let f = c.before.before in
    let a = f.args in
    omega (arith, leb-true (size signatures (sigs_of a.g)) ((length a.pairs.now - a.words) / 2) (sym f.has_room.ensures ∙ c.if-has_room.true), f.requires)

same_length : tie.Need-shape_of-pairs-then-has_room
same_length c = search rules

returns : tie.Need-returns-then-has_room
returns c =
    let told = c.before.before in
    let e = told.before.before in
    let f = e.before in
    let a = f.args in
    all-fits (sigs_of a.g) a.pairs.now a.words a.offset (sym e.if-has_room.true ∙ f.has_room.ensures) _ _ told.tell-end.ensures

same-length-2 : tie.Need-shape_of-pairs
same-length-2 c = search rules

returns-2 : tie.Need-returns
returns-2 c =
    let f = c.before in
    let a = f.args in
    all-not (sigs_of a.g) a.pairs.now a.words a.offset (sym c.if-has_room.false ∙ f.has_room.ensures)

pub tell_all_spec : {M : Type 1} → statement M
tell_all_spec = tie.close (tie.spec has-room-requires tell-requires same_length returns same-length-2 returns-2)
