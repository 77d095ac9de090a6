-- `has_room` compares the room with all signatures, and where that is less with those of the set. Assumes nothing.
use borrow.Author.Rules.{rules}
use mathlib.Core.Path.{sym, ap}
use Prim.Native.Nat.{ℕ, ◌-◌, ◌/◌}
use native.Mathlib.Omega.{arith}
use lib.ListN.{length}
use lib.Dec.{leb}
use borrow.Author.Tests.{le-leb}
use Rattle.sets.specs.Set.{signatures, size, sigs_of}
use Rattle.sets.proofs.Members.{members-size, members-most}
use Rattle.feed.proofs.has_room.Statement.{statement}
use Rattle.feed.proofs.has_room.Tie as tie

sub-room : tie.Need-overflow_sub-room
sub-room c = search rules

returns : tie.Need-returns-then-room-ge-SIGNATURES
returns c =
    let a = c.args in
    let g = sigs_of a.g in
    sym (le-leb (size signatures g) ((length a.pairs.now - a.words) / 2) (omega (arith, c.if-room-ge-SIGNATURES.true, members-size signatures g, members-most signatures g)))

count-requires : tie.Need-count-requires
count-requires c κs = search rules

cast-result : tie.Need-overflow_cast-result
cast-result c = search rules

returns-2 : tie.Need-returns
returns-2 c = let a = c.args in ap (λ (n : ℕ). leb n ((length a.pairs.now - a.words) / 2)) c.count.ensures

pub has_room_spec : {M : Type 1} → statement M
has_room_spec = tie.close (tie.spec sub-room returns count-requires cast-result returns-2)
