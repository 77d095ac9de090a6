-- `tell_accepted` meets its promise: it tells all of what the list accepts, or nothing. Assumes nothing.
use borrow.Author.Rules.{rules}
use Rattle.list_flow.proofs.tell_accepted.Statement.{statement}
use Rattle.list_flow.proofs.tell_accepted.Tie as tie

accepted-requires : tie.Need-accepted-requires
accepted-requires c κs = search rules

tell-all-requires : tie.Need-tell_all-requires
tell-all-requires c κs = search rules

same_length : tie.Need-shape_of-pairs
same_length c = search rules

returns : tie.Need-returns
returns c = let told = c.before.before in rw told.accepted.ensures at told.tell_all.ensures

pub tell_accepted_spec : {M : Type 1} → statement M
tell_accepted_spec = tie.close (tie.spec accepted-requires tell-all-requires same_length returns)
