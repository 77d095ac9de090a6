-- `find_sorted` seeks among the splits, whose sets rise; the one that is found is the first with the set.
use Rattle.std.proofs.Common.{◌<◌, arith}
use Rattle.sets.specs.Set.{set_of}
use Rattle.table.specs.Table.{split_set}
use Rattle.table.proofs.Halving.{splits-rise, found-there, found_none}
use Rattle.table.proofs.find_sorted.Goals as goal

pub seek-requires : goal.seek-requires
unfolding split_set
seek-requires c = (omega arith, omega (arith, c.split_count.ensures), rw c.split_count.ensures (splits-rise c.args.splits.now (λ i. (c.type_inv.splits i).fits) c.requires))

pub returns-in-Ok : goal.returns-in-Ok
returns-in-Ok c =
    let S = c.args.splits.now in
    let e = c.in-Ok.ensures.there in
    let h : c.in-Ok.i < _ = rw c.split_count.ensures at e.0 in
    record { found = (found-there S (λ i. (c.type_inv.splits i).fits) c.requires (set_of c.args.f) c.in-Ok.i (rw c.split_count.ensures at e.0) e.1, rw c.split_count.ensures at e.0); none = tt }

pub returns-in-Err : goal.returns-in-Err
returns-in-Err c =
    let e = rw c.split_count.ensures at c.in-Err.ensures.none in
    record { found = tt; none = found_none c.args.splits.now (set_of c.args.f) c.in-Err.field-0 e.0 e.1 e.2 }
