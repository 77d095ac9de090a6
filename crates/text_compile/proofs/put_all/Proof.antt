-- `put_all` meets its promise. Assumes nothing.
use borrow.Author.Rules.{rules}
use mathlib.Core.Path.{subst}
use mathlib.Core.List.{[], ◌∷◌}
use Rattle.sets.specs.Set.{set_of}
use Rattle.text_records.specs.inner.Front.{Writes}
use Rattle.text_compile.proofs.Listing.{all-put}
use Rattle.text_compile.proofs.put_all.Statement.{statement}
use Rattle.text_compile.proofs.put_all.Tie as tie

put-edges-requires : tie.Need-put_edges-k-requires
put-edges-requires c κs = search rules

start-record-requires : tie.Need-start_record-requires
start-record-requires c κs = search rules

put-in-requires : tie.Need-put_in-j-requires
put-in-requires c κs = search rules

put-ends-requires : tie.Need-put_ends-requires
put-ends-requires c κs = search rules

same_length : tie.Need-shape_of-list
same_length c = search rules

returns : tie.Need-returns
returns c =
    let a = c.args in
    let u = c.put_edges-k in
    let v = c.put_in-j in
    let w = c.put_ends in
    λ x w0 q d. all-put a.list.now u.new.list v.new.list w.new.list u.result v.result w.result a.g a.m x (set_of a.ends) q d (u.ensures x w0 q)
    (subst (λ z. Writes u.new.list v.new.list u.result (z ∷ []) v.result) c.start_record.ensures v.ensures) w.ensures

pub put_all_spec : {M : Type 1} → statement M
put_all_spec =
    tie.close
    (tie.spec
    put-edges-requires
    start-record-requires
    put-in-requires
    put-ends-requires
    same_length
    returns)
