-- `leads` finds the bytes of one class, and goes through the splits with them. Assumes nothing.
use borrow.Author.Rules.{rules}
use Rattle.table.proofs.leads.Statement.{statement}
use Rattle.table.proofs.leads.Tie as tie

slice-aggregate-fill-lowers : tie.Need-slice_bounds-fill_lowers-end
slice-aggregate-fill-lowers c = search rules

fill-lowers-requires : tie.Need-fill_lowers-requires
fill-lowers-requires c κs = search rules

slice-aggregate-splits-lead : tie.Need-slice_bounds-splits_lead-end
slice-aggregate-splits-lead c = search rules

splits-lead-requires : tie.Need-splits_lead-requires
splits-lead-requires c κs = let s = c in (s.requires.0, s.requires.1, s.requires.2)

returns : tie.Need-returns
returns c = c.splits_lead.ensures

pub leads_spec : {M : Type 1} → statement M
leads_spec =
    tie.close
    (tie.spec
    slice-aggregate-fill-lowers
    fill-lowers-requires
    slice-aggregate-splits-lead
    splits-lead-requires
    returns)
