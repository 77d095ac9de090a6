-- `row_set` reads at part times classes plus class. Assumes nothing.
use borrow.Author.Rules.{rules}
use mathlib.Core.Path.{ap₂, ◌∙◌}
use Prim.Native.Nat.{ℕ, ◌+◌, ◌*◌, ◌^◌, ◌≤◌}
use native.Mathlib.Omega.{arith}
use Rattle.sets.specs.Set.{set_size, set_at}
use Rattle.table.specs.Table.{most_parts, row}
use Rattle.table.proofs.Entries.{classes-fit, rows_fit}
use Rattle.table.proofs.row_set.Statement.{statement}
use Rattle.table.proofs.row_set.Tie as tie

-- the products fit
fits : (c : tie.After-shared_slice_known-2-1) → c.args.p * c.args.k ≤ most_parts * 2 ^ 8
fits c =
    let s = c in
    rows_fit s.args.p s.args.k (omega arith) (omega (arith, s.requires.0, classes-fit s.args.classes.now (λ i. (c.shared_slice_known-1.given i).fits)))

mul-q : tie.Need-overflow_mul-q
mul-q c = omega (arith, fits c)

byte-at-requires : tie.Need-byte_at-requires
byte-at-requires c κs = search rules

cast-q : tie.Need-overflow_cast-q
cast-q c = search rules

add-q : tie.Need-overflow_add-q
add-q c = omega (arith, fits c.before)

mul-set-at : tie.Need-overflow_mul-q-2
mul-set-at c = omega (arith, fits c.before)

set-at-requires : tie.Need-set_at-requires
set-at-requires c κs = search rules

returns : tie.Need-returns
unfolding row
returns c =
    let s = c in
    let a = s.args in
    c.set_at.ensures ∙ ap₂ (λ (k x : ℕ). set_at a.rows.now (set_size * (a.p * k + x))) s.requires.0 c.byte_at.ensures

pub row_set_spec : {M : Type 1} → statement M
row_set_spec =
    tie.close (tie.spec mul-q byte-at-requires cast-q add-q mul-set-at set-at-requires returns)
