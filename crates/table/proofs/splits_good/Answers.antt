-- `splits_good` tests the order of the splits, and then their slots.
use Rattle.std.proofs.Common.{◌≡◌, sym, ap, ◌∙◌, Bool, List, ℕ, ◌&&◌}
use Rattle.rules.specs.Scan.{every}
use Rattle.table.specs.Table.{split_count, slots, good_slots, in_order}
use Rattle.table.proofs.Turns.{every-both}
use Rattle.table.proofs.splits_good.Goals as goal

-- rule 9 where the test of the order says t
said : (S : List ℕ) (n bound : ℕ) (t : Bool) → t ≡ every (split_count S) (in_order S)
    → (t && every (split_count S) (λ i. good_slots n bound (slots S i))) ≡ every (split_count S) (λ i. good_slots n bound (slots S i) && in_order S i)
said S n bound t e =
    ap (λ (b : Bool). b && every (split_count S) (λ i. good_slots n bound (slots S i))) e
    ∙ sym (every-both (split_count S) (λ i. good_slots n bound (slots S i)) (in_order S))

pub returns-then-ordered : goal.returns-then-ordered
returns-then-ordered c =
    let a = c.args in
    c.slots_good.ensures ∙ said a.splits.now a.n a.bound _ (sym c.if-ordered.true ∙ c.ordered.ensures)

pub returns-else-ordered : goal.returns-else-ordered
returns-else-ordered c =
    let a = c.args in
    rw c.if-ordered.false (said a.splits.now a.n a.bound _ (sym c.if-ordered.false ∙ c.ordered.ensures))
