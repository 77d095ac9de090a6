-- `fold` links, finds the chiefs, numbers them, counts, and writes. Assumes nothing.
use Prim.Native.Nat.{ℕ}
use mathlib.Core.Path.{refl, ap, ◌≡◌, sym, ◌∙◌}
use lib.ListN.{replicate, length-replicate, length}
use Rattle.sets.specs.Set.{states}
use Rattle.list.specs.List.{most_records, list_refusal}
use Rattle.list_fold.proofs.Linking.{link-none}
use Rattle.list_fold.proofs.Answering.{refuses-list, refuses-room, few-records, top-low, long-is, long-low, answers-not, answers-all}
use borrow.Author.Rules.{rules}
use native.Mathlib.Omega.{arith}
use Rattle.list_fold.proofs.fold.Statement.{statement}
use Rattle.list_fold.proofs.fold.Tie as tie

check-list-requires : tie.Need-check_list-refusal-requires
check-list-requires c κs = search rules

returns : tie.Need-returns-then-refusal-ne-PASSED
returns c =
    let e = c.check_list-refusal.ensures in
    let n : list_refusal c.args.list.now ≡ 0 → ⊥ = λ q. c.if-refusal-ne-PASSED.true (e ∙ q) in
    answers-not c.args.list.now c.args.out.now _ _ (list_refusal c.args.list.now) (refuses-list c.args.list.now (length c.args.out.now) n) n e refl refl

records-requires : tie.Need-records-n-requires
records-requires c κs = search rules

state-count-requires : tie.Need-state_count-top-requires
state-count-requires c κs = search rules

start-set-requires : tie.Need-start_set-starts-requires
start-set-requires c κs = search rules

cast-none : tie.Need-overflow_cast-none
cast-none c =
    let L = c.args.list.now in
    let a : list_refusal L ≡ 0 = sym c.check_list-refusal.ensures ∙ c.if-refusal-ne-PASSED.false in
    omega (arith, c.records-n.ensures, few-records L a)

slice-aggregate-link : tie.Need-slice_bounds-link-end
slice-aggregate-link c = search rules

slice-aggregate-link-2 : tie.Need-slice_bounds-link-end-2
slice-aggregate-link-2 c = search rules

link-requires : tie.Need-link-requires
link-requires c κs =
    let L = c.args.list.now in
    let a : list_refusal L ≡ 0 = sym c.check_list-refusal.ensures ∙ c.if-refusal-ne-PASSED.false in
    let e = c.records-n.ensures in
    link-none L (replicate states c.records-n.result) (replicate {A = ℕ} most_records 0) (few-records L a) (ap (replicate states) e) (length-replicate {A = ℕ} most_records 0)

slice-aggregate-lead : tie.Need-slice_bounds-lead-end
slice-aggregate-lead c = search rules

slice-aggregate-lead-2 : tie.Need-slice_bounds-lead-end-2
slice-aggregate-lead-2 c = search rules

slice-aggregate-lead-3 : tie.Need-slice_bounds-lead-end-3
slice-aggregate-lead-3 c = search rules

lead-requires : tie.Need-lead-requires
lead-requires c κs =
    let L = c.args.list.now in
    let a : list_refusal L ≡ 0 = sym c.check_list-refusal.ensures ∙ c.if-refusal-ne-PASSED.false in
    (c.start_set-starts.ensures, c.link.ensures, top-low L _ a c.state_count-top.ensures.0, refl)

slice-aggregate-number : tie.Need-slice_bounds-number-end
slice-aggregate-number c = search rules

slice-aggregate-number-2 : tie.Need-slice_bounds-number-end-2
slice-aggregate-number-2 c = search rules

number-requires : tie.Need-number-requires
number-requires c κs =
    let L = c.args.list.now in
    let a : list_refusal L ≡ 0 = sym c.check_list-refusal.ensures ∙ c.if-refusal-ne-PASSED.false in
    (c.state_count-top.ensures.0, top-low L _ a c.state_count-top.ensures.0, c.lead.ensures.0, c.lead.ensures.1, refl)

slice-aggregate-count : tie.Need-slice_bounds-count-end
slice-aggregate-count c = search rules

count-requires : tie.Need-count-length-requires
count-requires c κs =
    let L = c.args.list.now in
    let a : list_refusal L ≡ 0 = sym c.check_list-refusal.ensures ∙ c.if-refusal-ne-PASSED.false in
    (c.state_count-top.ensures.0, omega (arith, top-low L c.state_count-top.result a c.state_count-top.ensures.0, c.lead.ensures.1), c.lead.ensures.0)

mul-long : tie.Need-overflow_mul-length
mul-long c =
    let L = c.args.list.now in
    let a : list_refusal L ≡ 0 = sym c.check_list-refusal.ensures ∙ c.if-refusal-ne-PASSED.false in
    omega (arith, long-is L c.count-length.result c.count-length.ensures, long-low L a)

returns-2 : tie.Need-returns-then-out-length
returns-2 c =
    let L = c.args.list.now in
    let a : list_refusal L ≡ 0 = sym c.check_list-refusal.ensures ∙ c.if-refusal-ne-PASSED.false in
    let q = long-is L c.count-length.result c.count-length.ensures in
    let o = c.args.out.now in
    answers-not L o _ _ 28 (refuses-room L (length o) a (omega (arith, q, c.if-out-length.true))) (λ z. omega arith) refl refl refl

slice-aggregate-add : tie.Need-slice_bounds-add-end
slice-aggregate-add c = search rules

slice-aggregate-add-2 : tie.Need-slice_bounds-add-end-2
slice-aggregate-add-2 c = search rules

add-requires : tie.Need-add-requires
add-requires c κs =
    let L = c.args.list.now in
    let a : list_refusal L ≡ 0 = sym c.check_list-refusal.ensures ∙ c.if-refusal-ne-PASSED.false in
    let q = long-is L c.count-length.result c.count-length.ensures in
    (c.number.ensures, omega (arith, q, c.if-out-length.false))

same_length : tie.Need-shape_of-out
same_length c = search rules

returns-3 : tie.Need-returns
returns-3 c =
    let L = c.args.list.now in
    let a : list_refusal L ≡ 0 = sym c.check_list-refusal.ensures ∙ c.if-refusal-ne-PASSED.false in
    let q = long-is L c.count-length.result c.count-length.ensures in
    let o = c.args.out.now in
    answers-all L o _ _ a (omega (arith, q, c.if-out-length.false)) refl q c.add.ensures

pub fold_spec : {M : Type 1} → statement M
fold_spec =
    tie.close
    (tie.spec
    check-list-requires
    returns
    records-requires
    state-count-requires
    start-set-requires
    cast-none
    slice-aggregate-link
    slice-aggregate-link-2
    link-requires
    slice-aggregate-lead
    slice-aggregate-lead-2
    slice-aggregate-lead-3
    lead-requires
    slice-aggregate-number
    slice-aggregate-number-2
    number-requires
    slice-aggregate-count
    count-requires
    mul-long
    returns-2
    slice-aggregate-add
    slice-aggregate-add-2
    add-requires
    same_length
    returns-3)
