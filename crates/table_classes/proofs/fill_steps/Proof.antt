-- `fill_steps` meets its promise. Assumes nothing.
use borrow.Author.Rules.{rules}
use mathlib.Core.Path.{◌≡◌, sym, ap, ◌∙◌}
use mathlib.Core.List.{List}
use Prim.Native.Nat.{ℕ, ◌+◌, ◌-◌, ◌*◌, ◌≤◌, ◌<◌}
use native.Mathlib.Omega.{arith}
use lib.ListN.{length, take, drop}
use Rattle.sets.specs.Set.{set_of, join}
use Rattle.list.specs.List.{record_size, records}
use Rattle.list.specs.Automaton.{step}
use Rattle.rules.proofs.Scanning.{choose}
use Rattle.table.specs.Table.{byte_values, part}
use Rattle.table_classes.specs.inner.Loops.{SetsAre}
use Rattle.table_classes.proofs.Records.{alone, one-record, Filling, filling-start, filling-more, filling-other, filling-end}
use Rattle.table_classes.proofs.fill_steps.Statement.{statement}
use Rattle.table_classes.proofs.fill_steps.Tie as tie

abbrev invariant-loop : tie.invariant-loop-i
invariant-loop l f rows₀ base i₀ i-end rows i = (i ≤ i-end) × Filling l rows₀ rows (set_of base) (set_of f) i

abbrev decreases-loop : tie.decreases-loop-i
decreases-loop l f rows₀ base i₀ i-end rows i = i-end - i

-- the ways back to the entry, from the loop's head
abbrev start : tie.At-loop-i invariant-loop decreases-loop → tie.Start invariant-loop decreases-loop
start c = c.before.before.before.before.before.before.before.before

-- the list of sets keeps its length
kept : (c : tie.At-loop-i invariant-loop decreases-loop) → length c.loop-i.rows ≡ length (start c).args.rows.now
kept c = c.loop-i.invariant.1.long ∙ c.put_sets.ensures.long

-- the part that is handed on is record i alone
part-is : (L : List ℕ) (i : ℕ) → take (record_size * i + record_size - record_size * i) (drop (record_size * i) L) ≡ alone L i
part-is L i = ap (λ (n : ℕ). take n (drop (record_size * i) L)) (let e : record_size * i + record_size - record_size * i ≡ record_size = omega arith in e)

added : (L : List ℕ) (i F : ℕ) (X Y : List ℕ)
    → SetsAre X Y (λ d. join (part X d) (step (take (record_size * i + record_size - record_size * i) (drop (record_size * i) L)) F d)) byte_values
    → SetsAre X Y (λ d. join (part X d) (step (alone L i) F d)) byte_values
added L i F X Y a =
    record { long = a.long; sets = λ d h. a.sets d h ∙ ap (λ (R : List ℕ). join (part X d) (step R F d)) (part-is L i); rest = a.rest }

always-requires : tie.Need-always-base-requires invariant-loop decreases-loop
always-requires c κs = search rules

put-sets-requires : tie.Need-put_sets-requires invariant-loop decreases-loop
put-sets-requires c κs = (c.requires, c.always-base.ensures.0)

loop-holds : tie.Need-loop-i-init invariant-loop decreases-loop
loop-holds c =
    let a = c.args in
    (omega arith, filling-start a.list.now a.rows.now _ (set_of c.always-base.result) (set_of a.f) c.put_sets.ensures)

adds-requires : tie.Need-adds-requires invariant-loop decreases-loop
adds-requires c κs = omega arith

mul_at : tie.Need-overflow_mul-at invariant-loop decreases-loop
mul_at c = omega arith

add-end : tie.Need-overflow_add-end invariant-loop decreases-loop
add-end c = omega arith

sub-add-steps : tie.Need-slice_bounds-add_steps-count invariant-loop decreases-loop
sub-add-steps c = omega arith

part-add-steps-start : tie.Need-slice_bounds-add_steps-start invariant-loop decreases-loop
part-add-steps-start c = omega arith

part-add-steps-end : tie.Need-slice_bounds-add_steps-end invariant-loop decreases-loop
part-add-steps-end c = omega arith

add-steps-requires : tie.Need-add_steps-requires invariant-loop decreases-loop
add-steps-requires c κs =
    let head = c.before.before.before.before.before in
    let s = start head in
    let l = head.loop-i in
    let h : l.i < records s.args.list.now = omega arith in (
      omega (arith, kept head, s.requires),
      ap (λ (R : List ℕ). records R) (part-is s.args.list.now l.i) ∙ one-record s.args.list.now l.i h,
    )

add-i : tie.Need-overflow_step-i invariant-loop decreases-loop
add-i c = omega arith

loop-less : tie.Need-loop-i-smaller invariant-loop decreases-loop
loop-less c = omega arith

loop-again : tie.Need-loop-i-preserved invariant-loop decreases-loop
loop-again c =
    let head = c.before.before.before in
    let s = start head in
    let a = s.args in
    let base = set_of head.always-base.result in
    let l = head.loop-i in
    let h : l.i < records a.list.now = omega arith in
    choose c.if-adds.branch-raw
    (λ w. (
      omega arith,
      rw w.rows-is (filling-more a.list.now _ l.rows base (set_of a.f) l.i h l.invariant.1 w.add_steps.new.rows
          (added a.list.now l.i (set_of a.f) l.rows w.add_steps.new.rows w.add_steps.ensures)),
    ))
    (λ w. (
      omega arith,
      rw w.rows-is (filling-other a.list.now _ l.rows base (set_of a.f) l.i h l.invariant.1 (sym c.adds.ensures ∙ w.if-adds.false)),
    ))

same_length : tie.Need-shape_of-rows invariant-loop decreases-loop
same_length c = kept c.before

returns : tie.Need-returns invariant-loop decreases-loop
returns c =
    let head = c.before in
    let a = (start head).args in
    let k = head.always-base in
    let l = head.loop-i in
    (kept head, filling-end a.list.now _ l.rows (set_of k.result) (set_of a.f) l.i (omega (arith, l.invariant.0)) k.ensures.1 l.invariant.1)

pub fill_steps_spec : {M : Type 1} → statement M
fill_steps_spec =
    tie.close
    (tie.spec
    invariant-loop
    decreases-loop
    always-requires
    put-sets-requires
    loop-holds
    adds-requires
    mul_at
    add-end
    sub-add-steps
    part-add-steps-start
    part-add-steps-end
    add-steps-requires
    add-i
    loop-less
    loop-again
    same_length
    returns)
