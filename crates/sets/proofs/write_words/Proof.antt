-- `write_words` meets its promise: it writes word by word. Assumes nothing.
use borrow.Author.Rules.{rules}
use mathlib.Core.Path.{◌≡◌, ◌∙◌, ap}
use mathlib.Core.List.{List}
use Prim.Native.Nat.{ℕ, ◌≤◌, ◌-◌, ◌+◌, ◌*◌}
use native.Mathlib.Omega.{arith}
use lib.ListN.{length, get_or, take}
use lib.Seq.{length-take-le, take_all}
use Rattle.numbers.specs.Number.{num, digits, placed}
use Rattle.numbers.proofs.Laws.{length_digits}
use Rattle.numbers.proofs.Bytes.{bytes-more}
use Rattle.numbers.proofs.Placing.{placed-none, placed-after, length-placed}
use Rattle.sets.proofs.write_words.Statement.{statement}
use Rattle.sets.proofs.write_words.Tie as tie

abbrev invariant-loop : tie.invariant-loop-i
invariant-loop b₀ at w i₀ i-end b i = (i ≤ length w) × (b ≡ placed b₀ at (take (8 * i) (digits 8 (8 * length w) (num 64 w))))

abbrev decreases-loop : tie.decreases-loop-i
decreases-loop b₀ at w i₀ i-end b i = length w - i

-- the bytes of the words, and those of the first i
long : (c : tie.Start invariant-loop decreases-loop) → length (digits 8 (8 * length c.args.w.now) (num 64 c.args.w.now)) ≡ 8 * length c.args.w.now
long c = length_digits 8 (8 * length c.args.w.now) (num 64 c.args.w.now)

abbrev start : tie.At-loop-i invariant-loop decreases-loop → tie.Start invariant-loop decreases-loop
start c = c.before.before.before

front : (c : tie.At-loop-i invariant-loop decreases-loop)
    → length (take (8 * c.loop-i.i) (digits 8 (8 * length (start c).args.w.now) (num 64 (start c).args.w.now))) ≡ 8 * c.loop-i.i
front c =
    let w = (start c).args.w.now in
    length-take-le (8 * c.loop-i.i) (digits 8 (8 * length w) (num 64 w)) (omega (arith, long (start c), c.loop-i.invariant.0))

-- the list keeps its length
kept : (c : tie.At-loop-i invariant-loop decreases-loop) → length c.loop-i.b ≡ length (start c).args.b.now
kept c =
    let a = (start c).args in
    ap length c.loop-i.invariant.1 ∙ length-placed a.b.now a.at (take (8 * c.loop-i.i) (digits 8 (8 * length a.w.now) (num 64 a.w.now)))

loop-holds : tie.Need-loop-i-init invariant-loop decreases-loop
loop-holds c =
    let a = c.before.before.args in
    (search rules, placed-none a.b.now a.at (omega arith))

mul-put-number : tie.Need-overflow_mul-i invariant-loop decreases-loop
mul-put-number c = search rules

add-put-number : tie.Need-overflow_add-at invariant-loop decreases-loop
add-put-number c = search rules

mul-put-number-2 : tie.Need-offset_bounds-w-i invariant-loop decreases-loop
mul-put-number-2 c = search rules

shared-slice-read-put-number : tie.Need-bounds-w-i invariant-loop decreases-loop
shared-slice-read-put-number c = search rules

put-number-requires : tie.Need-put_number-requires invariant-loop decreases-loop
put-number-requires c κs = (omega (arith, kept c.before.before.before), omega arith)

add-i : tie.Need-overflow_step-i invariant-loop decreases-loop
add-i c = search rules

loop-less : tie.Need-loop-i-smaller invariant-loop decreases-loop
loop-less c = search rules

loop-again : tie.Need-loop-i-preserved invariant-loop decreases-loop
loop-again c =
    let h = c.before.before.before.before.before.before in
    let a = (start h).args in
    let xs = take (8 * h.loop-i.i) (digits 8 (8 * length a.w.now) (num 64 a.w.now)) in
    let x = get_or a.w.now h.loop-i.i 0 in (
      omega arith,
      c.before.before.put_number.ensures
          ∙ ap (λ (b : List ℕ). placed b (a.at + 8 * h.loop-i.i) (digits 8 8 x)) h.loop-i.invariant.1
          ∙ placed-after a.b.now a.at xs (digits 8 8 x) (a.at + 8 * h.loop-i.i) (omega (arith, front h)) (omega (arith, length_digits 8 8 x))
          ∙ ap (placed a.b.now a.at) (bytes-more (length a.w.now) a.w.now h.loop-i.i (λ i. (h.before.shared_slice_known-1.given i).fits) (omega arith)),
    )

same_length : tie.Need-shape_of-b invariant-loop decreases-loop
same_length c = kept c.before

returns : tie.Need-returns invariant-loop decreases-loop
returns c =
    let a = (start c.before).args in
    let l = c.before.loop-i in
    l.invariant.1 ∙ ap (placed a.b.now a.at) (take_all (8 * l.i) (digits 8 (8 * length a.w.now) (num 64 a.w.now)) (omega (arith, long (start c.before))))

pub write_words_spec : {M : Type 1} → statement M
write_words_spec =
    tie.close
    (tie.spec
    invariant-loop
    decreases-loop
    loop-holds
    mul-put-number
    add-put-number
    mul-put-number-2
    shared-slice-read-put-number
    put-number-requires
    add-i
    loop-less
    loop-again
    same_length
    returns)
