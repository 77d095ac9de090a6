-- `put_set` copies the bytes of the set. Assumes nothing.
use Rattle.std.proofs.Common.{◌≡◌, ◌+◌, ◌-◌, ◌≤◌, List, ℕ, length, take, drop, length-drop, length-take-le, sym, ◌∙◌, arith}
use Rattle.numbers.proofs.Placing.{placed-fits}
use Rattle.sets.specs.Set.{set_size}
use Rattle.index_feed.proofs.Saving.{put_all}
use Rattle.index_feed.proofs.put_set.Goals as goal

long : (S : List ℕ) (at : ℕ) → at + set_size ≤ length S → length (take set_size (drop at S)) ≡ set_size
long S at h = length-take-le set_size (drop at S) (simp length-drop (omega arith))

pub copy_from_slice-requires : goal.copy_from_slice-requires
copy_from_slice-requires c =
    let d : c.args.at + 128 - c.args.at ≡ 128 = omega arith in
    rw d (length-take-le 128 c.args.flow.now c.requires.1 ∙ sym (long c.args.splits.now c.args.at c.requires.0))

pub returns : goal.returns
returns c =
    let S = c.args.splits.now in
    let R = c.args.flow.now in
    let xs = take set_size (drop c.args.at S) in
    let l : length xs ≡ set_size = long S c.args.at c.requires.0 in
    let z : 0 + length xs ≡ set_size = omega (arith, l) in
    let d : c.args.at + 128 - c.args.at ≡ 128 = omega arith in
    rw (c.copy_from_slice.ensures.after, d) (sym (rw z at (placed-fits R 0 xs (omega (arith, l)))) ∙ put_all S R c.args.at (λ i. (c.type_inv.splits i).fits) c.requires.0)
