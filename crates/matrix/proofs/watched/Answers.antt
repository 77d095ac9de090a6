-- `watched` keeps the first words, and from `wide` on each becomes all ones.
use Rattle.std.proofs.Common.{◌≡◌, rules, length, get_or, take, ℕ, ◌-◌, ◌≤◌, ◌<◌, ◌++◌, arith, Fits, w64}
use lib.ListN.{replicate}
use Rattle.sets.specs.Set.{set_words}
use Rattle.sets.proofs.Sets.{Words}
use Rattle.matrix.proofs.Watching.{widened-fill, looked-out, filled-rest, filled-end}
use Rattle.matrix.proofs.watched.Goals as goal

pub returns : goal.returns
returns c F h e =
    let a = c.args.accepting.words in
    let m = c.min.result in
    let v : Words set_words a =
    record { long = (let l : length a ≡ set_words = search rules in l); small = λ i. let f : Fits w64 (get_or a i 0) = search rules in f.fits } in
    let room : m ≤ set_words = omega (arith, c.min.ensures) in
    let low : m ≤ c.args.wide = omega (arith, c.min.ensures) in
    let up : (j : ℕ) → j < set_words → j < c.args.wide → j < m = λ j k l. omega (arith, c.min.ensures) in
    let R = c.fill.new.self in
    let r : R ≡ replicate (set_words - m) 18446744073709551615 = filled-rest a R m v room (c.fill.ensures.after (λ y q. q)) in
    let q = filled-end a R m v room in
    looked-out a (take m a ++ R) c.args.wide v (widened-fill a R c.args.wide m v room low up r) F h (rw (c.of_words.ensures, q) at e)
