-- The last mark that is not 0 ends them.
use Rattle.std.proofs.Common.{◌≡◌, ◌∙◌, sym, ℕ, ◌+◌, ◌≤◌, ◌<◌, length, get_or, take, arith, rules}
use lib.Seq.{length-take-le, get_or-take}
use Rattle.list_join.proofs.end_near.Goals as goal

pub returns-in-Some : goal.returns-in-Some
returns-in-Some c =
    let a = c.args in
    let i = c.in-Some.s in
    let xs = take a.m a.marks.now in
    let long : length xs ≡ a.m = length-take-le a.m a.marks.now c.requires in
    let inside : i < length xs = search rules in
    let some : get_or xs i 0 ≡ 0 → ⊥ = search rules in
    let above : (k : ℕ) → i + 1 ≤ k → k < length xs → get_or xs k 0 ≡ 0 = search rules in
    record {
      most = omega (arith, inside, long);
      none = λ k l h. sym (get_or-take a.m a.marks.now k 0 h) ∙ above k l (omega (arith, h, long));
      last = λ t e z. let q : t ≡ i = omega (arith, e) in some (get_or-take a.m a.marks.now i 0 (omega (arith, inside, long)) ∙ rw q at z);
    }

pub returns-in-None : goal.returns-in-None
returns-in-None c =
    let a = c.args in
    let xs = take a.m a.marks.now in
    let long : length xs ≡ a.m = length-take-le a.m a.marks.now c.requires in
    let none : (k : ℕ) → k < length xs → get_or xs k 0 ≡ 0 = search rules in
    record {
      most = omega arith;
      none = λ k l h. sym (get_or-take a.m a.marks.now k 0 h) ∙ none k (omega (arith, h, long));
      last = λ t e. absurd (omega (arith, e));
    }
