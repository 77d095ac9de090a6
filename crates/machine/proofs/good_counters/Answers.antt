-- What holds of every counter holds of each of the sixteen. Assumes nothing.
use Rattle.std.proofs.Common.{◌≡◌, ◌≤◌, ◌<◌, true, false, ℕ, Bool, ◌↔◌, refl, sym, length, get_or, arith, rules}
use lib.Dec.{leb}
use borrow.Author.Tests.{le-leb, leb-true}
use Rattle.rules.specs.Scan.{every}
use Rattle.rules.proofs.Scanning.{every-all, every-at}
use Rattle.machine.specs.Program.{counter_count, off}
use Rattle.machine.proofs.good_counters.Goals as goal

is : (n : ℕ) (p : ℕ → Bool) (b : Bool) → (b ≡ true → (i : ℕ) → i < n → p i ≡ true) → (((i : ℕ) → i < n → p i ≡ true) → b ≡ true) → b ≡ every n p
is n p true f g = sym (every-all n p (f refl))
is n p false f g = go (every n p) refl
  where
    go : (e : Bool) → every n p ≡ e → false ≡ e
    go false w = refl
    go true w = g (λ i h. every-at n p w i h)

pub returns : goal.returns
returns c =
    let cs = c.args.x.counters in
    let f : (c.all.result ≡ true) ↔ ((i : ℕ) → i < length cs → get_or cs i 0 ≤ 65536) = search rules in
    is counter_count (λ j. leb (get_or cs j 0) off) c.all.result
    (λ e i h. le-leb _ _ (f.0 e i (omega arith)))
    (λ g. f.1 (λ i h. leb-true _ _ (g i (omega arith))))
