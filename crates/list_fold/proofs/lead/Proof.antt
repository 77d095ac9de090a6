-- `lead` goes through the states, rising. Assumes nothing.
use Prim.Native.Nat.{ℕ, ◌≤◌, ◌<◌, ◌-◌}
use mathlib.Core.List.{List, [], ◌∷◌, ◌++◌}
use mathlib.Core.Path.{refl, ap, ap₂, ◌≡◌, sym, ◌∙◌}
use lib.ListN.{take, set, length, length-set}
use native.Mathlib.Numerals.{add-one}
use Rattle.sets.specs.Set.{states}
use Rattle.rules.specs.Scan.{first}
use Rattle.list_fold.specs.Fold.{follows, chiefs}
use Rattle.list_fold.proofs.Coding.{take_more, take-set-after, chiefs-more}
use borrow.Author.Rules.{rules}
use native.Mathlib.Omega.{arith}
use Rattle.list_fold.proofs.lead.Statement.{statement}
use Rattle.list_fold.proofs.lead.Tie as tie

abbrev invariant-loop : tie.invariant-loop-s
invariant-loop list starts head next top leads₀ s₀ leads s = (s ≤ top) × (take s leads ≡ chiefs list s) × (length leads ≡ states)

abbrev decreases-loop : tie.decreases-loop-s
decreases-loop list starts head next top leads₀ s₀ leads s = top - s

loop-holds : tie.Need-loop-s-init invariant-loop decreases-loop
unfolding chiefs
loop-holds c =
    (search rules, refl, c.requires.3)

find-requires : tie.Need-find-r-requires invariant-loop decreases-loop
find-requires c κs =
    let p = c.requires in let l = c.loop-s in (p.0, p.1, omega (arith, p.2), omega (arith, l.invariant.2, p.2))

put-at-requires : tie.Need-put_at-requires invariant-loop decreases-loop
put-at-requires c κs =
    let p = c.requires in let l = c.loop-s in (omega (arith, l.invariant.2, p.2), omega (arith, c.find-r.ensures.1, p.2))

add-s : tie.Need-overflow_step-s invariant-loop decreases-loop
add-s c = search rules

loop-less : tie.Need-loop-s-smaller invariant-loop decreases-loop
loop-less c = search rules

loop-again : tie.Need-loop-s-preserved invariant-loop decreases-loop
loop-again c =
    let p = c.requires in
    let a = c.args in
    let l = c.loop-s in
    let r = c.find-r.result in
    let e = c.put_at.ensures in
    let k : l.s < length l.leads = omega (arith, l.invariant.2, p.2) in
    let t : take l.s (set l.leads l.s r) ≡ chiefs a.list.now l.s = take-set-after l.leads l.s r ∙ l.invariant.1 in
    let q : r ≡ first l.s (follows (chiefs a.list.now l.s) a.list.now l.s) = c.find-r.ensures.0 ∙ ap (λ (m : List ℕ). first l.s (follows m a.list.now l.s)) l.invariant.1 in
    (omega arith, rw (e, add-one) (take_more l.leads l.s r k ∙ ap₂ (λ (x : List ℕ) (y : ℕ). x ++ (y ∷ [])) t q ∙ sym (chiefs-more a.list.now l.s)), rw (e, length-set) l.invariant.2)

same_length : tie.Need-shape_of-leads invariant-loop decreases-loop
same_length c =
    c.loop-s.invariant.2 ∙ sym c.requires.3

returns : tie.Need-returns invariant-loop decreases-loop
returns c =
    let a = c.args in
    let e : c.loop-s.s ≡ a.top = omega arith in
    (rw e at c.loop-s.invariant.1, c.loop-s.invariant.2)

pub lead_spec : {M : Type 1} → statement M
lead_spec =
    tie.close
    (tie.spec
    invariant-loop
    decreases-loop
    loop-holds
    find-requires
    put-at-requires
    add-s
    loop-less
    loop-again
    same_length
    returns)
