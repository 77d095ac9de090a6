-- The highest state that is not shared decides.
use Rattle.std.proofs.Common.{◌≡◌, false, ap, arith}
use Rattle.std.specs.Prelude.{is_some}
use Rattle.list_join.specs.Join.{is_shared}
use Rattle.list_join.proofs.Numbering.{fitted-alone, fitted-above, fitted-last}
use Rattle.list_join.proofs.Renames.{shared-some}
use Rattle.list_join.proofs.all_fit.Goals as goal

pub returns-in_default : goal.returns-in_default
returns-in_default c =
    let z : is_shared c.args.n ≡ false = ap is_some c.in_default.is in
    fitted-alone c.args.n c.args.top c.requires.0 c.args.named.now c.requires.2 z

pub returns-then-s-top : goal.returns-then-s-top
returns-then-s-top c =
    let k = shared-some c.args.n c.in-Some.s c.in-Some.is in
    fitted-above c.args.n c.args.top c.requires.0 c.args.named.now c.requires.2 k.0 (omega (arith, k.1, c.if-s-top.true))

pub returns : goal.returns
returns c =
    let k = shared-some c.args.n c.in-Some.s c.in-Some.is in
    fitted-last c.args.n c.args.top c.requires.0 c.args.named.now c.requires.2 k.0 (λ q. absurd (omega (arith, q, k.1, c.if-s-top.false))) c.end_below.result (rw k.1 c.end_below.ensures)
