use Rattle.sets.specs.Set.{set_of}
use Rattle.text.specs.Exp.{size}
use Rattle.text_compile.specs.inner.Code.{exp_of}
use Rattle.text_compile.proofs.Listing.{ends-null, ends_some, ends-below, below-with}
use Rattle.text_compile.proofs.ends_of.Goals as goal

pub returns-then-shape : goal.returns-then-shape
returns-then-shape c =
    let r = c.args.shape in
    λ R x s few. (ends-null R (exp_of x) r (set_of c.with.result) s few c.if-shape.true c.with.ensures, below-with (set_of r.last) (set_of c.with.result) (size (exp_of x)) c.with.ensures (ends-below R (exp_of x) r s few))

pub returns-else-shape : goal.returns-else-shape
returns-else-shape c =
    let r = c.args.shape in
    λ R x s few. (ends_some R (exp_of x) r s few c.if-shape.false, ends-below R (exp_of x) r s few)
