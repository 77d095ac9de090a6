-- `skip` stays at a place block by block. Assumes nothing.
use Rattle.std.proofs.Common.{◌≡◌, ℕ, ◌<◌, Bool, true, false, None, Some, cond, eqb, refl, arith}
use borrow.Author.Tests.{eqb-true, eqb-false}
use Rattle.index_blocks.specs.inner.Ranges.{block_size, none, met, first_met}
use Rattle.index_blocks.proofs.Blocks.{block-hit, block-clear}
use Rattle.index_quiet.proofs.Moving.{stays_on, none_yet}
use Rattle.index_quiet.proofs.skip.Goals as goal

-- the place of a first byte is met, and no byte before it is
hit : (p : ℕ → Bool) (f : ℕ) → Some f ≡ first_met block_size p → (f < block_size) × ((j : ℕ) → j < f → p j ≡ false)
hit p f e = go (eqb (met block_size p) none) refl e
  where
    go : (b : Bool) → eqb (met block_size p) none ≡ b → Some f ≡ cond b None (Some (met block_size p)) → (f < block_size) × ((j : ℕ) → j < f → p j ≡ false)
    go true t e = cc
    go false t e = block-hit p f (cc) (λ z. eqb-false (met block_size p) none t (cc))

-- where there is none, no byte of the block is met
clear : (p : ℕ → Bool) → None ≡ first_met block_size p → (j : ℕ) → j < block_size → p j ≡ false
clear p e = go (eqb (met block_size p) none) refl e
  where
    go : (b : Bool) → eqb (met block_size p) none ≡ b → None ≡ cond b None (Some (met block_size p)) → (j : ℕ) → j < block_size → p j ≡ false
    go true t e = block-clear p (met block_size p) refl (eqb-true (met block_size p) none t)
    go false t e = cc

pub loop-n-init : goal.loop-n-init
loop-n-init c = record { most = omega arith; moves = none_yet _ _ _ _ }

pub returns-in-Some : goal.returns-in-Some
returns-in-Some c =
    let a = c.args in
    let l = c.loop-n in
    let s = c.requires in
    let f = c.in-Some.f in
    let h = hit _ f c.in-Some.ensures in
    let w = c.from.ensures in (
      omega (arith, h.0, w),
      rw w (stays_on a.index.now a.piece.now a.from a.place l.n f a.r.low a.r.lows a.r.high a.r.highs
          l.invariant.moves (omega (arith, h.0)) s.1 (omega arith) s.3 (λ j. (c.type_inv.piece j).fits) h.1),
    )

pub loop-n-preserved : goal.loop-n-preserved
loop-n-preserved c =
    let a = c.args in
    let l = c.loop-n in
    let s = c.requires in
    let h = clear _ c.in-None.ensures in
    record {
      most = omega arith;
      moves = stays_on a.index.now a.piece.now a.from a.place l.n 32 a.r.low a.r.lows a.r.high a.r.highs
          l.invariant.moves (omega arith) s.1 (omega arith) s.3 (λ j. (c.type_inv.piece j).fits) h;
    }

pub returns : goal.returns
returns c = (c.loop-n.invariant.most, c.loop-n.invariant.moves)
