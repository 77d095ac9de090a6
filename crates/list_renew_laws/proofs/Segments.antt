-- Segments of a flow go on over a renewal. Assumes nothing.
use Prim.Native.Nat.{ℕ, ◌+◌, ◌%◌}
use mathlib.Core.Path.{◌≡◌, ap}
use native.Mathlib.Omega.{arith}
use Rattle.list_flow.specs.Flow.{offset_of}
use Rattle.segment.specs.Resend.{circle, taking, due}
use Rattle.list_renew.specs.Renewal.{renewal}
use Rattle.list_renew.proofs.Renewing.{renews, renewed-offset}
use Rattle.list_renew_laws.specs.Segments.{SegmentsGoOn}

-- nothing added, round the circle
once-round : (n k : ℕ) → k ≡ 0 → (n % circle + k) % circle ≡ n % circle
once-round n k z = omega (arith, z)

pub segments-go-on : SegmentsGoOn
segments-go-on v L g S z =
    let e : (((g.first + offset_of S.flow) % circle) + offset_of (renewal S.flow).saved) % circle ≡ (g.first + offset_of S.flow) % circle =
    once-round (g.first + offset_of S.flow) (offset_of (renewal S.flow).saved) (rw (renews S.flow z) (renewed-offset S.flow)) in
    record {
      next = e;
      taken = ap (λ (n : ℕ). taking n S.held S.start S.length g.start g.bytes) e;
      due =
          ap (λ (n : ℕ). let h = taking n S.held S.start S.length g.start g.bytes in due n h.bytes h.start h.length g.start g.bytes) e;
    }
