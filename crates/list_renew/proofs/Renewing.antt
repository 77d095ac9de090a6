-- What a renewal answers and leaves: its refusal in words, and the fields of the record. Assumes nothing.
use Prim.Native.Nat.{ℕ, ◌+◌}
use mathlib.Core.Path.{◌≡◌, refl, sym, ◌∙◌}
use mathlib.Core.Bool.{Bool, true, false, ◌||◌, not, cond}
use mathlib.Core.List.{List, []}
use native.Mathlib.Omega.{arith}
use native.Mathlib.Decide.{ℕ_discrete}
use lib.ListN.{length}
use lib.Dec.{eqb}
use lib.Pow.{pow_pos}
use borrow.Author.Tests.{eq-eqb, ne_eqb, le-ltb}
use Rattle.rules.specs.Rules.{verdict}
use Rattle.rules.proofs.Rules.{passes, last}
use Rattle.rules.proofs.Saying.{tells}
use Rattle.feed.specs.Calls.{Bytes}
use Rattle.feed.specs.Engine.{most_offset}
use Rattle.list_flow.specs.Flow.{flow_size, frontier_of, offset_of, flow_bytes, bad_flow, flow_rules}
use Rattle.list_flow.proofs.Refused.{bad-flow}
use Rattle.list_flow.proofs.Records.{frontier-lt, offset-lt, frontier-flow, offset-flow, rows-flow, length-flow, flow-good, good-flow}
use Rattle.machine.specs.Record as x
use Rattle.list_renew.specs.Renewal.{renew_rules, renewed, renewal, Renews, renew_words, OneRenewal, no_offset, offset_said}

-- a feed of no bytes from the flow's own offset meets, but for foreign states, what a renewal meets
pub no_bytes : (R : List ℕ) → Bytes R → verdict (flow_rules true R (offset_of R) []) ≡ verdict (renew_rules R)
unfolding verdict
no_bytes R h =
    rw (eq-eqb (offset_of R) (offset_of R) refl, le-ltb most_offset (offset_of R + 0) (omega (arith, offset-lt R h))) (go (bad_flow R))
  where
    go : (b : Bool) → ◌≡◌ {A = ℕ} (cond (b || not true) 4 (cond (not true) 5 (cond false 6 0))) (cond b 4 0)
    go true = refl
    go false = refl

-- ---- refused or not

module _ (R : List ℕ) where
  pub renews : (renewal R).refusal ≡ 0 → (renewal R).saved ≡ renewed R
  unfolding renewal
  renews z = rw (eq-eqb (verdict (renew_rules R)) 0 z)

  pub stays : ((renewal R).refusal ≡ 0 → ⊥) → (renewal R).saved ≡ R
  unfolding renewal
  stays n = rw (ne_eqb (verdict (renew_rules R)) 0 n)

  -- one that rule 4 takes is renewed, and no other
  pub whole-renews : bad_flow R ≡ false → (renewal R).refusal ≡ 0
  unfolding renewal
  whole-renews e = last 4 e

  pub renews-whole : (renewal R).refusal ≡ 0 → bad_flow R ≡ false
  unfolding renewal
  renews-whole z = (passes 3 (bad_flow R) [] z).0

  -- ---- the fields then

  pub renewed-frontier : Bytes R → frontier_of (renewed R) ≡ frontier_of R
  renewed-frontier h = frontier-flow (frontier_of R) 0 0 (frontier-lt R h)

  pub renewed-offset : offset_of (renewed R) ≡ 0
  renewed-offset = offset-flow (frontier_of R) 0 0 (omega arith)

  pub renewed-good : bad_flow (renewed R) ≡ false
  renewed-good = flow-good (frontier_of R) 0 0 (omega arith) (omega arith)

  as_long : length (renewal R).saved ≡ length R
  as_long =
      elim (ℕ_discrete (renewal R).refusal 0) [
        | yes z ↦ rw (renews z) (length-flow (frontier_of R) 0 0 ∙ sym (good-flow R (renews-whole z)).0)
        | no n ↦ rw (stays n)
      ]

  said : (renewal R).refusal ≡ verdict (renew_rules R)
  unfolding renewal
  said = refl

  pub one-renewal : Bytes R → OneRenewal R (renewal R)
  one-renewal h =
      record {
        said = rw said (tells (renew_rules R) (renew_words R) refl (refl, bad-flow R, tt));
        unchanged = stays;
        frontier = λ z. rw (renews z) (renewed-frontier h);
        offset = λ z. rw (renews z) renewed-offset;
        rows = λ z. rw (renews z) (rows-flow (frontier_of R) 0 0 (pow_pos 64));
        as_long = as_long;
        whole = λ z. rw (renews z) renewed-good;
      }

  -- ---- the code: what it answers and leaves, where the check answers r

  -- then the record has its size
  pub renews-long : (r : ℕ) → r ≡ verdict (renew_rules R) → r ≡ 0 → length R ≡ flow_size
  renews-long r e z = (good-flow R (renews-whole (said ∙ sym e ∙ z))).0

  pub renewed-by : (r F : ℕ) (Q : List ℕ) → r ≡ verdict (renew_rules R) → r ≡ 0 → F ≡ frontier_of R → Q ≡ cond (eqb (length R) flow_size) (flow_bytes F 0 0) R → Renews R r Q
  renewed-by r F Q e z f q =
      let v : (renewal R).refusal ≡ 0 = said ∙ sym e ∙ z in
      record { refusal = e ∙ sym said; saved = q ∙ rw (eq-eqb (length R) flow_size (good-flow R (renews-whole v)).0, f, renews v) }

  pub stays_by : (r : ℕ) → r ≡ verdict (renew_rules R) → (r ≡ 0 → ⊥) → Renews R r R
  stays_by r e n = record { refusal = e ∙ sym said; saved = sym (stays (λ z. n (e ∙ sym said ∙ z))) }

  -- ---- the offset of a record of either kind

  pub offset-list : length R ≡ flow_size → offset_said R ≡ offset_of R
  unfolding offset_said
  offset-list l = rw (eq-eqb (length R) flow_size l)

  pub offset-extended : (length R ≡ flow_size → ⊥) → length R ≡ x.flow_size → offset_said R ≡ x.offset_of R
  unfolding offset_said
  offset-extended n l = rw (ne_eqb (length R) flow_size n, eq-eqb (length R) x.flow_size l)

  pub offset-none : (length R ≡ flow_size → ⊥) → (length R ≡ x.flow_size → ⊥) → offset_said R ≡ no_offset
  unfolding offset_said
  offset-none n m = rw (ne_eqb (length R) flow_size n, ne_eqb (length R) x.flow_size m)
