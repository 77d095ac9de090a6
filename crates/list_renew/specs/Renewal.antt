-- A renewal of a list's record: what it answers and leaves, and its refusal in words. And the offset of a record of either kind.
use Rattle.std.specs.Prelude.{ℕ, ◌*◌, ◌<◌, false, cond, List, [], ◌∷◌, ◌⊎◌, ◌≡◌, length, eqb}
use Rattle.sets.specs.Set.{states}
use Rattle.rules.specs.Rules.{Rule, verdict}
use Rattle.rules.specs.Words.{Row, InWords}
use Rattle.list_flow.specs.Flow.{flow_size, frontier_of, offset_of, reserved_of, rows_of, flow_bytes, bad_flow}
use Rattle.machine.specs.Record as x

-- ---- renewing

-- 4 as for a feed, but for foreign states: no list is at hand
abbrev pub renew_rules : List ℕ → List Rule
renew_rules R = (4, bad_flow R) ∷ []

-- the record from there on: its frontier, at offset 0 and with no rows read
abbrev pub renewed : List ℕ → List ℕ
renewed R = flow_bytes (frontier_of R) 0 0

-- what is answered and left
pub record Renewal : Type 0 where
  pub refusal : ℕ
  pub saved : List ℕ

unfoldable pub renewal : List ℕ → Renewal
renewal R =
    let n = verdict (renew_rules R) in record { refusal = n; saved = cond (eqb n 0) (renewed R) R }

-- the code answers r, and leaves the record Q
pub record Renews (R : List ℕ) (r : ℕ) (Q : List ℕ) : Type 0 where
  pub refusal : r ≡ (renewal R).refusal
  pub saved : Q ≡ (renewal R).saved

-- ---- for a reader

-- 4: not the size of a record, reserved bytes that are not zero, or more rows read than all states at each byte
abbrev pub renew_words : List ℕ → List Row
renew_words R = (4, ((length R ≡ flow_size → ⊥) ⊎ (reserved_of R ≡ 0 → ⊥)) ⊎ (states * offset_of R < rows_of R)) ∷ []

-- of the record R, which is bytes
pub record OneRenewal (R : List ℕ) (o : Renewal) : Type 0 where
  -- 4 exactly when its words hold, and then nothing changes
  pub said : InWords (renew_words R) o.refusal
  pub unchanged : (o.refusal ≡ 0 → ⊥) → o.saved ≡ R
  -- else the frontier stays, and offset, reserved bytes and rows are 0
  pub frontier : o.refusal ≡ 0 → frontier_of o.saved ≡ frontier_of R
  pub offset : o.refusal ≡ 0 → offset_of o.saved ≡ 0
  pub rows : o.refusal ≡ 0 → rows_of o.saved ≡ 0
  -- whether refused or not it has as many bytes; and what 4 takes it takes then too
  pub as_long : length o.saved ≡ length R
  pub whole : o.refusal ≡ 0 → bad_flow o.saved ≡ false

-- ---- the offset of a record: of a list's, of one with bits and counters, else the largest number of 64 bits

abbrev pub no_offset : ℕ
no_offset = 18446744073709551615

unfoldable pub offset_said : List ℕ → ℕ
offset_said R = cond (eqb (length R) flow_size) (offset_of R) (cond (eqb (length R) x.flow_size) (x.offset_of R) no_offset)
