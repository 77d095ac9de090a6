-- Demand 2 over any list of calls from any record, and from opening on; and what holds of each call. Assumes nothing.
use Prim.Native.Nat.{ℕ, ◌+◌, ◌<◌}
use mathlib.Core.Path.{◌≡◌, refl, sym, ap, ap₂, ◌∙◌}
use mathlib.Core.Bool.{true, false, not, true≢false}
use mathlib.Core.List.{List}
use native.Mathlib.Omega.{arith}
use native.Mathlib.Decide.{ℕ_discrete}
use lib.ListN.{length, take}
use lib.Dec.{lit<}
use borrow.Author.Tests.{eq-eqb}
use Rattle.rules.specs.Rules.{verdict}
use Rattle.rules.proofs.Rules.{exactly}
use Rattle.feed.specs.Engine.{run, ended}
use Rattle.feed.specs.Calls.{Bytes, outcome, ruled, asked, all_bytes, Pieces, Along}
use Rattle.feed.specs.Demands.{Unchanged, Tells, open_told}
use Rattle.feed.proofs.Runs.{bytes_take}
use Rattle.feed.proofs.Going.{unfed}
use Rattle.feed.proofs.Feeds.{each-feed}
use Rattle.feed.proofs.Moves.{no-refusal}
use Rattle.feed.proofs.Calls.{along-all, along-map, along-both}
use Rattle.feed.proofs.Whole.{Kind, Written, Within, Met, met, met-within, runs, flowed, cuts, by-feed, run-good, all-fed}
use Rattle.feed.specs.Piece.{other_start}
use Rattle.machine.specs.declared.Config.{Config}
use Rattle.machine.specs.Machine.{state_count, bad_machine, machine, first, first_alerts}
use Rattle.machine.specs.Record.{config_of, offset_of, flow_bytes, flow_layout, bad_flow}
use Rattle.machine.specs.Extended.{open_pairs, opened, extended_open, feed_rules}
use Rattle.machine.proofs.Machines.{good-machine}
use Rattle.machine.proofs.Records.{Fine, config-flow, offset-flow, flow-sound, good-flow, flow-again, read-fine}
use Rattle.machine.proofs.Kept.{Kept, kept_fine, flow-kept, kept-flow, machine-fine, first_fine, machine-kept, first-kept}
use Rattle.machine.proofs.Feeding.{feed-passes, extended-refusal}
use Rattle.machine.proofs.Opening.{open-passes, first_passes}
use Rattle.machine_laws.specs.Calls.{Call, way_of}
use Rattle.machine_laws.specs.Demands.{By, MachineTells, Demand2Opened, MachineFlows, MachineCuts, OneCall}
use Rattle.machine_laws.proofs.Demand1.{open-verdict, open-once}

-- ---- demand 2

-- calls by M and P, on configurations of a kind that the automaton keeps and that have a record; a byte costs no row
abbrev machine_kind : (M P : List ℕ) (Good : Config → Type 0) → ((x : Config) → Good x → Fine x) → ((x : Config) (c : ℕ) → c < 256 → Good x → Good ((machine M P).next x c)) → Kind Call Config
machine_kind M P Good fine kept =
    record { piece = λ c. c.piece; out = λ c. c.out; does = λ c R. outcome way_of R c; layout = flow_layout; engine = machine M P; Good = Good; most = 0; rules = ruled way_of; cost = λ c x. 0; sound = flow-sound Good fine; stays = kept }

by-met : (M P : List ℕ) (Good : Config → Type 0) (fine : (x : Config) → Good x → Fine x) (kept : (x : Config) (c : ℕ) → c < 256 → Good x → Good ((machine M P).next x c))
    → (R : List ℕ) (cs : List Call) → Pieces (asked way_of) cs → Along (asked way_of) (By M P) R cs → Good (config_of R) → Along (asked way_of) (Met (machine_kind M P Good fine kept)) R cs
by-met M P Good fine kept R cs hb h k =
    met (machine_kind M P Good fine kept) R cs
    (along-map (asked way_of) (By M P) _ (λ Q c f b g. record {
      is =
          elim (ℕ_discrete (verdict (ruled way_of Q c)) 0) [
            | yes v ↦ rw ((f v).0, (f v).1)
            | no n ↦ unfed (machine c.by.moves c.by.programs) flow_layout Q c.piece c.out (ruled way_of Q c) n ∙ sym (unfed (machine M P) flow_layout Q c.piece c.out (ruled way_of Q c) n)
          ];
      cheap = λ v x g. omega arith;
      rows_few = λ v. omega arith;
      short = λ v. (feed-passes c.by.moves c.by.programs Q c.at c.piece v).3;
    }) R cs h) hb k

module _ (M P : List ℕ) (hm : Bytes M) (hp : Bytes P) where
  abbrev fine_kind : Kind Call Config
  fine_kind = machine_kind M P Fine (λ x g. g) (machine-fine M P hm hp)

  fine-met : (R : List ℕ) (cs : List Call) → Pieces (asked way_of) cs → Along (asked way_of) (By M P) R cs → Fine (config_of R) → Along (asked way_of) (Met fine_kind) R cs
  fine-met = by-met M P Fine (λ x g. g) (machine-fine M P hm hp)

  pub demand-2-from : (R : List ℕ) (cs : List Call) → Fine (config_of R) → Pieces (asked way_of) cs → Along (asked way_of) (By M P) R cs → Tells way_of flow_layout (machine M P) R cs
  demand-2-from R cs fine hb h =
      record {
        runs = runs fine_kind R cs (fine-met R cs hb h fine);
        refused = along-all (asked way_of) (λ Q c. (outcome way_of Q c).refusal ≡ verdict (ruled way_of Q c)) (λ Q c. extended-refusal c.by.moves c.by.programs Q c.at c.piece c.out) R cs;
      }

pub demand-2 : MachineTells
demand-2 M P hm hp R cs h_r = demand-2-from M P hm hp R cs (read-fine R h_r)

pub machine-cuts : MachineCuts
machine-cuts M P hm hp R h_r g cs ds hc hd f k e =
    let q = good-flow (state_count M) R g in
    cuts (fine_kind M P hm hp) (λ x. 0) R cs ds (flow-again R h_r q.whole q.reserved) (fine-met M P hm hp R cs hc f (read-fine R h_r)) (along-all (asked way_of) _ (λ Q c v. refl) R cs)
    (fine-met M P hm hp R ds hd k (read-fine R h_r)) (along-all (asked way_of) _ (λ Q c v. refl) R ds) e

-- ---- from opening on

-- a feed by a good machine on a record that 4 passes is not refused with 4
not-4 : (M P R : List ℕ) (at : ℕ) (piece : List ℕ) → bad_flow (state_count M) R ≡ false → verdict (feed_rules M P R at piece) ≡ 4 → ⊥
not-4 M P R at piece g e = true≢false (sym ((exactly (feed_rules M P R at piece) refl 1 (lit< tt)).0 e).0 ∙ g)

module _ (M P : List ℕ) (hm : Bytes M) (hp : Bytes P) (R out : List ℕ) (z : (extended_open M P R out).refusal ≡ 0) (cs : List Call) (hb : Pieces (asked way_of) cs)
    (h : Along (asked way_of) (By M P) (extended_open M P R out).saved cs) where
  begins : (open_told (extended_open M P R out) ≡ open_pairs P) × ((extended_open M P R out).saved ≡ opened P)
  begins = (open-once M P R out).passes z

  saved-config : config_of (extended_open M P R out).saved ≡ first P
  saved-config = ap config_of begins.1 ∙ config-flow (first P) 0 (first_fine P hp)

  saved-offset : offset_of (extended_open M P R out).saved ≡ 0
  saved-offset = ap offset_of begins.1 ∙ offset-flow (first P) 0 (omega arith)

  good : bad_machine M P ≡ false
  good = (first_passes M P R out (open-passes M P R out (sym (open-verdict M P R out) ∙ z))).0

  -- the configuration that each call meets is one of the machine, so that 4 passes its record
  never : Along (asked way_of) (λ Q c. c.by.moves ≡ M → c.by.programs ≡ P → (outcome way_of Q c).refusal ≡ 4 → ⊥) (extended_open M P R out).saved cs
  never =
      let n = state_count M in
      let l = (good-machine M P good).lengths.most in
      let kept = machine-kept M P good hp in
      let fine : (x : Config) → Kept n x → Fine x = (λ x g. kept_fine n x l g) in
      let m = by-met M P (Kept n) fine kept (extended_open M P R out).saved cs hb h (rw saved-config (first-kept M P good hp)) in
      let w : Written flow_layout (extended_open M P R out).saved = ap₂ flow_bytes saved-config saved-offset ∙ sym begins.1 in
      along-both (asked way_of) (Met (machine_kind M P (Kept n) fine kept)) (λ Q c. Written flow_layout Q × Within flow_layout 0 Q) (λ Q c. c.by.moves ≡ M → c.by.programs ≡ P → (outcome way_of Q c).refusal ≡ 4 → ⊥)
      (λ Q c a w p q e.
      not-4 c.by.moves c.by.programs Q c.at c.piece (rw p (rw w.0 at (kept-flow n (config_of Q) (offset_of Q) l a.good)))
      (sym (extended-refusal c.by.moves c.by.programs Q c.at c.piece c.out) ∙ e))
      (extended_open M P R out).saved cs m
      (met-within (machine_kind M P (Kept n) fine kept) (extended_open M P R out).saved cs m w (omega arith, rw saved-offset (omega arith)))

  opened-so : Demand2Opened M P (extended_open M P R out) cs
  unfolding open_pairs
  opened-so =
      let fine : Fine (config_of (extended_open M P R out).saved) = rw saved-config (first_fine P hp) in
      record {
        flows =
            flowed (fine_kind M P hm hp) (first P) (first_alerts P) (extended_open M P R out) cs begins.0 saved-config saved-offset
            (fine-met M P hm hp (extended_open M P R out).saved cs hb h fine);
        feeds = demand-2-from M P hm hp (extended_open M P R out).saved cs fine hb h;
        never-4 = never;
      }

pub demand-2-opened : MachineFlows
demand-2-opened M P hm hp R out z cs hb h = opened-so M P hm hp R out z cs hb h

-- ---- of one call

-- a rule refuses it: nothing changes
call-elsewhere : (R : List ℕ) (c : Call) → other_start (offset_of R) c.at ≡ true → ((outcome way_of R c).refusal ≡ 0 → ⊥) × Unchanged R c.out (outcome way_of R c)
call-elsewhere R c e = (
  λ z. refuses (no-refusal (machine c.by.moves c.by.programs) flow_layout R (ruled way_of R c) c.piece c.out z),
  ((each-feed (way_of c.by) R c.at c.piece c.out).refused refuses).1,
)
  where
    refuses : verdict (ruled way_of R c) ≡ 0 → ⊥
    refuses v = true≢false (sym e ∙ ap not (eq-eqb c.at (offset_of R) (feed-passes c.by.moves c.by.programs R c.at c.piece v).2))

call_kept : (R : List ℕ) (c : Call) → Bytes R → Bytes c.piece → Bytes c.by.programs → bad_flow (state_count c.by.moves) R ≡ false
    → bad_flow (state_count c.by.moves) (outcome way_of R c).saved ≡ false
unfolding ended
call_kept R c h_r h hp g =
    by-feed (ruled way_of R c) (machine c.by.moves c.by.programs) flow_layout R c.piece c.out (λ o. bad_flow (state_count c.by.moves) o.saved ≡ false)
    (λ v n.
    let E = machine c.by.moves c.by.programs in
    let m = state_count c.by.moves in
    let e = (feed-passes c.by.moves c.by.programs R c.at c.piece v).0 in
    let front = take n c.piece in
    kept-flow m (run E (config_of R) front) (offset_of R + length front) (good-machine c.by.moves c.by.programs e).lengths.most
    (run-good E (Kept m) (machine-kept c.by.moves c.by.programs e hp) (config_of R) front (bytes_take n c.piece h) (flow-kept m R h_r g)))
    (λ n. g)

pub one-call : OneCall
one-call = record { elsewhere = call-elsewhere; never-4 = call_kept }

-- calls whose pieces are bytes consume bytes
pub calls-bytes : (R : List ℕ) (cs : List Call) → Pieces (asked way_of) cs → Bytes (all_bytes (asked way_of) R cs)
calls-bytes R cs h = all-fed (λ (c : Call). c.piece) (λ (c : Call) (Q : List ℕ). outcome way_of Q c) R cs h
