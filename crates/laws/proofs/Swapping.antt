-- Calls of one flow that change between the four feeds, from opening on: one theorem, and what follows from it: demand 2 from an opening, and demand 3. Assumes nothing.
use Prim.Native.Nat.{ℕ, ◌*◌, ◌≤◌}
use mathlib.Core.Path.{◌≡◌, refl, sym, ap, ◌∙◌}
use mathlib.Core.Bool.{true}
use mathlib.Core.List.{List}
use native.Mathlib.Omega.{arith}
use native.Mathlib.Decide.{ℕ_discrete}
use lib.Seq.{length-take-le}
use Rattle.sets.specs.Set.{states, within}
use Rattle.rules.specs.Rules.{verdict}
use Rattle.rules.proofs.Scanning.{choose}
use Rattle.list.specs.Automaton.{start, accepted, named}
use Rattle.list.proofs.Steps.{start-lt}
use Rattle.list.proofs.Named.{start-named, step-named}
use Rattle.feed.specs.Engine.{costs}
use Rattle.feed.specs.Lawful as lawful
use Rattle.feed.proofs.Runs.{bytes_take, costs-most}
use Rattle.feed.proofs.Calls.{along-map, along-both}
use Rattle.feed.proofs.Lawful.{reached-start, reached-next, reached_has}
use Rattle.feed.proofs.Feeds.{each-feed}
use Rattle.feed.proofs.Whole.{Kind, Written, Within, Met, met, met-within, flowed, counts, cuts, none-eaten, call_rows, call-answered, call-refusal}
use Rattle.list_flow.specs.Flow.{flow_layout, frontier_of, offset_of, rows_of, feed_rules}
use Rattle.list_flow.proofs.Records.{flow-good}
use Rattle.list_flow.specs.Opening.{opened, open_pairs, open_flow}
use Rattle.list_feed.specs.Means.{list_automata}
use Rattle.list_feed.proofs.Lawful.{reached-lt}
use Rattle.table.specs.Table.{Table, table_refusal}
use Rattle.table_feed.proofs.Rising.{accepted-rises}
use Rattle.index_fill.proofs.Made.{filled-checked}
use Rattle.feed.specs.Calls.{outcome, ruled, asked, all_bytes, record_after, Pieces, Along}
use Rattle.laws.specs.Calls.{Via, by_table, means_of, Names, Call, way_of}
use Rattle.laws.specs.Demands.{Plainly, Flows, PlainFlows, Fit, Through, SplitFollows, SplitCuts, Swaps, counted, ListSwaps}
use Rattle.laws.proofs.Engines.{lawful-of, calls-bytes, list_kind, acts-so}
use Rattle.laws.proofs.Demand1.{not-9}
use Rattle.laws.proofs.Demand2.{demand-2-from}
use Rattle.laws.proofs.Due.{opened-frontier, opened-offset, opened_rows, begins}

module _ (L : List ℕ) where
  -- ---- the frontiers of a flow of L

  -- those that the automaton comes to, from the start set on
  abbrev pub Reached : ℕ → Type 0
  Reached = lawful.Reached list_automata L

  -- each of them has states that L names alone
  pub reached-named : (F : ℕ) → Reached F → within F (named L) ≡ true
  reached-named = reached_has list_automata L (λ F. within F (named L) ≡ true) (λ F c l p. step-named L F c) (start-named L)

  abbrev kind : Kind Call ℕ
  kind = list_kind L Reached (reached-lt L) (reached-next list_automata L)

  -- ---- what each call meets, from opening on

  abbrev Meets : List ℕ → Call → Type 0
  Meets = Met kind

  at-start : Reached (frontier_of (opened L))
  at-start = rw (opened-frontier L) (reached-start list_automata L)

  swaps-met : (cs : List Call) → Pieces (asked way_of) cs → Along (asked way_of) (Swaps L) (opened L) cs → Along (asked way_of) Meets (opened L) cs
  swaps-met cs hb h =
      met kind (opened L) cs
      (along-map (asked way_of) (Swaps L) _
      (λ Q c f b r. acts-so L Reached (reached-lt L) (reached-next list_automata L) Q c (λ v. rw (f v).0 ((lawful-of c.by.via).goes L (f v).1 Q c.at c.piece c.out b r))) (opened L) cs h)
      hb at-start

  -- 4 takes its record
  fits : (cs : List Call) → Along (asked way_of) Meets (opened L) cs → Along (asked way_of) (λ Q c. Fit L Q) (opened L) cs
  fits cs m =
      along-both (asked way_of) Meets (λ Q c. Written flow_layout Q × Within flow_layout states Q) (λ Q c. Fit L Q)
      (λ Q c m w. (rw (← w.0) (flow-good (frontier_of Q) (offset_of Q) (rows_of Q) w.1.1 w.1.0), reached-named (frontier_of Q) m.good)) (opened L) cs m
      (met-within kind (opened L) cs m
      (rw (opened-frontier L, opened-offset L, opened_rows L)) (rw (opened_rows L, opened-offset L) (omega arith, omega arith)))

  -- ---- of one of them

  few-here : (Q : List ℕ) (c : Call) → Swaps L Q c → Meets Q c → costs (counted c.by.via L) (frontier_of Q) ((asked way_of c).eaten Q) ≤ (means_of c.by.via).bound * (outcome way_of Q c).bytes
  unfolding costs
  few-here Q c f m =
      elim (ℕ_discrete (verdict (ruled way_of Q c)) 0) [
        | yes v ↦ rw (length-take-le (outcome way_of Q c).bytes c.piece ((each-feed (way_of c.by) Q c.at c.piece c.out).longest v).front) at
            (costs-most (counted c.by.via L) Reached (reached-next list_automata L) (means_of c.by.via).bound (λ F r. (lawful-of c.by.via).few L (f v).1 F r) (frontier_of Q) ((asked way_of c).eaten Q)
            m.good (bytes_take (outcome way_of Q c).bytes c.piece m.bytes))
        | no n ↦ rw (none-eaten kind Q c m n) (omega arith)
      ]

  -- ---- of all

  flows-on : (R out : List ℕ) → (open_flow L R out).refusal ≡ 0 → (cs : List Call) → Along (asked way_of) Meets (opened L) cs → Flows L (open_flow L R out) cs
  unfolding open_pairs
  flows-on R out z cs m =
      let q = begins L R out z in
      flowed kind (start L) (accepted L (start L)) (open_flow L R out) cs q.0 (rw q.1 (opened-frontier L)) (rw q.1 (opened-offset L)) (rw q.1 m)

  refusal : (Q : List ℕ) (c : Call) → Meets Q c → (outcome way_of Q c).refusal ≡ verdict (ruled way_of Q c)
  refusal = call-refusal kind (λ F. refl)

  never-14 : (cs : List Call) → Along (asked way_of) Meets (opened L) cs → Along (asked way_of) (λ Q c. (outcome way_of Q c).refusal ≡ 14 → ⊥) (opened L) cs
  never-14 =
      along-map (asked way_of) Meets (λ Q c. (outcome way_of Q c).refusal ≡ 14 → ⊥)
      (λ Q c m y. omega (arith, (lawful-of c.by.via).below-14 c.by.list Q c.at c.piece, sym (refusal Q c m) ∙ y)) (opened L)

pub swapped : ListSwaps
swapped L R out z cs hb given =
    let q = begins L R out z in
    let h : Along (asked way_of) (Swaps L) (opened L) cs = rw q.1 at given in
    let m = swaps-met L cs hb h in
    record {
      never-14 = rw q.1 (never-14 L cs m);
      never-4 =
          rw q.1
          (along-both (asked way_of) (Meets L) (λ Q c. Fit L Q) (λ Q c. c.by.list ≡ L → Names L c.by.via → (outcome way_of Q c).refusal ≡ 4 → ⊥)
          (λ Q c m f l n e. (lawful-of c.by.via).not-4 c.by.list Q c.at c.piece (rw l n) (rw l f) (sym (refusal L Q c m) ∙ e)) (opened L) cs m (fits L cs m));
      as_plain =
          rw q.1
          (along-map (asked way_of) (Meets L) _
          (λ Q c m l k. call-answered (kind L) Q c m (feed_rules L Q c.at c.piece)
          (rw l ((lawful-of c.by.via).same L k Q c.at c.piece))) (opened L) cs m);
      flows = flows-on L R out z cs m;
      rows = rw q.1 (along-map (asked way_of) (Meets L) _ (call_rows (kind L)) (opened L) cs m);
      ceiling =
          rw q.1
          (along-both (asked way_of) (Swaps L) (Meets L) (λ Q c. costs (counted c.by.via L) (frontier_of Q) ((asked way_of c).eaten Q) ≤ (means_of c.by.via).bound * (outcome way_of Q c).bytes) (few-here L) (opened L) cs h m);
    }

-- ---- demand 2 from an opening: plain feeds are of them

pub demand-2-opened : PlainFlows
demand-2-opened L R out z cs hb h =
    let q = begins L R out z in (
      (swapped L R out z cs hb (along-map (asked way_of) (Plainly L) (Swaps L) (λ Q c f v. ((f v).0, rw (f v).1 tt)) (open_flow L R out).saved cs h)).flows,
      rw q.1 (demand-2-from L (opened L) cs (rw (opened-frontier L) (start-lt L)) hb (rw q.1 at h)),
    )

-- ---- demand 3: feeds through one table and by its index are of them, and all count the slots taken

module _ (L : List ℕ) (b : ℕ) (T : Table) (ok : table_refusal L b T ≡ 0) where
  through-swaps : (R : List ℕ) (c : Call) → Through L b T R c → Swaps L R c
  through-swaps R c f v = let g = f v in (g.0, choose g.1 (λ e. rw e ok) (λ e. rw e.1 (filled-checked L b T ok e.2 e.0)))

  through-counts : (R : List ℕ) (cs : List Call) → Along (asked way_of) (Through L b T) R cs → Along (asked way_of) (λ Q c. verdict (ruled way_of Q c) ≡ 0 → (means_of c.by.via).spends ≡ (means_of (by_table b T)).spends) R cs
  through-counts =
      along-map (asked way_of) (Through L b T) (λ Q c. verdict (ruled way_of Q c) ≡ 0 → (means_of c.by.via).spends ≡ (means_of (by_table b T)).spends) (λ Q c f v. choose (f v).1 (λ e. ap (λ (v : Via). (means_of v).spends) e) (λ e. ap (λ (v : Via). (means_of v).spends) e.1))

  through_met : (cs : List Call) → Pieces (asked way_of) cs → Along (asked way_of) (Through L b T) (opened L) cs → Along (asked way_of) (Meets L) (opened L) cs
  through_met cs hb h = swaps-met L cs hb (along-map (asked way_of) (Through L b T) (Swaps L) through-swaps (opened L) cs h)

pub demand-3 : SplitFollows
demand-3 L b T ok R out z cs hb given =
    let q = begins L R out z in
    let h : Along (asked way_of) (Through L b T) (opened L) cs = rw q.1 at given in
    let m = through_met L b T ok cs hb h in
    let n = counts (kind L) (means_of (by_table b T)).spends (opened L) cs m (through-counts L b T ok (opened L) cs h) in
    let rows : rows_of (record_after (asked way_of) (opened L) cs) ≡ costs (counted (by_table b T) L) (start L) (all_bytes (asked way_of) (opened L) cs) =
    n ∙ rw (opened-frontier L, opened_rows L) (omega arith) in
    record {
      never-9 = λ Q c v e. not-9 c.by.list b T Q c.at c.piece c.out (accepted-rises L b T ok) (ap (λ (w : Via). (outcome way_of Q (record { by = record { list = c.by.list; via = w }; at = c.at; piece = c.piece; out = c.out })).refusal) (sym v) ∙ e);
      never-14 = rw q.1 (never-14 L cs m);
      flows = flows-on L R out z cs m;
      rows = rw q.1 rows;
      ceiling =
          rw (q.1, rows)
          (costs-most (counted (by_table b T) L) (Reached L) (reached-next list_automata L) b ((lawful-of (by_table b T)).few L ok) (start L) (all_bytes (asked way_of) (opened L) cs)
          (rw (opened-frontier L) at (at-start L)) (calls-bytes (opened L) cs hb));
    }

pub split-cuts : SplitCuts
split-cuts L b T ok cs ds hc hd fc fd e =
    cuts (kind L) (means_of (by_table b T)).spends (opened L) cs ds
    (rw (opened-frontier L, opened-offset L, opened_rows L)) (through_met L b T ok cs hc fc) (through-counts L b T ok (opened L) cs fc)
    (through_met L b T ok ds hd fd) (through-counts L b T ok (opened L) ds fd) e
