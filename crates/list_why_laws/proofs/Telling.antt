-- The pairs that calls tell have runs, and those that have runs are told; and so a question of each of them is answered. Assumes nothing.
use Prim.Native.Nat.{ℕ, suc, ◌+◌, ◌-◌, ◌*◌, ◌≤◌, ◌<◌, ◌^◌}
use mathlib.Core.Path.{◌≡◌, refl, sym, ap, ap₂, ◌∙◌}
use mathlib.Core.Bool.{Bool, true, false, not}
use mathlib.Core.List.{List, [], ◌∷◌, ◌++◌, append-nil}
use mathlib.Core.Logic.{◌↔◌}
use native.Mathlib.Omega.{arith}
use native.Mathlib.Decide.{ℕ_discrete}
use lib.ListN.{length, take}
use lib.Seq.{take-length}
use borrow.Author.Tests.{eq-eqb, le-ltb}
use Rattle.sets.specs.Set.{states, holds, within}
use Rattle.rules.specs.Rules.{verdict}
use Rattle.rules.proofs.Rules.{skip, last, passes-front, verdict-then}
use Rattle.list.specs.List.{list_rules, list_refusal}
use Rattle.list.specs.Automaton.{start, accepted, named}
use Rattle.list.proofs.Steps.{start-lt}
use Rattle.feed.specs.Engine.{Outcome, most_offset, run}
use Rattle.feed.specs.Pairs.{Pair}
use Rattle.feed.specs.Calls.{Bytes, all_bytes, all_told, outcome, ruled, asked, record_after, Pieces, Along}
use Rattle.feed.specs.Demands as calls
use Rattle.feed.proofs.Calls.{along-map, along-more, along-last, pieces_more}
use Rattle.feed.proofs.Feeds.{each-feed}
use Rattle.feed.proofs.Runs.{length-take-most}
use Rattle.feed.proofs.Lawful.{reached-start, reached-next}
use Rattle.feed.proofs.Opening.{opening-refusal}
use Rattle.feed.proofs.Whole.{Kind, Met, Written, Within, met, met-within, runs}
use Rattle.list_flow.specs.Flow.{flow_layout, frontier_of, offset_of, rows_of, flow_rules, feed_rules}
use Rattle.list_flow.proofs.Records.{frontier-lt, flow-good}
use Rattle.list_flow.specs.Opening.{opened, open_pairs, first_rules, open_rules, open_flow}
use Rattle.list_feed.specs.Plain.{plain}
use Rattle.list_feed.specs.Means.{list_automata}
use Rattle.list_feed.proofs.Lawful.{reached-lt}
use Rattle.list_why.specs.Run.{Question, of_signature, of_state, Runs}
use Rattle.list_why.specs.Reason.{front, due, place_rules, why_rules}
use Rattle.list_why.proofs.Traces.{reasoned}
use Rattle.list_why.proofs.Placed.{place-good}
use Rattle.laws.specs.Calls.{by_list, Call, way_of}
use Rattle.laws.specs.Demands.{Plainly, Swaps, Fit}
use Rattle.laws.proofs.Engines.{lawful-of, list_kind, acts-so}
use Rattle.laws.proofs.Demand2.{demand-2}
use Rattle.laws.proofs.Due.{told-due, due-said, opened-frontier, opened-offset, opened_rows, begins}
use Rattle.laws.proofs.Swapping.{Reached, reached-named, swapped}
use Rattle.list_why_laws.specs.Told.{ToldRuns, PlainReasons, asks_pair, Roomy, Explained, ListReasons}
use Rattle.list_why_laws.proofs.Saying.{due-0, due-26}

-- ---- a pair is due exactly when there is a run

module _ (L : List ℕ) (ok : list_refusal L ≡ 0) (F : ℕ) (small : F < 2 ^ states) (bs : List ℕ) where
  given : (n : ℕ) → n ≤ length bs → (q : Question) → Runs L F bs n q ↔ (due L (front L F bs n) q ≡ true)
  given n l q = (reasoned L F bs small ok n l q).exactly

-- so of pairs told
with-runs : (L R : List ℕ) (cs : List Call) → frontier_of R < 2 ^ states → (0 < length (all_bytes (asked way_of) R cs) → list_refusal L ≡ 0)
    → ((g k : ℕ) → Pair (all_told (asked way_of) R cs) g k
    ↔ ((n : ℕ) × (n < length (all_bytes (asked way_of) R cs)) × (k ≡ offset_of R + suc n) × (holds (accepted L (run (plain L) (frontier_of R) (take (suc n) (all_bytes (asked way_of) R cs)))) g ≡ true)))
    → ToldRuns L R cs
with-runs L R cs small ok d g k = (
  λ p. let w = (d g k).0 p in (w.0, w.1, w.2, (given L (ok (omega (arith, w.1))) (frontier_of R) small (all_bytes (asked way_of) R cs) (suc w.0) w.1 (of_signature g)).1 w.3),
  λ w. (d g k).1 (w.0, w.1, w.2, (given L (ok (omega (arith, w.1))) (frontier_of R) small (all_bytes (asked way_of) R cs) (suc w.0) w.1 (of_signature g)).0 w.3),
)

-- ---- plain feeds from any record

-- a list by which a byte was consumed is a good one
list-fed : (L R : List ℕ) (cs : List Call) → Along (asked way_of) (Plainly L) R cs → 0 < length (all_bytes (asked way_of) R cs) → list_refusal L ≡ 0
unfolding all_bytes
list-fed L R [] h l = absurd (omega arith)
list-fed L R (c ∷ cs) h l =
    elim (ℕ_discrete (verdict (ruled way_of R c)) 0) [
      | yes v ↦ passes-front (list_rules L) (flow_rules (within (frontier_of R) (named L)) R c.at c.piece) (rw ((h.0 v).1, (h.0 v).0) at v)
      | no n ↦ list-fed L ((asked way_of c).left R) cs h.1 (rw (ap (λ (o : Outcome). o.bytes) ((each-feed (way_of c.by) R c.at c.piece c.out).refused n).1) at l)
    ]

pub plain-reasons : PlainReasons
plain-reasons L R cs h_r hb h = with-runs L R cs (frontier-lt R h_r) (list-fed L R cs h) (λ g k. (demand-2 L R cs h_r hb h).due g k)

-- ---- records of a flow, from opening on

module _ (L : List ℕ) where
  abbrev kind : Kind Call ℕ
  kind = list_kind L (Reached L) (reached-lt L) (reached-next list_automata L)

  -- a record that calls from opening on leave
  record Stands (Q : List ℕ) : Type 0 where
    pub written : Written flow_layout Q
    pub few : Within flow_layout states Q
    pub reached : Reached L (frontier_of Q)

  meets : (R : List ℕ) (cs : List Call) → Pieces (asked way_of) cs → Along (asked way_of) (Swaps L) R cs → Reached L (frontier_of R) → Along (asked way_of) (Met kind) R cs
  meets R cs hb h r =
      met kind R cs
      (along-map (asked way_of) (Swaps L) _
      (λ Q c f b t. acts-so L (Reached L) (reached-lt L) (reached-next list_automata L) Q c (λ v. rw (f v).0 ((lawful-of c.by.via).goes L (f v).1 Q c.at c.piece c.out b t))) R cs h)
      hb r

  stands-opened : Stands (opened L)
  stands-opened =
      record {
        written = rw (opened-frontier L, opened-offset L, opened_rows L);
        few = rw (opened_rows L, opened-offset L) (omega arith, omega arith);
        reached = rw (opened-frontier L) (reached-start list_automata L);
      }

  -- a call that looks at what is left
  abbrev look : Call
  look = record { by = record { list = L; via = by_list }; at = 0; piece = []; out = [] }

  stands_on : (R : List ℕ) (cs : List Call) → Stands R → Pieces (asked way_of) cs → Along (asked way_of) (Swaps L) R cs → Stands (record_after (asked way_of) R cs)
  stands_on R cs s hb h =
      let m = meets R (cs ++ (look ∷ [])) (pieces_more (asked way_of) look cs hb (λ i. omega arith)) (along-more (asked way_of) look (Swaps L) R cs h (λ v. (refl, tt))) s.reached in
      let w = along-last (asked way_of) look _ R cs (met-within kind R (cs ++ (look ∷ [])) m s.written s.few) in
      record { written = w.0; few = w.1; reached = (along-last (asked way_of) look (Met kind) R cs m).good }

  stands-fit : (Q : List ℕ) → Stands Q → Fit L Q
  stands-fit Q s = (rw (← s.written) (flow-good (frontier_of Q) (offset_of Q) (rows_of Q) s.few.1 s.few.0), reached-named L (frontier_of Q) s.reached)

-- ---- a question on such a record, of the bytes that calls consume from it on

module _ (L : List ℕ) (ok : list_refusal L ≡ 0) (Q : List ℕ) (fit : Fit L Q) (bs : List ℕ) (short : offset_of Q + length bs ≤ most_offset) where
  fed-0 : verdict (feed_rules L Q (offset_of Q) bs) ≡ 0
  fed-0 =
      verdict-then (list_rules L) (flow_rules (within (frontier_of Q) (named L)) Q (offset_of Q) bs) refl ok
      ∙ skip 4 _ (rw (fit.0, fit.1)) ∙ skip 5 _ (ap not (eq-eqb (offset_of Q) (offset_of Q) refl)) ∙ last 6 (le-ltb most_offset (offset_of Q + length bs) short)

  place-0 : (k : ℕ) (out work : List ℕ) → Roomy (k - offset_of Q) out work → offset_of Q ≤ k → k ≤ offset_of Q + length bs → verdict (place_rules L Q (offset_of Q) bs k out work) ≡ 0
  place-0 k out work room a b = place-good L Q (offset_of Q) bs k out work fed-0 a b room.0 room.1

-- ---- the calls ds from such a record

module _ (L : List ℕ) (ok : list_refusal L ≡ 0) (Q : List ℕ) (s : Stands L Q) (ds : List Call) (hb : Pieces (asked way_of) ds) (h : Along (asked way_of) (Swaps L) Q ds) where
  small : frontier_of Q < 2 ^ states
  small = reached-lt L (frontier_of Q) s.reached

  ran : calls.Runs (asked way_of) flow_layout (plain L) Q ds
  ran = runs (kind L) Q ds (meets L Q ds hb h s.reached)

  saved-runs : ToldRuns L Q ds
  saved-runs = with-runs L Q ds small (λ l. ok) (λ g k. rw ran.tells (told-due L (frontier_of Q) (offset_of Q) (all_bytes (asked way_of) Q ds) g k))

  short : offset_of Q + length (all_bytes (asked way_of) Q ds) ≤ most_offset
  short = omega (arith, ran.offset, (stands_on L Q ds s hb h).few.1)

  asked-0 : (q : Question) (k : ℕ) (out work : List ℕ) → Roomy (k - offset_of Q) out work → offset_of Q ≤ k → k ≤ offset_of Q + length (all_bytes (asked way_of) Q ds)
      → due L (front L (frontier_of Q) (all_bytes (asked way_of) Q ds) (k - offset_of Q)) q ≡ true → verdict (why_rules L Q (offset_of Q) (all_bytes (asked way_of) Q ds) q k out work) ≡ 0
  asked-0 q k out work room a b = due-0 L Q (offset_of Q) (all_bytes (asked way_of) Q ds) q k out work (place-0 L ok Q (stands-fit L Q s) (all_bytes (asked way_of) Q ds) short k out work room a b)

  asked-26 : (q : Question) (k : ℕ) (out work : List ℕ) → Roomy (k - offset_of Q) out work → offset_of Q ≤ k → k ≤ offset_of Q + length (all_bytes (asked way_of) Q ds)
      → due L (front L (frontier_of Q) (all_bytes (asked way_of) Q ds) (k - offset_of Q)) q ≡ false → verdict (why_rules L Q (offset_of Q) (all_bytes (asked way_of) Q ds) q k out work) ≡ 26
  asked-26 q k out work room a b = due-26 L Q (offset_of Q) (all_bytes (asked way_of) Q ds) q k out work (place-0 L ok Q (stands-fit L Q s) (all_bytes (asked way_of) Q ds) short k out work room a b)

  told-0 : (g k : ℕ) (out work : List ℕ) → Roomy (k - offset_of Q) out work → Pair (all_told (asked way_of) Q ds) g k → asks_pair L Q (all_bytes (asked way_of) Q ds) g k out work ≡ 0
  told-0 g k out work room p =
      let w = (saved-runs g k).0 p in
      let e : k - offset_of Q ≡ suc w.0 = omega (arith, w.2) in
      asked-0 (of_signature g) k out work room (omega (arith, w.2)) (omega (arith, w.1, w.2)) (rw e ((given L ok (frontier_of Q) small (all_bytes (asked way_of) Q ds) (suc w.0) w.1 (of_signature g)).0 w.3))

  untold-26 : (g k : ℕ) (out work : List ℕ) → Roomy (k - offset_of Q) out work → offset_of Q < k → k ≤ offset_of Q + length (all_bytes (asked way_of) Q ds)
      → (Pair (all_told (asked way_of) Q ds) g k → ⊥) → asks_pair L Q (all_bytes (asked way_of) Q ds) g k out work ≡ 26
  untold-26 g k out work room a b never = go (due L (front L (frontier_of Q) (all_bytes (asked way_of) Q ds) (k - offset_of Q)) (of_signature g)) refl
    where
      go : (t : Bool) → due L (front L (frontier_of Q) (all_bytes (asked way_of) Q ds) (k - offset_of Q)) (of_signature g) ≡ t → asks_pair L Q (all_bytes (asked way_of) Q ds) g k out work ≡ 26
      go false e = asked-26 (of_signature g) k out work room (omega arith) b e
      go true e =
          let m : k - offset_of Q ≡ suc (k - offset_of Q - 1) = omega arith in
          absurd (never ((saved-runs g k).1 (
            k - offset_of Q - 1,
            omega arith,
            omega arith,
            (given L ok (frontier_of Q) small (all_bytes (asked way_of) Q ds) (suc (k - offset_of Q - 1)) (omega arith) (of_signature g)).1 (rw m at e),
          )))

  explains-all : Explained L Q ds
  explains-all =
      record {
        told = told-0;
        untold = untold-26;
        stands = λ x. rw ran.config (rw (take-length (all_bytes (asked way_of) Q ds)) at (given L ok (frontier_of Q) small (all_bytes (asked way_of) Q ds) (length (all_bytes (asked way_of) Q ds)) (omega arith) (of_state x)));
      }

-- ---- one call on a record just opened, as a driver makes it

pub asked-told : (L : List ℕ) → list_refusal L ≡ 0 → (c : Call) → Bytes c.piece → Swaps L (opened L) c → (out work : List ℕ) → Roomy (length c.piece) out work → (g k : ℕ)
    → Pair (take (2 * (outcome way_of (opened L) c).pairs) (outcome way_of (opened L) c).words) g k
    → verdict (why_rules L (opened L) 0 (take (outcome way_of (opened L) c).bytes c.piece) (of_signature g) k out work) ≡ 0
unfolding all_bytes all_told
asked-told L ok c hb h out work room g k p =
    let o = opened-offset L in
    let told : Pair (all_told (asked way_of) (opened L) (c ∷ [])) g k = rw (append-nil (take (2 * (outcome way_of (opened L) c).pairs) (outcome way_of (opened L) c).words)) p in
    let w = (saved-runs L ok (opened L) (stands-opened L) (c ∷ []) (hb, tt) (h, tt) g k).0 told in
    let long : length (all_bytes (asked way_of) (opened L) (c ∷ [])) ≤ length c.piece = rw (append-nil (take (outcome way_of (opened L) c).bytes c.piece)) (length-take-most (outcome way_of (opened L) c).bytes c.piece) in
    let few : k - offset_of (opened L) ≤ length c.piece = omega (arith, w.1, w.2, long) in
    ap₂ (λ (at : ℕ) (bs : List ℕ). verdict (why_rules L (opened L) at bs (of_signature g) k out work)) (sym o) (sym (append-nil (take (outcome way_of (opened L) c).bytes c.piece)))
    ∙ told-0 L ok (opened L) (stands-opened L) (c ∷ []) (hb, tt) (h, tt) g k out work (omega (arith, few, room.0), omega (arith, few, room.1)) told

-- ---- from an opening on

pub opened-list : (L R out : List ℕ) → (open_flow L R out).refusal ≡ 0 → list_refusal L ≡ 0
opened-list L R out z =
    let v : verdict (open_rules L R out) ≡ 0 = sym (opening-refusal (open_rules L R out) (open_pairs L) (opened L) R out) ∙ z in
    passes-front (list_rules L) _ (passes-front (first_rules L R) _ v)

pub list-reasons : ListReasons
list-reasons L R out z cs ds hc hd fc fd =
    let ok = opened-list L R out z in
    let q = begins L R out z in
    let o = open_flow L R out in
    let s : Stands L o.saved = rw q.1 (stands-opened L) in
    let Due-All = due-said L (all_bytes (asked way_of) o.saved cs) _ (swapped L R out z cs hc fc).flows.due in
    let zero-offset : offset_of o.saved ≡ 0 = rw q.1 (opened-offset L) in
    let first : frontier_of o.saved ≡ start L = rw q.1 (opened-frontier L) in
    record {
      flow = λ g k. (
        λ p. let w = (Due-All g k).0 p in (w.0, (given L ok (start L) (start-lt L) (all_bytes (asked way_of) o.saved cs) k w.0 (of_signature g)).1 w.1),
        λ w. (Due-All g k).1 (w.0, (given L ok (start L) (start-lt L) (all_bytes (asked way_of) o.saved cs) k w.0 (of_signature g)).0 w.1),
      );
      opening = λ g k run work room p.
          let w = (Due-All g k).0 p in
          let e : k - offset_of o.saved ≡ k = omega (arith, zero-offset) in
          asked-0 L ok o.saved s cs hc fc (of_signature g) k run work (rw e room) (omega (arith, zero-offset)) (omega (arith, zero-offset, w.0)) (rw (e, first) w.1);
      saved = saved-runs L ok (record_after (asked way_of) o.saved cs) (stands_on L o.saved cs s hc fc) ds hd fd;
      explained = explains-all L ok (record_after (asked way_of) o.saved cs) (stands_on L o.saved cs s hc fc) ds hd fd;
    }
