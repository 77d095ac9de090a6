-- A flow that is renewed at any points goes as the automaton goes on all its bytes: one feed, one renewal, and any number of them. Assumes nothing.
use Prim.Native.Nat.{ℕ, ◌+◌}
use mathlib.Core.Path.{◌≡◌, refl, sym, ap, ◌∙◌}
use mathlib.Core.List.{List, [], ◌∷◌, ◌++◌, append-nil}
use native.Mathlib.Omega.{arith}
use native.Mathlib.Decide.{ℕ_discrete}
use lib.ListN.{length, length-append}
use borrow.Author.Tests.{eq-eqb}
use Rattle.rules.specs.Rules.{verdict}
use Rattle.list.specs.Automaton.{start}
use Rattle.feed.specs.Engine.{Engine, run, due, pairs_at, told}
use Rattle.feed.specs.Calls.{Bytes, record_after, all_told, all_bytes, Along, Pieces, outcome, ruled, asked}
use Rattle.feed.proofs.Runs.{bytes_take, run-append, told-append}
use Rattle.feed.proofs.Lawful.{reached-start, reached-next}
use Rattle.feed.proofs.Going.{unfed}
use Rattle.feed.proofs.Whole.{Kind, Met, runs, run-good, call-refusal}
use Rattle.list_flow.specs.Flow.{frontier_of, offset_of}
use Rattle.list_flow.proofs.Records.{frontier-flow, flow-good}
use Rattle.list_flow.specs.Opening.{opened, open_flow}
use Rattle.list_feed.specs.Plain.{plain}
use Rattle.list_feed.specs.Means.{list_automata}
use Rattle.list_feed.proofs.Lawful.{reached-lt}
use Rattle.list_renew.specs.Renewal.{renewed, renewal}
use Rattle.list_renew.proofs.Renewing.{renews, whole-renews, renewed-offset, renewed-good}
use Rattle.laws.specs.Calls.{Call, way_of}
use Rattle.laws.specs.Demands.{Fit, Swaps}
use Rattle.laws.proofs.Engines.{lawful-of, list_kind, acts-so}
use Rattle.laws.proofs.Swapping.{Reached, reached-named}
use Rattle.laws.proofs.Due.{opened-frontier, opened-offset, begins, due_all}
use Rattle.list_renew_laws.specs.Renewed.{raised, Flow, Act, feeding, renewing, acts, begun, Meant, Passes, ListRenews}

-- ---- words with a number added to each offset

raised-pairs : (n k : ℕ) (gs ws : List ℕ) → raised n (pairs_at k gs ++ ws) ≡ pairs_at (n + k) gs ++ raised n ws
unfolding raised pairs_at
raised-pairs n k [] ws = refl
raised-pairs n k (g ∷ gs) ws = ap {B = List ℕ} (λ (xs : List ℕ). g ∷ ((n + k) ∷ xs)) (raised-pairs n k gs ws)

-- what is told from offset k on is then told from n + k on
pub raised-told : {C : Type 0} (E : Engine C) (n : ℕ) (x : C) (k : ℕ) (bs : List ℕ) → raised n (told E x k bs) ≡ told E x (n + k) bs
unfolding raised told
raised-told E n x k [] = refl
raised-told E n x k (c ∷ bs) =
    let e : n + (k + 1) ≡ n + k + 1 = omega arith in
    raised-pairs n (k + 1) (due E x c) (told E (E.next x c) (k + 1) bs) ∙ rw (raised-told E n (E.next x c) (k + 1) bs, e)

module _ (L : List ℕ) where
  abbrev kind : Kind Call ℕ
  kind = list_kind L (Reached L) (reached-lt L) (reached-next list_automata L)

  -- ---- what holds of a flow between two acts: the automaton comes to its frontier, and rule 4 takes its record

  pub record At (S : Flow) : Type 0 where
    pub reached : Reached L (frontier_of S.saved)
    pub fit : Fit L S.saved

  -- what an act does from there
  pub record Done (S : Flow) (a : Act) : Type 0 where
    pub tells : (acts a).spoken S ≡ told (plain L) (frontier_of S.saved) (S.before + offset_of S.saved) ((acts a).eaten S)
    pub frontier : frontier_of ((acts a).left S).saved ≡ run (plain L) (frontier_of S.saved) ((acts a).eaten S)
    pub moved : ((acts a).left S).before + offset_of ((acts a).left S).saved ≡ S.before + offset_of S.saved + length ((acts a).eaten S)
    pub passes : Passes L S a
    pub at : At ((acts a).left S)

  -- ---- a feed

  module _ (S : Flow) (c : Call) (h : Bytes c.piece) (f : Swaps L S.saved c) (g : At S) where
    meets : Met kind S.saved c
    meets =
        record {
          good = g.reached;
          bytes = h;
          acts =
              acts-so L (Reached L) (reached-lt L) (reached-next list_automata L) S.saved c
              (λ v. rw (f v).0 ((lawful-of c.by.via).goes L (f v).1 S.saved c.at c.piece c.out h g.reached));
        }

    refusal : (outcome way_of S.saved c).refusal ≡ verdict (ruled way_of S.saved c)
    refusal = call-refusal kind (λ F. refl) S.saved c meets

    stays_fit : Fit L (outcome way_of S.saved c).saved
    stays_fit =
        elim (ℕ_discrete (verdict (ruled way_of S.saved c)) 0) [
          | yes v ↦ rw (f v).0 ((lawful-of c.by.via).fits L (f v).1 S.saved c.at c.piece c.out h g.fit)
          | no n ↦ rw (unfed (way_of c.by).engine (way_of c.by).layout S.saved c.piece c.out (ruled way_of S.saved c) n) g.fit
        ]

    feed-done : Done S (feeding c)
    unfolding all_told all_bytes record_after
    feed-done =
        let R = S.saved in
        let r = runs kind R (c ∷ []) (meets, tt) in
        let bs = (asked way_of c).eaten R in
        let e : (asked way_of c).spoken R ≡ told (plain L) (frontier_of R) (offset_of R) bs =
        sym (append-nil ((asked way_of c).spoken R)) ∙ r.tells ∙ ap (told (plain L) (frontier_of R) (offset_of R)) (append-nil bs) in
        let to : frontier_of (outcome way_of R c).saved ≡ run (plain L) (frontier_of R) bs = r.config ∙ ap (run (plain L) (frontier_of R)) (append-nil bs) in
        record {
          tells = ap (raised S.before) e ∙ raised-told (plain L) S.before (frontier_of R) (offset_of R) bs;
          frontier = to;
          moved = omega (arith, r.offset, ap length (append-nil bs));
          passes = (
            λ y. omega (arith, (lawful-of c.by.via).below-14 c.by.list R c.at c.piece, sym refusal ∙ y),
            λ l n y. (lawful-of c.by.via).not-4 c.by.list R c.at c.piece (rw l n) (rw l g.fit) (sym refusal ∙ y),
          );
          at =
              record {
                reached = rw to (run-good (plain L) (Reached L) (reached-next list_automata L) (frontier_of R) bs (bytes_take (outcome way_of R c).bytes c.piece h) g.reached);
                fit = stays_fit;
              };
        }

  -- ---- a renewal

  renew-done : (S : Flow) → At S → Done S renewing
  unfolding told run
  renew-done S g =
      let R = S.saved in
      let z : (renewal R).refusal ≡ 0 = whole-renews R g.fit.0 in
      let to : frontier_of (renewed R) ≡ frontier_of R = frontier-flow (frontier_of R) 0 0 (reached-lt L (frontier_of R) g.reached) in
      record {
        tells = refl;
        frontier = rw (renews R z) to;
        moved = rw (eq-eqb (renewal R).refusal 0 z, renews R z, renewed-offset R) (omega arith);
        passes = z;
        at = record { reached = rw (renews R z, to) g.reached; fit = rw (renews R z) (renewed-good R, rw to g.fit.1) };
      }

  -- ---- any number of them

  pub act-done : (S : Flow) (a : Act) → Bytes (acts a).piece → Meant L S a → At S → Done S a
  act-done S (feeding c) h f g = feed-done S c h f g
  act-done S renewing h f g = renew-done S g

  record All (S : Flow) (cs : List Act) : Type 0 where
    tells : all_told acts S cs ≡ told (plain L) (frontier_of S.saved) (S.before + offset_of S.saved) (all_bytes acts S cs)
    frontier : frontier_of (record_after acts S cs).saved ≡ run (plain L) (frontier_of S.saved) (all_bytes acts S cs)
    moved : (record_after acts S cs).before + offset_of (record_after acts S cs).saved ≡ S.before + offset_of S.saved + length (all_bytes acts S cs)
    passes : Along acts (Passes L) S cs
    at : At (record_after acts S cs)

  whole : (S : Flow) (cs : List Act) → Pieces acts cs → Along acts (Meant L) S cs → At S → All S cs
  unfolding record_after all_told all_bytes run told
  whole S [] h f g = record { tells = refl; frontier = refl; moved = omega arith; passes = tt; at = g }
  whole S (a ∷ cs) h f g =
      let d = act-done S a h.0 f.0 g in
      let front = (acts a).eaten S in
      let T = (acts a).left S in
      let bs = all_bytes acts T cs in
      let ih = whole T cs h.1 f.1 d.at in
      record {
        tells = rw (d.tells, ih.tells, d.moved, d.frontier) (sym (told-append (plain L) (frontier_of S.saved) (S.before + offset_of S.saved) front bs));
        frontier = rw (run-append (plain L) (frontier_of S.saved) front bs, ← d.frontier) ih.frontier;
        moved = rw (ih.moved, d.moved, length-append) (omega arith);
        passes = (d.passes, ih.passes);
        at = ih.at;
      }

  pub at-start : At (record { before = 0; saved = opened L })
  at-start =
      let r : Reached L (frontier_of (opened L)) = rw (opened-frontier L) (reached-start list_automata L) in
      record { reached = r; fit = (flow-good (start L) 0 0 (omega arith) (omega arith), reached-named L (frontier_of (opened L)) r) }

-- the flow of L from an opening that is not refused
pub list-renews : ListRenews
list-renews L R out z cs h f =
    let q = begins L R out z in
    let S : Flow = record { before = 0; saved = opened L } in
    let w = whole L S cs h (rw q.1 at f) (at-start L) in
    let k : 0 + offset_of (opened L) ≡ 0 = omega (arith, opened-offset L) in
    record {
      due = rw (q.0, q.1) (due_all L (all_bytes acts S cs) (all_told acts S cs) (w.tells ∙ rw (opened-frontier L, k)));
      frontier = rw q.1 (w.frontier ∙ ap (λ (F : ℕ). run (plain L) F (all_bytes acts S cs)) (opened-frontier L));
      offset = rw q.1 (w.moved ∙ rw k (omega arith));
      passes = rw q.1 w.passes;
    }

-- and what holds of it there
pub list_at : (L R out : List ℕ) → (open_flow L R out).refusal ≡ 0 → (cs : List Act) → Pieces acts cs → Along acts (Meant L) (begun (open_flow L R out)) cs
    → At L (record_after acts (begun (open_flow L R out)) cs)
list_at L R out z cs h f =
    let q = begins L R out z in
    rw q.1 (whole L (record { before = 0; saved = opened L }) cs h (rw q.1 at f) (at-start L)).at
