-- What comes next on two flows that consumed the same bytes: the plain feed and the machine's feed answer it alike. Assumes nothing.
use Prim.Native.Nat.{ℕ}
use mathlib.Core.Path.{◌≡◌, refl, sym, ap, ◌∙◌}
use mathlib.Core.Bool.{Bool, true, false, ◌||◌, not}
use mathlib.Core.List.{List, [], ◌∷◌, ◌++◌}
use lib.ListN.{length}
use Rattle.sets.specs.Set.{within}
use Rattle.rules.specs.Rules.{Rule, verdict}
use Rattle.rules.proofs.Rules.{verdict-then, skip, stop}
use Rattle.list.specs.List.{list_rules, list_refusal}
use Rattle.list.specs.Automaton.{start, named}
use Rattle.feed.specs.Engine.{Outcome}
use Rattle.feed.specs.Piece.{piece_rules}
use Rattle.feed.specs.Calls.{Bytes, Follows, asked}
use Rattle.feed.specs.Demands.{Answered}
use Rattle.feed.proofs.Follows.{run-related}
use Rattle.feed.proofs.Moves.{rules-alone}
use Rattle.feed.proofs.Alike.{answered}
use Rattle.feed.proofs.Calls.{along-more, along-last, pieces_more}
use Rattle.list_flow.specs.Flow as list
use Rattle.list_flow.specs.Opening.{open_flow}
use Rattle.list_feed.specs.Plain.{plain, plain_feed}
use Rattle.laws.specs.Calls as calls
use Rattle.laws.specs.Demands.{Swaps, Swapped}
use Rattle.laws.proofs.Swapping.{swapped}
use Rattle.machine.specs.declared.Config.{Config}
use Rattle.machine.specs.Machine.{machine_rules, machine_refusal, state_count, machine, first}
use Rattle.machine.specs.Record as ext
use Rattle.machine.specs.Extended.{extended_open, extended_feed, feed_rules}
use Rattle.machine.proofs.Feeding.{extended-refusal}
use Rattle.machine_laws.specs.Calls.{Call, way_of}
use Rattle.machine_laws.specs.Demands.{By, Demand2Opened}
use Rattle.machine_laws.proofs.Demand2.{demand-2-opened}
use Rattle.machine_certificate_laws.specs.Alike.{ListFlow, MachineFlow, eaten_by, left_by}

-- ---- 5 and 6 alone are left of the rules

-- by the offset k
abbrev left : ℕ → ℕ → List ℕ → ℕ
left k at piece = verdict (piece_rules k at piece)

-- where 4 is not given it does not apply
not-given : (b : Bool) (rs : List Rule) → (verdict ((4, b) ∷ rs) ≡ 4 → ⊥) → b ≡ false
not-given true rs n = absurd (n (stop 4 rs refl))
not-given false rs n = refl

module _ (L : List ℕ) (good : list_refusal L ≡ 0) (f : ListFlow L) (at : ℕ) (piece out : List ℕ) (hb : Bytes piece) where
  list-swapped : Swapped L (open_flow L f.flow f.out) f.calls
  list-swapped = swapped L f.flow f.out f.opens f.calls f.in_bytes f.by

  list_left : verdict (list.feed_rules L (left_by f) at piece) ≡ left (length (eaten_by f)) at piece
  list_left =
      let R = left_by f in
      let S = (open_flow L f.flow f.out).saved in
      let s : calls.Call = record { by = record { list = L; via = calls.by_list }; at = at; piece = piece; out = out } in
      let more = swapped L f.flow f.out f.opens (f.calls ++ (s ∷ [])) (pieces_more (asked calls.way_of) s f.calls f.in_bytes hb)
      (along-more (asked calls.way_of) s (Swaps L) S f.calls f.by (λ v. (refl, tt))) in
      let free = along-last (asked calls.way_of) s _ S f.calls more.never-4 refl tt in
      let b = list.bad_flow R || not (within (list.frontier_of R) (named L)) in
      let rest : List Rule = piece_rules (list.offset_of R) at piece in
      let e : verdict (list.feed_rules L R at piece) ≡ verdict ((4, b) ∷ rest) = verdict-then (list_rules L) ((4, b) ∷ rest) refl good in
      let z : b ≡ false = not-given b rest (λ q. free (rules-alone (plain L) list.flow_layout R (list.feed_rules L R at piece) piece out (λ x. refl) ∙ e ∙ q)) in
      e ∙ skip 4 rest z ∙ ap (λ (k : ℕ). left k at piece) list-swapped.flows.offset

module _ (M P : List ℕ) (hm : Bytes M) (hp : Bytes P) (good : machine_refusal M P ≡ 0) (g : MachineFlow M P) (at : ℕ) (piece out : List ℕ) (hb : Bytes piece) where
  machine-opened : Demand2Opened M P (extended_open M P g.flow g.out) g.calls
  machine-opened = demand-2-opened M P hm hp g.flow g.out g.opens g.calls g.in_bytes g.by

  machine-left : verdict (feed_rules M P (left_by g) at piece) ≡ left (length (eaten_by g)) at piece
  machine-left =
      let R = left_by g in
      let S = (extended_open M P g.flow g.out).saved in
      let c : Call = record { by = record { moves = M; programs = P }; at = at; piece = piece; out = out } in
      let more = demand-2-opened M P hm hp g.flow g.out g.opens (g.calls ++ (c ∷ [])) (pieces_more (asked way_of) c g.calls g.in_bytes hb)
      (along-more (asked way_of) c (By M P) S g.calls g.by (λ v. (refl, refl))) in
      let free = along-last (asked way_of) c _ S g.calls more.never-4 refl refl in
      let rest : List Rule = piece_rules (ext.offset_of R) at piece in
      let e : verdict (feed_rules M P R at piece) ≡ verdict ((4, ext.bad_flow (state_count M) R) ∷ rest) = verdict-then (machine_rules M P) ((4, ext.bad_flow (state_count M) R) ∷ rest) refl good in
      let z = not-given (ext.bad_flow (state_count M) R) rest (λ q. free (extended-refusal M P R at piece out ∙ e ∙ q)) in
      e ∙ skip 4 rest z ∙ ap (λ (k : ℕ). left k at piece) machine-opened.flows.offset

-- ---- so both answer alike

module _ (L M P : List ℕ) (hm : Bytes M) (hp : Bytes P) (list-good : list_refusal L ≡ 0) (machine-good : machine_refusal M P ≡ 0) (Rel : Config → ℕ → Type 0) (follows : Follows (machine M P) (plain L) Rel)
    (begins : Rel (first P) (start L)) (f : ListFlow L) (g : MachineFlow M P) (e : eaten_by f ≡ eaten_by g) (hg : Bytes (eaten_by g)) where
  pub next-alike : (at : ℕ) (piece out : List ℕ) → Bytes piece → Answered (plain_feed L (left_by f) at piece out) (extended_feed M P (left_by g) at piece out)
  next-alike at piece out h =
      let sw = list-swapped L list-good f at piece out h in
      let op = machine-opened M P hm hp machine-good g at piece out h in
      let r : Rel (ext.config_of (left_by g)) (list.frontier_of (left_by f)) =
      rw (op.flows.config, sw.flows.config, e) (run-related (machine M P) (plain L) Rel follows (first P) (start L) (eaten_by g) begins hg) in
      turned _ _
      (answered (machine M P) (plain L) Rel follows ext.flow_layout list.flow_layout (left_by g) (left_by f) r (op.flows.offset ∙ ap length (sym e) ∙ sym sw.flows.offset) piece out h
      (feed_rules M P (left_by g) at piece) (list.feed_rules L (left_by f) at piece)
      (machine-left M P hm hp machine-good g at piece out h ∙ ap (λ (bs : List ℕ). left (length bs) at piece) (sym e) ∙ sym (list_left L list-good f at piece out h)))
    where
      turned : (o p : Outcome) → Answered o p → Answered p o
      turned o p a = record { refusal = sym a.refusal; bytes = sym a.bytes; pairs = sym a.pairs; all = sym a.all; words = sym a.words }
