-- An accepted certificate: the machine follows the list, so both feeds tell the same pairs from opening on. Assumes nothing.
use Prim.Native.Nat.{ℕ, ◌+◌, ◌/◌}
use mathlib.Core.Path.{◌≡◌, refl, sym, ap, ap₂, subst, ◌∙◌}
use mathlib.Core.Bool.{Bool, true, false, cond, not}
use mathlib.Core.Logic.{◌↔◌}
use mathlib.Core.List.{List, [], ◌∷◌, ◌++◌, append_assoc}
use native.Mathlib.Decide.{ℕ_discrete}
use lib.ListN.{length, drop}
use lib.Dec.{eqb}
use borrow.Author.Tests.{eq-eqb, ne_eqb}
use Rattle.sets.specs.Set.{signatures, members}
use Rattle.rules.specs.Rules.{Rule, verdict}
use Rattle.rules.proofs.Rules.{verdict-then}
use Rattle.list.specs.List.{list_rules, list_refusal}
use Rattle.list.specs.Automaton.{start}
use Rattle.feed.specs.Engine.{run, pairs_at, told}
use Rattle.feed.specs.Calls.{Bytes, Follows}
use Rattle.feed.specs.Opening.{Opening, no_room, opening}
use Rattle.feed.proofs.Runs.{told-append}
use Rattle.feed.proofs.Follows.{told_same}
use Rattle.list_flow.specs.Opening.{open_pairs, open_rules, opened, open_flow}
use Rattle.list_feed.specs.Plain.{plain, pairs_of}
use Rattle.laws.specs.Demands.{Swapped}
use Rattle.laws.proofs.Due.{due_all}
use Rattle.laws.proofs.Swapping.{swapped}
use Rattle.machine.specs.Machine.{machine_rules, machine_refusal, machine, first}
use Rattle.machine.specs.Extended as ext
use Rattle.machine_laws.proofs.Demand2.{demand-2-opened, calls-bytes}
use Rattle.machine_certificate.specs.Certificate.{certificate_refusal}
use Rattle.machine_certificate.specs.Words.{Recorded, Certified}
use Rattle.machine_certificate.proofs.Accepts.{certificate-refuses, accepts-exactly, gives-22, list-first, machine-second}
use Rattle.machine_certificate.proofs.Following.{begins-recorded, opens-same, recorded-leads}
use Rattle.machine_certificate_laws.specs.Alike.{Demand1, ListFlow, MachineFlow, eaten_by, told_by, Front, Alike, CertifiedAlike}
use Rattle.machine_certificate_laws.proofs.Next.{next-alike}

pub demand-1 : Demand1
demand-1 = record { checks = certificate-refuses; said-0 = accepts-exactly; said-22 = gives-22; said-list = list-first; said-machine = machine-second }

module _ (L M P Z : List ℕ) (ok : certificate_refusal L M P Z ≡ 0) where
  -- the machine follows the list where a configuration is recorded with a set
  pub follows : Follows (machine M P) (plain L) (Recorded Z)
  follows =
      record {
        same = λ x F c l r. (recorded-leads L M P Z ok x F c l r).1;
        goes = λ x F r. refl;
        stays = λ x F c l r. (recorded-leads L M P Z ok x F c l r).0;
      }

  -- on any bytes, from opening on
  told-both : (bs : List ℕ) → Bytes bs → told (machine M P) (first P) 0 bs ≡ told (plain L) (start L) 0 bs
  told-both bs h = told_same (machine M P) (plain L) (Recorded Z) follows (first P) (start L) 0 bs (begins-recorded L M P Z ok) h

  open-both : ext.open_pairs P ≡ open_pairs L
  unfolding ext.open_pairs open_pairs
  open-both = ap (λ (A : ℕ). pairs_at 0 (members signatures A)) (opens-same L M P Z ok)

  pub pairs-both : (bs : List ℕ) → Bytes bs → ext.pairs_of M P bs ≡ pairs_of L bs
  pairs-both bs h = ap₂ (λ (xs ys : List ℕ). xs ++ ys) open-both (told-both bs h)

-- ---- both openings

-- two openings that answer the same and leave the same words
abbrev pub OpenedAlike : Opening → Opening → Type 0
OpenedAlike o p = o ≡ record { refusal = p.refusal; pairs = p.pairs; words = p.words; saved = o.saved }

-- what an opening answers goes by what refuses it and by its words
opened-alike : (rs qs : List Rule) (ws S T R Q out : List ℕ) → verdict rs ≡ verdict qs → OpenedAlike (opening rs ws S R out) (opening qs ws T Q out)
unfolding opening
opened-alike rs qs ws S T R Q out e = rw e (go (eqb (verdict qs) 0))
  where
    go : (b : Bool)
        → OpenedAlike
        (cond b (record { refusal = 0; pairs = length ws / 2; words = ws ++ drop (length ws) out; saved = S }) (record { refusal = verdict qs; pairs = 0; words = out; saved = R }))
        (cond b (record { refusal = 0; pairs = length ws / 2; words = ws ++ drop (length ws) out; saved = T }) (record { refusal = verdict qs; pairs = 0; words = out; saved = Q }))
    go true = refl
    go false = refl

-- two tests that pass together
same_test : (m k n l : ℕ) → (m ≡ k) ↔ (n ≡ l) → not (eqb m k) ≡ not (eqb n l)
same_test m k n l f = elim (ℕ_discrete m k) [
  | yes e ↦ rw (eq-eqb m k e, eq-eqb n l (f.0 e))
  | no d ↦ rw (ne_eqb m k d, ne_eqb n l (λ e. d (f.1 e)))
]

-- a flow of the list changes between what is checked
pub list-swaps : (L : List ℕ) (f : ListFlow L) → Swapped L (open_flow L f.flow f.out) f.calls
list-swaps L f = swapped L f.flow f.out f.opens f.calls f.in_bytes f.by

-- what a flow of the list has told is what its definition says of the bytes consumed, and what a flow of the machine has told
list_tells : (L : List ℕ) (f : ListFlow L) → told_by f ≡ pairs_of L (eaten_by f)
unfolding open_pairs
list_tells L f = (list-swaps L f).flows.due.tells

machine-tells : (M P : List ℕ) → Bytes M → Bytes P → (g : MachineFlow M P) → told_by g ≡ ext.pairs_of M P (eaten_by g)
unfolding ext.open_pairs
machine-tells M P hm hp g = (demand-2-opened M P hm hp g.flow g.out g.opens g.calls g.in_bytes g.by).flows.due.tells

-- a front of the bytes tells a front of the words
front-told : (L bs cs xs ys : List ℕ) → xs ≡ pairs_of L bs → ys ≡ pairs_of L cs → Front bs cs → Front xs ys
front-told L bs cs xs ys p q w = (
  told (plain L) (run (plain L) (start L) bs) (0 + length bs) w.0,
  ap (λ (ws : List ℕ). ws ++ told (plain L) (run (plain L) (start L) bs) (0 + length bs) w.0) p
      ∙ append_assoc (open_pairs L) _ _ ∙ ap (λ (ws : List ℕ). open_pairs L ++ ws) (sym (told-append (plain L) (start L) 0 bs w.0)) ∙ ap (pairs_of L) w.1 ∙ sym q,
)

module _ (L M P Z : List ℕ) (hm : Bytes M) (hp : Bytes P) (ok : certificate_refusal L M P Z ≡ 0) where
  -- what a flow of the machine has told is what the list tells of the bytes consumed
  machine-is : (g : MachineFlow M P) → told_by g ≡ pairs_of L (eaten_by g)
  machine-is g = machine-tells M P hm hp g ∙ pairs-both L M P Z ok (eaten_by g) (calls-bytes _ g.calls g.in_bytes)

  accepted : (list_refusal L ≡ 0) × (machine_refusal M P ≡ 0) × Certified L M P Z
  accepted = (accepts-exactly L M P Z).0 ok

  -- past the list's rules and the machine's, the length and the room decide
  openings : (R Q out : List ℕ) → (length R ≡ 144) ↔ (length Q ≡ 80) → OpenedAlike (open_flow L R out) (ext.extended_open M P Q out)
  openings R Q out f =
      let rest : Bool → List ℕ → List Rule = λ b ws. (4, b) ∷ ((15, no_room ws out) ∷ []) in
      let a : verdict (open_rules L R out) ≡ verdict (rest (not (eqb (length R) 144)) (open_pairs L)) = verdict-then (list_rules L) (rest (not (eqb (length R) 144)) (open_pairs L)) refl accepted.0 in
      let b : verdict (ext.open_rules M P Q out) ≡ verdict (rest (not (eqb (length Q) 80)) (ext.open_pairs P)) = verdict-then (machine_rules M P) (rest (not (eqb (length Q) 80)) (ext.open_pairs P)) refl accepted.1 in
      let o = open-both L M P Z ok in
      let c : verdict (open_rules L R out) ≡ verdict (ext.open_rules M P Q out) =
      a ∙ ap₂ (λ (x : Bool) (ws : List ℕ). verdict (rest x ws)) (same_test (length R) 144 (length Q) 80 f) (sym o) ∙ sym b in
      subst (λ (ws : List ℕ). OpenedAlike (open_flow L R out) (opening (ext.open_rules M P Q out) ws (ext.opened P) Q out)) (sym o)
      (opened-alike (open_rules L R out) (ext.open_rules M P Q out) (open_pairs L) (opened L) (ext.opened P) R Q out c)

  pub alike : Alike L M P
  alike =
      record {
        opens = openings;
        told = λ f g e. list_tells L f ∙ ap (pairs_of L) e ∙ sym (machine-is g);
        ahead = λ f g. front-told L (eaten_by f) (eaten_by g) (told_by f) (told_by g) (list_tells L f) (machine-is g);
        behind = λ f g. front-told L (eaten_by g) (eaten_by f) (told_by g) (told_by f) (machine-is g) (list_tells L f);
        due = λ g. rw (machine-is g) (due_all L (eaten_by g) (told (plain L) (start L) 0 (eaten_by g)) refl);
        next = λ f g e. next-alike L M P hm hp accepted.0 accepted.1 (Recorded Z) (follows L M P Z ok) (begins-recorded L M P Z ok) f g e (calls-bytes _ g.calls g.in_bytes);
      }

pub certified-alike : CertifiedAlike
certified-alike = alike
