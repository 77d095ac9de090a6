-- The driver: what its calls answered and left is what an accepted certificate promises. Assumes nothing.
use Prim.Native.Nat.{ℕ, ◌*◌}
use mathlib.Core.Path.{◌≡◌, refl, sym, ap, ap₂, subst, ◌∙◌}
use mathlib.Core.List.{List, [], ◌∷◌, ◌++◌, append-nil}
use mathlib.Core.Logic.{◌↔◌}
use lib.ListN.{length, take}
use Rattle.rules.proofs.Rules.{refuses}
use Rattle.feed.specs.Fed.{Answers}
use Rattle.feed.specs.Opening.{Opening, Opens}
use Rattle.feed.specs.Made.{Made}
use Rattle.feed.specs.declared.Fed.{Fed}
use Rattle.feed.specs.Calls.{Bytes, all_bytes, all_told, record_after}
use Rattle.list_flow.specs.Opening.{open_pairs, open_flow}
use Rattle.list_feed.specs.Plain.{pairs_of, plain_feed}
use Rattle.laws.specs.Calls as list
use Rattle.laws.specs.Demands.{Due}
use Rattle.feed.specs.Demands.{Answered}
use Rattle.laws.proofs.Demand1.{demand-1}
use Rattle.machine.specs.Extended.{extended_open, extended_feed}
use Rattle.machine_laws.specs.Calls.{Call}
use Rattle.machine_laws.specs.Drivers.{outcome_of}
use Rattle.machine_laws.proofs.Demand1 as machine
use Rattle.machine_certificate.specs.Certificate.{certificate_rules, certificate_refusal}
use Rattle.machine_certificate_laws.specs.Alike.{ListFlow, MachineFlow, eaten_by, told_by, Alike}
use Rattle.machine_certificate_laws.specs.Drivers.{Begun, by_list, by_machine, words_made, bytes_made, BothDriven}
use Rattle.machine_certificate_laws.proofs.Alike.{OpenedAlike, list-swaps, alike}

due-as : (L bs cs ws vs : List ℕ) → bs ≡ cs → ws ≡ vs → Due L bs ws → Due L cs vs
due-as L bs cs ws vs p q h = rw (p, q) at h

-- ---- the list

module _ (L : List ℕ) (o : Begun) (S : List ℕ) (at : ℕ) (piece out : List ℕ) (fed : Fed) (words saved : List ℕ) (opens : Opens (open_flow L o.flow o.out) o.opened o.words S)
    (feeds : Answers (plain_feed L S at piece out) fed words saved) (hb : Bytes piece) where
  abbrev list_made : Made list.Call
  list_made = by_list L at piece out fed words saved

  -- the feed, on the record that the definition leaves
  list-is : Answers (plain_feed L (open_flow L o.flow o.out).saved at piece out) fed words saved
  list-is = rw opens.saved at feeds

  -- the flow that the two calls are
  list-flow : o.opened.refusal ≡ 0 → ListFlow L
  list-flow z = record { flow = o.flow; out = o.out; opens = sym opens.refusal ∙ z; calls = list_made.call ∷ []; in_bytes = (hb, tt); by = (λ v. (refl, tt), tt) }

  -- and before its feed
  list-begun : o.opened.refusal ≡ 0 → ListFlow L
  list-begun z = record { flow = o.flow; out = o.out; opens = sym opens.refusal ∙ z; calls = []; in_bytes = tt; by = tt }

  list-bytes : (z : o.opened.refusal ≡ 0) → eaten_by (list-flow z) ≡ bytes_made list_made
  unfolding list-flow all_bytes
  list-bytes z = append-nil _ ∙ ap (λ (n : ℕ). take n piece) (sym list-is.bytes)

  list-words : (z : o.opened.refusal ≡ 0) → told_by (list-flow z) ≡ words_made o list_made
  unfolding list-flow all_told
  list-words z =
      ap₂ (λ (x y : List ℕ). x ++ y) (ap₂ (λ (n : ℕ) (ws : List ℕ). take (2 * n) ws) (sym opens.pairs) (sym opens.words))
      (append-nil _ ∙ ap₂ (λ (n : ℕ) (ws : List ℕ). take (2 * n) ws) (sym list-is.pairs) (sym list-is.words))

  list-due : o.opened.refusal ≡ 0 → Due L (bytes_made list_made) (words_made o list_made)
  list-due z =
      let f = list-flow z in
      due-as L (eaten_by f) (bytes_made list_made) (told_by f) (words_made o list_made) (list-bytes z) (list-words z) (list-swaps L f).flows.due

-- ---- the machine

module _ (M P : List ℕ) (o : Begun) (S : List ℕ) (at : ℕ) (piece out : List ℕ) (fed : Fed) (words saved : List ℕ) (opens : Opens (extended_open M P o.flow o.out) o.opened o.words S)
    (feeds : Answers (extended_feed M P S at piece out) fed words saved) (hb : Bytes piece) where
  abbrev machine_made : Made Call
  machine_made = by_machine M P at piece out fed words saved

  machine-is : Answers (extended_feed M P (extended_open M P o.flow o.out).saved at piece out) fed words saved
  machine-is = rw opens.saved at feeds

  machine-flow : o.opened.refusal ≡ 0 → MachineFlow M P
  machine-flow z = record { flow = o.flow; out = o.out; opens = sym opens.refusal ∙ z; calls = machine_made.call ∷ []; in_bytes = (hb, tt); by = (λ v. (refl, refl), tt) }

  machine-begun : o.opened.refusal ≡ 0 → MachineFlow M P
  machine-begun z = record { flow = o.flow; out = o.out; opens = sym opens.refusal ∙ z; calls = []; in_bytes = tt; by = tt }

  machine-bytes : (z : o.opened.refusal ≡ 0) → eaten_by (machine-flow z) ≡ bytes_made machine_made
  unfolding machine-flow all_bytes
  machine-bytes z = append-nil _ ∙ ap (λ (n : ℕ). take n piece) (sym machine-is.bytes)

  machine-words : (z : o.opened.refusal ≡ 0) → told_by (machine-flow z) ≡ words_made o machine_made
  unfolding machine-flow all_told
  machine-words z =
      ap₂ (λ (x y : List ℕ). x ++ y) (ap₂ (λ (n : ℕ) (ws : List ℕ). take (2 * n) ws) (sym opens.pairs) (sym opens.words))
      (append-nil _ ∙ ap₂ (λ (n : ℕ) (ws : List ℕ). take (2 * n) ws) (sym machine-is.pairs) (sym machine-is.words))

  machine-due : (L : List ℕ) → Alike L M P → o.opened.refusal ≡ 0 → Due L (bytes_made machine_made) (words_made o machine_made)
  machine-due L a z =
      let g = machine-flow z in
      due-as L (eaten_by g) (bytes_made machine_made) (told_by g) (words_made o machine_made) (machine-bytes z) (machine-words z) (a.due g)

-- ---- both

module _ (L M P Z : List ℕ) (at : ℕ) (piece : List ℕ) (hm : Bytes M) (hp : Bytes P) (hb : Bytes piece) (o : Begun) (S out : List ℕ) (fed : Fed) (words saved : List ℕ)
    (opens : Opens (open_flow L o.flow o.out) o.opened o.words S) (feeds : Answers (plain_feed L S at piece out) fed words saved)
    (p : Begun) (U lent : List ℕ) (met : Fed) (ws left : List ℕ)
    (opens₂ : Opens (extended_open M P p.flow p.out) p.opened p.words U) (feeds₂ : Answers (extended_feed M P U at piece lent) met ws left) where
  -- both openings as they answered
  opened_both : certificate_refusal L M P Z ≡ 0 → (length o.flow ≡ 144) ↔ (length p.flow ≡ 80) → o.out ≡ p.out
      → (o.opened.refusal ≡ p.opened.refusal) × (o.opened.pairs ≡ p.opened.pairs) × (o.words ≡ p.words)
  opened_both ok f e =
      let a : OpenedAlike (open_flow L o.flow o.out) (extended_open M P p.flow p.out) =
      subst (λ (v : List ℕ). OpenedAlike (open_flow L o.flow o.out) (extended_open M P p.flow v)) e ((alike L M P Z hm hp ok).opens o.flow p.flow o.out f) in
      (opens.refusal ∙ ap (λ (x : Opening). x.refusal) a ∙ sym opens₂.refusal, opens.pairs ∙ ap (λ (x : Opening). x.pairs) a ∙ sym opens₂.pairs, opens.words ∙ ap (λ (x : Opening). x.words) a ∙ sym opens₂.words)

  -- the two feeds on the records that the openings left, as they answered
  first_alike : certificate_refusal L M P Z ≡ 0 → (z : o.opened.refusal ≡ 0) (w : p.opened.refusal ≡ 0)
      → Answered (plain_feed L (open_flow L o.flow o.out).saved at piece out) (extended_feed M P (extended_open M P p.flow p.out).saved at piece out)
  unfolding all_bytes record_after list-begun machine-begun
  first_alike ok z w =
      (alike L M P Z hm hp ok).next (list-begun L o S at piece out fed words saved opens feeds hb z) (machine-begun M P p U at piece lent met ws left opens₂ feeds₂ hb w) refl at piece out hb

  likewise : certificate_refusal L M P Z ≡ 0 → o.opened.refusal ≡ 0 → p.opened.refusal ≡ 0 → out ≡ lent
      → Answered (outcome_of (by_list L at piece out fed words saved)) (outcome_of (by_machine M P at piece lent met ws left))
  likewise ok z w k =
      let a = list-is L o S at piece out fed words saved opens feeds hb in
      let b = machine-is M P p U at piece lent met ws left opens₂ feeds₂ hb in
      let n : Answered (plain_feed L (open_flow L o.flow o.out).saved at piece out) (extended_feed M P (extended_open M P p.flow p.out).saved at piece lent) =
      subst (λ (v : List ℕ). Answered (plain_feed L (open_flow L o.flow o.out).saved at piece out) (extended_feed M P (extended_open M P p.flow p.out).saved at piece v)) k (first_alike ok z w) in
      record {
        refusal = a.refusal ∙ n.refusal ∙ sym b.refusal;
        bytes = a.bytes ∙ n.bytes ∙ sym b.bytes;
        pairs = a.pairs ∙ n.pairs ∙ sym b.pairs;
        all = a.all ∙ n.all ∙ sym b.all;
        words = a.words ∙ n.words ∙ sym b.words;
      }

  pub both-driven : (checked : ℕ) → checked ≡ certificate_refusal L M P Z → BothDriven L M P Z checked o (by_list L at piece out fed words saved) p (by_machine M P at piece lent met ws left)
  unfolding open_pairs
  both-driven checked e =
      record {
        checks = rw e (refuses (certificate_rules L M P Z) refl);
        list-opens = rw opens.refusal (demand-1.opens L o.flow o.out).refuses;
        machine-opens = rw opens₂.refusal ((machine.demand-1).opens M P p.flow p.out).refuses;
        opened = λ c. opened_both (sym e ∙ c);
        likewise = λ c z w i j k. likewise (sym e ∙ c) z w k;
        list-due = λ c z. list-due L o S at piece out fed words saved opens feeds hb z;
        machine-due = λ c z. machine-due M P p U at piece lent met ws left opens₂ feeds₂ hb L (alike L M P Z hm hp (sym e ∙ c)) z;
        alike = λ c z w q n.
            (list-due L o S at piece out fed words saved opens feeds hb z).tells
            ∙ ap (pairs_of L) (ap (λ (k : ℕ). take k piece) n)
            ∙ sym (machine-due M P p U at piece lent met ws left opens₂ feeds₂ hb L (alike L M P Z hm hp (sym e ∙ c)) w).tells;
      }
