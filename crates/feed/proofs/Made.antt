-- What calls made with the code tell, consume and leave is what the definitions say of those calls: so the demands are demands on the code. Assumes nothing.
use Prim.Native.Nat.{ℕ, ◌*◌}
use mathlib.Core.Path.{refl, ap, ◌∙◌}
use mathlib.Core.List.{List, [], ◌∷◌, ◌++◌}
use lib.ListN.{take}
use Rattle.feed.specs.Engine.{Outcome}
use Rattle.feed.specs.Calls.{Asked, asking, record_after, all_told, all_bytes, Along, Pieces}
use Rattle.feed.specs.Made.{Made, made, Promised, calls_of, AsDefined}

module _ {A : Type 0} (piece : A → List ℕ) (does : A → List ℕ → Outcome) where
  abbrev ask : A → Asked (List ℕ)
  ask c = asking (piece c) (does c)

  pub as-defined : (R : List ℕ) (ms : List (Made A)) → Promised piece does R ms → AsDefined piece does R ms
  unfolding record_after all_told all_bytes
  as-defined R [] h = record { words = refl; bytes = refl; left = refl }
  as-defined R (m ∷ ms) h =
      let a = h.0 in
      let i = as-defined m.saved ms h.1 in
      record {
        words = rw (a.pairs, a.words) (ap (λ (ws : List ℕ). take (2 * (does m.call R).pairs) (does m.call R).words ++ ws) (i.words ∙ ap (λ (Q : List ℕ). all_told ask Q (calls_of ms)) a.saved));
        bytes = rw a.bytes (ap (λ (bs : List ℕ). take (does m.call R).bytes (piece m.call) ++ bs) (i.bytes ∙ ap (λ (Q : List ℕ). all_bytes ask Q (calls_of ms)) a.saved));
        left = i.left ∙ ap (λ (Q : List ℕ). record_after ask Q (calls_of ms)) a.saved;
      }

  -- what holds of each as it was made holds of each call
  pub along-calls : (P : List ℕ → A → Type 0) (R : List ℕ) (ms : List (Made A)) → Promised piece does R ms → Along (made piece) (λ R m. P R m.call) R ms → Along ask P R (calls_of ms)
  along-calls P R [] h p = tt
  along-calls P R (m ∷ ms) h p = (p.0, rw h.0.saved at (along-calls P m.saved ms h.1 p.1))

  pub pieces-calls : (ms : List (Made A)) → Pieces (made piece) ms → Pieces ask (calls_of ms)
  pieces-calls [] p = tt
  pieces-calls (m ∷ ms) p = (p.0, pieces-calls ms p.1)
