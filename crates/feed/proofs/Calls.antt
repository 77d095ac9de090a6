-- Calls in a row, of any kind: what holds of each, the bytes that they consume, and one call more at the end. Assumes nothing.
use Prim.Native.Nat.{ℕ}
use mathlib.Core.Path.{◌≡◌, refl, sym, ap, ◌∙◌}
use mathlib.Core.List.{List, [], ◌∷◌, ◌++◌, append-nil, append_assoc}
use lib.Dec.{lit<}
use Rattle.feed.specs.Calls.{Bytes, Asked, record_after, all_told, all_bytes, Along, Pieces}
use Rattle.feed.proofs.Runs.{bytes-append}

module _ {S A : Type 0} (ask : A → Asked S) where
  -- ---- what holds of each

  pub along-all : (P : S → A → Type 0) → ((R : S) (c : A) → P R c) → (R : S) (cs : List A) → Along ask P R cs
  along-all P f R [] = tt
  along-all P f R (c ∷ cs) = (f R c, along-all P f ((ask c).left R) cs)

  pub along-map : (P Q : S → A → Type 0) → ((R : S) (c : A) → P R c → Q R c) → (R : S) (cs : List A) → Along ask P R cs → Along ask Q R cs
  along-map P Q f R [] p = tt
  along-map P Q f R (c ∷ cs) p = (f R c p.0, along-map P Q f ((ask c).left R) cs p.1)

  pub along-both : (P Q T : S → A → Type 0) → ((R : S) (c : A) → P R c → Q R c → T R c) → (R : S) (cs : List A)
      → Along ask P R cs → Along ask Q R cs → Along ask T R cs
  along-both P Q T f R [] p q = tt
  along-both P Q T f R (c ∷ cs) p q = (f R c p.0 q.0, along-both P Q T f ((ask c).left R) cs p.1 q.1)

  -- where each consumes bytes, all do
  pub all-bytes : (R : S) (cs : List A) → Along ask (λ R c. Bytes ((ask c).eaten R)) R cs → Bytes (all_bytes ask R cs)
  unfolding all_bytes
  all-bytes R [] h = λ i. lit< tt
  all-bytes R (c ∷ cs) h = bytes-append ((ask c).eaten R) (all_bytes ask ((ask c).left R) cs) h.0 (all-bytes ((ask c).left R) cs h.1)

  -- ---- one call more

  module _ (c : A) where
    pub along-more : (P : S → A → Type 0) (R : S) (cs : List A) → Along ask P R cs → P (record_after ask R cs) c → Along ask P R (cs ++ (c ∷ []))
    unfolding record_after
    along-more P R [] h p = (p, tt)
    along-more P R (d ∷ cs) h p = (h.0, along-more P ((ask d).left R) cs h.1 p)

    pub along-last : (P : S → A → Type 0) (R : S) (cs : List A) → Along ask P R (cs ++ (c ∷ [])) → P (record_after ask R cs) c
    unfolding record_after
    along-last P R [] h = h.0
    along-last P R (d ∷ cs) h = along-last P ((ask d).left R) cs h.1

    pub pieces_more : (cs : List A) → Pieces ask cs → Bytes (ask c).piece → Pieces ask (cs ++ (c ∷ []))
    pieces_more [] h p = (p, tt)
    pieces_more (d ∷ cs) h p = (h.0, pieces_more cs h.1 p)

    pub after_more : (R : S) (cs : List A) → record_after ask R (cs ++ (c ∷ [])) ≡ (ask c).left (record_after ask R cs)
    unfolding record_after
    after_more R [] = refl
    after_more R (d ∷ cs) = after_more ((ask d).left R) cs

    pub eaten-more : (R : S) (cs : List A) → all_bytes ask R (cs ++ (c ∷ [])) ≡ all_bytes ask R cs ++ (ask c).eaten (record_after ask R cs)
    unfolding all_bytes record_after
    eaten-more R [] = append-nil ((ask c).eaten R)
    eaten-more R (d ∷ cs) =
        ap (λ (bs : List ℕ). (ask d).eaten R ++ bs) (eaten-more ((ask d).left R) cs)
        ∙ sym (append_assoc ((ask d).eaten R) (all_bytes ask ((ask d).left R) cs) ((ask c).eaten (record_after ask ((ask d).left R) cs)))

    pub told_more : (R : S) (cs : List A) → all_told ask R (cs ++ (c ∷ [])) ≡ all_told ask R cs ++ (ask c).spoken (record_after ask R cs)
    unfolding all_told record_after
    told_more R [] = append-nil ((ask c).spoken R)
    told_more R (d ∷ cs) =
        ap (λ (ws : List ℕ). (ask d).spoken R ++ ws) (told_more ((ask d).left R) cs)
        ∙ sym (append_assoc ((ask d).spoken R) (all_told ask ((ask d).left R) cs) ((ask c).spoken (record_after ask ((ask d).left R) cs)))
