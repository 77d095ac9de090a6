-- From the promises of the calls to the driver's: an opening, a feed, a renewal, and a feed. Assumes nothing.
use Prim.Native.Nat.{ℕ, ◌+◌, ◌*◌}
use mathlib.Core.Path.{◌≡◌, refl, sym, ap, ◌∙◌}
use mathlib.Core.List.{List, [], ◌∷◌, ◌++◌, append-nil}
use native.Mathlib.Omega.{arith}
use lib.ListN.{length, take, length-append}
use lib.Dec.{lit<}
use borrow.Author.Tests.{eq-eqb}
use Rattle.feed.specs.Calls.{Bytes, record_after, all_told, all_bytes, outcome}
use Rattle.feed.specs.Demands.{open_told}
use Rattle.feed.specs.Fed.{Answers}
use Rattle.feed.specs.Opening.{Opening, Opens}
use Rattle.feed.specs.declared.Fed.{Fed}
use Rattle.feed.specs.declared.Opened.{Opened}
use Rattle.list_flow.specs.Flow.{offset_of}
use Rattle.list_flow.proofs.Records.{good-flow}
use Rattle.list_flow.specs.Opening.{open_flow}
use Rattle.list_feed.specs.Plain.{plain_feed}
use Rattle.list_renew.specs.Renewal.{renewal, Renews, offset_said}
use Rattle.list_renew.proofs.Renewing.{renews-whole, offset-list}
use Rattle.laws.specs.Calls.{by_list, Call, way_of}
use Rattle.list_renew_laws.specs.Renewed.{raised, Act, feeding, renewing, acts, begun, Renewed}
use Rattle.list_renew_laws.specs.Drivers.{fed_bytes, told_words, RenewedKept}
use Rattle.list_renew_laws.proofs.Renewed.{list-renews}

-- nothing added
raised-0 : (ws : List ℕ) → raised 0 ws ≡ ws
unfolding raised
raised-0 [] = refl
raised-0 (g ∷ []) = refl
raised-0 (g ∷ (k ∷ ws)) = let e : 0 + k ≡ k = omega arith in rw (e, raised-0 ws)

-- the calls by their definitions
module _ (L R₀ out₀ piece pairs₀ rest later₀ : List ℕ) (z : (open_flow L R₀ out₀).refusal ≡ 0) (h₁ : Bytes piece) (h₂ : Bytes rest) where
  abbrev o : Opening
  o = open_flow L R₀ out₀

  abbrev first : Call
  first = record { by = record { list = L; via = by_list }; at = 0; piece = piece; out = pairs₀ }

  abbrev second : Call
  second = record { by = record { list = L; via = by_list }; at = 0; piece = rest; out = later₀ }

  abbrev fed_once : List ℕ
  fed_once = (outcome way_of o.saved first).saved

  abbrev three : List Act
  three = feeding first ∷ renewing ∷ feeding second ∷ []

  all : Renewed L o three
  all = list-renews L R₀ out₀ z three (h₁, ((λ i. lit< tt), (h₂, tt))) ((λ v. (refl, tt)), (tt, ((λ v. (refl, tt)), tt)))

  -- before the renewal
  one : Renewed L o (feeding first ∷ [])
  one = list-renews L R₀ out₀ z (feeding first ∷ []) (h₁, tt) ((λ v. (refl, tt)), tt)

  renews-0 : (renewal fed_once).refusal ≡ 0
  renews-0 = all.passes.1.0

  reads-offset : offset_said fed_once ≡ length (take (outcome way_of o.saved first).bytes piece)
  unfolding all_bytes record_after
  reads-offset =
      let bs = take (outcome way_of o.saved first).bytes piece in
      offset-list fed_once (good-flow fed_once (renews-whole fed_once renews-0)).0 ∙ omega (arith, one.offset, ap length (append-nil bs))

  module _ (f : Opened) (ws : List ℕ) (a : Fed) (vs S₁ : List ℕ) (before renewed : ℕ) (S₂ : List ℕ) (b : Fed) (us S₃ : List ℕ)
      (p : f.pairs ≡ o.pairs) (pw : ws ≡ o.words) (A : Answers (plain_feed L o.saved 0 piece pairs₀) a vs fed_once)
      (e : before ≡ offset_said fed_once) (B : Answers (plain_feed L (renewal fed_once).saved 0 rest later₀) b us S₃) where
    bytes : all_bytes acts (begun o) three ≡ fed_bytes piece rest a b
    unfolding all_bytes
    bytes = rw (A.bytes, B.bytes, append-nil (take (outcome way_of (renewal fed_once).saved second).bytes rest))

    words : open_told o ++ all_told acts (begun o) three ≡ told_words f.pairs a before b ws vs us
    unfolding all_told
    words =
        let read : before ≡ offset_of fed_once = e ∙ offset-list fed_once (good-flow fed_once (renews-whole fed_once renews-0)).0 in
        let same : before ≡ 0 + offset_of fed_once = omega (arith, read) in
        rw (
          eq-eqb (renewal fed_once).refusal 0 renews-0,
          ← same,
          raised-0 (take (2 * (outcome way_of o.saved first).pairs) (outcome way_of o.saved first).words),
          append-nil (raised before (take (2 * (outcome way_of (renewal fed_once).saved second).pairs) (outcome way_of (renewal fed_once).saved second).words)),
          p,
          pw,
          A.pairs,
          A.words,
          B.pairs,
          B.words,
        )

    kept : renewed ≡ (renewal fed_once).refusal → RenewedKept L piece rest f.pairs a before renewed b ws vs us S₃
    unfolding record_after
    kept q =
        let read : before ≡ length (take a.bytes piece) = rw A.bytes (e ∙ reads-offset) in
        let same : before ≡ offset_of fed_once = e ∙ offset-list fed_once (good-flow fed_once (renews-whole fed_once renews-0)).0 in
        let many : length (fed_bytes piece rest a b) ≡ length (take a.bytes piece) + length (take b.bytes rest) = length-append (take a.bytes piece) (take b.bytes rest) in
        record {
          passes = q ∙ renews-0;
          reads = read;
          due = rw (bytes, words) at all.due;
          frontier = rw B.saved (rw bytes at all.frontier);
          offset = rw B.saved (omega (arith, rw (bytes, eq-eqb (renewal fed_once).refusal 0 renews-0) at all.offset, many, read, same));
        }

-- and by their promises
pub drive-three : (L R₀ out₀ piece pairs₀ rest later₀ : List ℕ) (f : Opened) (ws S₀ : List ℕ) (a : Fed) (vs S₁ : List ℕ) (before renewed : ℕ) (S₂ : List ℕ) (b : Fed) (us S₃ : List ℕ)
    → Opens (open_flow L R₀ out₀) f ws S₀ → Answers (plain_feed L S₀ 0 piece pairs₀) a vs S₁ → before ≡ offset_said S₁ → Renews S₁ renewed S₂
    → Answers (plain_feed L S₂ 0 rest later₀) b us S₃ → Bytes piece → Bytes rest → f.refusal ≡ 0 → RenewedKept L piece rest f.pairs a before renewed b ws vs us S₃
drive-three L R₀ out₀ piece pairs₀ rest later₀ f ws S₀ a vs S₁ before renewed S₂ b us S₃ p A e q B h₁ h₂ z =
    let A' : Answers (plain_feed L (open_flow L R₀ out₀).saved 0 piece pairs₀) a vs S₁ = rw p.saved at A in
    let c : S₁ ≡ (plain_feed L (open_flow L R₀ out₀).saved 0 piece pairs₀).saved = A'.saved in
    let q' = rw c at q in
    kept L R₀ out₀ piece pairs₀ rest later₀ (sym p.refusal ∙ z) h₁ h₂ f ws a vs S₁ before renewed S₂ b us S₃ p.pairs p.words (rw c at A') (rw c at e)
    (rw q'.saved at B) q'.refusal
