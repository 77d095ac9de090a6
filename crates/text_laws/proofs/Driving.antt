-- The driver of texts promises what the callees' promises give. Assumes nothing.
use Prim.Native.Nat.{ℕ, ◌*◌, ◌≤◌, ◌<◌}
use mathlib.Core.Path.{◌≡◌, refl, sym, ap, subst, ◌∙◌}
use mathlib.Core.List.{List, [], ◌∷◌, ◌++◌, append-nil}
use native.Mathlib.Omega.{arith}
use native.Mathlib.Decide.{ℕ_discrete}
use lib.ListN.{length, take, drop, length-append}
use Rattle.feed.specs.Calls.{Bytes, all_bytes, all_told, asked, Pieces, Along}
use Rattle.feed.specs.Fed.{Answers}
use Rattle.feed.specs.Opening.{Opening}
use Rattle.feed.specs.Demands.{open_told}
use Rattle.list_flow.specs.Opening.{open_flow}
use Rattle.list_feed.specs.Plain.{plain_feed}
use Rattle.laws.specs.Calls.{by_list, Call, way_of}
use Rattle.laws.specs.Demands.{Swaps}
use Rattle.text.specs.Records.{list_of}
use Rattle.text_compile.specs.declared.Compiled.{Compiled}
use Rattle.text_compile.specs.Compile.{Compiles}
use Rattle.text_compile.proofs.Exactly.{compile-refused}
use Rattle.text_laws.specs.declared.Served.{Served}
use Rattle.text_laws.specs.declared.Drove.{Drove}
use Rattle.text_laws.specs.Flows.{front, Past, PassesAll, Tells}
use Rattle.text_laws.specs.Drivers.{Tries, TextServed}
use Rattle.text_laws.proofs.Flows.{compiled-serves, written-front}

-- the length answered lies within the lent list
pub compiled-fits : (T : List ℕ) (g : ℕ) (A : List ℕ) (r : Compiled) (B : List ℕ) → Bytes T → g < 256 → Compiles T g A r B → r.length ≤ length B
compiled-fits T g A r B bytes small c =
    elim (ℕ_discrete r.refusal 0) [
      | yes z ↦ let (x, n, e) = written-front T g A r B bytes small c z in
          let m = ap length e ∙ length-append (list_of x g) (drop (length (list_of x g)) A) in omega (arith, n, m)
      | no v ↦ omega (arith, (compile-refused T g A r B bytes c v).1)
    ]

module _ (L R out piece more : List ℕ) (r : Served) (ws vs : List ℕ) (t : Tries L R out piece more r ws vs) where
  abbrev o : Opening
  o = open_flow L R out

  abbrev c : Call
  c = record { by = record { list = L; via = by_list }; at = 0; piece = piece; out = more }

  fed : Answers (plain_feed L o.saved 0 piece more) r.fed vs t.end
  fed = subst (λ Q. Answers (plain_feed L Q 0 piece more) r.fed vs t.end) t.opens.saved t.feeds

  -- of a list that is refused with 1 to 3 nowhere
  pub tried-passes : PassesAll L → (r.checked ≡ 0) × Past r.opened.refusal × Past r.fed.refusal
  tried-passes p = (
    t.checked ∙ p.lists,
    subst Past (sym t.opens.refusal) (p.opens R out),
    subst Past (sym fed.refusal) (p.feeds by_list o.saved 0 piece more),
  )

  eaten : all_bytes (asked way_of) o.saved (c ∷ []) ≡ take r.fed.bytes piece
  unfolding all_bytes
  eaten = append-nil (take (plain_feed L o.saved 0 piece more).bytes piece) ∙ ap (λ (n : ℕ). take n piece) (sym fed.bytes)

  told : all_told (asked way_of) o.saved (c ∷ []) ≡ take (2 * r.fed.pairs) vs
  unfolding all_told
  told =
      append-nil (take (2 * (plain_feed L o.saved 0 piece more).pairs) (plain_feed L o.saved 0 piece more).words)
      ∙ ap (λ (n : ℕ). take (2 * n) (plain_feed L o.saved 0 piece more).words) (sym fed.pairs) ∙ ap (take (2 * r.fed.pairs)) (sym fed.words)

  opened : open_told o ≡ take (2 * r.opened.pairs) ws
  opened = ap (λ (n : ℕ). take (2 * n) o.words) (sym t.opens.pairs) ∙ ap (take (2 * r.opened.pairs)) (sym t.opens.words)

  -- what holds of the bytes and words of every flow under the list holds of those of these calls
  pub tried-tells : (P : List ℕ → List ℕ → Type 0)
      → ((R out : List ℕ) → (open_flow L R out).refusal ≡ 0 → (cs : List Call) → Pieces (asked way_of) cs → Along (asked way_of) (Swaps L) (open_flow L R out).saved cs
      → P (all_bytes (asked way_of) (open_flow L R out).saved cs) (open_told (open_flow L R out) ++ all_told (asked way_of) (open_flow L R out).saved cs))
      → Bytes piece → r.opened.refusal ≡ 0 → P (take r.fed.bytes piece) (take (2 * r.opened.pairs) ws ++ take (2 * r.fed.pairs) vs)
  tried-tells P f bytes z = rw (eaten, told, opened) at (f R out (sym t.opens.refusal ∙ z) (c ∷ []) (bytes, tt) ((λ v. (refl, tt)), tt))

pub text-served : (T : List ℕ) (g : ℕ) (A : List ℕ) (B R out piece more : List ℕ) (r : Drove) (ws vs : List ℕ) → Bytes T → g < 256 → Bytes piece
    → Compiles T g A r.compiled B → Tries (front r.compiled B) R out piece more r.served ws vs → TextServed T g piece r ws vs
text-served T g A B R out piece more r ws vs bt small bp c t =
    record {
      passes = λ z. let (x, e, s) = compiled-serves T g A r.compiled B bt small c z in tried-passes (front r.compiled B) R out piece more r.served ws vs t s.passes;
      tells = λ z y. let (x, e, s) = compiled-serves T g A r.compiled B bt small c z in
          (x, e, tried-tells (front r.compiled B) R out piece more r.served ws vs t (Tells x g) s.tells bp y);
    }
