-- The list that compiling wrote serves: it passes 1 to 3 everywhere, and flows under it tell the pairs of the text's language. Assumes nothing.
use Prim.Native.Nat.{ℕ, zero, suc, ◌<◌}
use mathlib.Core.Path.{◌≡◌, refl, sym, ap, subst, ◌∙◌}
use mathlib.Core.Bool.{Bool, true, false}
use mathlib.Core.List.{List, [], ◌∷◌, ◌++◌}
use mathlib.Core.Logic.{inl, inr}
use native.Mathlib.Omega.{arith}
use native.Mathlib.Decide.{ℕ_discrete}
use lib.ListN.{length, take, drop}
use lib.Seq.{take-append_seam}
use Rattle.rules.specs.Rules as rules
use Rattle.rules.proofs.Rules.{verdict-then}
use Rattle.list.specs.List.{list_rules, list_refusal}
use Rattle.feed.specs.Calls.{Bytes, outcome, asked, all_bytes, all_told, Pieces, Along}
use Rattle.list_flow.specs.Opening.{open_pairs, open_flow}
use Rattle.machine.specs.Machine.{bad_machine, machine_rules}
use Rattle.machine_certificate.specs.Certificate.{bad_certificate}
use Rattle.rules.specs.Words.{Row, None, First, InWords}
use Rattle.laws.specs.Words.{list_words, Foreign, flow_words, length_words, size_words, entry_words, Unordered, Misfit, Unnamed}
use Rattle.laws.proofs.Words.{opening_rows}
use Rattle.feed.specs.Demands.{open_told}
use Rattle.laws.proofs.Engines.{calls-bytes}
use Rattle.laws.specs.Calls.{Via, by_list, by_table, by_matrix, by_index, words_by, Call, way_of}
use Rattle.laws.specs.Demands.{Swaps}
use Rattle.laws.proofs.Demand1.{demand-1}
use Rattle.laws.proofs.Swapping.{swapped}
use Rattle.text.specs.Grammar.{Text, ok_body}
use Rattle.text.specs.Records.{list_of, too_big}
use Rattle.text_compile.specs.declared.Compiled.{Compiled}
use Rattle.text_compile.specs.Compile.{Compiles}
use Rattle.text_compile.specs.Words.{Reading}
use Rattle.text_compile.proofs.Exactly.{compile-wrote}
use Rattle.text_laws.specs.Flows.{front, Past, PassesAll, Tells, Serves, CompiledServes}
use Rattle.text_laws.proofs.Segments.{segment-past}
use Rattle.text_laws.proofs.Pairs.{compiled-rises, compiled-passes, compiled-pairs}

-- ---- a list that passes the check is refused with 1 to 3 nowhere

-- the numbers of some rows are over 3
abbrev Over : List Row → Type 0
Over [] = Unit {0}
Over (w ∷ ws) = (3 < w.0) × Over ws

first-over : (ws : List Row) (n : ℕ) → Over ws → First ws n → 3 < n
first-over [] n o f = absurd f
first-over (w ∷ ws) n (l, o) (inl (e, p)) = subst (λ k. 3 < k) e l
first-over (w ∷ ws) n (l, o) (inr (p, f)) = first-over ws n o f

-- behind 1 to 3 a certificate's rules are 24 and 22
certificate-past : (a b : Bool) → Past (rules.verdict ((24, a) ∷ ((22, b) ∷ [])))
unfolding rules.verdict
certificate-past true b = inr (omega arith)
certificate-past false true = inr (omega arith)
certificate-past false false = inl refl

module _ (L : List ℕ) (z : list_refusal L ≡ 0) where
  none : None (list_words L)
  none = (demand-1.lists-said L).passes.0 z

  skip : (ws : List Row) (n : ℕ) → First (list_words L ++ ws) n → First ws n
  skip ws n (inl (e, p)) = absurd (none.0 p)
  skip ws n (inr (a, inl (e, p))) = absurd (none.1.0 p)
  skip ws n (inr (a, inr (b, inl (e, p)))) = absurd (none.1.1.0 p)
  skip ws n (inr (a, inr (b, inr (c, f)))) = f

  past : (ws : List Row) (n : ℕ) → Over ws → InWords (list_words L ++ ws) n → Past n
  past ws zero o w = inl refl
  past ws (suc n) o w = inr (first-over ws (suc n) o (skip ws (suc n) ((w.gives (suc n) (λ e. omega (arith, e))).0 refl)))

  pub passes-all : PassesAll L
  passes-all =
      record {
        lists = z;
        opens = λ R out. past (opening_rows L R out) _ (omega arith, (omega arith, tt)) (demand-1.opens-said L R out);
        feeds = fed;
        fills = λ X n left f. past (length_words L X) n (omega arith, tt) (demand-1.fills-said L X n left f);
        tables = λ b T. past (size_words b T ++ entry_words L b T) _ (omega arith, (omega arith, (omega arith, (omega arith, (omega arith, (omega arith, (omega arith, tt))))))) (demand-1.tables-said L b T);
        indexes = λ b T X n left f. past _ n (omega arith, (omega arith, (omega arith, (omega arith, (omega arith, (omega arith, (omega arith, tt))))))) (demand-1.indexes-said L b T X n left f);
        builds = λ T o f. past _ o.refusal (omega arith, (omega arith, tt)) (demand-1.builds-said L T o f);
        certificates = λ M P Z. subst Past (sym (verdict-then (list_rules L) (machine_rules M P ++ ((22, bad_certificate L M P Z) ∷ [])) refl z)) (certificate-past (bad_machine M P) (bad_certificate L M P Z));
        segments = λ v. let W = way_of (record { list = L; via = v }) in segment-past W (λ R d out. fed v R (W.layout.offset R) d out);
      }
    where
      call_by : Via → ℕ → List ℕ → List ℕ → Call
      call_by via at piece out = record { by = record { list = L; via = via }; at = at; piece = piece; out = out }

      behind-list : (ws : List Row) → Over ws → (n : ℕ) → First (list_words L ++ ws) n → 3 < n
      behind-list ws o n f = first-over ws n o (skip ws n f)

      -- of the words of a feed none up to 3 is the first: its list passes, or it has no such words
      over : (v : Via) (R : List ℕ) (at : ℕ) (piece : List ℕ) (n : ℕ) → First (words_by v L R at piece) n → 3 < n
      over by_list R at piece = behind-list (flow_words (Foreign L R) R at piece) (omega arith, (omega arith, (omega arith, tt)))
      over (by_table b T) R at piece =
          behind-list (flow_words (Foreign L R) R at piece ++ (size_words b T ++ ((9, Unordered T.splits) ∷ [])))
          (omega arith, (omega arith, (omega arith, (omega arith, (omega arith, (omega arith, tt))))))
      over (by_matrix X) R at piece = behind-list (flow_words (Foreign L R) R at piece ++ length_words L X) (omega arith, (omega arith, (omega arith, (omega arith, tt))))
      over (by_index b c S X h) R at piece = λ n. first-over (flow_words (Unnamed S X h R) R at piece ++ ((8, Misfit S X) ∷ [])) n (omega arith, (omega arith, (omega arith, (omega arith, tt))))

      fed-past : (R : List ℕ) (c : Call) → ((n : ℕ) → First (words_by c.by.via c.by.list R c.at c.piece) n → 3 < n) → (n : ℕ) → (outcome way_of R c).refusal ≡ n → Past n
      fed-past R c o zero e = inl refl
      fed-past R c o (suc n) e = elim (ℕ_discrete (suc n) 14) [
        | yes q ↦ inr (omega (arith, q))
        | no q ↦ let z : suc n ≡ 0 → ⊥ = (λ y. omega (arith, y)) in inr (o (suc n) (((demand-1.feeds-said R c).gives (suc n) z).0 (((demand-1.feeds R c).ruled (suc n) z q).0 e)))
      ]

      fed : (v : Via) (R : List ℕ) (at : ℕ) (piece out : List ℕ) → Past (outcome way_of R (call_by v at piece out)).refusal
      fed v R at piece out = fed-past R (call_by v at piece out) (over v R at piece) _ refl

-- ---- the list of a text

module _ (x : Text) (g room : ℕ) (ok : ok_body x.body ≡ true) (small : g < 256) (fits : too_big room x g ≡ false) where
  abbrev L : List ℕ
  L = list_of x g

  tells : (R out : List ℕ) → (open_flow L R out).refusal ≡ 0 → (cs : List Call) → Pieces (asked way_of) cs → Along (asked way_of) (Swaps L) (open_flow L R out).saved cs
      → Tells x g (all_bytes (asked way_of) (open_flow L R out).saved cs) (open_told (open_flow L R out) ++ all_told (asked way_of) (open_flow L R out).saved cs)
  unfolding open_pairs
  tells R out z cs hb h =
      let d = (swapped L R out z cs hb h).flows.due in
      let eaten : Bytes (all_bytes (asked way_of) (open_flow L R out).saved cs) = calls-bytes (open_flow L R out).saved cs hb in
      let p = compiled-pairs x g room ok small fits (all_bytes (asked way_of) (open_flow L R out).saved cs) eaten in
      record { told = λ h k. rw d.tells (p h k); ordered = d.ordered }

  pub list-serves : Serves x g L
  list-serves = record { rises = compiled-rises x g room ok small fits; passes = passes-all L (compiled-passes x g room ok small fits); tells = tells }

-- ---- what compiling wrote

module _ (T : List ℕ) (g : ℕ) (A : List ℕ) (r : Compiled) (B : List ℕ) (bytes : Bytes T) (small : g < 256) (c : Compiles T g A r B) (z : r.refusal ≡ 0) where
  -- without a refusal the text has a reading that fits, and what is left is its list, and the lent one behind it
  wrote : (x : Text) × Reading T x × (too_big (length A) x g ≡ false) × (r.length ≡ length (list_of x g)) × (B ≡ list_of x g ++ drop (length (list_of x g)) A)
  wrote = compile-wrote T g A r B bytes c z

  pub written-front : (x : Text) × (r.length ≡ length (list_of x g)) × (B ≡ list_of x g ++ drop (length (list_of x g)) A)
  written-front = let (x, ok, s, n, b) = wrote in (x, n, b)

  -- so the front of the lent list is its list
  pub text-list : (x : Text) × Reading T x × (too_big (length A) x g ≡ false) × (front r B ≡ list_of x g)
  text-list =
      let (x, ok, s, n, b) = wrote in
      (x, ok, s, ap (λ (k : ℕ). take k B) n ∙ ap (take (length (list_of x g))) b ∙ take-append_seam (list_of x g) (drop (length (list_of x g)) A))

  -- so that rises, passes 1 to 3 in every entry point, and any flow under it tells exactly the pairs of the language
  serves-so : (x : Text) × Reading T x × Serves x g (front r B)
  serves-so =
      let (x, (ok, e), small-enough, q) = text-list in
      (x, (ok, e), subst (Serves x g) (sym q) (list-serves x g (length A) ok small small-enough))

pub compiled-serves : CompiledServes
compiled-serves = serves-so
