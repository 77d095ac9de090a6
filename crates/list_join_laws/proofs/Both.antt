-- The pairs of a joined list are those of both lists. Assumes nothing.
use Prim.Native.Nat.{ℕ, ◌≤◌}
use mathlib.Core.Path.{◌≡◌, refl, sym, ap, subst, ◌∙◌}
use mathlib.Core.Bool.{true, ◌||◌}
use mathlib.Core.List.{List, ◌++◌}
use mathlib.Core.Logic.{◌⊎◌, inl, inr, ◌↔◌}
use lib.ListN.{length, take, drop}
use lib.Dec.{eqb}
use lib.Seq.{take-append_seam}
use borrow.Author.Tests.{eq-eqb}
use Rattle.sets.specs.Set.{holds}
use Rattle.sets.proofs.Sets.{holds-join}
use Rattle.rules.proofs.Scanning.{choose, or_cases, or-true}
use Rattle.list.specs.List.{list_refusal}
use Rattle.list.specs.Automaton.{start, accepted}
use Rattle.feed.specs.Pairs.{Pair}
use Rattle.feed.specs.Engine.{told}
use Rattle.feed.specs.Calls.{Bytes, asked, all_bytes}
use Rattle.feed.proofs.Runs.{bytes_take}
use Rattle.list_flow.specs.Opening.{open_pairs, open_flow}
use Rattle.list_feed.specs.Plain.{plain, pairs_of}
use Rattle.laws.specs.Calls.{way_of}
use Rattle.laws.proofs.Engines.{calls-bytes}
use Rattle.laws.proofs.Due.{due_all, due-said}
use Rattle.laws.proofs.Swapping.{swapped}
use Rattle.list_join.specs.Join.{joined, refusal_of, Joins}
use Rattle.list_join.specs.declared.Joined.{Joined}
use Rattle.list_join.proofs.Union.{frontiers-meet, accepted-union}
use Rattle.list_join.proofs.Deciding.{fine}
use Rattle.list_join_laws.specs.Union.{frontier_after, Unites, ListsUnite, JoinUnites, Either, UnionSigns, SignsFlow}

-- ---- two lists

due-pairs : (L bs : List ℕ) (g k : ℕ) → Pair (pairs_of L bs) g k ↔ ((k ≤ length bs) × (holds (accepted L (frontier_after L (take k bs))) g ≡ true))
due-pairs L bs g k = due-said L bs (pairs_of L bs) (due_all L bs (told (plain L) (start L) 0 bs) refl) g k

module _ (A B : List ℕ) (a : list_refusal A ≡ 0) (b : list_refusal B ≡ 0) (j : list_refusal (joined A B) ≡ 0) where
  abbrev J : List ℕ
  J = joined A B

  accepts : (w : List ℕ) → Bytes w → (g : ℕ) → holds (accepted J (frontier_after J w)) g ≡ (holds (accepted A (frontier_after A w)) g || holds (accepted B (frontier_after B w)) g)
  accepts w h g = ap (λ (x : ℕ). holds x g) (accepted-union A B a b j w h) ∙ holds-join (accepted A (frontier_after A w)) (accepted B (frontier_after B w)) g

  unites-so : Unites A B (joined A B)
  unites-so = record { passes = j; frontier = λ bs h. (frontiers-meet A B a b j bs h).is; pairs = λ bs h g k. (there bs h g k, back bs h g k) }
    where
      there : (bs : List ℕ) → Bytes bs → (g k : ℕ) → Pair (pairs_of J bs) g k → Pair (pairs_of A bs) g k ⊎ Pair (pairs_of B bs) g k
      there bs h g k p =
          let w = (due-pairs J bs g k).0 p in
          choose (or_cases (holds (accepted A (frontier_after A (take k bs))) g) (holds (accepted B (frontier_after B (take k bs))) g) (sym (accepts (take k bs) (bytes_take k bs h) g) ∙ w.1))
          (λ q. inl ((due-pairs A bs g k).1 (w.0, q)))
          (λ q. inr ((due-pairs B bs g k).1 (w.0, q)))

      back : (bs : List ℕ) → Bytes bs → (g k : ℕ) → Pair (pairs_of A bs) g k ⊎ Pair (pairs_of B bs) g k → Pair (pairs_of J bs) g k
      back bs h g k s =
          choose s
          (λ p. let w = (due-pairs A bs g k).0 p in (due-pairs J bs g k).1 (w.0, accepts (take k bs) (bytes_take k bs h) g ∙ rw w.1))
          (λ p. let w = (due-pairs B bs g k).0 p in (due-pairs J bs g k).1 (w.0, accepts (take k bs) (bytes_take k bs h) g ∙ rw w.1 (or-true (holds (accepted A (frontier_after A (take k bs))) g))))

pub unites : ListsUnite
unites = unites-so

-- ---- what joining left

module _ (list : List ℕ) (used : ℕ) (B : List ℕ) (r : Joined) (exit : List ℕ) (g : Joins list used B r exit) (z : r.refusal ≡ 0) where
  none : refusal_of list used B ≡ 0
  none = sym g.refusal ∙ z

  is-joined : take r.length exit ≡ joined (take used list) B
  is-joined =
      let n : eqb (refusal_of list used B) 0 ≡ true = eq-eqb _ 0 none in
      let l : r.length ≡ length (joined (take used list) B) = g.long ∙ rw n in
      let e : exit ≡ joined (take used list) B ++ drop (length (joined (take used list) B)) list = g.left ∙ rw n in
      ap (λ (k : ℕ). take k exit) l ∙ ap (take (length (joined (take used list) B))) e ∙ take-append_seam (joined (take used list) B) (drop (length (joined (take used list) B)) list)

  -- without a refusal the front of the lent list passes 1 to 3 and tells the pairs of both
  joined-so : Unites (take used list) B (take r.length exit)
  joined-so =
      let f = fine (take used list) used (length list) B none in
      subst (Unites (take used list) B) (sym is-joined) (unites (take used list) B f.front f.other f.whole)

pub joined-unites : JoinUnites
joined-unites = joined-so

-- ---- any number of lists

pub unites-signs : UnionSigns
unites-signs A B J P Q u s t = record { passes = u.passes; pairs = λ bs b h k. (there bs b h k, back bs b h k) }
  where
    there : (bs : List ℕ) → Bytes bs → (h k : ℕ) → Pair (pairs_of J bs) h k → (k ≤ length bs) × Either P Q h (take k bs)
    there bs b h k p =
        choose ((u.pairs bs b h k).0 p)
        (λ q. let w = (s.pairs bs b h k).0 q in (w.0, inl w.1))
        (λ q. let w = (t.pairs bs b h k).0 q in (w.0, inr w.1))

    back : (bs : List ℕ) → Bytes bs → (h k : ℕ) → (k ≤ length bs) × Either P Q h (take k bs) → Pair (pairs_of J bs) h k
    back bs b h k w =
        (u.pairs bs b h k).1 (choose w.1 (λ p. inl ((s.pairs bs b h k).1 (w.0, p))) (λ q. inr ((t.pairs bs b h k).1 (w.0, q))))

-- and a flow of any calls tells it
pub signs-flows : SignsFlow
unfolding open_pairs
signs-flows L P s R out z cs hb h =
    let d = (swapped L R out z cs hb h).flows.due in
    let eaten : Bytes (all_bytes (asked way_of) (open_flow L R out).saved cs) = calls-bytes (open_flow L R out).saved cs hb in
    record { told = λ g k. rw d.tells (s.pairs (all_bytes (asked way_of) (open_flow L R out).saved cs) eaten g k); ordered = d.ordered }
