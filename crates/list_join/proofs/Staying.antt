-- The state that two lists share: one that starts and that no byte takes out of a frontier, or one that starts and that no edge leads to. Assumes nothing.
use Prim.Native.Nat.{ℕ, ◌≤◌, ◌<◌}
use mathlib.Core.Path.{◌≡◌, refl, sym, ◌∙◌}
use mathlib.Core.Bool.{Bool, true, false, ◌&&◌, cond, not, true≢false, false≢true}
use mathlib.Core.List.{List}
use mathlib.Core.Logic.{◌↔◌, inl, inr}
use native.Mathlib.Omega.{arith}
use lib.Dec.{eqb, ltb}
use borrow.Author.Tests.{eqb-true, not-true}
use Rattle.sets.specs.Set.{states, holds}
use Rattle.rules.proofs.Scanning.{both, some_first, first_found, gather-exactly}
use Rattle.list.specs.List.{records, is_edge, low, high, from, target}
use Rattle.list.specs.Automaton.{start, step, reached, highest}
use Rattle.list.proofs.Steps.{start-exactly, step-exactly, reached-exactly}
use Rattle.list.proofs.Highest.{names-low}
use Rattle.list_join.specs.inner.Found.{loop_both, once_both}
use Rattle.std.specs.Prelude.{Option, Some, None, is_some}
use Rattle.list_join.specs.declared.Shared.{Shared}
use Rattle.list_join.specs.Join.{shared_as, own_of, same_of, is_shared, own_state, same_state, stays, staying, lowest, ever_at, once_at, naming}

pub record EverOn (L : List ℕ) (y : ℕ) : Type 0 where
  pub starts : holds (start L) y ≡ true
  pub keeps : (F c : ℕ) → c < 256 → holds F y ≡ true → holds (step L F c) y ≡ true
  pub lowish : y ≤ highest L

-- what `lowest` finds is in the first set, and in the second as is asked
pub lowest-found : (X Y : ℕ) (b : Bool) → ltb (lowest X Y b) states ≡ true → (holds X (lowest X Y b) ≡ true) × (holds Y (lowest X Y b) ≡ b)
unfolding lowest
lowest-found X Y b e =
    let r = lowest X Y b in
    let p : ℕ → Bool = λ s. holds X s && cond b (holds Y s) (not (holds Y s)) in
    let f = first_found states p (some_first states p ∙ e) in
    let g = both (holds X r) (cond b (holds Y r) (not (holds Y r))) f.1 in
    (g.0, asked b g.1)
  where
    asked : (c : Bool) → cond c (holds Y (lowest X Y b)) (not (holds Y (lowest X Y b))) ≡ true → holds Y (lowest X Y b) ≡ c
    asked true q = q
    asked false q = not-true (holds Y (lowest X Y b)) q

-- s stays exactly when some record is a loop at it that every byte takes
pub staying-exactly : (L : List ℕ) (s : ℕ) → holds (staying L) s ≡ true ↔ ((s < states) × ((i : ℕ) × (i < records L) × (stays L i ≡ true) × (target L i ≡ s)))
unfolding staying
staying-exactly L s = gather-exactly states (stays L) (target L) (records L) s

-- such a loop, field by field
pub stays-is : (L : List ℕ) (i : ℕ) → stays L i ≡ true → (is_edge L i ≡ true) × (low L i ≡ 0) × (high L i ≡ 255) × (from L i ≡ target L i)
unfolding stays
stays-is L i e =
    let b = both (is_edge L i && eqb (low L i) 0 && eqb (high L i) 255) (eqb (from L i) (target L i)) e in
    let d = both (is_edge L i && eqb (low L i) 0) (eqb (high L i) 255) b.0 in
    let k = both (is_edge L i) (eqb (low L i) 0) d.0 in
    (k.0, eqb-true (low L i) 0 k.1, eqb-true (high L i) 255 d.1, eqb-true (from L i) (target L i) b.1)

pub ever-on : (L : List ℕ) → ltb (ever_at L) states ≡ true → EverOn L (ever_at L)
ever-on L e =
    let y = ever_at L in
    let f = lowest-found (start L) (staying L) true e in
    let w = (staying-exactly L y).0 f.1 in
    let i = w.1.0 in
    let k = stays-is L i w.1.2 in
    record {
      starts = f.0;
      keeps = λ F c h q. (step-exactly L F c y).1 (w.0, (i, w.1.1, record { kind = k.0; range = inl (omega (arith, k.1), omega (arith, k.2, h)) }, rw (k.3, w.1.3) q, w.1.3));
      lowish = names-low L i y w.1.1 (inl (k.0, inr w.1.3));
    }

-- a state at offset 0 alone
pub record Once (L : List ℕ) (y : ℕ) : Type 0 where
  pub starts : holds (start L) y ≡ true
  pub never : (F c : ℕ) → holds (step L F c) y ≡ false
  pub lowish : y ≤ highest L

pub only-once : (L : List ℕ) → ltb (once_at L) states ≡ true → Once L (once_at L)
only-once L e =
    let f = lowest-found (start L) (reached L) false e in
    let w = (start-exactly L (once_at L)).0 f.0 in
    record {
      starts = f.0;
      never = λ F c. gone F c (holds (step L F c) (once_at L)) refl f.1;
      lowish = names-low L w.1.0 (once_at L) w.1.1 (inr (inl (w.1.2, w.1.3)));
    }
  where
    gone : (F c : ℕ) (b : Bool) → holds (step L F c) (once_at L) ≡ b → holds (reached L) (once_at L) ≡ false → b ≡ false
    gone F c false q n = refl
    gone F c true q n =
        let w = (step-exactly L F c (once_at L)).0 q in
        let z = (reached-exactly L (once_at L)).1 (w.0, (w.1.0, w.1.1, w.1.2.kind, w.1.4)) in
        absurd (true≢false (sym z ∙ n))

-- ---- what two lists share

-- in the start set both or neither, and so after each byte; where both loop, the state is in every frontier
pub record Shares (A B : List ℕ) (y z : ℕ) : Type 0 where
  pub start-A : holds (start A) y ≡ true
  pub start-B : holds (start B) z ≡ true
  pub lowish : y ≤ highest A
  pub lowish-B : z ≤ highest B
  pub steps : (FA FB c : ℕ) → c < 256 → holds FA y ≡ holds FB z → (loop_both A B ≡ true → holds FA y ≡ true)
      → (holds (step A FA c) y ≡ holds (step B FB c) z) × (loop_both A B ≡ true → holds (step A FA c) y ≡ true)

-- what is shared, by what the two have
abbrev pair : List ℕ → List ℕ → Bool → Bool → Option Shared
pair A B l o = cond l (Some (shared_as (ever_at B) (ever_at A))) (cond o (Some (shared_as (once_at B) (once_at A))) None)

pub shares : (A B : List ℕ) → is_shared (naming A B) ≡ true → Shares A B (same_state (naming A B)) (own_state (naming A B))
shares A B e = go (loop_both A B) refl (once_both A B) refl e
  where
    go : (l : Bool) → loop_both A B ≡ l → (o : Bool) → once_both A B ≡ o → is_some (pair A B l o) ≡ true
        → Shares A B (same_of (pair A B l o)) (own_of (pair A B l o))
    go true q o r z =
        let t = both (ltb (ever_at A) states) (ltb (ever_at B) states) q in
        let x = ever-on A t.0 in
        let y = ever-on B t.1 in
        record {
          start-A = x.starts;
          start-B = y.starts;
          lowish = x.lowish;
          lowish-B = y.lowish;
          steps = λ FA FB c h s on.
              let a = x.keeps FA c h (on q) in
              let b = y.keeps FB c h (sym s ∙ on q) in
              (a ∙ sym b, λ _. a);
        }
    go false q true r z =
        let t = both (ltb (once_at A) states) (ltb (once_at B) states) r in
        let x = only-once A t.0 in
        let y = only-once B t.1 in
        record {
          start-A = x.starts;
          start-B = y.starts;
          lowish = x.lowish;
          lowish-B = y.lowish;
          steps = λ FA FB c h s on. (x.never FA c ∙ sym (y.never FB c), λ l. absurd (false≢true (sym q ∙ l)));
        }
    go false q false r z = absurd (false≢true z)
