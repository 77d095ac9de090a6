-- Every set that can be reached is the set of a record, so a list of which more than 4,096 can be reached has no certificate. Assumes nothing.
use Prim.Native.Nat.{ℕ, suc, ◌≤◌, ◌<◌}
use mathlib.Core.Path.{◌≡◌, sym, ap, ◌∙◌}
use mathlib.Core.List.{List, [], ◌∷◌}
use native.Mathlib.Omega.{arith}
use native.Mathlib.Decide.{dec_lt}
use Rattle.list.specs.Automaton.{start}
use Rattle.table_classes.proofs.Pigeons.{pigeons}
use Rattle.feed.specs.Engine.{run}
use Rattle.feed.specs.Calls.{Bytes}
use Rattle.list_feed.specs.Plain.{plain}
use Rattle.table_build.specs.Build.{Reach, Many}
use Rattle.machine.specs.declared.Config.{Config}
use Rattle.machine.specs.Machine.{first}
use Rattle.machine_certificate.specs.Certificate.{notes, note_set, certificate_refusal}
use Rattle.machine_certificate.specs.Words.{Recorded}
use Rattle.machine_certificate.proofs.Accepts.{accepts-exactly, gives-22}
use Rattle.machine_certificate.proofs.Following.{begins-recorded, recorded-leads}
use Rattle.machine_certificate_laws.specs.Alike.{Covered, CertifiedCovers, NoneCertified}

module _ (L M P Z : List ℕ) (ok : certificate_refusal L M P Z ≡ 0) where
  -- from a recorded set on, every byte leads to a recorded one
  walks : (w : List ℕ) → Bytes w → (x : Config) (F : ℕ) → Recorded Z x F → (i : ℕ) × (i < notes Z) × (note_set Z i ≡ run (plain L) F w)
  unfolding run
  walks [] h x F r = (r.0, r.1, r.3)
  walks (c ∷ w) h x F r = walks w (λ i. h (suc i)) _ _ (recorded-leads L M P Z ok x F c (h 0) r).0

  reached : (S : ℕ) → Reach L S → (i : ℕ) × (i < notes Z) × (note_set Z i ≡ S)
  reached S (w, h, e) = let r = walks w h (first P) (start L) (begins-recorded L M P Z ok) in (r.0, r.1, r.2 ∙ e)

  -- the record of each of n sets, past them the first
  module _ (n : ℕ) (m : Many L n) where
    abbrev place : (i : ℕ) → Dec (i < n) → ℕ
    place i (yes l) = (reached (m.0 i) (m.1 i l)).0
    place i (no g) = 0

    place-lt : (i : ℕ) → i < n → (s : Dec (i < n)) → place i s < notes Z
    place-lt i h (yes l) = (reached (m.0 i) (m.1 i l)).1
    place-lt i h (no g) = absurd (g h)

    place_set : (i : ℕ) → i < n → (s : Dec (i < n)) → note_set Z (place i s) ≡ m.0 i
    place_set i h (yes l) = (reached (m.0 i) (m.1 i l)).2
    place_set i h (no g) = absurd (g h)

    many-fit : n ≤ notes Z
    many-fit =
        pigeons (notes Z) n (λ i. place i (dec_lt i n)) (λ i l. place-lt i l (dec_lt i n))
        (λ i j l k e. m.2 i j l k (sym (place_set i l (dec_lt i n)) ∙ ap (note_set Z) e ∙ place_set j k (dec_lt j n)))

  pub covered : Covered L Z
  covered = record { reached = reached; few = λ n m. (many-fit n m, ((accepts-exactly L M P Z).0 ok).2.most) }

pub certified-covers : CertifiedCovers
certified-covers = covered

pub none-certified : NoneCertified
none-certified L m g M P Z h =
    (gives-22 L M P Z).1 (
      g,
      h,
      λ c.
          let k = (covered L M P Z ((accepts-exactly L M P Z).1 (g, h, c))).few 4097 m in absurd (omega (arith, k.0, k.1)),
    )
