-- Each promise of the public functions determines the outcome: two outcomes that meet it are equal. Assumes nothing.
use Prim.Native.Nat.{ℕ}
use mathlib.Core.Path.{◌≡◌, sym, ap, ◌∙◌}
use mathlib.Core.List.{List}
use Rattle.sets.specs.declared.Set.{Set}
use Rattle.feed.specs.declared.Fed.{Fed}
use Rattle.feed.specs.Fed.{Answers}
use Rattle.feed.specs.declared.Opened.{Opened}
use Rattle.feed.specs.Opening.{Opens}
use Rattle.feed.proofs.Unique.{unique-opens, unique-answers}
use Rattle.sets.specs.Set.{sig_words}
use Rattle.sets.proofs.Sets.{Words, sigs-one}
use Rattle.machine.specs.declared.Config.{Config}
use Rattle.machine.specs.declared.Step.{Step}
use Rattle.machine.specs.Machine.{machine_refusal}
use Rattle.machine.specs.Extended.{extended_open, extended_feed}
use Rattle.machine.specs.inner.Ran.{Programs}

pub unique-check : (M P : List ℕ) (r q : ℕ) → r ≡ machine_refusal M P → q ≡ machine_refusal M P → r ≡ q
unique-check M P r q e f = e ∙ sym f

-- opening gives one answer and leaves the same words and the same record
pub unique-open : (M P R out : List ℕ) (f g : Opened) (ws vs sv tv : List ℕ)
    → Opens (extended_open M P R out) f ws sv → Opens (extended_open M P R out) g vs tv → (f ≡ g) × (ws ≡ vs) × (sv ≡ tv)
unique-open M P R out f g ws vs sv tv a b = unique-opens (extended_open M P R out) f g ws vs sv tv a b

-- the feed gives one answer and leaves the same words and the same record
pub unique-feed : (M P R : List ℕ) (at : ℕ) (piece out : List ℕ) (f g : Fed) (ws vs sv tv : List ℕ)
    → Answers (extended_feed M P R at piece out) f ws sv → Answers (extended_feed M P R at piece out) g vs tv → (f ≡ g) × (ws ≡ vs) × (sv ≡ tv)
unique-feed M P R at piece out f g ws vs sv tv a b = unique-answers (extended_feed M P R at piece out) f g ws vs sv tv a b

-- a program leaves one configuration and one set of alerts
pub unique-program : (P : List ℕ) (q : ℕ) (x : Config) (s t : Step) → Words sig_words s.alerts.words → Words sig_words t.alerts.words
    → Programs P q x s → Programs P q x t → s ≡ t
unique-program P q x s t vs vt a b =
    ap {B = Step} (λ (y : Config). record { config = y; alerts = s.alerts }) (a.config ∙ sym b.config)
    ∙ ap {B = Step} (λ (g : Set sig_words). record { config = t.config; alerts = g }) (sigs-one s.alerts t.alerts vs vt (a.alerts ∙ sym b.alerts))
