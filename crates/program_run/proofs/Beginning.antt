-- An opened flow stands as that of 01's program does. Assumes nothing.
use Prim.Native.Nat.{ℕ}
use mathlib.Core.Path.{◌≡◌, refl, sym, ap, ◌∙◌}
use mathlib.Core.Bool.{Bool, true, false, true≢false}
use mathlib.Core.List.{List}
use lib.Dec.{eqb}
use borrow.Author.Tests.{eqb-true}
use Rattle.feed.specs.Opening.{Opening}
use Rattle.feed.proofs.Opening.{opens, opening-refusal}
use Rattle.list_flow.specs.Opening.{open_pairs, open_rules, opened, open_flow}
use Rattle.program.specs.declared.Said.{Said}
use Rattle.program.specs.App.{Turn, open_turn, no_words, no_record, is_last, Says}
use Rattle.program.proofs.Feeding.{open-by}
use Rattle.program_run.specs.Run.{Alike}
use Rattle.program_run.proofs.Readying.{alike-opened}

pub begun-alike : (L : List ℕ) (s : Said) (buffer Q : List ℕ) → Says (open_turn L no_record) s buffer Q → is_last s.next ≡ false → Alike L Q Q
begun-alike L s buffer Q says l = go (eqb p.refusal 0) refl
  where
    p : Opening
    p = open_flow L no_record no_words

    go : (b : Bool) → eqb p.refusal 0 ≡ b → Alike L Q Q
    go true e =
        let so = opens (open_rules L no_record no_words) (open_pairs L) (opened L) no_record no_words
        (sym (opening-refusal (open_rules L no_record no_words) (open_pairs L) (opened L) no_record no_words) ∙ eqb-true p.refusal 0 e) in
        alike-opened L Q (says.saved ∙ ap (λ (t : Turn). t.saved) (open-by L no_record true e) ∙ ap (λ (o : Opening). o.saved) so)
    go false e = absurd (true≢false (sym (says.last ∙ ap (λ (t : Turn). t.last) (open-by L no_record false e)) ∙ l))
