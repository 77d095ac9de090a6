-- A letter stands for itself, and no mark follows it. Assumes nothing.
use Rattle.std.proofs.Common.{ℕ, List, refl, ◌≡◌, ◌<◌, ◌≤◌, ◌+◌, ◌∙◌, sym, ap, length, get_or, drop, true, false, arith}
use mathlib.Core.Bool.{true≢false}
use Rattle.text.specs.Grammar.{amid, special}
use Rattle.text.specs.Acceptor.{fresh, after, live, verdict}
use Rattle.text_parse.proofs.Steps.{none-of-three}
use Rattle.text_parse.proofs.Moves.{item-plain, mark-past, mark-none}
use Rattle.text_parse.proofs.is_lone.Goals as goal

-- what is none of some bytes is not one of them
not-one : (c k : ℕ) → amid c special ≡ false → amid k special ≡ true → c ≡ k → ⊥
not-one c k h g e = true≢false (sym g ∙ ap (λ (x : ℕ). amid x special) (sym e) ∙ h)

letter : (T : List ℕ) (d i : ℕ) → d ≤ 16 → i < length T → amid (get_or T i 0) special ≡ false → verdict (live d fresh) i (drop i T) ≡ verdict (live d after) (i + 1) (drop (i + 1) T)
unfolding amid
letter T d i l p h =
    let c = get_or T i 0 in
    item-plain T d i l p (not-one c 124 h refl) (not-one c 40 h refl) (not-one c 41 h refl) (not-one c 46 h refl) (not-one c 91 h refl) (not-one c 92 h refl) h

pub returns-then-at-text : goal.returns-then-at-text
returns-then-at-text c = λ e d l.
    let T = c.args.text.now in
    letter T d c.args.at l c.requires (sym c.is_special.ensures ∙ c.if-is_special.false) ∙ mark-past T d (c.args.at + 1) l (omega arith)

bare : (T : List ℕ) (d i : ℕ) → d ≤ 16 → i < length T → (get_or T i 0 ≡ 123 → ⊥) → (get_or T i 0 ≡ 42 → ⊥) → (get_or T i 0 ≡ 43 → ⊥) → (get_or T i 0 ≡ 63 → ⊥) → verdict (live d after) i (drop i T) ≡ verdict (live d fresh) i (drop i T)
bare T d i l p n123 n42 n43 n63 = mark-none T d i l p n123 (none-of-three (get_or T i 0) 42 43 63 n42 n43 n63)

pub returns-in_default : goal.returns-in_default
returns-in_default c = λ e d l.
    let T = c.args.text.now in
    letter T d c.args.at l c.requires (sym c.is_special.ensures ∙ c.if-is_special.false)
    ∙ bare T d (c.args.at + 1) l (omega arith) (λ z. omega arith) (λ z. omega arith) (λ z. omega arith) (λ z. omega arith)

pub returns-in_default-2 : goal.returns-in_default-2
returns-in_default-2 c = λ e d l.
    let T = c.args.text.now in
    letter T d c.args.at l c.requires (sym c.is_special.ensures ∙ c.if-is_special.false)
    ∙ bare T d (c.args.at + 1) l (omega arith) (λ z. omega arith) (λ z. omega arith) (λ z. omega arith) (λ z. omega arith)
