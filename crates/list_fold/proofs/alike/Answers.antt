-- It compares what starts, then what leads there.
use Rattle.std.proofs.Common.{ℕ, ◌∙◌, [], ◌∷◌, ◌++◌, ap, take}
use Rattle.sets.specs.Set.{holds}
use Rattle.list_fold.proofs.Coding.{agree-beq, alike-when, alike-not}
use Rattle.list_fold.proofs.alike.Goals as goal

pub returns-then-a-b : goal.returns-then-a-b
returns-then-a-b c =
    let a = c.args in
    let m = take a.s a.leads.now ++ (a.r ∷ []) in
    c.same_past.ensures ∙ alike-when m a.list.now a.s a.r c.has-a.result c.has-b.result (c.has-a.ensures ∙ ap (λ (x : ℕ). holds x a.s) c.requires.0)
    (c.has-b.ensures ∙ ap (λ (x : ℕ). holds x a.r) c.requires.0) (agree-beq c.has-a.result c.has-b.result ∙ c.if-a-b.true)

pub returns-else-a-b : goal.returns-else-a-b
returns-else-a-b c =
    let a = c.args in
    let m = take a.s a.leads.now ++ (a.r ∷ []) in
    c.if-a-b.false ∙ alike-not m a.list.now a.s a.r c.has-a.result c.has-b.result (c.has-a.ensures ∙ ap (λ (x : ℕ). holds x a.s) c.requires.0)
    (c.has-b.ensures ∙ ap (λ (x : ℕ). holds x a.r) c.requires.0) (agree-beq c.has-a.result c.has-b.result ∙ c.if-a-b.false)
