-- 21 in words: more states or records than a list may have, or a lent list that is too short.
use Prim.Native.Nat.{ℕ, ◌*◌, ◌≤◌, ◌<◌}
use mathlib.Core.Path.{◌≡◌}
use mathlib.Core.Bool.{true}
use mathlib.Core.Logic.{◌⊎◌, ◌↔◌}
use lib.ListN.{length}
use borrow.Author.Tests.{leb-true, le-leb}
use Rattle.sets.specs.Set.{states}
use Rattle.rules.proofs.Scanning.{either-words, over-words}
use Rattle.list.specs.List.{record_size, most_records}
use Rattle.text.specs.Exp.{eps, size}
use Rattle.text.specs.Grammar.{Text, exp}
use Rattle.text.specs.Records.{records_of, too_big}

pub big-said : (room : ℕ) (t : Text) (g : ℕ) → too_big room t g ≡ true
    ↔ (((states ≤ size (exp eps t.body)) ⊎ (most_records < length (records_of t g))) ⊎ (room < record_size * length (records_of t g)))
unfolding too_big
big-said room t g =
    either-words _ _ _ _
    (either-words _ _ _ _ (leb-true states (size (exp eps t.body)), le-leb states (size (exp eps t.body))) (over-words most_records (length (records_of t g))))
    (over-words room (record_size * length (records_of t g)))
