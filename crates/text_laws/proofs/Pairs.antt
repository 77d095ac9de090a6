-- What the list of a text that is not too big tells, in the words of the text's language.
use Prim.Native.Nat.{ℕ, ◌*◌, ◌≤◌, ◌<◌}
use mathlib.Core.Path.{◌≡◌, refl, sym, ap, subst, ◌∙◌}
use mathlib.Core.Bool.{Bool, true, false, not, ◌||◌, cond}
use mathlib.Core.List.{List, [], ◌++◌}
use mathlib.Core.Logic.{◌↔◌}
use native.Mathlib.Omega.{arith}
use lib.Dec.{leb, ltb}
use lib.ListN.{length, take}
use borrow.Author.Tests.{leb-false, ltb-false}
use Rattle.sets.specs.Set.{states, holds}
use Rattle.rules.proofs.Scanning.{neither}
use Rattle.list.specs.List.{record_size, most_records, list_refusal}
use Rattle.list.specs.Automaton.{start, accepted}
use Rattle.feed.specs.Engine.{run}
use Rattle.feed.specs.Calls.{Bytes}
use Rattle.feed.specs.Pairs.{Pair}
use Rattle.feed.proofs.Runs.{bytes_take}
use Rattle.list_feed.specs.Plain.{plain, pairs_of}
use Rattle.laws.proofs.Due.{due-said, due_all}
use Rattle.text.specs.Exp.{eps, size, In}
use Rattle.text.specs.Grammar.{Text, ok_body, exp}
use Rattle.text.specs.Records.{records_of, list_of, too_big}
use Rattle.text.specs.Exp as ex
use Rattle.text.proofs.Runs.{leads-due, due-leads}
use Rattle.text.proofs.Meaning.{means-in, in-means}
use Rattle.text_laws.specs.Language.{Word, EndsIn, RecordsRise}
use Rattle.text_laws.proofs.Automaton.{the_list, leads-from, leads-to}
use Rattle.text_laws.proofs.Checked.{passes}
use Rattle.text_laws.proofs.Rise.{list-rises, sort-length}

-- what is not too big
not-big : (room : ℕ) (x : Text) (g : ℕ) → too_big room x g ≡ false → (size (exp eps x.body) < states) × (length (records_of x g) ≤ most_records)
unfolding too_big
not-big room x g h =
    let a = neither (leb states (size (exp eps x.body)) || ltb most_records (length (records_of x g))) (ltb room (record_size * length (records_of x g))) h in
    let b = neither (leb states (size (exp eps x.body))) (ltb most_records (length (records_of x g))) a.0 in
    (leb-false states (size (exp eps x.body)) b.0, ltb-false most_records (length (records_of x g)) b.1)

-- ---- the language of the expression is that of the text

module _ (x : Text) (ok : ok_body x.body ≡ true) where
  word_in : (w : List ℕ) → Word x w → In (exp eps x.body) w
  word_in w m = means-in x.body (λ u. u ≡ []) eps (λ v z. z) w m

  in-word : (w : List ℕ) → In (exp eps x.body) w → Word x w
  in-word w m = in-means x.body (λ u. u ≡ []) eps ok (λ v z. z) w m

  due-ends : (w : List ℕ) → ex.Due (not x.bound) (exp eps x.body) w → EndsIn x w
  due-ends w = go x.bound
    where
      go : (b : Bool) → ex.Due (not b) (exp eps x.body) w → cond b (Word x w) ((u : List ℕ) × (v : List ℕ) × (w ≡ u ++ v) × Word x v)
      go true d = in-word w d
      go false (u, v, q, a, d) = (u, v, q, in-word v d)

  ends-due : (w : List ℕ) → EndsIn x w → ex.Due (not x.bound) (exp eps x.body) w
  ends-due w = go x.bound
    where
      go : (b : Bool) → cond b (Word x w) ((u : List ℕ) × (v : List ℕ) × (w ≡ u ++ v) × Word x v) → ex.Due (not b) (exp eps x.body) w
      go true d = word_in w d
      go false (u, v, q, d) = (u, v, q, tt, word_in v d)

module _ (x : Text) (g room : ℕ) (ok : ok_body x.body ≡ true) (small : g < 256) (fits : too_big room x g ≡ false) where
  is-list : list_of x g ≡ the_list (not x.bound) (exp eps x.body) g
  unfolding list_of
  is-list = refl

  -- the records rise as byte strings, so that none stands twice
  pub compiled-rises : RecordsRise (list_of x g)
  compiled-rises = subst RecordsRise (sym is-list) (list-rises (not x.bound) (exp eps x.body) g (not-big room x g fits).0)

  -- it passes 1 to 3
  pub compiled-passes : list_refusal (list_of x g) ≡ 0
  compiled-passes =
      ap list_refusal is-list
      ∙ passes (not x.bound) (exp eps x.body) g (not-big room x g fits).0 small
      (let n = sort-length (records_of x g) [] in omega (arith, n, (not-big room x g fits).1))

  -- a frontier after some bytes accepts h exactly when h is the signature and they end in a word of the language
  pub compiled-accepts : (w : List ℕ) → Bytes w → (h : ℕ) → holds (accepted (list_of x g) (run (plain (list_of x g)) (start (list_of x g)) w)) h ≡ true ↔ ((h ≡ g) × EndsIn x w)
  compiled-accepts w b h = rw is-list (there, back)
    where
      few : size (exp eps x.body) < states
      few = (not-big room x g fits).0

      there : holds (accepted (the_list (not x.bound) (exp eps x.body) g) (run (plain (the_list (not x.bound) (exp eps x.body) g)) (start (the_list (not x.bound) (exp eps x.body) g)) w)) h ≡ true → (h ≡ g) × EndsIn x w
      there y =
          let (q, l) = leads-from (not x.bound) (exp eps x.body) g few small w h y in
          (q, due-ends x ok w (leads-due (not x.bound) (exp eps x.body) w l))

      back : (h ≡ g) × EndsIn x w → holds (accepted (the_list (not x.bound) (exp eps x.body) g) (run (plain (the_list (not x.bound) (exp eps x.body) g)) (start (the_list (not x.bound) (exp eps x.body) g)) w)) h ≡ true
      back (q, d) =
          subst (λ z. holds (accepted (the_list (not x.bound) (exp eps x.body) g) (run (plain (the_list (not x.bound) (exp eps x.body) g)) (start (the_list (not x.bound) (exp eps x.body) g)) w)) z ≡ true) (sym q)
          (leads-to (not x.bound) (exp eps x.body) g few small w b (due-leads (not x.bound) (exp eps x.body) w (ends-due x ok w d)))

  -- the pairs of a flow that has consumed bs, from its opening on, are exactly (g, k) where the first k bytes end in a word of the language
  pub compiled-pairs : (bs : List ℕ) → Bytes bs → (h k : ℕ) → Pair (pairs_of (list_of x g) bs) h k ↔ ((k ≤ length bs) × (h ≡ g) × EndsIn x (take k bs))
  compiled-pairs bs b h k =
      let d = due-said (list_of x g) bs (pairs_of (list_of x g) bs) (due_all (list_of x g) bs _ refl) h k in
      let a = compiled-accepts (take k bs) (bytes_take k bs b) h in (
        λ p. let w = d.0 p in let v = a.0 w.1 in (w.0, v.0, v.1),
        λ w. d.1 (w.0, a.1 (w.1, w.2)),
      )
