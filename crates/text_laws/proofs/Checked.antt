-- The list of an expression passes the list check.
use Prim.Native.Nat.{ℕ, zero, suc, ◌+◌, ◌*◌, ◌%◌, ◌≤◌, ◌<◌}
use mathlib.Core.Path.{◌≡◌, refl, sym, ap, ◌∙◌}
use mathlib.Core.Bool.{Bool, true, false, true≢false}
use mathlib.Core.List.{List, []}
use mathlib.Core.Logic.{◌⊎◌, inl, inr}
use native.Mathlib.Omega.{arith}
use lib.ListN.{length, get_or}
use borrow.Author.Tests.{eq-eqb}
use Rattle.sets.specs.Set.{states}
use Rattle.rules.proofs.Rules.{skip, last}
use Rattle.list.specs.List.{record_size, most_records, records, byte_of, is_start, good_record, bad_length, bad_record, no_start, list_refusal}
use Rattle.list.specs.Words.{Edge-bytes, Start-bytes, Accept-bytes}
use Rattle.list.proofs.Listed.{bad-length, bad-record, no-start, record-exactly}
use Rattle.text.specs.Exp.{Exp, size}
use Rattle.text.specs.Records.{edge_record, start_record, accept_record}
use Rattle.text_laws.proofs.Found.{flat-length, flat-records}
use Rattle.text_laws.proofs.Ran.{all-longest}
use Rattle.text_laws.proofs.Members.{One, start-mem}
use Rattle.text_laws.proofs.Automaton.{sorted, the_list, two_bytes, sorted-long, at_one, byte-of, stands}
use Rattle.text.specs.Exp as ex

not_so : (b : Bool) → (b ≡ true → ⊥) → b ≡ false
not_so true f = absurd (f refl)
not_so false f = refl

module _ (free : Bool) (e : Exp) (g : ℕ) (few : size e < states) (small : g < 256) where
  first : (i : ℕ) (r : List ℕ) → i < records (the_list free e g) → get_or (sorted free e g) i [] ≡ r → get_or (the_list free e g) (8 * i) 0 ≡ get_or r 0 0
  first i r l q = ap (λ z. get_or (the_list free e g) z 0) here ∙ byte-of free e g i 0 r l (omega arith) q
    where
      here : 8 * i ≡ 8 * i + 0
      here = omega arith

  good-at : (i : ℕ) → i < records (the_list free e g) → good_record (the_list free e g) i ≡ true
  good-at i l = (record-exactly (the_list free e g) i).1 (go (at_one free e g i l))
    where
      go : One free e g (get_or (sorted free e g) i []) → (Edge-bytes (the_list free e g) i ⊎ Start-bytes (the_list free e g) i) ⊎ Accept-bytes (the_list free e g) i
      go (inl a) =
          let r = edge_record a.range.0 a.range.1 a.source a.target in
          let u = all-longest (ex.edge free e a.source a.target) a.range a.run in
          let b : (k : ℕ) → k < 8 → get_or (the_list free e g) (8 * i + k) 0 ≡ get_or r k 0 = λ k h. byte-of free e g i k r l h a.is in
          inl (inl (record {
            kind = first i r l a.is;
            order = omega (arith, b 1 (omega arith), b 2 (omega arith), u.ordered);
            flag = inl (b 3 (omega arith));
            state = omega (arith, b 4 (omega arith), b 5 (omega arith), two_bytes a.source (omega (arith, a.source_in)), a.source_in);
            next = omega (arith, b 6 (omega arith), b 7 (omega arith), two_bytes a.target (omega (arith, a.target-in)), a.target-in);
          }))
      go (inr (inl z)) =
          let b : (k : ℕ) → k < 8 → get_or (the_list free e g) (8 * i + k) 0 ≡ get_or start_record k 0 = λ k h. byte-of free e g i k start_record l h z in
          inl (inr (record { kind = first i start_record l z; reserved = λ k m n. b k (omega arith) ∙ zeros k m n; state = omega (arith, b 6 (omega arith), b 7 (omega arith)) }))
        where
          zeros : (k : ℕ) → 1 ≤ k → k ≤ 5 → get_or start_record k 0 ≡ 0
          zeros zero m n = absurd (omega arith)
          zeros (suc zero) m n = refl
          zeros (suc (suc zero)) m n = refl
          zeros (suc (suc (suc zero))) m n = refl
          zeros (suc (suc (suc (suc zero)))) m n = refl
          zeros (suc (suc (suc (suc (suc zero))))) m n = refl
          zeros (suc (suc (suc (suc (suc (suc k)))))) m n = absurd (omega arith)
      go (inr (inr a)) =
          let r = accept_record a.state g in
          let b : (k : ℕ) → k < 8 → get_or (the_list free e g) (8 * i + k) 0 ≡ get_or r k 0 = λ k h. byte-of free e g i k r l h a.is in
          inr (record {
            kind = first i r l a.is;
            reserved = λ k m n. b k (omega arith) ∙ zeros k m n;
            state = omega (arith, b 4 (omega arith), b 5 (omega arith), two_bytes a.state (omega (arith, a.state-in)), a.state-in);
            signature = omega (arith, b 6 (omega arith), b 7 (omega arith));
          })
        where
          zeros : (k : ℕ) → 1 ≤ k → k ≤ 3 → get_or (accept_record a.state g) k 0 ≡ 0
          zeros zero m n = absurd (omega arith)
          zeros (suc zero) m n = refl
          zeros (suc (suc zero)) m n = refl
          zeros (suc (suc (suc zero))) m n = refl
          zeros (suc (suc (suc (suc k)))) m n = absurd (omega arith)

  starts : (i : ℕ) × (i < records (the_list free e g)) × (is_start (the_list free e g) i ≡ true)
  starts =
      let (i, l, w) = stands free e g start_record (start-mem free e g) in
      (i, l, eq-eqb (byte_of (the_list free e g) i 0) 2 (byte-of free e g i 0 start_record l (omega arith) w))

  -- the length of at most so many records
  pub passes : length (sorted free e g) ≤ most_records → list_refusal (the_list free e g) ≡ 0
  passes h =
      skip 1 _ (not_so (bad_length (the_list free e g)) (λ b. length-good ((bad-length (the_list free e g)).0 b)))
      ∙ skip 2 _ (not_so (bad_record (the_list free e g)) (λ b. let w = (bad-record (the_list free e g)).0 b in true≢false (sym (good-at w.0 w.1) ∙ w.2)))
      ∙ last 3 (not_so (no_start (the_list free e g)) (λ b. let s = starts in true≢false (sym s.2 ∙ (no-start (the_list free e g)).0 b s.0 s.1)))
    where
      n : length (the_list free e g) ≡ 8 * length (sorted free e g)
      n = flat-length (sorted free e g) (sorted-long free e g)

      m : records (the_list free e g) ≡ length (sorted free e g)
      m = flat-records (sorted free e g) (sorted-long free e g)

      length-good : ((length (the_list free e g) ≡ 0) ⊎ (record_size * most_records < length (the_list free e g))) ⊎ (length (the_list free e g) % record_size ≡ 0 → ⊥) → ⊥
      length-good (inl (inl z)) = let s = starts in omega (arith, n, m, s.1, z)
      length-good (inl (inr z)) = omega (arith, n, h, z)
      length-good (inr z) = z (omega (arith, n))
