-- The check of a certificate, and what an accepted one promises: both openings answer alike, and from there the feeds of the list and the feed of the
-- machine tell the same pairs, however the bytes are cut. And which lists have one: every set that can be reached is the set of a record.
use Rattle.std.specs.Prelude.{ℕ, ◌≤◌, ◌<◌, List, ◌++◌, ◌↔◌, ◌≡◌, length}
use Rattle.rules.specs.Rules.{Refuses}
use Rattle.list.specs.List.{list_refusal}
use Rattle.feed.specs.Calls.{Bytes, Asked, asked, record_after, all_told, all_bytes, Along, Pieces}
use Rattle.feed.specs.Opening.{Opening}
use Rattle.list_flow.specs.Opening.{open_flow}
use Rattle.list_feed.specs.Plain.{plain_feed}
use Rattle.feed.specs.Demands.{open_told, Answered}
use Rattle.laws.specs.Calls as list
use Rattle.laws.specs.Demands.{Due, Swaps}
use Rattle.machine.specs.Machine.{machine_refusal}
use Rattle.machine.specs.Extended.{extended_open, extended_feed}
use Rattle.machine_laws.specs.Calls.{way_of}
use Rattle.machine_laws.specs.Demands.{By}
use Rattle.table_build.specs.Build.{Reach, Many}
use Rattle.machine_certificate.specs.Certificate.{notes, note_set, certificate_rules, certificate_refusal}
use Rattle.machine_certificate.specs.Words.{Certified}

-- ==== Demand 1 of the check: each refusal has a number and is given exactly when the rules say: 1 to 3 of the list, 24 of the machine, and 22
-- ==== exactly where the certificate does not show all that `Certified` says in words. It lends for reading alone, so no buffer changes.

pub record Demand1 : Type 0 where
  pub checks : (L M P Z : List ℕ) → Refuses (certificate_rules L M P Z) (certificate_refusal L M P Z)
  pub said-0 : (L M P Z : List ℕ) → certificate_refusal L M P Z ≡ 0 ↔ ((list_refusal L ≡ 0) × (machine_refusal M P ≡ 0) × Certified L M P Z)
  pub said-22 : (L M P Z : List ℕ) → certificate_refusal L M P Z ≡ 22 ↔ ((list_refusal L ≡ 0) × (machine_refusal M P ≡ 0) × (Certified L M P Z → ⊥))
  -- the list's refusal before all others, and then the machine's
  pub said-list : (L M P Z : List ℕ) → (list_refusal L ≡ 0 → ⊥) → certificate_refusal L M P Z ≡ list_refusal L
  pub said-machine : (L M P Z : List ℕ) → list_refusal L ≡ 0 → (machine_refusal M P ≡ 0 → ⊥) → certificate_refusal L M P Z ≡ machine_refusal M P

-- ==== The law of an accepted certificate: from opening, both feeds tell the same pairs, however the bytes are cut.

-- ---- a flow: an opening that is not refused, on any record and words, and any calls after it, of each of which P holds at the record that it meets

pub record Flow {A : Type 0} (ask : A → Asked (List ℕ)) (begins : List ℕ → List ℕ → Opening) (P : List ℕ → A → Type 0) : Type 0 where
  pub flow : List ℕ
  pub out : List ℕ
  pub opens : (begins flow out).refusal ≡ 0
  pub calls : List A
  pub in_bytes : Pieces ask calls
  pub by : Along ask P (begins flow out).saved calls

-- all bytes that it consumed, all words that it told, those of the opening first, and the record that it left
abbrev pub eaten_by : {A : Type 0} {ask : A → Asked (List ℕ)} {begins : List ℕ → List ℕ → Opening} {P : List ℕ → A → Type 0} → Flow ask begins P → List ℕ
eaten_by {A} {ask} {begins} {P} f = all_bytes ask (begins f.flow f.out).saved f.calls

abbrev pub told_by : {A : Type 0} {ask : A → Asked (List ℕ)} {begins : List ℕ → List ℕ → Opening} {P : List ℕ → A → Type 0} → Flow ask begins P → List ℕ
told_by {A} {ask} {begins} {P} f = let o = begins f.flow f.out in open_told o ++ all_told ask o.saved f.calls

abbrev pub left_by : {A : Type 0} {ask : A → Asked (List ℕ)} {begins : List ℕ → List ℕ → Opening} {P : List ℕ → A → Type 0} → Flow ask begins P → List ℕ
left_by {A} {ask} {begins} {P} f = record_after ask (begins f.flow f.out).saved f.calls

-- of the list: each call is the plain feed on L, a split feed through a table that the check accepts at its bound, the matrix feed by the matrix that the
-- filler writes, or the prepared feed by an index that is right for L; one that is refused may hold anything
abbrev pub ListFlow : List ℕ → Type 0
ListFlow L = Flow (asked list.way_of) (open_flow L) (Swaps L)

-- of the machine: each call is the feed by M and P; one that is refused may hold anything
abbrev pub MachineFlow : List ℕ → List ℕ → Type 0
MachineFlow M P = Flow (asked way_of) (extended_open M P) (By M P)

-- ---- both

-- xs is a front of ys
abbrev pub Front : List ℕ → List ℕ → Type 0
Front xs ys = (rest : List ℕ) × (xs ++ rest ≡ ys)

pub record Alike (L M P : List ℕ) : Type 0 where
  -- with the same words lent, and each a record of its right length, or neither, both openings answer alike: the same refusal, 15 too, the same
  -- pairs of offset 0, and the same words left
  pub opens : (R Q out : List ℕ) → (length R ≡ 144) ↔ (length Q ≡ 80)
      → let p = extended_open M P Q out in open_flow L R out ≡ record { refusal = p.refusal; pairs = p.pairs; words = p.words; saved = (open_flow L R out).saved }
  -- where both consumed the same bytes, both told the same words: the same pairs in the same order, those of offset 0 included,
  -- whatever the pieces, the rooms, the pauses and the refusals between
  pub told : (f : ListFlow L) (g : MachineFlow M P) → eaten_by f ≡ eaten_by g → told_by f ≡ told_by g
  -- where one consumed a front of what the other did, it told a front of what the other told
  pub ahead : (f : ListFlow L) (g : MachineFlow M P) → Front (eaten_by f) (eaten_by g) → Front (told_by f) (told_by g)
  pub behind : (f : ListFlow L) (g : MachineFlow M P) → Front (eaten_by g) (eaten_by f) → Front (told_by g) (told_by f)
  -- what the machine told is what demand 2 says of the list: (g, k) exactly when the flow has come to offset k, from 0 on, and a state of the
  -- list's frontier there accepts g; by offset and then signature, each once
  pub due : (g : MachineFlow M P) → Due L (eaten_by g) (told_by g)
  -- and whatever comes next, the plain feed and the machine's feed answer it alike, each on the record that its flow left: the same refusal, the same
  -- bytes consumed, the same pairs, and the same words left
  pub next : (f : ListFlow L) (g : MachineFlow M P) → eaten_by f ≡ eaten_by g → (at : ℕ) (piece out : List ℕ) → Bytes piece
      → Answered (plain_feed L (left_by f) at piece out) (extended_feed M P (left_by g) at piece out)

-- for every list, machine and certificate that the check accepts
abbrev pub CertifiedAlike : Type 0
CertifiedAlike = (L M P Z : List ℕ) → Bytes M → Bytes P → certificate_refusal L M P Z ≡ 0 → Alike L M P

-- ==== Which lists have a certificate: at most 4,096 sets can be reached, since each is the set of some record.

-- every set that can be reached is the set of a record; so n that differ are no more than the records, which are at most 4,096
pub record Covered (L Z : List ℕ) : Type 0 where
  pub reached : (S : ℕ) → Reach L S → (i : ℕ) × (i < notes Z) × (note_set Z i ≡ S)
  pub few : (n : ℕ) → Many L n → (n ≤ notes Z) × (notes Z ≤ 4096)

abbrev pub CertifiedCovers : Type 0
CertifiedCovers = (L M P Z : List ℕ) → certificate_refusal L M P Z ≡ 0 → Covered L Z

-- where more can be reached, no machine is shown to be the list: every certificate of every one is refused with 22
abbrev pub NoneCertified : Type 0
NoneCertified = (L : List ℕ) → Many L 4097 → list_refusal L ≡ 0 → (M P Z : List ℕ) → machine_refusal M P ≡ 0 → certificate_refusal L M P Z ≡ 22
