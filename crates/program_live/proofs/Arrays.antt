-- What follows of a run on arrays from what holds of it. Assumes nothing.
use Rattle.std.proofs.Common.{ℕ, List}
use Rattle.program_live.specs.Live.{OnArrays}
use Rattle.program_live.specs.declared.Ends.{Ends}
use Rattle.program_live.specs.declared.Ends.TheVariants.{Files, Arrays}

pub on-all : (e : Ends) (S : List ℕ → List ℕ → Type 0) → ((i a : List ℕ) → S i a) → OnArrays e S
on-all (Files r) S f = tt
on-all (Arrays i a) S f = f i.now a.now

pub on_one : (e : Ends) (P S : List ℕ → List ℕ → Type 0) → OnArrays e P → ((i a : List ℕ) → P i a → S i a) → OnArrays e S
on_one (Files r) P S p f = tt
on_one (Arrays i a) P S p f = f i.now a.now p

pub on_two : (e : Ends) (P Q S : List ℕ → List ℕ → Type 0) → OnArrays e P → OnArrays e Q → ((i a : List ℕ) → P i a → Q i a → S i a) → OnArrays e S
on_two (Files r) P Q S p q f = tt
on_two (Arrays i a) P Q S p q f = f i.now a.now p q

pub on_three : (e : Ends) (P Q R S : List ℕ → List ℕ → Type 0) → OnArrays e P → OnArrays e Q → OnArrays e R
    → ((i a : List ℕ) → P i a → Q i a → R i a → S i a) → OnArrays e S
on_three (Files r) P Q R S p q t f = tt
on_three (Arrays i a) P Q R S p q t f = f i.now a.now p q t
