-- `fill_alikes` goes through the bytes; those passed have one that steps like them. Assumes nothing.
use Rattle.std.proofs.Common.{◌≡◌, ℕ, ◌-◌, ◌<◌, ◌≤◌, length, get_or, refl, ◌∙◌, arith, length-set, rules}
use Rattle.list_alike.specs.inner.Alike.{byte_values, Alike}
use Rattle.list_alike.proofs.Alike.{alikes-more}
use Rattle.list_alike.proofs.fill_alikes.Statement.{statement}
use Rattle.list_alike.proofs.fill_alikes.Tie as tie

abbrev invariant-loop : tie.invariant-loop-c
invariant-loop list keys alikes₀ places₀ c₀ alikes places c = (c ≤ byte_values) × (length alikes ≡ length alikes₀) × (length places ≡ 257) × ((d : ℕ) → d < c → Alike list (get_or alikes d 0) d)

abbrev decreases-loop : tie.decreases-loop-c
decreases-loop list keys alikes₀ places₀ c₀ alikes places c = byte_values - c

add-edges-requires : tie.Need-add_edges-requires invariant-loop decreases-loop
add-edges-requires c κs = search rules

loop-holds : tie.Need-loop-c-init invariant-loop decreases-loop
loop-holds c = (search rules, refl, search rules, λ d h. absurd (omega arith))

slice-aggregate-alike-to : tie.Need-slice_bounds-alike_to-end invariant-loop decreases-loop
slice-aggregate-alike-to c = search rules

cast-alike-to : tie.Need-overflow_cast-c invariant-loop decreases-loop
cast-alike-to c = search rules

alike-to-requires : tie.Need-alike_to-requires invariant-loop decreases-loop
alike-to-requires c κs = search rules

slice-write-alikes : tie.Need-bounds-alikes-c invariant-loop decreases-loop
slice-write-alikes c = omega (arith, c.loop-c.invariant.1, c.requires)

add-c : tie.Need-overflow_step-c invariant-loop decreases-loop
add-c c = search rules

loop-less : tie.Need-loop-c-smaller invariant-loop decreases-loop
loop-less c = search rules

loop-again : tie.Need-loop-c-preserved invariant-loop decreases-loop
loop-again c =
    let l = c.loop-c in
    let s = c in
    let k = c.alike_to in (
      search rules,
      length-set l.alikes l.c k.result ∙ l.invariant.1,
      k.auto.places ∙ l.invariant.2,
      alikes-more s.args.list.now l.alikes l.c k.result (omega (arith, l.invariant.1, s.requires)) l.invariant.3 k.ensures,
    )

same_length : tie.Need-shape_of-keys invariant-loop decreases-loop
same_length c = c.add_edges.auto.keys

same-length-2 : tie.Need-shape_of-alikes invariant-loop decreases-loop
same-length-2 c = c.loop-c.invariant.1

returns : tie.Need-returns invariant-loop decreases-loop
returns c =
    let l = c.loop-c in
    let e : l.c ≡ byte_values = omega arith in
    λ d h. l.invariant.3 d (omega (arith, e, h))

pub fill_alikes_spec : {M : Type 1} → statement M
fill_alikes_spec =
    tie.close
    (tie.spec
    invariant-loop
    decreases-loop
    add-edges-requires
    loop-holds
    slice-aggregate-alike-to
    cast-alike-to
    alike-to-requires
    slice-write-alikes
    add-c
    loop-less
    loop-again
    same_length
    same-length-2
    returns)
