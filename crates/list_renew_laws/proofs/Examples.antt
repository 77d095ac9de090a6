-- The renewals by number hold of the definitions, by computing. Assumes nothing.
use lib.Dec.{T}
use Rattle.laws_examples.specs.Examples.{Agree}
use Rattle.laws_examples.proofs.Examples.{agree, agree-sound, agree-append, steps, feeds}
use Rattle.list_renew.specs.Renewal.{renewal, offset_said}
use Rattle.list_renew_laws.specs.Renewed.{raised}
use Rattle.list_renew_laws.specs.Examples.{flow_rows, single_rows, renewal_examples}

flows-hold : T (agree flow_rows)
unfolding steps feeds renewal raised
flows-hold = tt

singles-hold : T (agree single_rows)
unfolding steps feeds renewal offset_said
singles-hold = tt

pub renewal-examples-hold : Agree renewal_examples
renewal-examples-hold = agree-append flow_rows single_rows (agree-sound flow_rows flows-hold) (agree-sound single_rows singles-hold)
