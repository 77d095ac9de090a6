-- The worked examples hold of the definitions: one table, one statement. Assumes nothing.
use Rattle.numbers.specs.Number.{num, digits, before, compare}
use Rattle.sets.specs.Set.{holds, join, within, insert, size, members, read_at}
use Rattle.rules.specs.Scan.{some, every, gather}
use Rattle.rules.specs.Rules.{verdict}
use Rattle.list.specs.List.{good_record, bad_length, bad_record, no_start}
use Rattle.list.specs.Automaton.{start, step, accepted, named_by}
use Rattle.feed.specs.Engine.{run, costs, due, pairs_at, told, consumed, ended, feed}
use Rattle.feed.specs.Opening.{opening}
use Rattle.feed.specs.Calls.{all_told, all_bytes}
use Rattle.list_flow.specs.Flow.{flow_bytes, bad_flow}
use Rattle.list_flow.specs.Opening.{open_pairs}
use Rattle.machine.specs.Program.{without, bits_by, counters_by, alerts_by, after, alerted}
use Rattle.machine.specs.Machine.{bad_lengths, good_instruction, bad_machine}
use Rattle.machine.specs.Record.{fours, four_bytes, config_at}
use Rattle.machine.specs.Record as ext
use Rattle.machine.specs.Extended as mach
use Rattle.machine_laws.specs.Examples.{Agree}
use Rattle.machine_laws.proofs.Examples.{agree-sound, agree-append}
use Rattle.machine_certificate.specs.Certificate as cert
use Rattle.machine_certificate.specs.Certificate.{note_config, note_set, good_note, same_config, noted, all_once, good_opening, good_step, good_steps, good_notes, bad_certificate}
use Rattle.machine_certificate_laws.specs.Examples.{told_rows, accepted_rows, missing_rows, field_rows, alert_rows, order_rows, examples}

pub told-rows : Agree told_rows
unfolding num digits holds join within insert read_at before compare size members some every gather verdict good_record bad_length bad_record no_start start step accepted named_by run costs due pairs_at told consumed ended feed opening all_told all_bytes open_pairs flow_bytes bad_flow without bits_by counters_by alerts_by after alerted bad_lengths good_instruction bad_machine fours four_bytes config_at ext.flow_bytes ext.bad_flow mach.open_pairs note_config note_set good_note same_config noted all_once good_opening good_step good_steps good_notes cert.bad_length bad_certificate told_rows
told-rows = agree-sound told_rows tt

accepted-rows : Agree accepted_rows
unfolding num digits holds join insert read_at before compare some every gather verdict good_record bad_length bad_record no_start start step accepted without bits_by counters_by alerts_by after alerted bad_lengths good_instruction bad_machine fours config_at note_config note_set good_note same_config noted all_once good_opening good_step good_steps good_notes cert.bad_length bad_certificate accepted_rows
accepted-rows = agree-sound accepted_rows tt

missing-rows : Agree missing_rows
unfolding num digits holds join insert read_at before compare some every gather verdict good_record bad_length bad_record no_start start step accepted without bits_by counters_by alerts_by after alerted bad_lengths good_instruction bad_machine fours config_at note_config note_set good_note same_config noted all_once good_opening good_step good_steps good_notes cert.bad_length bad_certificate missing_rows
missing-rows = agree-sound missing_rows tt

field-rows : Agree field_rows
unfolding num digits holds join insert read_at before compare some every gather verdict good_record bad_length bad_record no_start start step accepted without bits_by counters_by alerts_by after alerted bad_lengths good_instruction bad_machine fours config_at note_config note_set good_note same_config noted all_once good_opening good_step good_steps good_notes cert.bad_length bad_certificate field_rows
field-rows = agree-sound field_rows tt

alert-rows : Agree alert_rows
unfolding num digits holds join insert read_at before compare some every gather verdict good_record bad_length bad_record no_start start step accepted without bits_by counters_by alerts_by after alerted bad_lengths good_instruction bad_machine fours config_at note_config note_set good_note same_config noted all_once good_opening good_step good_steps good_notes cert.bad_length bad_certificate alert_rows
alert-rows = agree-sound alert_rows tt

order-rows : Agree order_rows
unfolding num digits holds join insert read_at before compare some every gather verdict good_record bad_length bad_record no_start start step accepted without bits_by counters_by alerts_by after alerted bad_lengths good_instruction bad_machine fours config_at note_config note_set good_note same_config noted all_once good_opening good_step good_steps good_notes cert.bad_length bad_certificate order_rows
order-rows = agree-sound order_rows tt

pub examples-hold : Agree examples
unfolding examples
examples-hold =
    agree-append told_rows _ told-rows
    (agree-append accepted_rows _ accepted-rows (agree-append missing_rows _ missing-rows (agree-append field_rows _ field-rows (agree-append alert_rows _ alert-rows order-rows))))
