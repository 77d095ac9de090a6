-- The worked texts, by computation.
use lib.Dec.{T}
use Rattle.numbers.specs.Number.{before}
use Rattle.rules.specs.Scan.{some}
use Rattle.text.specs.Exp.{times, size, null, letter, first, last, follows, edge, accepts}
use Rattle.text.specs.Grammar.{spell, spell_member, spell_members, spell_leaf, spell_mark, reads, amid, is_digit, is_hex, hex_value, value, ok_single, ok_member, ok_members, ok_leaf, all_digits, number_from, ok_number, ok_mark, ok_body, member_has, members_have, leaf_has, marked, exp}
use Rattle.text.specs.Acceptor.{can, close, items, members, digit, mode, step, run, resting, good, is_dead, deep, verdict}
use Rattle.text.specs.Records.{runs, edge_records, each, edges_from, edges_to, accepts_of, all_records, insert, sort_into, flat, list_of, too_big}
use Rattle.text.specs.Examples.{same, all_good, good_rows, limits, all_placed, placed_rows}

lists : T (all_good good_rows)
unfolding all_good good_rows same times size null letter first last follows edge accepts spell spell_member spell_members spell_leaf spell_mark reads amid is_digit is_hex hex_value value ok_single ok_member ok_members ok_leaf all_digits number_from ok_number ok_mark ok_body member_has members_have leaf_has marked exp runs edge_records each edges_from edges_to accepts_of all_records before insert sort_into flat list_of
lists = tt

at-limits : T limits
unfolding limits same times size null letter first last follows edge accepts number_from member_has members_have leaf_has value marked exp runs edge_records each edges_from edges_to accepts_of all_records too_big
at-limits = tt

places : T (all_placed placed_rows)
unfolding all_placed placed_rows amid is_digit is_hex hex_value some can close items members digit mode step run resting good is_dead deep verdict
places = tt

-- every row agrees
pub examples : T (all_good good_rows) × T limits × T (all_placed placed_rows)
examples = (lists, at-limits, places)
