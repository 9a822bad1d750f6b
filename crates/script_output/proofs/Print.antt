-- Every sample prints what it says, by computation.
use mathlib.Core.Path.{refl}
use Rattle.ids.specs.Order.{before}
use Rattle.ids.specs.Requests.{same as equal}
use Rattle.rows.specs.Queue.{timestamp_in, insert, without}
use Rattle.server_votes.specs.Figure1.{enqueue, promote, delete, inform, act, receive, suspect, check}
use Rattle.client_responses.specs.Figure1.{enough, to_all, tries, exits, next, heard, reply, round, judge, upon_response, upon_check}
use Rattle.quorum.specs.Check.{in_range_up_to}
use Rattle.system.specs.Numbered.{added}
use Rattle.system.specs.Transit.{numbered, pending, replaced}
use Rattle.system.specs.Places.{down_from, worst}
use Rattle.system.specs.Events.{deliver, event, with_places}
use Rattle.system.specs.Runs.{after, start, run_by, accepted_events, most_holders}
use Rattle.script_numbers.specs.Decimals.{digit_up_to, digits_up_to, number_up_to, last_digits, decimal}
use Rattle.script_lines.specs.Words.{same, word, rest, spaced}
use Rattle.script_lines.specs.Lines.{command_in, event_of, event_in, four_in, setting_in}
use Rattle.script_lines.specs.Printed.{header_line, ok_line, no_line, end_line, refused_line}
use Rattle.script_output.specs.Output.{lines_of, answer_line, answers, events_in, end_of, played, printed_for, output}
use Rattle.script_output.specs.Samples.{lines, All, samples, example, two_holders, yield_round, redelivery, ownerless_answer, lost_release, fallen_owner, epochs, refusals, empty, first_line_empty, first_line_unknown, first_line_short, first_line_zero_led, first_line_past32_bits, first_line_of40_bytes, first_line_of41_bytes, servers0, servers32, threshold0, threshold_above_n, faults_above_n, clients0, clients17, no_last_newline, empty_last_line, stalling_setting}

pub samples_print : All samples
unfolding before equal timestamp_in insert enqueue without promote delete inform act receive suspect check enough to_all tries exits next
    heard reply round judge upon_response upon_check in_range_up_to added numbered pending replaced down_from worst deliver event with_places after start
    run_by accepted_events most_holders digit_up_to digits_up_to number_up_to last_digits decimal same word rest spaced command_in event_of event_in
    four_in setting_in header_line ok_line no_line end_line refused_line lines_of answer_line answers events_in end_of played printed_for output lines
    samples example two_holders yield_round redelivery ownerless_answer lost_release fallen_owner epochs refusals empty first_line_empty
    first_line_unknown first_line_short first_line_zero_led first_line_past32_bits first_line_of40_bytes first_line_of41_bytes servers0 servers32 threshold0
    threshold_above_n faults_above_n clients0 clients17 no_last_newline empty_last_line stalling_setting
samples_print = (refl, (refl, (refl, (refl, (refl, (refl, (refl, (refl, (refl, (refl, (refl, (refl, (refl, (refl, (refl, (refl, (refl, (refl, (refl, (refl, (refl, (refl, (refl, (refl, (refl, (refl, (refl, tt)))))))))))))))))))))))))))
