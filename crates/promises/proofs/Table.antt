-- Every row of the table of examples holds of the written rules: one claim, computed. Assumes nothing.
use lib.Dec.{T}
use Rattle.refusal.specs.Answer.{and_then}
use Rattle.lines.specs.Bytes.{begins, exactly}
use Rattle.lines.specs.Lines.{pieces, line_end, end_named, body_of, ended_by, lines_at, blank, is_end, opens}
use Rattle.months.specs.Months.{leap, month_length, next_month, after_january, days_in, start_of, month_from, month_of}
use Rattle.calendar.specs.Calendar.{is_issue_month, is_time, minute_in, is_month, minute_of, date_of}
use Rattle.calendar.specs.Purge.{months_around, minutes_with, first_of, purge_in, purge_of}
use Rattle.codes.specs.Elements.{elements_at, elements_of_lines, numbers, time, short, said}
use Rattle.codes.specs.Block.{insert, insert_run, read_from, read_block, covered_before, twice_from, twice_at, content_at}
use Rattle.codes.specs.Written.{join, runs_of, spans_of, element_of, elements_of, purge_element, block_elements, wrap_from, in_order, rendered, written}
use Rattle.blocks.specs.Block.{same_list}
use Rattle.writing.specs.Write.{written_block}
use Rattle.codes.specs.Places.{ascends, is_set}
use Rattle.lines.specs.Check.{bad_byte, long_line, last_ends, unended, least, text_fault, check_text}
use Rattle.heading.specs.Heading.{is_heading, heading_of, is_identifier}
use Rattle.heading.specs.Storm.{is_office, names_storm, basin_of, class_of, storm_of}
use Rattle.segments.specs.Search.{from_first, up_to_first}
use Rattle.bulletin.specs.Mnd.{storm_in}
use Rattle.reading.specs.Placed.{placed_at}
use Rattle.segments.specs.Segments.{past_purge, segments_from}
use Rattle.bulletin.specs.Starts.{first_lines, segments_of}
use Rattle.bulletin.specs.Bulletin.{is_length, read_bulletin}
use Rattle.laws.specs.Lists.{every}
use Rattle.promises.specs.Examples.{holds, table}

pub examples : T (every holds table)
unfolding every same_list begins exactly pieces line_end end_named body_of ended_by lines_at leap month_length next_month after_january days_in start_of is_time minute_in is_month minute_of month_from month_of date_of months_around minutes_with first_of purge_in purge_of elements_at elements_of_lines numbers time short said insert insert_run read_from read_block covered_before twice_from twice_at content_at placed_at past_purge join runs_of spans_of element_of elements_of purge_element block_elements wrap_from in_order rendered written ascends is_set written_block blank is_end opens bad_byte long_line last_ends unended least text_fault check_text is_issue_month and_then is_heading heading_of is_identifier is_office names_storm basin_of class_of storm_of from_first up_to_first storm_in segments_from first_lines segments_of is_length read_bulletin
examples = tt
