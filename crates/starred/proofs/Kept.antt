-- The statement of specs/Cases.antt, proved by computing each case's meaning.
use mathlib.Core.Path.{refl}
use lib.Ieee.{of_bits, of_int, div}
use Rattle.rows.specs.Row.{timed, time_of, row_from, rows_from, rows_of}
use Rattle.words.specs.Picture.{in_picture, admission_of}
use Rattle.words.specs.Words.{cut_by, words_of, bytes_of}
use Rattle.words.specs.Writer.{writing_verdict}
use Rattle.rows.specs.Rules.{good_as, good_row, judged_of, verdict_from, good_length, verdict_of}
use Rattle.rows.specs.Rules as rules
use Rattle.events.specs.Readings.{acceleration_of, rotation_of}
use Rattle.events.specs.Event.{counts_event, event_as, event_of}
use Rattle.header.specs.Header.{step_of, header_from, header_of}
use Rattle.header.specs.Lines.{is_line, line_end}
use Rattle.dat.specs.Reader.{after_type_and_size}
use Rattle.dat.specs.Words as dat
use Rattle.aedat.specs.Events as aedat_events
use Rattle.aedat.specs.Lines as aedat_lines
use Rattle.aedat.specs.Packets as aedat_packets
use Rattle.aedat.specs.Reader as aedat_reader
use Rattle.evt2.specs.Words as evt2
use Rattle.evt3.specs.Spelling.{writable, high_words, time_words, marks, choose, column_words, goes_on, groups_of, group_as, told_as, words_from}
use Rattle.evt3.specs.State.{moved}
use Rattle.evt3.specs.Words as evt3
use Rattle.starred.specs.Cases.{StarCases}

pub star_cases_lem : StarCases
unfolding timed time_of of_bits of_int div event_as counts_event in_picture admission_of cut_by words_of bytes_of good_as good_row rules.kind_of acceleration_of rotation_of event_of evt2.kind_of evt2.kind_in evt2.time_at evt2.pixel_of evt2.goes_back evt2.trigger_of evt2.imu_begun evt2.counts_of evt2.inside_of evt2.step moved evt3.kind_of evt3.drop_to evt3.is_wrap evt3.wraps_at evt3.goes_back evt3.bad_high evt3.with_low evt3.pixels evt3.pixel_of evt3.columns evt3.vector_of evt3.step row_from rows_from rows_of judged_of verdict_from good_length verdict_of writing_verdict writable high_words time_words marks choose column_words goes_on groups_of group_as told_as words_from step_of header_from header_of is_line line_end after_type_and_size dat.event_of dat.step aedat_lines.text_step aedat_lines.step_of aedat_lines.lines_from aedat_lines.lines_of aedat_packets.header_of aedat_packets.use_of aedat_packets.judged_of aedat_packets.last_of aedat_packets.with_last aedat_packets.events_run aedat_packets.packet_of aedat_packets.packets aedat_events.row_of aedat_events.event_of aedat_events.last_after aedat_events.step aedat_reader.packets_from aedat_reader.reading_of
star_cases_lem = (refl, (refl, (refl, (refl, (refl, (refl, (refl, (refl, (refl, (refl, (refl, (refl, tt))))))))))))
