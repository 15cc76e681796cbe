use Rattle.nego_base.proofs.PrintedLaws.{scan_fault_printed, words_of_printed, count_lines_printed}
use Rattle.nego_base.proofs.laws.printed_texts_are_scanned.Goals as goal

pub returns-clause-sound : goal.returns-clause-sound
returns-clause-sound c = scan_fault_printed

pub returns-clause-words : goal.returns-clause-words
returns-clause-words c = words_of_printed

pub returns-clause-count : goal.returns-clause-count
returns-clause-count c = count_lines_printed
