-- The number of each refusal, and the numbers that an answer stands for.
use Rattle.std.specs.Prelude.{ℕ, Result, Ok, Err}
use Rattle.rows.specs.declared.fault.Fault.{Fault}
use Rattle.rows.specs.declared.fault.Fault.TheVariants.{TooLong, NoRoom, Reserved, Cut, BadTime, Outside, Stray, BadHeader, BadPacket, ClockReset, BadRow, BadList, BadPicture}
use Rattle.rows.specs.declared.fault.ReadError.{ReadError}
use Rattle.rows.specs.declared.fault.ReadingNumbers.{ReadingNumbers}
use Rattle.rows.specs.declared.fault.WriteError.{WriteError}
use Rattle.rows.specs.declared.fault.WritingNumbers.{WritingNumbers}

-- 01, "Refusal numbers": the table. 02, R-9: 7 was a slave camera's bit; the number is not used again
abbrev pub number_of : Fault → ℕ
number_of TooLong = 1
number_of NoRoom = 2
number_of Reserved = 3
number_of Cut = 4
number_of BadTime = 5
number_of Outside = 6
number_of Stray = 8
number_of BadHeader = 9
number_of BadPacket = 10
number_of ClockReset = 11
number_of BadRow = 12
number_of BadList = 13
number_of BadPicture = 14

-- 01, "Refusal numbers": a reader's refusal gives number, finished rows and place; refusal 0 stands for none
abbrev pub reading_numbers : Result ℕ ReadError → ReadingNumbers
reading_numbers (Ok n) = record { refusal = 0; rows = n; place = 0 }
reading_numbers (Err e) = record { refusal = number_of e.fault; rows = e.rows; place = e.place }

-- 01, "Refusal numbers" and "Spelling": a writer answers the number of words, or a refusal's number and the row's index
abbrev pub writing_numbers : Result ℕ WriteError → WritingNumbers
writing_numbers (Ok n) = record { refusal = 0; count = n }
writing_numbers (Err e) = record { refusal = number_of e.fault; count = e.row }
