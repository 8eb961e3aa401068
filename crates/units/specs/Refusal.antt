-- The numbers that document 01's table gives its refusals.
use Rattle.std.specs.Prelude.{ℕ}
use Rattle.units.specs.declared.refusal.Refusal.{Refusal}
use Rattle.units.specs.declared.refusal.Refusal.TheVariants.{NoTransaction, NoKey, DeskFull, TransactionFull, ClockSpent, LogFull, NoVersion, KeyWritten, NoSuchBoundOrPlace, NotAMessage, OrdinalAhead, HistoryTooLong, NotARecord, TooManyLines, WrongTransaction, TooManyTransactions, NoRoom, NothingWritten}

abbrev pub number_of : Refusal → ℕ
number_of NoTransaction = 1
number_of NoKey = 2
number_of DeskFull = 3
number_of TransactionFull = 4
number_of ClockSpent = 5
number_of LogFull = 6
number_of NoVersion = 7
number_of KeyWritten = 8
number_of NoSuchBoundOrPlace = 9
number_of NotAMessage = 10
number_of OrdinalAhead = 11
number_of HistoryTooLong = 12
number_of NotARecord = 13
number_of TooManyLines = 14
number_of WrongTransaction = 15
number_of TooManyTransactions = 16
number_of NoRoom = 17
number_of NothingWritten = 18
