-- The faults of a sheet, each with its number, its layer and its place.
use Rattle.std.specs.Prelude.{ℕ}
use Rattle.controller.specs.declared.faults.SheetFault.{SheetFault}
use Rattle.controller.specs.declared.faults.SheetFault.TheVariants.{InRecord, InTable}
use Rattle.rules.specs.Refusals.{code}
use Rattle.rules.specs.declared.refusals.Refusal.{Refusal}
use Rattle.rules.specs.declared.refusals.Refusal.TheVariants.{NoSuchTask, NumberTaken, NotReady, NotWaiting, RateOutOfRange, PeriodOutOfRange, JobTooSmall, RatesExceeded, AheadOfRate, BehindRate, TooFewTicks, CountTooHigh, ClockAtEnd}
use Rattle.sheet.specs.Records.{TaskValue}
use Rattle.sheet.specs.Records.{told as told_record}
use Rattle.sheet.specs.declared.records.Told.{Told}

-- layer 1 is a number, 2 a record, 3 the table of tasks
abbrev pub told : SheetFault → Told
told (InRecord fault) = told_record fault
told (InTable why place) = record { number = code why; layer = 3; place = place }

-- the field that a refusal speaks of: the rate, the period, or else the number
abbrev pub place_of : Refusal → TaskValue → ℕ
place_of RateOutOfRange t = t.rate.place
place_of RatesExceeded t = t.rate.place
place_of PeriodOutOfRange t = t.period.place
place_of JobTooSmall t = t.period.place
place_of NoSuchTask t = t.number.place
place_of NumberTaken t = t.number.place
place_of NotReady t = t.number.place
place_of NotWaiting t = t.number.place
place_of AheadOfRate t = t.number.place
place_of BehindRate t = t.number.place
place_of TooFewTicks t = t.number.place
place_of CountTooHigh t = t.number.place
place_of ClockAtEnd t = t.number.place
