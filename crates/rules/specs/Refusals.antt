-- The reasons for a refusal, each with its number.
use Rattle.std.specs.Prelude.{ℕ, Some, None, Ok, Err, Option, Result}
use Rattle.rules.specs.declared.refusals.Refusal.{Refusal}
use Rattle.rules.specs.declared.refusals.Refusal.TheVariants.{NoSuchTask, NumberTaken, NotReady, NotWaiting, RateOutOfRange, PeriodOutOfRange, JobTooSmall, RatesExceeded, AheadOfRate, BehindRate, TooFewTicks, CountTooHigh, ClockAtEnd}

abbrev pub code : Refusal → ℕ
code NoSuchTask = 5
code NumberTaken = 6
code NotReady = 7
code NotWaiting = 8
code RateOutOfRange = 9
code PeriodOutOfRange = 10
code JobTooSmall = 11
code RatesExceeded = 12
code AheadOfRate = 13
code BehindRate = 14
code TooFewTicks = 15
code CountTooHigh = 16
code ClockAtEnd = 17

-- a call's answer: what comes of it where nothing speaks against it, else the reason
abbrev pub unless : {A : Type 0} → Option Refusal → A → Result A Refusal
unless None a = Ok a
unless (Some why) a = Err why
