-- The call records of a rehearsal, each a code byte and its numbers, judged from left to right.
use Rattle.std.specs.Prelude.{◌≡◌, ℕ, zero, suc, List, [], ◌∷◌, Some, None, Ok, Err, Option, Result, slice_index}
use Rattle.rehearsal.specs.Codes.{code_in}
use Rattle.rehearsal.specs.declared.scripts.BadStep.{BadStep}
use Rattle.rehearsal.specs.declared.scripts.Code.{Code}
use Rattle.rehearsal.specs.declared.scripts.Code.TheVariants.{Admit as AdmitCode, Finish as FinishCode, Period as PeriodCode, Rate as RateCode, Turn as TurnCode, Wait as WaitCode, Wake as WakeCode}
use Rattle.rehearsal.specs.declared.scripts.Step.{Step}
use Rattle.rehearsal.specs.declared.scripts.Step.TheVariants.{Admit, Turn, Change as StepChange}
use Rattle.rehearsal.specs.declared.scripts.StepFault.{StepFault}
use Rattle.rehearsal.specs.declared.scripts.StepFault.TheVariants.{InField, UnknownCode}
use Rattle.rules.specs.declared.changes.Change.{Change}
use Rattle.rules.specs.declared.changes.Change.TheVariants.{Finish, Period, Rate, Wait, Wake}
use Rattle.sheet.specs.Readings.{Left, Reader, Reading, and_then, broken, done, entry, part_at, reading_from}
use Rattle.sheet.specs.Records.{field_in, told}
use Rattle.sheet.specs.declared.records.RecordFault.{RecordFault}

-- so many numbers, and the offset just past them
abbrev pub numbers_in : ℕ → Left → Result (List ℕ × ℕ) RecordFault
numbers_in zero left = Ok ([], left.place)
numbers_in (suc more) left =
    and_then (field_in left) (λ first.
    and_then (numbers_in more first.1) (λ later.
    Ok (first.0.value ∷ later.0, later.1)))

-- a change that has no number of its own
abbrev pub change_in : Change → Left → Result (Step × ℕ) RecordFault
change_in change left = and_then (numbers_in 1 left) (λ read. Ok (StepChange (slice_index read.0 0) change, read.1))

-- admit: number, rate and period; rate and period: number and value; wait, wake and finish: number; turn: count
abbrev pub step_in : Code → Left → Result (Step × ℕ) RecordFault
step_in AdmitCode left =
    and_then (numbers_in 3 left) (λ read.
    Ok (Admit (record { number = slice_index read.0 0; rate = slice_index read.0 1; period = slice_index read.0 2 }), read.1))
step_in RateCode left = and_then (numbers_in 2 left) (λ read. Ok (StepChange (slice_index read.0 0) (Rate (slice_index read.0 1)), read.1))
step_in PeriodCode left = and_then (numbers_in 2 left) (λ read. Ok (StepChange (slice_index read.0 0) (Period (slice_index read.0 1)), read.1))
step_in WaitCode left = change_in Wait left
step_in WakeCode left = change_in Wake left
step_in FinishCode left = change_in Finish left
step_in TurnCode left = and_then (numbers_in 1 left) (λ read. Ok (Turn (slice_index read.0 0), read.1))

-- the code that a call's record opens with
abbrev pub code_of : Step → Code
code_of (Admit asked) = AdmitCode
code_of (StepChange number (Rate value)) = RateCode
code_of (StepChange number (Period value)) = PeriodCode
code_of (StepChange number Wait) = WaitCode
code_of (StepChange number Wake) = WakeCode
code_of (StepChange number Finish) = FinishCode
code_of (Turn count) = TurnCode

-- the number that a fault is reported by
abbrev pub number_of : StepFault → ℕ
number_of UnknownCode = 3
number_of (InField fault) = (told fault).number

abbrev pub in_field : {A : Type 0} → Result A RecordFault → Result A StepFault
in_field (Ok a) = Ok a
in_field (Err fault) = Err (InField fault)

-- the code byte is judged before the numbers
abbrev pub record_in : ℕ → Left → Result (Step × ℕ) StepFault
record_in byte left = and_then (code_in byte) (λ code. in_field (step_in code left))

-- a fault in a record ends the run under the record's code byte
abbrev pub blamed : {A : Type 0} → ℕ → Result A StepFault → Result A BadStep
blamed byte (Ok a) = Ok a
blamed byte (Err why) = Err (record { code = byte; why = why })

abbrev pub call_in : ℕ → Left → ℕ → Result (Step × ℕ) BadStep
call_in byte left place = blamed byte (record_in byte left)

-- the call record at an offset of the input, or none at its end
abbrev pub step_at : Reader Step BadStep
step_at = part_at call_in

-- the calls of a rehearsal, up to the end or to the first bad record
abbrev pub Script : Type 0
Script = Reading Step BadStep

abbrev pub script_from : List ℕ → ℕ → Script
script_from input place = reading_from step_at input place

-- what the calls give one by one: the next call, or a bad record, which is the last
abbrev pub Gives : Script → Option (Result Step BadStep) → Script → Type 0
Gives done given later = given ≡ None
Gives (broken bad) given later = (given ≡ Some (Err bad)) × (later ≡ done)
Gives (entry step rest) given later = (given ≡ Some (Ok step)) × (later ≡ rest)
