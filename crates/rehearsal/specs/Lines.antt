-- The bytes of a line: the clock after the call, its code byte, a word and its values, in decimal with single spaces.
use Rattle.std.specs.Prelude.{ℕ, List, ◌++◌, Ok, Err, Result, codes, decimal}
use Rattle.controller.specs.Faults.{told as told_sheet}
use Rattle.controller.specs.declared.states.Runs.TheVariants.{Idle, Task}
use Rattle.rehearsal.specs.Scripts.{number_of}
use Rattle.rehearsal.specs.declared.lines.Accepted.{Accepted}
use Rattle.rehearsal.specs.declared.lines.Accepted.TheVariants.{Call, Ran, Sheet}
use Rattle.rehearsal.specs.declared.lines.Numbers.{Numbers}
use Rattle.rehearsal.specs.declared.lines.Numbers.TheVariants.{One, Three}
use Rattle.rehearsal.specs.declared.lines.Refused.{Refused}
use Rattle.rehearsal.specs.declared.lines.Refused.TheVariants.{BadRecord, BadSheet, ByNumbers, ByRule}
use Rattle.rules.specs.Refusals.{code}
use Rattle.sheet.specs.declared.records.Told.{Told}

-- what comes of a call
abbrev pub Outcome : Type 0
Outcome = Result Accepted Refused

-- a sheet's count of tasks, and else 0; a turn's task, or 0 where it was idle
abbrev pub accepted_as : Accepted → List ℕ
accepted_as (Sheet tasks) = codes "ok " ++ decimal tasks
accepted_as Call = codes "ok 0"
accepted_as (Ran (Task number deadline)) = codes "run " ++ decimal number
accepted_as (Ran Idle) = codes "run 0"

-- a sheet's fault has its layer and its place behind its number
abbrev pub told_as : Told → List ℕ
told_as fault = codes "no " ++ (decimal fault.number ++ (codes " " ++ (decimal fault.layer ++ (codes " " ++ decimal fault.place))))

-- a sheet's fault has three numbers, every other refusal one
abbrev pub numbers_of : Refused → Numbers
numbers_of (BadSheet fault) = Three (told_sheet fault)
numbers_of (ByRule why) = One (code why)
numbers_of (BadRecord fault) = One (number_of fault)
numbers_of (ByNumbers numbers) = numbers

abbrev pub numbers_as : Numbers → List ℕ
numbers_as (One number) = codes "no " ++ decimal number
numbers_as (Three fault) = told_as fault

abbrev pub refused_as : Refused → List ℕ
refused_as refused = numbers_as (numbers_of refused)

-- each outcome's word and values
abbrev pub said : Outcome → List ℕ
said (Ok accepted) = accepted_as accepted
said (Err refused) = refused_as refused

abbrev pub line_of : ℕ → ℕ → Outcome → List ℕ
line_of clock code outcome = decimal clock ++ (codes " " ++ (decimal code ++ (codes " " ++ (said outcome ++ codes "\n"))))
