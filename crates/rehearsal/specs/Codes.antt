-- The code bytes of the calls.
use Rattle.std.specs.Prelude.{ℕ, cond, Ok, Err, Result, ◌==◌}
use Rattle.rehearsal.specs.declared.scripts.Code.{Code}
use Rattle.rehearsal.specs.declared.scripts.Code.TheVariants.{Admit, Finish, Period, Rate, Turn, Wait, Wake}
use Rattle.rehearsal.specs.declared.scripts.StepFault.{StepFault}
use Rattle.rehearsal.specs.declared.scripts.StepFault.TheVariants.{UnknownCode}

abbrev pub byte_of : Code → ℕ
byte_of Admit = 1
byte_of Rate = 2
byte_of Period = 3
byte_of Wait = 4
byte_of Wake = 5
byte_of Finish = 6
byte_of Turn = 8

-- the call that a byte stands for
abbrev pub code_in : ℕ → Result Code StepFault
code_in byte =
    cond (byte == 1) (Ok Admit)
    (cond (byte == 2) (Ok Rate)
    (cond (byte == 3) (Ok Period)
    (cond (byte == 4) (Ok Wait)
    (cond (byte == 5) (Ok Wake)
    (cond (byte == 6) (Ok Finish)
    (cond (byte == 8) (Ok Turn)
    (Err UnknownCode)))))))
