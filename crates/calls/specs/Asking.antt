-- A call by value: the sheet's bytes in place of where they lie.
use Rattle.std.specs.Prelude.{ℕ, List}
use Rattle.calls.specs.declared.exchanges.Call.{Call}
use Rattle.calls.specs.declared.exchanges.Call.TheVariants.{Admit, Begin, Change as ChangeCall, Make, Settle, Withdraw}
use Rattle.rules.specs.declared.admission.Reservation.{Reservation}
use Rattle.rules.specs.declared.changes.Change.{Change}

pub data Asked : Type 0 where
  make : List ℕ → Asked
  admit : Reservation → Asked
  change : ℕ → Change → Asked
  withdraw : ℕ → Asked
  begin : Asked
  settle : ℕ → Asked

abbrev pub asked_by : Call → Asked
asked_by (Make sheet) = make sheet.now
asked_by (Admit asked) = admit asked
asked_by (ChangeCall number how) = change number how
asked_by (Withdraw number) = withdraw number
asked_by Begin = begin
asked_by (Settle count) = settle count
