-- A list of calls, carried out one after another: what the loop has at its end.
use Rattle.std.proofs.Common.{◌≡◌, [], ◌∷◌, List, refl}
use Rattle.calls.specs.Answering.{Answer}
use Rattle.promise.specs.Carrying.{written_over}

-- with no place left, no answer is written
pub no_room : (told : List Answer) → written_over told [] ≡ []
no_room [] = refl
no_room (a ∷ told) = refl
