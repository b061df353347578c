-- The answers to a list of calls, in the places that are lent for them.
use Rattle.std.specs.Prelude.{List, [], ◌∷◌}
use Rattle.calls.specs.Answering.{Answer}

-- as many answers as there are places; a place without an answer keeps what it had
abbrev pub written_over : List Answer → List Answer → List Answer
written_over [] places = places
written_over (answer ∷ answers) [] = []
written_over (answer ∷ answers) (place ∷ places) = answer ∷ written_over answers places
