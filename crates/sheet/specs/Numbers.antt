-- How a number is written: groups of seven bits, the low group first. A byte of 128 or more says that another group follows.
use Rattle.std.specs.Prelude.{ℕ, zero, suc, ◌+◌, ◌-◌, ◌*◌, Bool, true, false, cond, not, ◌&&◌, List, [], ◌∷◌, Ok, Err, Result, ◌==◌, nat_lt}
use Rattle.sheet.specs.declared.numbers.Number.{Number}
use Rattle.sheet.specs.declared.numbers.NumberFault.{NumberFault}
use Rattle.sheet.specs.declared.numbers.NumberFault.TheVariants.{Cut, Malformed}

-- a group below the later ones, each of which counts 128 times as much
abbrev pub below : ℕ → Result Number NumberFault → Result Number NumberFault
below low (Ok later) = Ok (record { value = low + 128 * later.value; size = 1 + later.size })
below low (Err fault) = Err fault

-- a last group is not zero, unless it is the first too
abbrev pub last_group : Bool → ℕ → ℕ → Result Number NumberFault
last_group first b place = cond (b == 0 && not first) (Err (Malformed place)) (Ok (record { value = b; size = 1 }))

-- the groups from here on, of which there are at most `left`; a group past those is malformed, whether or not its byte is there
abbrev pub groups : ℕ → Bool → List ℕ → ℕ → Result Number NumberFault
groups zero first bytes place = Err (Malformed place)
groups (suc left) first [] place = Err (Cut place)
groups (suc left) first (b ∷ bytes) place = cond (nat_lt b 128) (last_group first b place) (below (b - 128) (groups left false bytes place))

-- the number that begins `bytes`, with `place` the offset of its first byte
unfoldable pub number_read : List ℕ → ℕ → Result Number NumberFault
number_read bytes place = groups 4 true bytes place
