-- What a tie order keeps, and the tie orders that are delivered, each as one test on two entries.
use Rattle.std.specs.Prelude.{◌==◌, nat_lt, nat_le, Bool, true, cond, not, ◌&&◌, ◌≡◌, ◌≢◌, ℕ, ◌-◌, ◌<◌, Some, None, Option}
use Rattle.order.specs.declared.entries.Entry.{Entry}

-- a task number is 1 to 64
abbrev pub in_range : ℕ → Bool
in_range number = nat_lt 0 number && nat_le number 64

-- the place of a task number's slot; none of a number that is no task number
abbrev pub slot_of : ℕ → Option ℕ
slot_of number = cond (in_range number) (Some (number - 1)) None

-- entries of different tasks
abbrev pub Apart : Entry → Entry → Type 0
Apart a b = a.number ≢ b.number

-- the laws of a tie order; `before a b` says that a is served before b. Nothing is said of two
-- entries with one number: a ready list never holds two of them
pub record Lawful (before : Entry → Entry → Bool) : Type 0 where
  -- of two entries exactly one comes first
  pub one : (a b : Entry) → Apart a b → before b a ≡ not (before a b)
  -- what comes before an entry comes before all that follow it
  pub chain : (a b c : Entry) → Apart a b → Apart b c → Apart a c → before a b ≡ true → before b c ≡ true → before a c ≡ true
  -- the earlier deadline comes first
  pub earlier : (a b : Entry) → Apart a b → a.deadline < b.deadline → before a b ≡ true

-- the earlier deadline first; of equal deadlines the lower number
abbrev pub by_number : Entry → Entry → Bool
by_number a b = cond (a.deadline == b.deadline) (nat_lt a.number b.number) (nat_lt a.deadline b.deadline)

-- the earlier deadline first; of equal deadlines the higher rate; of equal rates the lower number
abbrev pub by_rate : Entry → Entry → Bool
by_rate a b = cond (a.deadline == b.deadline) (cond (a.rate == b.rate) (nat_lt a.number b.number) (nat_lt b.rate a.rate)) (nat_lt a.deadline b.deadline)
