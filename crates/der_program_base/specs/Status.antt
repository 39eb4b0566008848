-- Statuses of a run.
use Rattle.std.specs.Prelude.{ℕ, nat_lt, if◌then◌else◌}
use Rattle.der_program_base.specs.declared.status.Status.{Status}
use Rattle.der_program_base.specs.declared.status.Status.TheVariants.{Fine, NothingCompared, Refused, Trouble}

-- the number with which the program ends
abbrev pub code_of : Status → ℕ
code_of Fine = 0
code_of Refused = 1
code_of Trouble = 2
code_of NothingCompared = 3

-- a greater rank is a worse status
abbrev pub rank_of : Status → ℕ
rank_of Fine = 0
rank_of NothingCompared = 1
rank_of Refused = 2
rank_of Trouble = 3

abbrev pub worse_of : Status → Status → Status
worse_of one other = if nat_lt (rank_of one) (rank_of other) then other else one
