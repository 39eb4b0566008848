-- What contracts see of a reader that shows its progress.
use Rattle.std.specs.Prelude.{Option}
use Rattle.der_program_base.specs.declared.progress.Progress.{Progress}

-- the reader of the bytes
abbrev pub input_of : {R W : Type 0} → Progress R W → R
input_of progress = progress.input

-- where its progress is shown, if it is
abbrev pub screen_of : {R W : Type 0} → Progress R W → Option W
screen_of progress = progress.screen
