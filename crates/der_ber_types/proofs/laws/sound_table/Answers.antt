use Rattle.der_ber_types.proofs.SoundTables.{sound_table}
use Rattle.der_ber_types.proofs.laws.sound_table.Goals as goal

pub returns : goal.returns
returns c = sound_table
