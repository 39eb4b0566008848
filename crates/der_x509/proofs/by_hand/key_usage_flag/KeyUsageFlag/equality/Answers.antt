use denote.Enum.Bare.{same_true, true_same}
use Rattle.der_x509.specs.contracts.by_hand.key_usage_flag.KeyUsageFlag.{the_type}
use Rattle.der_x509.proofs.by_hand.key_usage_flag.KeyUsageFlag.equality.Goals as goal

pub returns : goal.returns
returns c x y = (same_true the_type tt x y, true_same the_type x y)
