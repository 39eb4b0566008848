use Rattle.der_error_path.proofs.contents.+can_have.Given as goal

abbrev pub decreases-can_have : goal.decreases-can_have
decreases-can_have l = l.index
