use Rattle.der_error_path.proofs.inside.+inside.Given as goal

abbrev pub decreases-inside : goal.decreases-inside
decreases-inside l = l.index
