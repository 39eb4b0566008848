use Rattle.der_json.proofs.limits.is_hexadecimal.Given as goal

abbrev pub decreases-loop-node : goal.decreases-loop-node
decreases-loop-node l = l.index
