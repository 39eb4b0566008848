use Rattle.der_types.proofs.subidentifiers.+push_marked.Given as goal

abbrev pub decreases-push_marked : goal.decreases-push_marked
decreases-push_marked l = l.number
