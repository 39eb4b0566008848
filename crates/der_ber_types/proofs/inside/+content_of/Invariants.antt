use Rattle.der_ber_types.proofs.inside.+content_of.Given as goal

abbrev pub decreases-content_of : goal.decreases-content_of
decreases-content_of l = l.index
