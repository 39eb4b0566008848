use Rattle.der_jiff.proofs.times.+digits_value.Given as goal

-- each call is for one place less
abbrev pub decreases-digits_value : goal.decreases-digits_value
decreases-digits_value l = l.places
