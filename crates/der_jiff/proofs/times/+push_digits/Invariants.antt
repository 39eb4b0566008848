use Rattle.der_jiff.proofs.times.+push_digits.Given as goal

-- each call is for one place less
abbrev pub decreases-push_digits : goal.decreases-push_digits
decreases-push_digits l = l.places
