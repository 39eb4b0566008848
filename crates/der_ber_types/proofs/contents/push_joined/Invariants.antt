use Rattle.std.proofs.Common.{length}
use Rattle.der_ber_types.specs.Pushed.{IsAppended}
use Rattle.der_ber_types.proofs.Refusals.{SomeParts}
use Rattle.der_ber_types.proofs.Writing.{CompletesParts}
use Rattle.der_ber_types.proofs.contents.push_joined.Given as goal

-- what is made of the rest completes it
abbrev pub invariant-loop-rest : goal.invariant-loop-rest
invariant-loop-rest l = record {
  so_far : IsAppended (CompletesParts l.fn.bytes l.rest) l.fn.der.items l.der.items;
  left : SomeParts l.fn.bytes → SomeParts l.rest;
}

abbrev pub decreases-loop-rest : goal.decreases-loop-rest
decreases-loop-rest l = length l.rest
