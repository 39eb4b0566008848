use Rattle.std.proofs.Common.{◌≡◌, None, refl, subst}
use Rattle.picky_der_de.specs.State.{State}
use Rattle.picky_der_de.specs.Ends.{OpensLazily}
use Rattle.picky_der_de.proofs.sequence.Sequence.deserialize_lazy.Goals as goal

same_last : (z : State) → z.last ≡ None → z ≡ record z { last = None }
same_last z none = subst (λ l. z ≡ record z { last = l }) none refl

pub returns-clause-opened : goal.returns-clause-opened
returns-clause-opened g c =
    let e = c.open_lazily-outer.ensures in
    subst (λ (z : State). OpensLazily c.args.len c.args.de.now z c.open_lazily-outer.result)
    (same_last c.open_lazily-outer.new.self e.last) e.opened
