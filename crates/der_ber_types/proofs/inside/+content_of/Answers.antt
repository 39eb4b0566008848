use Rattle.std.proofs.Common.{sym}
use Rattle.der_ber_types.specs.Inside.{HasInside}
use Rattle.der_ber_types.proofs.inside.+content_of.Goals as goal

pub returns-in_ok-content_of-in-Some-same_content-clause-some :
    goal.returns-in_ok-content_of-in-Some-same_content-clause-some
returns-in_ok-content_of-in-Some-same_content-clause-some t c =
    HasInside.other c.args.index c.in-Some-same_content.inner c.in-Some.node c.inside_same.result _
    (sym c.in-Some.ensures) (sym c.in-Some-same_content.ensures) c.if-inner-index.true
    c.in_ok-content_of-in-Some-same_content.ensures.some c.inside_same.ensures

pub returns-in-None-clause-some : goal.returns-in-None-clause-some
returns-in-None-clause-some t c =
    HasInside.here c.args.index c.in-Some.node c.inside_here.result (sym c.in-Some.ensures) (sym c.in-None.ensures)
    c.inside_here.ensures
