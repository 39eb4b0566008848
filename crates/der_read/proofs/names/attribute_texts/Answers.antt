use Rattle.der_read.proofs.Lists.{zip_more}
use Rattle.der_read.proofs.names.attribute_texts.Goals as goal

pub loop-attribute-preserved : goal.loop-attribute-preserved
loop-attribute-preserved c =
    rw c.in_ok-push.ensures.items
    (zip_more _ c.args.attributes.now c.loop-attribute.texts.items c.loop-attribute.attribute-index
    c.attribute-item.result c.in_ok-text.text c.loop-attribute-test.true c.attribute-item.is
    c.loop-attribute.invariant
    c.in_ok-text.ensures)
