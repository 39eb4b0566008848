use Rattle.picky_asn1_der.proofs.ListContents.{der-list_tree, der-implicit_list}
use Rattle.picky_asn1_der.proofs.implicit_list.same_content.Goals as goal

pub returns-clause-own : goal.returns-clause-own
returns-clause-own g c value = der-list_tree (g.T.Serialize.meaning value) (g.met.T.List.is_list value)

pub returns-clause-other : goal.returns-clause-other
returns-clause-other g c value = der-implicit_list g.row.TAG (g.T.Serialize.meaning value) (g.met.T.List.is_list value)
