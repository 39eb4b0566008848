use Rattle.std.proofs.Common.{◌≡◌, ℕ, ◌+◌, ◌<◌, List, ◌∷◌, length, get_or, drop, refl, arith, add-one, drop-cons}
use Rattle.picky_asn1_der.proofs.PartLemmas.{no_next, nowhere, goes_down, found_here}
use Rattle.picky_asn1_der.proofs.parts.part_range.Goals as goal

from_here : (path : List ℕ) (i : ℕ) → i < length path → drop i path ≡ get_or path i 0 ∷ drop (i + 1) path
from_here path i h = rw (add-one, drop-cons path i 0) refl

pub returns-in_default-clause-part : goal.returns-in_default-clause-part
returns-in_default-clause-part c =
    let l = c.loop-index in
    no_next c.args.encoding.now c.args.path.now l.index-index l.start l.part.now l.invariant _
    (from_here c.args.path.now l.index-index (omega arith)) c.in_default.ensures.found

pub returns-in_default-clause-none : goal.returns-in_default-clause-none
returns-in_default-clause-none c =
    let l = c.loop-index in
    nowhere c.args.encoding.now c.args.path.now l.index-index l.start l.part.now l.invariant _
    (from_here c.args.path.now l.index-index (omega arith)) c.in_default.ensures.found

pub loop-index-preserved : goal.loop-index-preserved
loop-index-preserved c =
    let l = c.loop-index in
    goes_down c.args.encoding.now c.args.path.now l.index-index l.start l.part.now l.invariant _
    (from_here c.args.path.now l.index-index (omega arith))
    c.in-Some.before c.in-Some.member.now c.in-Some.ensures.found c.in-Some.ensures.piece c.in-Some.ensures.is

pub returns-clause-found : goal.returns-clause-found
returns-clause-found c =
    let l = c.loop-index in
    found_here c.args.encoding.now c.args.path.now l.index-index l.start l.part.now l.invariant (omega arith)
