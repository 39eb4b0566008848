-- Elements after elements.
use Rattle.std.proofs.Common.{◌≡◌, ℕ, ◌≤◌, List, ◌++◌, refl, sym, ap, subst, ◌∙◌, arith}
use Rattle.std.proofs.Common.{append_assoc}
use Rattle.picky_der_core.specs.Element.{tlv}
use Rattle.der_ber.specs.Nodes.{Nodes, encoding, depth}
use Rattle.der_ber.specs.LongLengths.{BeginsConstructed, HasLongLengths}
use Rattle.der_ber.proofs.Firsts.{definite_more, indefinite_then}

abbrev pub join : Nodes → Nodes → Nodes
join Nodes.none b = b
join (Nodes.primitive tag c a) b = Nodes.primitive tag c (join a b)
join (Nodes.constructed tag i a) b = Nodes.constructed tag i (join a b)

pub join_none : (a : Nodes) → join a Nodes.none ≡ a
join_none Nodes.none = refl
join_none (Nodes.primitive tag c a) = ap (Nodes.primitive tag c) (join_none a)
join_none (Nodes.constructed tag i a) = ap (Nodes.constructed tag i) (join_none a)

pub encoding-join : (a b : Nodes) → encoding (join a b) ≡ encoding a ++ encoding b
unfolding encoding
encoding-join Nodes.none b = refl
encoding-join (Nodes.primitive tag c a) b =
    ap (λ l. tlv tag c ++ l) (encoding-join a b) ∙ sym (append_assoc (tlv tag c) (encoding a) (encoding b))
encoding-join (Nodes.constructed tag i a) b =
    ap (λ l. tlv tag (encoding i) ++ l) (encoding-join a b)
    ∙ sym (append_assoc (tlv tag (encoding i)) (encoding a) (encoding b))

pub depth-join : (room : ℕ) (a b : Nodes) → depth a ≤ room → depth b ≤ room → depth (join a b) ≤ room
depth-join room Nodes.none b h k = k
depth-join room (Nodes.primitive tag c a) b h k = depth-join room a b h k
depth-join room (Nodes.constructed tag i a) b h k =
    let others = depth-join room a b (omega arith) k in
    omega arith

pub depth-join_second : (a b : Nodes) → depth b ≤ depth (join a b)
depth-join_second Nodes.none b = omega arith
depth-join_second (Nodes.primitive tag c a) b = depth-join_second a b
depth-join_second (Nodes.constructed tag i a) b =
    let others = depth-join_second a b in
    omega arith

-- the bytes of both
pub joined : (a b : Nodes) (s t : List ℕ) → HasLongLengths a s → HasLongLengths b t → HasLongLengths (join a b) (s ++ t)
joined Nodes.none b s t h k = subst (λ l. HasLongLengths b (l ++ t)) (sym h) k
joined (Nodes.primitive tag c a) b s t h k = record {
  is_tag = h.is_tag;
  after = h.after ++ t;
  definite = definite_more tag c s h.after t h.definite;
  others = joined a b h.after t h.others k;
}
joined (Nodes.constructed tag i a) b s t (BeginsConstructed.definite c after is_tag d inside others) k =
    BeginsConstructed.definite c (after ++ t) is_tag (definite_more tag c s after t d) inside
    (joined a b after t others k)
joined (Nodes.constructed tag i a) b s t (BeginsConstructed.indefinite c after is_tag e inside others) k =
    BeginsConstructed.indefinite c (after ++ t) is_tag (indefinite_then tag c s after t e) inside
    (joined a b after t others k)
