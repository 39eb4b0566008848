-- Members that an extension added, read and refused.
use Rattle.std.proofs.Common.{◌≡◌, ◌<◌, ℕ, Option, Some, None, inl, inr, sym, subst, arith}
use Rattle.picky_der_core.specs.declared.error.Asn1DerError.{Asn1DerError}
use Rattle.picky_der_core.specs.Tree.{Trees}
use Rattle.picky_der_core.specs.Encoding.{encodings}
use Rattle.picky_der_core.specs.Readable.{AreReadable}
use Rattle.picky_der_core.specs.Shape.{Shape, Shapes, Layout, AllOrNone, IsEmpty, AreMembersOf, AreMembersDistinct}
use Rattle.picky_der_de.specs.State.{State}
use Rattle.picky_der_de.specs.Steps.{Fails, IsJudged}
use Rattle.picky_der_de.specs.Order.{AreInOrder}
use Rattle.picky_der_de.specs.LookAhead.{Identifies}
use Rattle.picky_der_de.specs.Members.{HasNoMore, members_encoding, AreUpToEnd}
use Rattle.picky_der_de.specs.Layouts.{begins_otherwise, ReadsLayout, RefusesLayout}
use Rattle.picky_der_de.proofs.LayoutReads.{as_look, layout_none, Skips, skips}
use Rattle.picky_der_de.proofs.MemberReads.{none_left}
use Rattle.picky_der_de.proofs.OtherReads.{look_read, look_refused}
use Rattle.picky_asn1_der.specs.AddedLaws.{added_members}

empty_left : {b d : State} {e : Asn1DerError} (ts : Trees) → 0 < b.until_end → IsEmpty ts
    → AreUpToEnd b d e (members_encoding ts) → ⊥
empty_left Trees.none ahead p w = none_left ahead w
empty_left (Trees.more t ts) ahead p w = absurd p

-- any byte begins none of no alternatives
seen : {b c : State} {tag : ℕ} → b.implicit_tag ≡ None → Identifies b c tag → Skips (Shape.choice Shapes.none) b c
seen {tag = tag} whole i = skips whole (begins_otherwise tag i (λ h. cc))

-- nothing more was there
pub added_none : (l : Layout) {b c : State} → b.implicit_tag ≡ None → HasNoMore b c
    → ReadsLayout (Layout.added l) b c Trees.none
added_none l {b} {c} whole h =
    let n : ReadsLayout Layout.empty b b Trees.none = layout_none whole in
    let here : ReadsLayout (Layout.added l) b b Trees.none = record {
      are = inr tt;
      readable = n.readable;
      order = n.order;
      passes = n.passes;
      implicit_tag = n.implicit_tag;
      fails = n.fails;
      full = λ distinct last e f left us are readable w. absurd (omega (arith, left, h.reached));
    } in
    subst (λ x. ReadsLayout (Layout.added l) b x Trees.none) (sym h.same) here

-- they were read after a look
pub added_read : (l : Layout) {b c d : State} {tag : ℕ} {ts : Trees} → b.implicit_tag ≡ None → Identifies b c tag
    → ReadsLayout l c d ts → ReadsLayout (Layout.added l) b d ts
added_read l {b} {c} {d} {tag} {ts} whole i read =
    let n : ReadsLayout l b d ts = look_read (seen whole i) read in
    record {
      are = inl n.are;
      readable = n.readable;
      order = n.order;
      passes = n.passes;
      implicit_tag = n.implicit_tag;
      fails = n.fails;
      full = λ distinct last e f left us are readable w. full n distinct last e f left us are readable w;
    }
  where
    full : ReadsLayout l b d ts → AreMembersDistinct l → (last : State) (e : Asn1DerError) → Fails d last e
        → 0 < d.until_end → (us : Trees) → AllOrNone (AreMembersOf l) us → AreReadable us
        → AreUpToEnd b last e (members_encoding us) → ⊥
    full n distinct last e f left us (inl are) readable w = n.full distinct last e f left us are readable w
    full n distinct last e f left us (inr are) readable w = empty_left us (as_look whole i).ahead are w

-- members that are the parts of values were refused
pub parts_refused : {P V : Type 0} {members : P → Trees} {l : Layout} (parts : V → P) {b d : State} {e : Asn1DerError}
    → RefusesLayout members l b d e → RefusesLayout (λ v. members (parts v)) l b d e
parts_refused parts h = record {
  rest = record { fails = h.rest.fails; none = λ j v p readable order w. h.rest.none j (parts v) p readable order w };
}

-- they were refused after a look
pub added_refused : {P V : Type 0} (members : P → Trees) (l : Layout) (item : V → Option P) {b c d : State} {tag : ℕ}
    {e : Asn1DerError} → b.implicit_tag ≡ None → Identifies b c tag → RefusesLayout members l c d e
    → RefusesLayout (λ v. added_members members (item v)) (Layout.added l) b d e
added_refused {P} {V} members l item {b} {c} {d} {tag} {e} whole i refuses =
    let n : RefusesLayout members l b d e = look_refused (seen whole i) refuses in
    record {
      rest = record {
        fails = n.rest.fails;
        none = λ j v p readable order w. by_item n j (item v) p.0 p.1 readable order w;
      };
    }
  where
    by_item : RefusesLayout members l b d e → IsJudged b d e → (o : Option P) → AreMembersDistinct l
        → AllOrNone (AreMembersOf l) (added_members members o) → AreReadable (added_members members o)
        → AreInOrder b.last (encodings (added_members members o))
        → AreUpToEnd b d e (members_encoding (added_members members o)) → ⊥
    by_item n j None distinct are readable order w = none_left (as_look whole i).ahead w
    by_item n j (Some p) distinct (inl are) readable order w = n.rest.none j p (distinct, are) readable order w
    by_item n j (Some p) distinct (inr are) readable order w =
        empty_left (members p) (as_look whole i).ahead are w
