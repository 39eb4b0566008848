-- Enumerations, and INTEGERs with a name for each number: their values are exactly the values with the numbers of their
-- items.
use Rattle.std.specs.Prelude.{◌≡◌, ℕ, ◌+◌, ◌*◌, ◌<◌, ◌==◌, ◌||◌, Bool, true, false, pos, List, [], ◌∷◌, map, IsTrue}
use Rattle.std.specs.Prelude.{nat_lt, refl}
use Rattle.std.proofs.Common.{sym, ap, ◌∙◌, eqb-true, ltb-true, arith}
use Rattle.picky_der_core.specs.Element.{AreBytes}
use Rattle.picky_der_core.specs.Integer.{integer_content, integer_value}
use Rattle.picky_der_core.specs.IntegerLaws.{content-value}
use Rattle.picky_der_core.specs.Readable.{IsReadable}
use Rattle.picky_der_core.specs.Shape.{contains}
use Rattle.picky_der_core.specs.Tree.{Tree}
use Rattle.der_types.specs.Denotes.{IsMade, IsShort, content_tree}
use Rattle.der_types.specs.Exact.{IsExact, Values, plain_values}
use Rattle.der_types.specs.Notation.{Notation}

-- an item with this number
module _ {V : Type 0} (number : V → ℕ) where
  this_or_later : (v : V) (n : ℕ) (later : List ℕ) → (IsTrue (contains later n) → (w : V) × (number w ≡ n)) → (b : Bool)
      → (n == number v) ≡ b → IsTrue (b || contains later n) → (w : V) × (number w ≡ n)
  this_or_later v n later rest true e c = (v, sym (eqb-true n (number v) e))
  this_or_later v n later rest false e c = rest c

  item_with : (items : List V) (n : ℕ) → IsTrue (contains (map number items) n) → (v : V) × (number v ≡ n)
  item_with [] n c = cc
  item_with (v ∷ vs) n c = this_or_later v n (map number vs) (item_with vs n) (n == number v) refl c

-- a number of one byte is that byte
pub one_byte : (n : ℕ) → nat_lt n 0x80 ≡ true → n ∷ [] ≡ integer_content (pos n)
one_byte n e =
    let low : n < 0x80 = ltb-true n 0x80 e in
    let zero : 0 * 256 + n ≡ n = omega arith in
    let value : integer_value (n ∷ []) ≡ pos n = rw e (ap pos zero) in
    let bytes : AreBytes (n ∷ []) = (omega (arith, low), tt) in
    sym (content-value (n ∷ []) bytes refl) ∙ ap integer_content value

-- the number of each value is that of an item, and its content is one byte
pub record IsItem {V : Type 0} (items : List V) (number : V → ℕ) (v : V) : Type 0 where
  pub listed : IsTrue (contains (map number items) (number v))
  pub small : nat_lt (number v) 0x80 ≡ true

-- a content under the tag with one of these numbers
abbrev pub HasNumber : ℕ → List ℕ → Tree → Type 0
HasNumber tag numbers = IsMade (λ n. content_tree tag (integer_content (pos n))) (λ n. IsTrue (contains numbers n))

module _ {V : Type 0} (tag : ℕ) (items : List V) (number : V → ℕ) (is : (v : V) → IsItem items number v) where
  number_complete : (t : Tree) → HasNumber tag (map number items) t → IsReadable t → IsShort t
      → (v : V) × (content_tree tag (number v ∷ []) ≡ t)
  number_complete t d r s =
      let v = item_with number items d.0 d.2 in (
        v.0,
        ap (content_tree tag) (one_byte (number v.0) (is v.0).small ∙ ap (λ n. integer_content (pos n)) v.1)
            ∙ sym d.1,
      )

  pub number_exact : IsExact (HasNumber tag (map number items)) (λ v. content_tree tag (number v ∷ []))
  number_exact =
      record {
        sound = λ v r. (number v, ap (content_tree tag) (one_byte (number v) (is v).small), (is v).listed);
        complete = number_complete;
      }

module _ {V : Type 0} (items : List V) (number : V → ℕ) (is : (v : V) → IsItem items number v) where
  -- an enumeration of these items, whose numbers are below 128
  abbrev pub enumerated_values : Values V
  enumerated_values = plain_values (Notation.ENUMERATED (map number items)) (λ v. content_tree 0x0A (number v ∷ []))
      (number_exact 0x0A items number is)

  -- an INTEGER that has only the numbers of these items, which are below 128
  abbrev pub named_values : Values V
  named_values = plain_values (Notation.INTEGER-named (map number items)) (λ v. content_tree 0x02 (number v ∷ []))
      (number_exact 0x02 items number is)
