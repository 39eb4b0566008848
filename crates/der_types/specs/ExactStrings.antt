-- Strings of a set of characters, which mean exactly the trees of a string type, or of one with a permitted alphabet.
use Rattle.std.specs.Prelude.{◌≡◌, ℕ, ◌%◌, ◌^◌, ◌<◌, Bool, true, ◌&&◌, ◌==◌, List, length, Option, Some, None, refl}
use Rattle.std.specs.List.{list_all}
use Rattle.std.proofs.Common.{sym, ap, ◌∙◌, subst}
use Rattle.std.proofs.lemmas.Bool.{and_from, and_parts}
use Rattle.picky_der_core.specs.Shape.{contains}
use Rattle.picky_der_core.specs.Tree.{Tree}
use Rattle.der_types.specs.declared.width.Width.{Width}
use Rattle.der_types.specs.Alphabets.{is_of, is_permitted, all-both, both-all}
use Rattle.der_types.specs.CharacterStrings.{byte_count, characters, is_string_content}
use Rattle.der_types.specs.ContentTypes.{string_tags, string_width, string_character}
use Rattle.der_types.specs.ContentsFacts.{contents_shape}
use Rattle.der_types.specs.Denotes.{Denotes, HasContent, IsShort, content_tree, tree_characters, tree_size}
use Rattle.der_types.specs.Exact.{IsExact, Values}
use Rattle.der_types.specs.Notation.{Notation, shape_of}

-- the strings of a set of characters are those of a notation
pub record IsSetOf (n : Notation) (tag : ℕ) (width : Width) (is_character : ℕ → Bool) : Type 0 where
  pub shape : contents_shape tag ≡ shape_of n
  pub denoted : (s : List ℕ) → is_string_content width is_character s ≡ true → Denotes n (content_tree tag s)
  pub content : (t : Tree) → Denotes n t → HasContent tag (is_string_content width is_character) t
  pub size : (s : List ℕ) → length (characters width s) ≡ tree_size n (content_tree tag s)

-- one of X.680, 41
standard_set : (tag : ℕ)
    → IsSetOf (Notation.restricted-string tag) tag (string_width tag) (string_character tag)
standard_set tag =
    record { shape = refl; denoted = λ s e. (s, refl, e); content = λ t d. d; size = λ s. refl }

-- one with a permitted alphabet
module _ (tag : ℕ) (ranges : List (ℕ × ℕ)) where
  parts_of : (s : List ℕ) → is_string_content (string_width tag) (is_permitted tag ranges) s ≡ true
      → (is_string_content (string_width tag) (string_character tag) s ≡ true)
      × (list_all (is_of ranges) (characters (string_width tag) s) ≡ true)
  parts_of s e =
      let whole = length s % byte_count (string_width tag) == 0 in
      let text = characters (string_width tag) s in
      let parts = and_parts whole (list_all (is_permitted tag ranges) text) e in
      let both = both-all (string_character tag) (is_of ranges) text parts.1 in
      (and_from whole (list_all (string_character tag) text) parts.0 both.0, both.1)

  whole_of : (s : List ℕ) → is_string_content (string_width tag) (string_character tag) s ≡ true
      → list_all (is_of ranges) (characters (string_width tag) s) ≡ true
      → is_string_content (string_width tag) (is_permitted tag ranges) s ≡ true
  whole_of s e f =
      let whole = length s % byte_count (string_width tag) == 0 in
      let text = characters (string_width tag) s in
      let parts = and_parts whole (list_all (string_character tag) text) e in
      and_from whole (list_all (is_permitted tag ranges) text) parts.0
      (all-both (string_character tag) (is_of ranges) text parts.1 f)

  permitted_set : IsSetOf (Notation.permitted ranges (Notation.restricted-string tag)) tag (string_width tag)
      (is_permitted tag ranges)
  permitted_set = record {
    shape = refl;
    denoted = λ s e. let parts = parts_of s e in ((s, refl, parts.0), parts.1);
    content = λ t d.
        let text = λ (x : Tree). tree_characters (Notation.restricted-string tag) x in
        (d.0.0, d.0.1, whole_of d.0.0 d.0.2 (subst (λ x. list_all (is_of ranges) (text x) ≡ true) d.0.1 d.1));
    size = λ s. refl;
  }

-- ---- what a string type says of its values

-- The type of the strings: one of X.680, 41, and the ranges of its permitted alphabet, if it has one (51.7).
abbrev pub string_notation : ℕ → Option (List (ℕ × ℕ)) → Notation
string_notation tag None = Notation.restricted-string tag
string_notation tag (Some ranges) = Notation.permitted ranges (Notation.restricted-string tag)

abbrev pub set_character : ℕ → Option (List (ℕ × ℕ)) → ℕ → Bool
set_character tag None = string_character tag
set_character tag (Some ranges) = is_permitted tag ranges

-- A set has the tag of a string type, and the width and the characters of that type. These are equations, so that they
-- hold by computing wherever the set is known.
pub record IsSet (permitted : Option (List (ℕ × ℕ))) (tag : ℕ) (width : Width) (is_character : ℕ → Bool) : Type 0 where
  pub is_string : contains string_tags tag ≡ true
  pub same_width : width ≡ string_width tag
  pub same_characters : is_character ≡ set_character tag permitted

own_set : (tag : ℕ) (permitted : Option (List (ℕ × ℕ)))
    → IsSetOf (string_notation tag permitted) tag (string_width tag) (set_character tag permitted)
own_set tag None = standard_set tag
own_set tag (Some ranges) = permitted_set tag ranges

pub set_shape : (tag : ℕ) (permitted : Option (List (ℕ × ℕ)))
    → contents_shape tag ≡ shape_of (string_notation tag permitted)
set_shape tag permitted = (own_set tag permitted).shape

module _ (permitted : Option (List (ℕ × ℕ))) (tag : ℕ) (width : Width) (is_character : ℕ → Bool) where
  pub set_of : IsSet permitted tag width is_character
      → IsSetOf (string_notation tag permitted) tag width is_character
  set_of e =
      let n = string_notation tag permitted in
      let wide : IsSetOf n tag width (set_character tag permitted) =
      subst (λ w. IsSetOf n tag w (set_character tag permitted)) (sym e.same_width) (own_set tag permitted) in
      subst (λ (c : ℕ → Bool). IsSetOf n tag width c) (sym e.same_characters) wide

  module _ {V : Type 0} (content : V → List ℕ) (valid : (v : V)
      → is_string_content width is_character (content v) ≡ true) (whole : (s : List ℕ)
      → is_string_content width is_character s ≡ true → length s < 2 ^ 63 → (v : V) × (content v ≡ s)) where
    pub strings_exact : IsSetOf (string_notation tag permitted) tag width is_character
        → IsExact (Denotes (string_notation tag permitted)) (λ v. content_tree tag (content v))
    strings_exact set = record {
      sound = λ v r. set.denoted (content v) (valid v);
      complete = λ t d r s.
          let found = set.content t d in
          let v = whole found.0 found.2 (subst IsShort found.1 s) in
          (v.0, ap (content_tree tag) v.1 ∙ sym found.1);
    }

    abbrev pub string_values : Values V
    string_values = record {
      notation = string_notation tag permitted;
      meaning = λ v. content_tree tag (content v);
      Premise = IsSet permitted tag width is_character;
      follows = λ e. strings_exact (set_of e);
    }
