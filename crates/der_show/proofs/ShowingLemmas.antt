-- What is listed of elements in DER: no broken rule, also in the strings that are opened.
use Rattle.std.proofs.Common.{◌≡◌, ℕ, ◌+◌, ◌^◌, ◌<◌, ◌≤◌, ◌==◌, min, Bool, true, false, ◌&&◌, if◌then◌else◌, Option}
use Rattle.std.proofs.Common.{Some, None, List, [], ◌∷◌, ◌++◌, length, refl, sym, ap, subst, ◌∙◌, arith, eqb-true}
use Rattle.std.proofs.Common.{true≢false}
use Rattle.std.specs.Prelude.{slice_range}
use Rattle.std.specs.List.{list_all}
use Rattle.std.proofs.lemmas.Bool.{and_parts}
use Rattle.picky_der_core.specs.Tag.{is_constructed}
use Rattle.picky_der_core.specs.Element.{tlv}
use Rattle.picky_der_core.specs.Encoding.{der}
use Rattle.der_show.specs.declared.element.Element.{Element}
use Rattle.der_show.specs.declared.entry.Entry.{Entry}
use Rattle.der_show.specs.declared.entry.Entry.TheVariants as entry
use Rattle.der_show.specs.declared.header.Header.{Header}
use Rattle.der_show.specs.declared.options.ShowOptions.{ShowOptions}
use Rattle.der_show.specs.Nodes.{Nodes, encoding, AreCanonical, header_size, elements}
use Rattle.der_show.specs.Headers.{HasHeader}
use Rattle.der_show.specs.Ends.{innermost, without_reached, next_offset, next_ends}
use Rattle.der_show.specs.Outlines.{IsFound, AreElements}
use Rattle.der_show.specs.Openings.{held, whole_bytes, Opens}
use Rattle.der_show.specs.Entries.{ahead, content_of, IsReached, IsListing, is_element}
use Rattle.der_show.specs.Written.{NeverComplains}
use Rattle.der_show.proofs.Ranges.{front_within, range_after, range_whole}
use Rattle.der_show.proofs.HeaderLemmas.{content_found}
use Rattle.der_show.proofs.Listed.{Lists, inside_at, after_at, after_within, inside, primitive_out, constructed_out}
use Rattle.der_show.proofs.Listed.{broken_out}
use Rattle.der_show.proofs.WrittenLemmas.{written_in_der}

-- ---- elements up to each end

-- from one index up to another there are elements in DER
pub record HasElements (bytes : List ℕ) (at end : ℕ) : Type 0 where
  pub nodes : Nodes
  pub canonical : AreCanonical nodes
  pub is : slice_range bytes at end ≡ encoding nodes

-- there are, from an index up to the innermost end, and from each end up to the next
abbrev AreAhead : List ℕ → List ℕ → ℕ → Type 0
AreAhead bytes [] at = (at ≤ length bytes) × HasElements bytes at (length bytes)
AreAhead bytes (end ∷ ends) at = (at ≤ end) × (end ≤ length bytes) × HasElements bytes at end × AreAhead bytes ends end

order : (bytes ends : List ℕ) (at : ℕ) → AreAhead bytes ends at → at ≤ innermost (length bytes) ends
order bytes [] at a = a.0
order bytes (end ∷ ends) at a = a.0

within : (bytes ends : List ℕ) (at : ℕ) → AreAhead bytes ends at → innermost (length bytes) ends ≤ length bytes
within bytes [] at a = omega arith
within bytes (end ∷ ends) at a = a.1

here : (bytes ends : List ℕ) (at : ℕ) → AreAhead bytes ends at → HasElements bytes at (innermost (length bytes) ends)
here bytes [] at a = a.1
here bytes (end ∷ ends) at a = a.2

-- the same from a later index on
moved : (bytes ends : List ℕ) (at later : ℕ) → AreAhead bytes ends at → later ≤ innermost (length bytes) ends
    → HasElements bytes later (innermost (length bytes) ends) → AreAhead bytes ends later
moved bytes [] at later a low some = (low, some)
moved bytes (end ∷ ends) at later a low some = (low, a.1, some, a.3)

-- an end that is reached is closed
closed_one : (bytes ends : List ℕ) (at end : ℕ) (b : Bool) → (end == at) ≡ b
    → (AreAhead bytes ends at → AreAhead bytes (without_reached at ends) at)
    → AreAhead bytes (end ∷ ends) at → AreAhead bytes (if b then without_reached at ends else end ∷ ends) at
closed_one bytes ends at end true e others a = others (subst (AreAhead bytes ends) (eqb-true end at e) a.3)
closed_one bytes ends at end false e others a = a

closed : (bytes ends : List ℕ) (at : ℕ) → AreAhead bytes ends at → AreAhead bytes (without_reached at ends) at
closed bytes [] at a = a
closed bytes (end ∷ ends) at a = closed_one bytes ends at end (end == at) refl (closed bytes ends at) a

of_lists : (bytes : List ℕ) (at end depth : ℕ) (rows : List Element) → Lists bytes at end depth rows
    → HasElements bytes at end
of_lists bytes at end depth rows l = record { nodes = l.nodes; canonical = l.canonical; is = l.is }

of_elements : (bytes : List ℕ) (at end : ℕ) (content : List ℕ) → AreElements content
    → slice_range bytes at end ≡ content → HasElements bytes at end
of_elements bytes at end content all e = record { nodes = all.1.nodes; canonical = all.1.canonical; is = e ∙ all.1.is }

-- ---- the bytes that a string holds

held_front : Option (ℕ × List ℕ) → ℕ
held_front None = 0
held_front (Some pair) = pair.0

held_bytes : Option (ℕ × List ℕ) → List ℕ
held_bytes None = []
held_bytes (Some pair) = pair.1

-- they are the end of its content
pub record IsEnd (content : List ℕ) (skipped : ℕ) (bytes : List ℕ) : Type 0 where
  pub front : List ℕ
  pub size : length front ≡ skipped
  pub is : content ≡ front ++ bytes

abbrev by_count : Bool → List ℕ → Option (ℕ × List ℕ)
by_count is_zero bytes = if is_zero then Some (1, bytes) else None

abbrev by_tag : Bool → Bool → List ℕ → Option (ℕ × List ℕ)
by_tag is_octets is_bits content =
    if is_octets then Some (0, content) else (if is_bits then whole_bytes content else None)

counted : (x : ℕ) (xs : List ℕ) (skipped : ℕ) (bytes : List ℕ) (b : Bool) → by_count b xs ≡ Some (skipped, bytes)
    → IsEnd (x ∷ xs) skipped bytes
unfolding held_front held_bytes
counted x xs skipped bytes true e =
    record { front = x ∷ []; size = ap held_front e; is = ap (λ s. x ∷ s) (ap held_bytes e) }
counted x xs skipped bytes false e = cc

after_count : (content : List ℕ) (skipped : ℕ) (bytes : List ℕ) → whole_bytes content ≡ Some (skipped, bytes)
    → IsEnd content skipped bytes
after_count [] skipped bytes e = cc
after_count (x ∷ xs) skipped bytes e = counted x xs skipped bytes (x == 0) e

-- and it is primitive
held_by : (tag : ℕ) (content : List ℕ) (skipped : ℕ) (bytes : List ℕ) (a b : Bool) → (tag == 0x04) ≡ a
    → (tag == 0x03) ≡ b → by_tag a b content ≡ Some (skipped, bytes)
    → (is_constructed tag ≡ false) × IsEnd content skipped bytes
unfolding held_front held_bytes
held_by tag content skipped bytes true b same other e =
    (ap is_constructed (eqb-true tag 0x04 same), record { front = []; size = ap held_front e; is = ap held_bytes e })
held_by tag content skipped bytes false true other same e =
    (ap is_constructed (eqb-true tag 0x03 same), after_count content skipped bytes e)
held_by tag content skipped bytes false false same other e = cc

held_end : (tag : ℕ) (content : List ℕ) (skipped : ℕ) (bytes : List ℕ) → held tag content ≡ Some (skipped, bytes)
    → (is_constructed tag ≡ false) × IsEnd content skipped bytes
held_end tag content skipped bytes e = held_by tag content skipped bytes (tag == 0x04) (tag == 0x03) refl refl e

-- ---- one element more

module _ (bytes ends : List ℕ) (at : ℕ) (a : AreAhead bytes ends at) (tag : ℕ) (content rest : List ℕ)
    (is : ahead bytes ends at ≡ tlv tag content ++ rest) where
  abbrev end : ℕ
  end = innermost (length bytes) ends

  abbrev low : at ≤ end
  low = order bytes ends at a

  abbrev high : end ≤ length bytes
  high = within bytes ends at a

  listed : Lists bytes at end 0 (elements 0 at (here bytes ends at a).nodes)
  listed = record {
    nodes = (here bytes ends at a).nodes;
    canonical = (here bytes ends at a).canonical;
    is =
        (here bytes ends at a).is;
    rows_are = refl;
  }

  abbrev inner : ℕ
  inner = inside_at bytes at end 0 low high tag content rest is

  abbrev next : ℕ
  next = after_at bytes at end 0 low high tag content rest is

  next_low : next ≤ end
  next_low = after_within bytes at end 0 low high tag content rest is

  after_primitive : is_constructed tag ≡ false → AreAhead bytes ends next
  after_primitive bit =
      let found = primitive_out bytes at end 0 low high tag content rest is (elements 0 at (here bytes ends at a).nodes)
      bit listed in
      moved bytes ends at next a next_low (of_lists bytes next end 0 found.0 found.1)

  in_constructed : is_constructed tag ≡ true → AreAhead bytes (next ∷ ends) inner
  in_constructed bit =
      let found =
      constructed_out bytes at end 0 low high tag content rest is (elements 0 at (here bytes ends at a).nodes) bit
      listed in
      let later = moved bytes ends at next a next_low (of_lists bytes next end 0 found.1 found.3) in
      (omega arith, omega (arith, next_low, high), of_lists bytes inner next 1 found.0 found.2, later)

  in_string : (skipped : ℕ) (bs : List ℕ) → held tag content ≡ Some (skipped, bs) → AreElements bs
      → AreAhead bytes (next ∷ ends) (inner + skipped)
  in_string skipped bs h all =
      let string = held_end tag content skipped bs h in
      let split : slice_range bytes inner next ≡ string.1.front ++ bs =
      inside bytes at end 0 low high tag content rest is ∙ string.1.is in
      let up : next ≤ length bytes = omega (arith, next_low, high) in
      let ordered : inner ≤ next = omega arith in
      let at_front = front_within bytes inner next up string.1.front bs split ordered in
      let there : slice_range bytes (inner + skipped) next ≡ bs =
      ap (λ n. slice_range bytes (inner + n) next) (sym string.1.size)
      ∙ range_after bytes inner next up string.1.front bs split ordered in (
        omega (arith, at_front, string.1.size),
        up,
        of_elements bytes (inner + skipped) next bs all there,
        after_primitive string.0,
      )

module _ (bytes ends : List ℕ) (at : ℕ) (h : Header) (a : AreAhead bytes ends at)
    (found : IsFound (ahead bytes ends at) h) where
  abbrev size : ℕ
  size = length found.content

  abbrev inner_at : ℕ
  inner_at = at + header_size size

  passed_by : (b : Bool) → is_constructed h.tag ≡ b → (k n : ℕ) → k ≡ header_size (length found.content)
      → n ≡ length found.content
      → AreAhead bytes (if b then without_reached (at + k) ((at + k + n) ∷ ends) else without_reached (at + k + n) ends)
      (if b then at + k else at + k + n)
  passed_by true bit k n e f =
      subst (λ x. AreAhead bytes (without_reached (at + x) ((at + x + n) ∷ ends)) (at + x)) (sym e)
      (subst (λ y. AreAhead bytes (without_reached inner_at ((inner_at + y) ∷ ends)) inner_at) (sym f)
      (closed bytes ((inner_at + size) ∷ ends) inner_at
      (in_constructed bytes ends at a h.tag found.content found.rest found.is bit)))
  passed_by false bit k n e f =
      subst (λ x. AreAhead bytes (without_reached (at + x + n) ends) (at + x + n)) (sym e)
      (subst (λ y. AreAhead bytes (without_reached (inner_at + y) ends) (inner_at + y)) (sym f)
      (closed bytes ends (inner_at + size) (after_primitive bytes ends at a h.tag found.content found.rest found.is
      bit)))

  passed : AreAhead bytes (next_ends h at ends) (next_offset h at)
  passed = passed_by (is_constructed h.tag) refl h.header_len h.content_len found.header_len found.content_len

  opened : (o : ShowOptions) (skipped : ℕ) → Opens o (length ends) h.tag (content_of (ahead bytes ends at) h) skipped
      → AreAhead bytes ((at + h.header_len + h.content_len) ∷ ends) (at + h.header_len + skipped)
  opened o skipped opens =
      let has : HasHeader (ahead bytes ends at) h = record {
        content = found.content;
        rest = found.rest;
        is = found.is;
        number = found.canonical.number;
        content_len = sym found.content_len;
        header_len = omega (arith, found.header_len);
      } in
      let content : content_of (ahead bytes ends at) h ≡ found.content = content_found (ahead bytes ends at) h has in
      let holds : held h.tag found.content ≡ Some (skipped, opens.bytes) =
      subst (λ c. held h.tag c ≡ Some (skipped, opens.bytes)) content opens.is_held in
      subst (λ x. AreAhead bytes ((at + x + h.content_len) ∷ ends) (at + x + skipped)) (sym found.header_len)
      (subst (λ y. AreAhead bytes ((inner_at + y) ∷ ends) (inner_at + skipped)) (sym found.content_len)
      (in_string bytes ends at a h.tag found.content found.rest found.is skipped opens.bytes holds opens.one.in_der))

-- ---- all

both_true : (a b : Bool) → a ≡ true → b ≡ true → (a && b) ≡ true
both_true a b e f = rw (e, f) refl

one_more : (es : List Entry) (e : Element) → list_all is_element es ≡ true
    → list_all is_element (es ++ (entry.Element e ∷ [])) ≡ true
one_more [] e h = refl
one_more (x ∷ es) e h =
    let parts = and_parts (is_element x) (list_all is_element es) h in
    both_true (is_element x) (list_all is_element (es ++ (entry.Element e ∷ []))) parts.0 (one_more es e parts.1)

module _ (o : ShowOptions) (bytes : List ℕ) (first : o.start ≡ 0) (stops : o.keeps_going ≡ false)
    (all : AreElements bytes) where
  reached : (ends : List ℕ) (at : ℕ) (es : List Entry) → IsReached o bytes ends at es
      → AreAhead bytes ends at × (list_all is_element es ≡ true)
  reached _ _ _ IsReached.start =
      let none : min o.start (length bytes) ≡ 0 = omega arith in (
        subst (AreAhead bytes []) (sym none) (
          omega arith,
          of_elements bytes 0 (length bytes) bytes all (range_whole bytes),
        ),
        refl,
      )
  reached _ _ _ (IsReached.ended ends at es r) = let so = reached (at ∷ ends) at es r in (so.0.3, so.1)
  reached _ _ _ (IsReached.passed ends at es h r found not) =
      let so = reached ends at es r in
      (passed bytes ends at h so.0 found, one_more es _ so.1)
  reached _ _ _ (IsReached.opened ends at es h skipped r found opens) =
      let so = reached ends at es r in
      (opened bytes ends at h so.0 found o skipped opens, one_more es _ so.1)
  reached _ _ _ (IsReached.broken ends at es x h going r breaks has) = absurd (true≢false (sym going ∙ stops))
  reached _ _ _ (IsReached.skipped ends at es x going r low breaks) = absurd (true≢false (sym going ∙ stops))

  complete : length bytes < 2 ^ 64 → (es : List Entry) → IsListing o bytes es → list_all is_element es ≡ true
  complete small _ (IsListing.whole at es r past) = (reached [] at es r).1
  complete small _ (IsListing.stopped ends at es x going r before breaks) =
      let so = (reached ends at es r).0 in
      let some = here bytes ends at so in
      absurd (broken_out bytes at (innermost (length bytes) ends) x before (within bytes ends at so) small breaks 0
      (elements 0 at some.nodes)
      (record { nodes = some.nodes; canonical = some.canonical; is = some.is; rows_are = refl }))

pub never_complains : NeverComplains
never_complains t r h small o first stops es listing =
    complete o (der t) first stops (written_in_der t r h).in_der small es listing
